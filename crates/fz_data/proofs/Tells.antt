-- An error tells the same of what has the same fault.
use Rattle.std.proofs.Common.{◌≡◌, ℕ, ◌<◌, List, map, length, take, get_or, Option, Some, None}
use Rattle.fz_store.specs.of_meaning.declared.error.ModelError.{ModelError}
use Rattle.fz_store.specs.of_meaning.declared.error.ModelError.TheVariants as errors
use Rattle.fz_store.specs.of_meaning.Meaning.{first_some}
use Rattle.fz_store.specs.of_meaning.Names.{Fault}
use Rattle.fz_store.specs.of_meaning.View.{Tells}
use Rattle.fz_store.proofs.of_meaning.ScanSteps.{first_stops}

-- where the second has the fault that the first has
pub tells_further : (e : ModelError) (f g : Option Fault) → ((x : Fault) → f ≡ Some x → g ≡ Some x)
    → Tells e f → Tells e g
tells_further errors.Memory f g same h = tt
tells_further _ f g same h = same _ h

-- the first fault of a list, where none was met before
pub tells_stop : {A B : Type 0} (f : B → Option Fault) (g : A → B) (xs : List A) (i : ℕ) (x : A)
    (e : ModelError) → i < length xs → x ≡ get_or xs i x → first_some f (map g (take i xs)) ≡ None
    → Tells e (f (g x)) → Tells e (first_some f (map g xs))
tells_stop f g xs i x e lt at none h = tells_further e (f (g x)) (first_some f (map g xs)) (λ y here. first_stops f g xs i x y lt at none here) h
