-- What is found under a name has its kind.
use Rattle.std.proofs.Common.{◌≡◌, ℕ, List, Option, Some, None, sym, subst, option_map, IfSome}
use Rattle.fz_meaning.specs.Meaning.{Model, Place, find_name, variables_of}
use Rattle.fz_store.specs.Kinds.{PlaceFits}
use Rattle.fz_store.specs.Layout.{IsLaidOut, model_view}
use Rattle.fz_store.specs.Shown.{found_place}
use Rattle.fz_store.specs.declared.found.Found.{Found}
use Rattle.fz_store.specs.declared.model.Model.TheInside.{Inside}
use Rattle.fz_store.proofs.Finds.{found_none, stands}

pub fits_found : (m : Inside) → IsLaidOut m → (model : Model) → model_view m ≡ model
    → (x : List ℕ) (p : Place) → Some p ≡ find_name model x → PlaceFits model p
fits_found m laid model view x p e = subst (λ k. find_name k x ≡ Some p → PlaceFits k p) view (laid.kinds x p) (sym e)

pub fits_if_found : (m : Inside) → IsLaidOut m → (model : Model) → model_view m ≡ model
    → (x : List ℕ) (o : Option Found)
    → option_map (found_place (variables_of model)) o ≡ find_name model x
    → IfSome o (λ f. PlaceFits model (found_place (variables_of model) f))
fits_if_found m laid model view x None e = tt
fits_if_found m laid model view x (Some f) e = fits_found m laid model view x (found_place (variables_of model) f) e

-- what `find` cites
pub ruleset finds = (found_none, stands, fits_if_found)
