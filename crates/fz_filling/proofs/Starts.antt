-- The start of a block that fits the model, and so its filling, gives each variable a value of its kind
-- or none.
use Rattle.std.proofs.Common.{◌≡◌, ℕ, suc, zero, ◌+◌, true, false, cond, List, [], ◌∷◌, Option, Some, None, refl, sym, ap, ◌∙◌, option_map, slice_get, IfSome, IsSomeAnd, arith, ◌==◌, add-zero, eqb-true}
use Rattle.std.specs.Prelude.{⊤}
use Rattle.std.specs.List.{AllByRecursion}
use Rattle.std.specs.Option.{option_map_or, option_or}
use Rattle.fz_index.specs.of_model.of_base.declared.value.Value.{Value}
use Rattle.fz_index.specs.of_model.declared.Kind.{Kind}
use Rattle.fz_index.specs.of_model.Relations.{kind_of}
use Rattle.fz_index.specs.of_model.Located.{LocatedTree}
use Rattle.fz_index.specs.of_model.Names.{HasNoFault, model_of}
use Rattle.fz_index.specs.of_model.Meaning.{Variable, Model, Partial, variables_of, find_name, FitVariables, IsPartial}
use Rattle.fz_index.specs.of_model.declared.Term.{Term}
use Rattle.fz_index.specs.of_model.declared.Term.TheVariants.{Var, Fixed}
use Rattle.fz_index.specs.of_model.Steps.{kind_at}
use Rattle.fz_index.proofs.of_model.NamedKinds.{named_fits}
use Rattle.fz_index.proofs.of_model.Lists.{all_append}
use Rattle.fz_stream.specs.Parts.{SolutionBlock}
use Rattle.fz_stream.specs.of_syntax.Tree.{Printed}
use Rattle.fz_filling.specs.BlockFaults.{AllFit, Fits, ItemFits}
use Rattle.fz_filling.specs.Filling.{pairs_at, printed_scalars, first_printed, start_from, start}
use Rattle.fz_filling.specs.declared.completion.Completion.{Completion}
use Rattle.fz_filling.specs.Verdict.{IsFilled, IsProposed}
use Rattle.fz_filling.specs.Working.{item_scalars}
use Rattle.fz_filling.proofs.Running.{filling_run, run_fits}
use Rattle.fz_filling.proofs.Starting.{PairFits as PairIs, place_pairs_fit}
use Rattle.fz_filling.proofs.Violated.{filling_grows}

-- ---- what is printed has the kind

-- the variables alone have kinds here: of a stored value nothing is asked
abbrev PairFits : Model → (Term × Value) → Type 0
PairFits m q = PairIs (λ _ _. ⊤) m q

module _ (t : LocatedTree) (sound : HasNoFault t) where
  item_fits : (i : Printed) → ItemFits (model_of t) i
      → AllByRecursion (PairFits (model_of t)) (item_scalars (model_of t) i)
  item_fits i h =
      (elim (find_name (model_of t) i.name) as (λ o. find_name (model_of t) i.name ≡ o → IsSomeAnd o (λ p. Fits p i.value)
      → AllByRecursion (PairFits (model_of t)) (option_map_or (λ p. pairs_at p i.value) o [])) [
        | None ↦ λ _ h. absurd h
        | Some p ↦ λ found h. place_pairs_fit (λ _ _. ⊤) (model_of t) p i.value (named_fits t sound i.name p found) h
      ]) refl h

  items_fit : (items : List Printed) → AllFit (model_of t) items
      → AllByRecursion (PairFits (model_of t)) (printed_scalars (model_of t) items)
  items_fit [] h = tt
  items_fit (i ∷ items) h = all_append (PairFits (model_of t)) (item_scalars (model_of t) i) (printed_scalars (model_of t) items) (item_fits i h.0) (items_fit items h.1)

-- ---- the start

first_fits : (m : Model) (qs : List (Term × Value)) (n : ℕ) (v : Value)
    → AllByRecursion (PairFits m) qs → first_printed qs n ≡ Some v → kind_at m n ≡ Some (kind_of v)
first_fits m [] n v h e = cc
first_fits m ((Fixed w, u) ∷ qs) n v h e = first_fits m qs n v h.1 e
first_fits m ((Var k, u) ∷ qs) n v h e =
    (elim (k == n) as (λ b. (k == n) ≡ b → option_or (cond b (Some u) None) (first_printed qs n) ≡ Some v → kind_at m n ≡ Some (kind_of v)) [
      | true ↦ λ same e. let is : u ≡ v = cc in ap (kind_at m) (sym (eqb-true k n same)) ∙ h.0 ∙ ap (λ z. Some (kind_of z)) is
      | false ↦ λ _ e. first_fits m qs n v h.1 e
    ]) refl e

abbrev KindsAre : List (Term × Value) → ℕ → List Variable → Type 0
KindsAre qs n xs = (k : ℕ) (x : Variable) (v : Value) → slice_get xs k ≡ Some x → first_printed qs (n + k) ≡ Some v → kind_of v ≡ x.kind

start_fits : (qs : List (Term × Value)) (n : ℕ) (xs : List Variable) → KindsAre qs n xs
    → FitVariables xs (start_from qs n xs)
start_fits qs n [] h = tt
start_fits qs n (x ∷ xs) h = (
  fits_here (first_printed qs n) refl,
  start_fits qs (suc n) xs (λ k y v at e. let count : suc n + k ≡ n + suc k = omega arith in h (suc k) y v at (ap (first_printed qs) (sym count) ∙ e)),
)
  where
    fits_here : (o : Option Value) → first_printed qs n ≡ o → IfSome o (λ v. kind_of v ≡ x.kind)
    fits_here None e = tt
    fits_here (Some v) e = h zero x v refl (ap (first_printed qs) (add-zero n) ∙ e)

pub map_none : {A B : Type 0} (f : A → B) (o : Option A) → option_map f o ≡ None → o ≡ None
map_none f None e = refl
map_none f (Some x) e = cc

kind_is : (xs : List Variable) (k : ℕ) (x : Variable) (j : Kind) → slice_get xs k ≡ Some x
    → option_map (λ y. y.kind) (slice_get xs k) ≡ Some j → j ≡ x.kind
kind_is xs k x j at e = let same : Some x.kind ≡ Some j = sym (ap (option_map (λ y. y.kind)) at) ∙ e in cc

-- The start of a block that fits is a partial assignment.
pub start_is_partial : (t : LocatedTree) → HasNoFault t → (block : SolutionBlock)
    → AllFit (model_of t) block.items → IsPartial (model_of t) (start (model_of t) block)
start_is_partial t sound block h =
    let fit : AllByRecursion (PairFits (model_of t)) (printed_scalars (model_of t) block.items) = items_fit t sound block.items h in
    start_fits (printed_scalars (model_of t) block.items) 0 (variables_of (model_of t))
    (λ k x v at printed.
    let number : 0 + k ≡ k = omega arith in
    kind_is (variables_of (model_of t)) k x (kind_of v) at (first_fits (model_of t) (printed_scalars (model_of t) block.items) k v fit (ap (first_printed (printed_scalars (model_of t) block.items)) (sym number) ∙ printed)))

-- The filling of a block that fits is a partial assignment that has every value of the start.
pub filling_proposed : (c : Completion) (t : LocatedTree) (block : SolutionBlock) (F : Partial)
    → HasNoFault t → IsFilled c (model_of t) block F → IsProposed (model_of t) block F
filling_proposed c t block F sound filled = record {
  fits = filled.fits;
  partial = run_fits c (model_of t) (filling_run c (model_of t) block F filled.filling).1 (start_is_partial t sound block filled.fits);
  has_start = filling_grows c (model_of t) block F filled.filling;
}
