-- What is left to an argument that may be filled is what fills it.
use Rattle.std.proofs.Common.{◌≡◌, true, false, List, Option, None, Result as Answer, Ok, Err, IfOk, refl, sym, ◌∙◌}
use Rattle.fz_builtins.specs.of_meaning.of_base.declared.value.Value.{Value}
use Rattle.fz_builtins.specs.of_meaning.Builtins.{Row}
use Rattle.fz_builtins.specs.of_meaning.Results.{result_of}
use Rattle.fz_builtins.specs.of_meaning.Meaning.{Argument, Partial}
use Rattle.fz_builtins.specs.of_meaning.States.{is_beyond}
use Rattle.fz_builtins.specs.Outcomes.{reads_beyond}
use Rattle.fz_model.specs.Left.{IsLeftIfComputed, IsPlaceOf}
use Rattle.fz_model.specs.declared.only.Spot.{Spot}
use Rattle.fz_model.specs.Forced.{IsOnlyValue, IsReady}
use Rattle.fz_model.proofs.Held.{scalar_left, too_large}

module _ (K : Partial) (xs : List Argument) (r : Row) (s : Spot) (h : IsReady K xs r s) where
  pub scalar_chosen : {E : Type 0} → IsPlaceOf (result_of r) s.argument
      → reads_beyond r K xs ≡ is_beyond K xs r → (a : Answer (Option Value) E)
      → IfOk a (IsLeftIfComputed r K xs s.argument)
      → IfOk a (λ o. IsOnlyValue K xs r s.variable o)
  scalar_chosen place same (Err e) left = tt
  scalar_chosen place same (Ok o) left =
      elim (reads_beyond r K xs) as (λ b. reads_beyond r K xs ≡ b → IsOnlyValue K xs r s.variable o) [
        | true ↦ λ e. too_large K xs r s h o (sym same ∙ e) (left.beyond e)
        | false ↦ λ e.
            let there = left.left e in
            scalar_left K xs r s h there.kind there.shape place (sym same ∙ e) o there.left
      ] refl
