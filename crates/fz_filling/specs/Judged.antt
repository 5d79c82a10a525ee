-- What is judged of a block, and why a block is refused (this project's profile).
use Rattle.std.specs.Prelude.{◌≡◌, ℕ, ℤ, IfSome, IsSomeAnd, None, Option, Some, slice_get, ⊤}
use Rattle.fz_stream.specs.of_syntax.Span.{Span}
use Rattle.fz_index.specs.of_model.Meaning.{Model, Partial, Point, objective, points, IsPartial}
use Rattle.fz_index.specs.of_model.States.{shown_point}
use Rattle.fz_stream.specs.Parts.{SolutionBlock}
use Rattle.fz_stream.specs.declared.block.Block.{Block}
use Rattle.fz_filling.specs.BlockFaults.{BlockFault, BlockFaultKind, block_fault}
use Rattle.fz_filling.specs.BlockFaults.BlockFaultKind.{UnknownName, WrongKind, WrongLength}
use Rattle.fz_filling.specs.declared.completion.Completion.{Completion}
use Rattle.fz_filling.specs.declared.completion.Completion.TheVariants.{Off}
use Rattle.fz_filling.specs.Completed.{IsToldBy}
use Rattle.fz_filling.specs.Verdict.{Verdict, IsFilled, fault_named, verdict}
use Rattle.fz_filling.specs.Verdict.Verdict.{Violated}
use Rattle.fz_filling.specs.declared.error.BlockError.{BlockError}
use Rattle.fz_filling.specs.declared.error.BlockError.TheVariants as errors

-- a judge: the model, whether values are looked for, and the objective of the block before, under
-- its filling and under the values with which it was satisfied; and the point whose bounds refute
-- the block before, where they do
pub record JudgeState : Type 0 where
  pub model : Model
  pub completion : Completion
  pub before : Option ℤ
  pub found : Option ℤ
  pub refuted : Option ℕ

-- The verdict on a block is that under its filling, compared with the objective before; the
-- objective under that filling is stored, as the only one where no values are looked for.
pub record IsJudged (old new : JudgeState) (block : SolutionBlock) (v : Verdict) : Type 0 where
  pub filling : Partial
  pub is_filled : IsFilled old.completion old.model block filling
  pub partial : IsPartial old.model filling
  pub told : IsToldBy old.completion old.model block old.found filling
      (verdict old.model filling block old.before) v new.found
  pub kept_is : new.before ≡ objective old.model filling
  pub one_objective : old.completion ≡ Off → new.found ≡ new.before

-- the verdict is that the point with this number, from 0, fails
abbrev pub IsOfPoint : Model → ℕ → Verdict → Type 0
IsOfPoint m k v = (p : Point) × (slice_get (points m) k ≡ Some p)
    × (v ≡ Violated (fault_named (shown_point p)))

-- the error is that of the fault, unless memory ran out
abbrev pub TellsFault : BlockError → Option BlockFault → Type 0
TellsFault (errors.UnknownName at) f = f ≡ Some (record { kind = UnknownName; at = at })
TellsFault (errors.Kind at) f = f ≡ Some (record { kind = WrongKind; at = at })
TellsFault (errors.Length at) f = f ≡ Some (record { kind = WrongLength; at = at })
TellsFault errors.Memory f = ⊤

-- the kind of fault that an error is of, unless memory ran out
abbrev pub kind_told : BlockError → Option BlockFaultKind
kind_told (errors.UnknownName at) = Some UnknownName
kind_told (errors.Kind at) = Some WrongKind
kind_told (errors.Length at) = Some WrongLength
kind_told errors.Memory = None

-- there is a fault of the kind that the error is of
abbrev pub TellsKind : BlockError → Option BlockFault → Type 0
TellsKind e f = IfSome (kind_told e) (λ k. IsSomeAnd f (λ x. x.kind ≡ k))

-- a block is refused for its fault, with its byte range in the stream, or for lack of memory
abbrev pub IsBlockRefusal : Model → Block → BlockError → Type 0
IsBlockRefusal m block e = TellsFault e (block_fault m block)

-- the refusal for a fault
abbrev pub refusal_at : BlockFaultKind → Span → BlockError
refusal_at UnknownName at = errors.UnknownName at
refusal_at WrongKind at = errors.Kind at
refusal_at WrongLength at = errors.Length at

abbrev pub refusal : BlockFault → BlockError
refusal f = refusal_at f.kind f.at
