-- The verdict on a block, and the answer on a list of blocks (the verdicts and their order are this
-- project's profile).
use Rattle.std.specs.Prelude.{ℕ, suc, zero, ℤ, Bool, true, false, cond, List, [], ◌∷◌, length, map, Option, Some, None, int_lt}
use Rattle.std.specs.Option.{option_map_or, option_or}
use Rattle.fz_index.specs.of_model.declared.State.{State}
use Rattle.fz_index.specs.of_model.declared.State.TheVariants.{Holds, Fails, NoValue, Unknown, TooLarge}
use Rattle.fz_index.specs.of_model.Names.{literal_value}
use Rattle.fz_index.specs.of_model.Meaning.{Place, Aim, Model, Variable, Point, Partial, value, values, points, objective, variables_of, find_name, first_some, IsPartial}
use Rattle.fz_index.specs.of_model.Openings.{HasEach}
use Rattle.fz_index.specs.of_model.States.{PointName, state, shown_point, same_value, same_values}
use Rattle.fz_index.specs.of_model.Meaning.Place.{Scalar, Array}
use Rattle.fz_index.specs.of_model.Meaning.Aim.{Minimize, Maximize}
use Rattle.fz_index.specs.of_model.States.PointName.{DomainOf, DefinitionOf, ConstraintOf}
use Rattle.fz_stream.specs.Parts.{SolutionBlock}
use Rattle.fz_stream.specs.of_syntax.Tree.{Printed, PrintedValue, OneValue, ArrayOf}
use Rattle.fz_filling.specs.BlockFaults.{AllFit}
use Rattle.fz_filling.specs.declared.completion.Completion.{Completion}
use Rattle.fz_filling.specs.Filling.{start, IsFilling}

-- ---- verdicts

-- what fails. Names are the model's, as bytes; constraints are numbered from 1
pub data Fault : Type 0 where
  PrintedFault : List ℕ → Fault
  DomainFault : List ℕ → Fault
  DefinitionFault : List ℕ → Fault
  ConstraintFault : ℕ → List ℕ → Fault
  -- this block's objective, and that of the block before
  NotBetter : ℤ → ℤ → Fault

-- what is undecided
pub data Reason : Type 0 where
  NoValueFor : List ℕ → Reason
  NotKnown : ℕ → List ℕ → Reason
  SumTooLarge : ℕ → Reason
  -- this block's objective, and the one that was found for the block before
  NotShownBetter : ℤ → ℤ → Reason

pub data Verdict : Type 0 where
  Satisfied : Verdict
  Violated : Fault → Verdict
  Undecided : Reason → Verdict

-- whether what a name stands for has a value, and it is the printed one
abbrev pub has_printed : Partial → Place → PrintedValue → Bool
has_printed K (Scalar k t) (OneValue l) =
    option_map_or (λ v. same_value v (literal_value l)) (value K t) false
has_printed K (Array x k ts) (ArrayOf is ls) =
    option_map_or (λ vs. same_values vs (map literal_value ls)) (values K ts) false
has_printed K _ _ = false

abbrev pub printed_fails : Model → Partial → Printed → Option Fault
printed_fails m K i = cond (option_map_or (λ p. has_printed K p i.value)
    (find_name m i.name) false) None (Some (PrintedFault i.name))

-- the fault of a point that fails
abbrev pub fault_named : PointName → Fault
fault_named (DomainOf x) = DomainFault x
fault_named (DefinitionOf x) = DefinitionFault x
fault_named (ConstraintOf k x) = ConstraintFault k x

abbrev pub fault_at : Point → State → Option Fault
fault_at p Fails = Some (fault_named (shown_point p))
fault_at p _ = None

abbrev pub point_fails : Partial → Point → Option Fault
point_fails K p = fault_at p (state K p)

-- whether the objective now is better than the one before; where one of them is missing nothing is
-- compared
abbrev pub not_better_if : Bool → ℤ → ℤ → Option Fault
not_better_if better now before = cond better None (Some (NotBetter now before))

abbrev pub objective_fails : Aim → Option ℤ → Option ℤ → Option Fault
objective_fails (Minimize t) (Some before) (Some now) = not_better_if (int_lt now before) now before
objective_fails (Maximize t) (Some before) (Some now) = not_better_if (int_lt before now) now before
objective_fails _ _ _ = None

-- the name of the first variable without a value, in source order
abbrev pub first_unset : List Variable → Partial → List ℕ
first_unset (x ∷ xs) (None ∷ K) = x.name
first_unset (x ∷ xs) (Some v ∷ K) = first_unset xs K
first_unset _ _ = []

-- the reason for a constraint that is not known: its number and predicate
abbrev pub not_known_at : PointName → Option Reason
not_known_at (ConstraintOf k x) = Some (NotKnown k x)
not_known_at (DomainOf x) = None
not_known_at (DefinitionOf x) = None

abbrev pub too_large_at : PointName → Option Reason
too_large_at (ConstraintOf k x) = Some (SumTooLarge k)
too_large_at (DomainOf x) = None
too_large_at (DefinitionOf x) = None

-- What is undecided at a point: it has no value, and then the reason names the first variable
-- without value; or it is a constraint that is not known or whose sums are too large.
abbrev pub reason_at : Model → Partial → Point → State → Option Reason
reason_at m K p NoValue = Some (NoValueFor (first_unset (variables_of m) K))
reason_at m K p Unknown = not_known_at (shown_point p)
reason_at m K p TooLarge = too_large_at (shown_point p)
reason_at m K p Holds = None
reason_at m K p Fails = None

abbrev pub point_undecided : Model → Partial → Point → Option Reason
point_undecided m K p = reason_at m K p (state K p)

abbrev pub verdict_by : Option Fault → Option Reason → Verdict
verdict_by (Some f) r = Violated f
verdict_by None (Some r) = Undecided r
verdict_by None None = Satisfied

-- The verdict on a block for a partial assignment and the objective of the block before: the first
-- that fails of the printed names in block order, then the points, then the objective; else the
-- first point that is undecided; else satisfied.
abbrev pub verdict : Model → Partial → SolutionBlock → Option ℤ → Verdict
verdict m K block before =
    verdict_by
    (option_or (first_some (printed_fails m K) block.items)
    (option_or (first_some (point_fails K) (points m))
    (objective_fails m.aim before (objective m K))))
    (first_some (point_undecided m K) (points m))

-- ---- the verdicts of a list of blocks

-- The verdicts of the blocks in order, each for a partial assignment that is as proposed for its
-- block, with the objective under the partial assignment of the block before; the first is compared
-- with the objective given.
pub data AreJudged (m : Model) (Proposed : SolutionBlock → Partial → Type 0) : Option ℤ
    → List SolutionBlock → List Verdict → Type 0 where
  NoneLeft : {before : Option ℤ} → AreJudged m Proposed before [] []
  OneMore : {before : Option ℤ} {block : SolutionBlock} {blocks : List SolutionBlock}
      {vs : List Verdict} (K : Partial) → Proposed block K
      → AreJudged m Proposed (objective m K) blocks vs
      → AreJudged m Proposed before (block ∷ blocks) (verdict m K block before ∷ vs)

-- what a verdict may be based on: the block fits the model, and the partial assignment has every
-- value of the block's start
pub record IsProposed (m : Model) (block : SolutionBlock) (K : Partial) : Type 0 where
  pub fits : AllFit m block.items
  pub partial : IsPartial m K
  pub has_start : HasEach (start m block) K

-- the filling of a block that fits the model
pub record IsFilled (c : Completion) (m : Model) (block : SolutionBlock) (F : Partial)
    : Type 0 where
  pub fits : AllFit m block.items
  pub filling : IsFilling c m block F

-- ---- the answer

pub data Answer : Type 0 where
  Accepted : ℕ → Answer
  Rejected : ℕ → Answer
  UndecidedAt : ℕ → Answer
  NoBlocks : Answer
  -- a claim that comes after so many blocks is refuted
  ClaimRejected : ℕ → Answer

abbrev pub is_violated : Verdict → Bool
is_violated (Violated f) = true
is_violated _ = false

abbrev pub is_undecided : Verdict → Bool
is_undecided (Undecided r) = true
is_undecided _ = false

-- the number of the first block whose verdict is of a kind, where the first of the list has the
-- number n
abbrev pub first_number : ℕ → (Verdict → Bool) → List Verdict → Option ℕ
first_number n is [] = None
first_number n is (v ∷ vs) = cond (is v) (Some n) (first_number (suc n) is vs)

abbrev pub answer_by : Option ℕ → Option ℕ → ℕ → Answer
answer_by (Some n) u count = Rejected n
answer_by None (Some n) count = UndecidedAt n
answer_by None None zero = NoBlocks
answer_by None None (suc n) = Accepted (suc n)

-- rejected by the first violated block, else undecided by the first undecided one, else accepted
-- where there is a block
abbrev pub answer_of : List Verdict → Answer
answer_of vs =
    answer_by (first_number 1 is_violated vs) (first_number 1 is_undecided vs) (length vs)
