-- Values taken into a partial assignment one after another, and what is asked of one scalar. Only
-- private functions use these, here and in `fz_check`, but for `HasRoom`, which `filled` cites.
use Rattle.std.specs.Prelude.{◌≡◌, ℕ, ℤ, ◌<◌, Bool, false, true, cond, ◌&&◌, is_none, List, [], ◌∷◌, length, map, Option, None, Some, ⊤}
use Rattle.std.specs.Option.{option_map_or}
use Rattle.fz_index.specs.of_model.of_base.declared.value.Value.{Value}
use Rattle.fz_index.specs.of_model.declared.State.{State}
use Rattle.fz_index.specs.of_model.declared.State.TheVariants.{Holds, Fails, NoValue, Unknown, TooLarge}
use Rattle.fz_index.specs.of_model.declared.Term.{Term}
use Rattle.fz_index.specs.of_model.declared.Term.TheVariants.{Var, Fixed}
use Rattle.fz_index.specs.of_model.declared.What.{What}
use Rattle.fz_index.specs.of_model.declared.What.TheVariants as whats
use Rattle.fz_index.specs.of_model.Names.{literal_value}
use Rattle.fz_index.specs.of_model.Shown.{scalar_terms}
use Rattle.fz_index.specs.of_model.Slots.{scalar_term}
use Rattle.fz_index.specs.of_model.Meaning.{Model, Partial, IsPartial, objective, value, value_at, variables_of, find_name}
use Rattle.fz_index.specs.of_model.Steps.{give}
use Rattle.fz_index.specs.of_model.States.{PointName, same_value}
use Rattle.fz_stream.specs.of_syntax.Places.{IsSpanWithin}
use Rattle.fz_stream.specs.Parts.{SolutionBlock}
use Rattle.fz_stream.specs.of_syntax.Tree.{Printed, PrintedValue, OneValue, ArrayOf}
use Rattle.fz_filling.specs.BlockFaults.{moved}
use Rattle.fz_filling.specs.Filling.{pairs, pairs_at}
use Rattle.fz_filling.specs.Verdict.{Fault, Reason, Verdict, verdict, not_known_at, too_large_at, verdict_by}
use Rattle.fz_filling.specs.Verdict.Verdict.{Satisfied, Violated, Undecided}
use Rattle.fz_filling.specs.Verdict.Fault.{NotBetter}
use Rattle.fz_filling.specs.Verdict.Reason.{NoValueFor, NotShownBetter}
use Rattle.fz_filling.specs.declared.error.BlockError.{BlockError}
use Rattle.fz_filling.specs.declared.error.BlockError.TheVariants as errors

-- ---- the start

-- it has room for the value of each variable
abbrev pub HasRoom : Model → Partial → Type 0
HasRoom m K = length K ≡ length (variables_of m)

-- a variable's number is one of so many
abbrev pub IsWithin : ℕ → Term → Type 0
IsWithin count (Var n) = n < count
IsWithin count (Fixed v) = ⊤

abbrev pub terms_of_what : What → List Term
terms_of_what (whats.Scalar s) = scalar_term s ∷ []
terms_of_what (whats.Array k ts) = scalar_terms ts

-- a variable without a value takes the value
abbrev pub with_first : Partial → (Term × Value) → Partial
with_first K (Var n, v) = cond (is_none (value_at K n)) (give K n v) K
with_first K (Fixed w, v) = K

-- one after another
abbrev pub with_all : Partial → List (Term × Value) → Partial
with_all K [] = K
with_all K (q ∷ qs) = with_all (with_first K q) qs

abbrev pub one_pair : Term → PrintedValue → List (Term × Value)
one_pair t (OneValue l) = (t, literal_value l) ∷ []
one_pair t (ArrayOf is ls) = []

abbrev pub element_pairs : List Term → PrintedValue → List (Term × Value)
element_pairs ts (OneValue l) = []
element_pairs ts (ArrayOf is ls) = pairs ts (map literal_value ls)

-- the scalar has the value of the literal
abbrev pub has_value : Partial → (Term × Value) → Bool
has_value K q = option_map_or (λ v. same_value v q.1) (value K q.0) false

-- the scalars that an item prints
abbrev pub item_scalars : Model → Printed → List (Term × Value)
item_scalars m i = option_map_or (λ p. pairs_at p i.value) (find_name m i.name) []

-- ---- the verdict

-- the scalars have the values beside them, where there are as many
abbrev pub have_values : Partial → List Term → List Value → Bool
have_values K [] [] = true
have_values K (t ∷ ts) (v ∷ vs) = has_value K (t, v) && have_values K ts vs
have_values K _ _ = false

abbrev pub is_failed : State → Bool
is_failed Fails = true
is_failed Holds = false
is_failed NoValue = false
is_failed Unknown = false
is_failed TooLarge = false

-- the reason that a point is undecided, by its name
abbrev pub reason_named : List ℕ → PointName → State → Option Reason
reason_named unset q NoValue = Some (NoValueFor unset)
reason_named unset q Unknown = not_known_at q
reason_named unset q TooLarge = too_large_at q
reason_named unset q Holds = None
reason_named unset q Fails = None

-- the verdict where the points have this one, and the objective may fail
abbrev pub with_objective : Verdict → Option Fault → Verdict
with_objective (Violated f) o = Violated f
with_objective (Undecided r) o = verdict_by o (Some r)
with_objective Satisfied o = verdict_by o None

-- the verdict on a block that is satisfied, where its objective may not be better than one that a
-- search found
abbrev pub not_shown_better : Fault → Verdict
not_shown_better (NotBetter now found) = Undecided (NotShownBetter now found)
not_shown_better _ = Satisfied

abbrev pub compared : Option Fault → Verdict
compared None = Satisfied
compared (Some f) = not_shown_better f

-- the block is satisfied under some values, which have this objective
abbrev pub IsFound : Model → SolutionBlock → Option ℤ → Option ℤ → Type 0
IsFound m block before kept =
    (K : Partial) × IsPartial m K × (verdict m K block before ≡ Satisfied) × (kept ≡ objective m K)

-- ---- refusals

-- the byte range that an error names, if it names one, is within so many bytes
abbrev pub IsPlacedWithin : ℕ → BlockError → Type 0
IsPlacedWithin n (errors.UnknownName at) = IsSpanWithin n at
IsPlacedWithin n (errors.Kind at) = IsSpanWithin n at
IsPlacedWithin n (errors.Length at) = IsSpanWithin n at
IsPlacedWithin n errors.Memory = ⊤

-- the same fault with its byte range in the stream
abbrev pub moved_error : ℕ → BlockError → BlockError
moved_error offset (errors.UnknownName at) = errors.UnknownName (moved offset at)
moved_error offset (errors.Kind at) = errors.Kind (moved offset at)
moved_error offset (errors.Length at) = errors.Length (moved offset at)
moved_error offset errors.Memory = errors.Memory
