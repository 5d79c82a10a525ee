use Rattle.std.proofs.Common.{rules, ◌≡◌, Some, nat_eq, option_map, subst, sym}
use Rattle.fz_builtins.specs.of_meaning.of_base.declared.value.Value.TheVariants.{Int, Bool as Truth, Set}
use Rattle.fz_builtins.specs.Said.{IsSaid}
use Rattle.fz_model.specs.Left.{IsLeftIfComputed}
use Rattle.fz_model.proofs.Lefts.{nothing_said, number_said, set_said, truth_said}
use Rattle.fz_model.proofs.value.left_by.Goals as goal

pub returns-in-Whether : goal.returns-in-Whether
returns-in-Whether c = λ r K xs i place h.
    let said = subst (IsSaid r (nat_eq i 0) K xs) c.in-Whether.is h in
    nothing_said r K xs i place c.in-Whether.field-0 said

pub returns-in-Number : goal.returns-in-Number
returns-in-Number c = λ r K xs i place h.
    let said = subst (IsSaid r (nat_eq i 0) K xs) c.in-Number.is h in
    let is : c.map.result ≡ option_map Int c.narrowed.result = search rules in
    subst (IsLeftIfComputed r K xs i) (sym is)
    (number_said r K xs i place _ c.in-Number.number c.narrowed.result said c.narrowed.ensures)

pub returns-in-Boolean : goal.returns-in-Boolean
returns-in-Boolean c = λ r K xs i place h.
    let said = subst (IsSaid r (nat_eq i 0) K xs) c.in-Boolean.is h in
    let is : c.map-in-Boolean.result ≡ option_map Truth c.in-Boolean.truth = search rules in
    subst (IsLeftIfComputed r K xs i) (sym is) (truth_said r K xs i place _ c.in-Boolean.truth said)

pub returns-in-Set : goal.returns-in-Set
returns-in-Set c = λ r K xs i place h.
    let said = subst (IsSaid r (nat_eq i 0) K xs) c.in-Set.is h in
    set_said r K xs i place _ (Some c.in-Set.set) said.0 said.1

pub returns-in_ok-copied-in-Given : goal.returns-in_ok-copied-in-Given
returns-in_ok-copied-in-Given c = λ r K xs i place h.
    let said = subst (IsSaid r (nat_eq i 0) K xs) c.in-Given.is h in
    let set = option_map (λ s. s.now) c.in-Given.set in
    let is : c.map-in-Given.result ≡ option_map Set set = search rules in
    subst (IsLeftIfComputed r K xs i) (sym is) (set_said r K xs i place _ set said.0 said.1)
