use Rattle.std.proofs.Common.{rules, ◌≡◌, false, ap, sym, subst, ◌∙◌, option_map, FitsSigned, w64}
use Rattle.std.proofs.lemmas.Int.{to_z-of_z}
use Rattle.fz_globals.specs.of_meaning.declared.kind.Kind.TheVariants.{Int as IntKind, Bool as BoolKind, Set as SetKind}
use Rattle.fz_globals.specs.of_meaning.Relations.{◌=ℤ◌, ◌=ᴮ◌, ◌=ˢ◌}
use Rattle.fz_globals.specs.of_kernel.Views.{arguments_of, assigned}
use Rattle.fz_builtins.specs.Said.{IsSaid, is_result}
use Rattle.fz_builtins.proofs.RowTests.{holds_at}
use Rattle.fz_builtins.proofs.said.outcome_of.Goals as goal

pub returns-in-Number : goal.returns-in-Number
returns-in-Number c =
    let K = assigned c.args.view.now in
    let xs = arguments_of c.args.view.now in
    let fits : FitsSigned w64 c.int.result = search rules in
    let told : c.is_number.result ≡ is_result ◌=ℤ◌ c.in-Number.number c.int.result = simp to_z-of_z at c.is_number.ensures in
    λ r h.
    let said = subst (IsSaid r false K xs) c.in-Number.is h in
    holds_at K xs r c.in-Number.place IntKind said.0 c.is_number.result
    (told ∙ ap (is_result ◌=ℤ◌ c.in-Number.number) c.int.ensures.read ∙ sym (said.1 _))

pub returns-in-Boolean : goal.returns-in-Boolean
returns-in-Boolean c =
    let K = assigned c.args.view.now in
    let xs = arguments_of c.args.view.now in
    λ r h.
    let said = subst (IsSaid r false K xs) c.in-Boolean.is h in
    holds_at K xs r c.in-Boolean.place BoolKind said.0 c.is_truth.result
    (c.is_truth.ensures ∙ ap (is_result ◌=ᴮ◌ c.in-Boolean.truth) c.truth.ensures.read ∙ sym (said.1 _))

pub returns-in-Set : goal.returns-in-Set
returns-in-Set c =
    let K = assigned c.args.view.now in
    let xs = arguments_of c.args.view.now in
    λ r h.
    let said = subst (IsSaid r false K xs) c.in-Set.is h in
    holds_at K xs r c.in-Set.place SetKind said.0 c.same_set.result
    (c.same_set.ensures.exact ∙ ap (λ s. s =ˢ c.in-Set.set) c.set.ensures.read ∙ sym (said.1 _))

pub returns-in-Given : goal.returns-in-Given
returns-in-Given c =
    let K = assigned c.args.view.now in
    let xs = arguments_of c.args.view.now in
    λ r h.
    let said = subst (IsSaid r false K xs) c.in-Given.is h in
    holds_at K xs r c.in-Given.place SetKind said.0 c.is_set.result
    (c.is_set.ensures ∙ ap (is_result ◌=ˢ◌ (option_map (λ s. s.now) c.in-Given.set)) c.set-in-Given.ensures.read
    ∙ sym (said.1 _))
