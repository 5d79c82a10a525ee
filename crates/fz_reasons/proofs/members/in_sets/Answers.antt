use Rattle.std.proofs.Common.{◌≡◌, int_lt, w64, to_z, of_z, sym, ap, ◌∙◌}
use Rattle.std.specs.FinSet.{contains, items}
use Rattle.std.specs.List.{list_any}
use Rattle.std.proofs.lemmas.Int.{to_z-of_z}
use Rattle.fz_builtins.specs.of_kernel.Given.{set_at}
use Rattle.fz_builtins.specs.of_kernel.Views.{arguments_of, assigned}
use Rattle.fz_builtins.specs.of_meaning.declared.builtin.Builtin.TheVariants.{GecodeRange}
use Rattle.fz_reasons.specs.Reasons.{in_sets}
use Rattle.fz_reasons.proofs.members.in_sets.Goals as goal

pub returns-in-SetConvex : goal.returns-in-SetConvex
returns-in-SetConvex c =
    let n = c.args.number in
    let K = assigned c.args.view.now in
    let xs = arguments_of c.args.view.now in
    let same : to_z w64 (of_z w64 n) ≡ n = to_z-of_z w64 n c.ranges.number in
    let is = c.set-set.ensures.read in
    let less : c.has_less.result ≡ list_any (λ x. int_lt x n) (items (set_at K xs 0)) =
    c.has_less.ensures ∙ (λ i. list_any (λ x. int_lt x (same i)) (items (is i))) in
    let inside : c.contains.result ≡ contains (set_at K xs 0) n =
    c.contains.ensures ∙ (λ i. contains (is i) (same i)) in
    let more : c.has_more.result ≡ list_any (λ x. int_lt n x) (items (set_at K xs 0)) =
    c.has_more.ensures ∙ (λ i. list_any (λ x. int_lt (same i) x) (items (is i))) in
    ap (λ b. in_sets b K xs n) c.in-SetConvex.is ∙ (λ i. (sym less i, sym inside i, sym more i))

pub returns-in-GecodeRange : goal.returns-in-GecodeRange
returns-in-GecodeRange c =
    let n = c.args.number in
    let K = assigned c.args.view.now in
    let xs = arguments_of c.args.view.now in
    let same : to_z w64 (of_z w64 n) ≡ n = to_z-of_z w64 n c.ranges.number in
    ap (λ b. in_sets b K xs n) c.in-GecodeRange.is ∙ ap (in_sets GecodeRange K xs) (sym same) ∙ c.in_range.ensures
