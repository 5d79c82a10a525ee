use Rattle.std.proofs.Common.{◌≡◌, ◌++◌, None, Option, arith, ap, drop, length, map, sym, take, ◌∙◌}
use Rattle.std.proofs.lemmas.List.{length-map}
use Rattle.fz_meaning.specs.of_base.declared.value.Value.{Value}
use Rattle.fz_store.specs.Partial.{unset_count}
use Rattle.fz_store.proofs.Tabled.{all_unset, all_written, cleared_tabled}
use Rattle.fz_store.proofs.partial.Partial.clear.Goals as goal

nothing : Option Value → Option Value
nothing v = None

pub invariant_of-self : goal.invariant_of-self
unfolding nothing
invariant_of-self c =
    let p = c.self.inside in
    let left : c.forget.new.values ≡ map nothing p.values.items = c.forget.ensures.forgotten ∙ ap (map nothing) c.deref_mut.ensures.value in
    let room : p.values.len ≡ length p.values.items = omega (arith, p.values.ok.0) in
    let size : p.values.len ≡ length c.forget.new.values = room ∙ sym (ap length left ∙ length-map p.values.items nothing) in
    let whole : take p.values.len (c.forget.new.values ++ drop (length c.forget.new.values) p.values.items) ≡ map nothing p.values.items = all_written _ _ _ size ∙ left in
    let tabled = cleared_tabled p.values.items p.numbers.items p.truths.items p.given.items p.numbers.len p.truths.len p.given.len c.self.invariant.1 (omega (arith, p.numbers.ok.0)) (omega (arith, p.truths.ok.0)) (omega (arith, p.given.ok.0)) in (
      c.self.invariant.0,
      rw (whole, c.fill.ensures.items (λ y e. e), c.fill-2.ensures.items (λ y e. e), c.fill-3.ensures.items (λ y e. e)) tabled,
      c.len-self-inside.ensures ∙ room ∙ sym (ap unset_count whole ∙ all_unset p.values.items),
    )
