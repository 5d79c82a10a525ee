use Rattle.std.proofs.Common.{refl, sym, ◌∙◌}
use Rattle.std.proofs.lemmas.Bool.{not-true, not-false}
use Rattle.fz_stream.proofs.NameLemmas.{repeated_in, prints_again, apart_in, names_in}
use Rattle.fz_stream.proofs.block.repeated_name.Goals as goal

pub returns-then-not-is_new-clause-some : goal.returns-then-not-is_new-clause-some
returns-then-not-is_new-clause-some c =
    repeated_in c.args.items.now c.loop-item.item-index c.item-item.result c.item-item.is c.loop-item-test.true c.loop-item.names.keys c.loop-item.invariant.names_are
    (not-false _ (sym c.in_ok-is_new.ensures.added ∙ c.if-not-is_new.true))

pub returns-then-not-is_new-clause-place : goal.returns-then-not-is_new-clause-place
returns-then-not-is_new-clause-place c = (
  c.item-item.result,
  prints_again c.args.items.now c.loop-item.item-index c.item-item.result c.item-item.is c.loop-item-test.true c.loop-item.names.keys c.loop-item.invariant.names_are
      (not-false _ (sym c.in_ok-is_new.ensures.added ∙ c.if-not-is_new.true)) c.loop-item.invariant.apart,
  refl,
)

pub loop-item-preserved : goal.loop-item-preserved
loop-item-preserved c =
    let missing = not-true _ (sym c.in_ok-is_new.ensures.added ∙ c.if-not-is_new.false) in
    record {
      names_are = names_in c.args.items.now c.loop-item.item-index c.item-item.result c.item-item.is c.loop-item-test.true c.loop-item.names.keys c.loop-item.invariant.names_are _ missing c.in_ok-is_new.ensures.keys;
      apart = apart_in c.args.items.now c.loop-item.item-index c.item-item.result c.item-item.is c.loop-item-test.true c.loop-item.names.keys c.loop-item.invariant.names_are missing c.loop-item.invariant.apart;
    }
