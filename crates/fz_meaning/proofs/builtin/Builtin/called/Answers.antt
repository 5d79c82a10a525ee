use Rattle.std.proofs.Common.{sym, ◌∙◌}
use Rattle.fz_meaning.proofs.FoundRows.{found_here, found_nowhere}
use Rattle.fz_meaning.proofs.builtin.Builtin.called.Goals as goal

pub returns-then-same_text : goal.returns-then-same_text
returns-then-same_text c =
    found_here (λ n. n.0.now) (λ n. n.1) c.args.name.now c.named_so_long-own-items.result.now c.loop-own.own-index c.named_so_long-own-items.ensures c.loop-own.invariant _ c.loop-own-test.true
    (sym c.same_text.ensures ∙ c.if-same_text.true)

pub returns : goal.returns
returns c = found_nowhere (λ n. n.0.now) (λ n. n.1) c.args.name.now c.named_so_long-own-items.result.now c.loop-own.own-index c.named_so_long-own-items.ensures c.loop-own.invariant c.loop-own-test.false
