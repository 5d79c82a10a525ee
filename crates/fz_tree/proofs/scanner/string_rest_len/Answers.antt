use Rattle.std.proofs.Common.{sym, ◌∙◌, arith}
use Rattle.fz_tree.proofs.StringRest.{at_quote, at_line_feed, at_plain, at_end, at_broken, at_escape}
use Rattle.fz_tree.proofs.scanner.string_rest_len.Goals as goal

pub returns-in-34-clause-value : goal.returns-in-34-clause-value
returns-in-34-clause-value c =
    sym (at_quote c.args.bytes.now c.loop-len.len (omega arith) (omega arith)) ∙ c.loop-len.invariant

pub returns-in-10-clause-value : goal.returns-in-10-clause-value
returns-in-10-clause-value c =
    sym (at_line_feed c.args.bytes.now c.loop-len.len (omega arith) (omega arith)) ∙ c.loop-len.invariant

pub returns-then-byte_at-eq10-clause-value : goal.returns-then-byte_at-eq10-clause-value
returns-then-byte_at-eq10-clause-value c =
    sym (at_broken c.args.bytes.now c.loop-len.len (omega arith) (omega arith)) ∙ c.loop-len.invariant

pub loop-len-preserved-in-92 : goal.loop-len-preserved-in-92
loop-len-preserved-in-92 c =
    sym (at_escape c.args.bytes.now c.loop-len.len (omega arith) (omega arith) (λ e. absurd (omega arith))) ∙ c.loop-len.invariant

pub loop-len-preserved : goal.loop-len-preserved
loop-len-preserved c =
    sym (at_plain c.args.bytes.now c.loop-len.len (omega arith) (λ e. absurd (omega arith)) (λ e. absurd (omega arith)) (λ e. absurd (omega arith))) ∙ c.loop-len.invariant

pub returns-clause-value : goal.returns-clause-value
returns-clause-value c = sym (at_end c.args.bytes.now c.loop-len.len (omega arith)) ∙ c.loop-len.invariant
