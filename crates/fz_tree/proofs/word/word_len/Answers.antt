use Rattle.std.proofs.Common.{◌≡◌, ◌+◌, ◌≤◌, length, drop, rules, arith}
use Rattle.std.proofs.lemmas.List.{length-drop}
use Rattle.fz_tree.specs.Token.{is_word_byte}
use Rattle.fz_tree.proofs.Lanes.{load_within, load_ends, load_goes_on}
use Rattle.fz_tree.proofs.word.word_len.Goals as goal

pub overflow_add-len : goal.overflow_add-len
overflow_add-len c =
    let bytes = c.args.bytes.now in
    let at = c.loop-len.len in
    let room : 16 ≤ length (drop at bytes) = omega (arith, length-drop at bytes) in
    let within = load_within is_word_byte 16 (drop at bytes) room in
    let inside : at + c.word_run-run.result ≤ length bytes = omega arith in
    search rules

pub returns-then-run-lt-LANES-clause-value : goal.returns-then-run-lt-LANES-clause-value
returns-then-run-lt-LANES-clause-value c =
    load_ends is_word_byte 16 c.args.bytes.now c.loop-len.len c.word_run-run.result _ c.loop-len.invariant.0 c.word_run-run.ensures c.if-run-lt-LANES.true

pub loop-len-preserved : goal.loop-len-preserved
loop-len-preserved c =
    let bytes = c.args.bytes.now in
    let at = c.loop-len.len in
    let room : 16 ≤ length (drop at bytes) = omega (arith, length-drop at bytes) in
    let within = load_within is_word_byte 16 (drop at bytes) room in
    let whole : c.word_run-run.result ≡ 16 = omega arith in
    (load_goes_on is_word_byte 16 bytes at c.word_run-run.result _ c.loop-len.invariant.0 c.word_run-run.ensures whole, omega arith)
