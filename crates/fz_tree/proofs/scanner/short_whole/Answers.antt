use Rattle.std.proofs.Common.{rules, ◌≡◌, pos, neg_ℤ, ◌-ℤ◌, FitsSigned, to_z, of_z, w64, ◌∙◌, arith}
use Rattle.std.proofs.lemmas.List.{take_rest}
use Rattle.std.proofs.lemmas.Int.{ints, to_z_pos, to_z-of_z}
use Rattle.fz_tree.proofs.Cuts.{at_place}
use Rattle.fz_tree.proofs.Short.{whole_front, whole_front_negative}
use Rattle.fz_tree.proofs.scanner.short_whole.Goals as goal

pub returns-in-Some : goal.returns-in-Some
returns-in-Some c =
    let bytes = c.args.bytes.now in
    let run = c.in-Some.run' in
    let small = c.in-Some.ensures.small in
    let same = to_z_pos w64 run.value small in
    let fits : FitsSigned w64 (pos 0 -ℤ to_z w64 run.value) = search rules in
    let value : to_z w64 (of_z w64 (pos 0 -ℤ to_z w64 run.value)) ≡ neg_ℤ (pos run.value) = to_z-of_z w64 _ fits ∙ omega (arith, ints, same) in
    let digit = rw (take_rest, at_place bytes 1) at c.in-Some.ensures.some c.if-short_number-gt0.true in
    whole_front_negative bytes run.len run.value _ (omega arith) digit (rw take_rest at c.in-Some.ensures.is) small value

pub returns-in-Some-short_number : goal.returns-in-Some-short_number
returns-in-Some-short_number c =
    let bytes = c.args.bytes.now in
    let run = c.in-Some-short_number.run' in
    let small = c.in-Some-short_number.ensures.small in
    whole_front bytes run.len run.value _ (omega arith) (omega arith) c.in-Some-short_number.ensures.is small (to_z_pos w64 run.value small)
