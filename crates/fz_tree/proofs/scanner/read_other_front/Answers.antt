use Rattle.std.proofs.Common.{◌+◌, drop, get_or, true, false, arith}
use Rattle.std.proofs.lemmas.List.{take_rest}
use Rattle.fz_tree.specs.Scan.{number_front}
use Rattle.fz_tree.proofs.Numbers.{number_is}
use Rattle.fz_tree.proofs.Fronts.{decimal_digit, digit_no_word_start, front_natural, front_negative}
use Rattle.fz_tree.proofs.scanner.read_other_front.Goals as goal

pub returns-in-45 : goal.returns-in-45
returns-in-45 c =
    let number = number_front (drop 1 c.args.bytes.now) in
    number_is c.args.bytes.now true (1 + number.len) number.natural _ _
    (rw take_rest at c.number_front-number.ensures.magnitude)
    (front_negative c.args.bytes.now (omega arith) cc)
    (rw (rw take_rest at c.number_front-number.ensures.len) at c.number_found.ensures)

pub returns-in-48-to-57 : goal.returns-in-48-to-57
returns-in-48-to-57 c =
    let bytes = c.args.bytes.now in
    let number = number_front bytes in
    number_is bytes false number.len number.natural _ _ c.number_front-number-in-48-to-57.ensures.magnitude
    (front_natural bytes (digit_no_word_start (get_or bytes 0 0) (omega arith) (omega arith)) (decimal_digit (get_or bytes 0 0) (omega arith) (omega arith)))
    (rw c.number_front-number-in-48-to-57.ensures.len at c.number_found-in-48-to-57.ensures)
