use Rattle.std.proofs.Common.{◌≡◌, ◌+◌, ◌-◌, length, ap, ◌∙◌, arith}
use Rattle.fz_builtins.specs.of_meaning.Meaning.{points, row_of}
use Rattle.fz_builtins.specs.of_store.Parts.{kept_row}
use Rattle.fz_model.specs.Overviews.{others_from}
use Rattle.fz_model.proofs.Together.{declared_first, enough, same_length}
use Rattle.fz_model.proofs.overview.Overview.new.Goals as goal

pub overflow_sub-declared : goal.overflow_sub-declared
overflow_sub-declared c =
    let m = c.args.model.now in
    omega (arith, same_length kept_row row_of c.constraints.result.posted.now m.constraints c.constraints.ensures.rows, enough m, c.points.ensures.counted)

pub others-requires : goal.others-requires
others-requires c = record { in_range = omega (arith, c.points.ensures.counted) }

pub returns : goal.returns
returns c =
    let m = c.args.model.now in
    let before = c.points.result - length c.constraints.result.posted.now in
    let count : before + length m.constraints ≡ length (points m) = omega (arith, same_length kept_row row_of c.constraints.result.posted.now m.constraints c.constraints.ensures.rows, enough m, c.points.ensures.counted) in
    record { made = c.in_ok-others.ensures ∙ ap (others_from 0) (declared_first m before count) }
