use Rattle.std.proofs.Common.{◌≡◌, true, map, sym, ap, ◌∙◌}
use Rattle.fz_store.specs.of_meaning.Meaning as meaning
use Rattle.fz_store.specs.of_meaning.Known.{known_row}
use Rattle.fz_store.specs.Parts.{argument_view}
use Rattle.fz_data.proofs.Fitting.{fits_by_lengths}
use Rattle.fz_data.proofs.rows.fits.Goals as goal

pub returns-then-have_shapes : goal.returns-then-have_shapes
returns-then-have_shapes c =
    let vs = c.args.cited.now.variables.now in
    let xs = c.args.cited.now.arrays.now in
    let st = c.args.store.now in
    let r = known_row c.args.known in
    let seen = map (argument_view vs xs st) c.args.arguments.now in
    let shaped : meaning.have_shapes r.shapes seen ≡ true = ap (λ ss. meaning.have_shapes ss seen) (sym c.shapes.ensures) ∙ sym c.have_shapes.ensures ∙ c.if-have_shapes.true in
    c.have_lengths.ensures ∙ fits_by_lengths vs xs st r c.args.arguments.now shaped
