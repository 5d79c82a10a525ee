use Rattle.std.proofs.Common.{length}
use Rattle.std.proofs.lemmas.Slice.Zip.{zip_end}
use Rattle.fz_data.proofs.Fitting.{fit_not_long, fit_all}
use Rattle.fz_data.proofs.rows.have_shapes.Goals as goal

pub returns-then-shapes-arguments : goal.returns-then-shapes-arguments
returns-then-shapes-arguments c = fit_not_long c.args.cited.now.variables.now c.args.cited.now.arrays.now c.args.store.now c.args.shapes.now c.args.arguments.now c.if-shapes-arguments.true

pub returns : goal.returns
returns c =
    let e = zip_end c.args.shapes.now c.args.arguments.now c.loop-shape.yielded c.into_iter-shape-iterator.result c.loop-shape.shape-iterator c.next.new.self c.next.result (cc) (cc) c.loop-shape.yielded_by c.in-None.is c.next.ensures.steps in
    fit_all c.args.cited.now.variables.now c.args.cited.now.arrays.now c.args.store.now c.args.shapes.now c.args.arguments.now (length c.loop-shape.yielded) c.if-shapes-arguments.false e c.loop-shape.invariant
