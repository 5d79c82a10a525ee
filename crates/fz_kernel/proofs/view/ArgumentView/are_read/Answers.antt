use Rattle.std.proofs.Common.{length}
use Rattle.std.proofs.lemmas.List.{length_push}
use Rattle.std.proofs.lemmas.Slice.Zip.{zip_turn, zip_end}
use Rattle.fz_kernel.specs.Arguments.{reading_in}
use Rattle.fz_kernel.proofs.Shapes.{fit_not_long, fit_not, fit_more, fit_all}
use Rattle.fz_kernel.proofs.view.ArgumentView.are_read.Goals as goal

pub returns-then-shapes-arguments : goal.returns-then-shapes-arguments
returns-then-shapes-arguments c =
    let s = c.args.self.now in
    fit_not_long s.partial.now (reading_in s.parts.arrays.now s.parts.store.now) c.args.shapes.now c.args.arguments.now c.if-shapes-arguments.true

pub returns-then-not-is_read : goal.returns-then-not-is_read
returns-then-not-is_read c =
    let s = c.args.self.now in
    let t = zip_turn c.args.shapes.now c.args.arguments.now c.loop-shape.yielded c.into_iter-shape-iterator.result c.loop-shape.shape-iterator c.next.new.self c.next.result (cc) (cc) c.loop-shape.yielded_by (c.in-Some.shape, c.in-Some.argument) c.in-Some.is c.next.ensures.steps in
    fit_not s.partial.now (reading_in s.parts.arrays.now s.parts.store.now) c.args.shapes.now c.args.arguments.now (length c.loop-shape.yielded) c.in-Some.shape.now c.in-Some.argument.now t.0 t.1 (t.2 _) (t.3 _) c.loop-shape.invariant c.is_read.result c.is_read.ensures c.if-not-is_read.true

pub loop-shape-preserved : goal.loop-shape-preserved
loop-shape-preserved c =
    let s = c.args.self.now in
    let t = zip_turn c.args.shapes.now c.args.arguments.now c.loop-shape.yielded c.into_iter-shape-iterator.result c.loop-shape.shape-iterator c.next.new.self c.next.result (cc) (cc) c.loop-shape.yielded_by (c.in-Some.shape, c.in-Some.argument) c.in-Some.is c.next.ensures.steps in
    rw length_push
    (fit_more s.partial.now (reading_in s.parts.arrays.now s.parts.store.now) c.args.shapes.now c.args.arguments.now (length c.loop-shape.yielded) c.in-Some.shape.now c.in-Some.argument.now t.0 t.1 (t.2 _) (t.3 _) c.loop-shape.invariant c.is_read.result c.is_read.ensures c.if-not-is_read.false)

pub returns : goal.returns
returns c =
    let s = c.args.self.now in
    let e = zip_end c.args.shapes.now c.args.arguments.now c.loop-shape.yielded c.into_iter-shape-iterator.result c.loop-shape.shape-iterator c.next.new.self c.next.result (cc) (cc) c.loop-shape.yielded_by c.in-None.is c.next.ensures.steps in
    fit_all s.partial.now (reading_in s.parts.arrays.now s.parts.store.now) c.args.shapes.now c.args.arguments.now (length c.loop-shape.yielded) c.if-shapes-arguments.false e c.loop-shape.invariant
