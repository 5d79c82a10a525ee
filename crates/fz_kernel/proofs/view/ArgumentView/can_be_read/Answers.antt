use Rattle.std.proofs.Common.{map, ap, ◌∙◌}
use Rattle.fz_store.specs.of_meaning.Known.{shape_of}
use Rattle.fz_kernel.specs.Arguments.{reading_in, readings_are_read}
use Rattle.fz_kernel.specs.Views.{assigned}
use Rattle.fz_kernel.proofs.Standing.{read_all}
use Rattle.fz_kernel.proofs.view.ArgumentView.can_be_read.Goals as goal

pub returns : goal.returns
returns c =
    let s = c.args.self.now in
    c.are_read.ensures ∙ ap (λ zs. readings_are_read (assigned s) (map shape_of c.args.shapes.now) (map (reading_in s.parts.arrays.now s.parts.store.now) zs)) c.arguments.ensures.all ∙ read_all s (assigned s) (map shape_of c.args.shapes.now)
