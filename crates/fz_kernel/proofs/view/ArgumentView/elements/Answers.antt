use Rattle.std.proofs.Common.{length, slice_get, refl, sym, ap, ◌∙◌}
use Rattle.std.proofs.lemmas.Option.{slice_get_past, slice_get_read}
use Rattle.fz_kernel.proofs.Standing.{elements_there, no_elements}
use Rattle.fz_kernel.proofs.view.ArgumentView.elements.Goals as goal

pub returns-in-Some-clause-slots : goal.returns-in-Some-clause-slots
returns-in-Some-clause-slots c =
    let s = c.args.self.now in
    let a = c.in-Some.argument.now in
    let found = c.in-Some.ensures.lookup in
    c.elements_of.ensures.slots
    ∙ sym (elements_there s c.args.index a (ap (λ zs. slice_get zs c.args.index) (sym c.arguments.ensures.all) ∙ slice_get_read c.arguments.result.now (length c.arguments.result.now) c.args.index a refl found.3.0 found.1))

pub returns-in-None-clause-slots : goal.returns-in-None-clause-slots
returns-in-None-clause-slots c =
    let s = c.args.self.now in
    c.no_elements.ensures.slots
    ∙ sym (no_elements s c.args.index (ap (λ zs. slice_get zs c.args.index) (sym c.arguments.ensures.all) ∙ slice_get_past c.arguments.result.now c.args.index c.in-None.ensures.lookup.3))
