use Rattle.std.proofs.Common.{ap, ◌∙◌}
use Rattle.std.specs.List.{list_all}
use Rattle.fz_kernel.specs.Arguments.{argument_is_given}
use Rattle.fz_kernel.proofs.Kept.{same_arguments}
use Rattle.fz_kernel.proofs.Standing.{own}
use Rattle.fz_kernel.proofs.view.ArgumentView.all_given.Goals as goal

pub returns : goal.returns
returns c =
    let s = c.args.self.now in
    record { exact = c.are_given.ensures ∙ ap (list_all (argument_is_given s.partial.now s.parts.arrays.now s.parts.store.now)) c.arguments.ensures.all ∙ same_arguments s.partial.now s.parts.variables.now s.parts.arrays.now s.parts.store.now (own s) }
