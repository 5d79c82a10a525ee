use Rattle.std.proofs.Common.{IfSome, sym, subst, ◌∙◌}
use Rattle.fz_filling.specs.Working.{HasRoom}
use Rattle.fz_filling.proofs.Starting.{cleared_is_nothing}
use Rattle.fz_filling.proofs.start.nothing_proposed.Goals as goal

pub returns-in-Some : goal.returns-in-Some
returns-in-Some c =
    let room = subst (λ o. IfSome o (λ s. HasRoom c.args.model.now s.value)) c.in-Some.is c.requires.room in
    record { empty = c.clear.ensures.cleared ∙ cleared_is_nothing c.args.model.now c.deref_mut.result.now (subst (HasRoom c.args.model.now) (sym c.deref_mut.ensures.value) room) }
