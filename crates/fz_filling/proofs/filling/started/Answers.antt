use Rattle.std.proofs.Common.{◌≡◌, IfSome, IsSomeAnd, subst, sym, arith}
use Rattle.fz_stream.specs.of_syntax.View.{bare_items}
use Rattle.fz_filling.specs.BlockFaults.{AllFit, block_fault, items_fault}
use Rattle.fz_filling.specs.Judged.{TellsFault}
use Rattle.fz_filling.proofs.Refusing.{kind_tells, moved_tells, told_within}
use Rattle.fz_filling.proofs.Starting.{items_fit}
use Rattle.fz_filling.proofs.filling.started.Goals as goal

pub returns-in-Ok-clause-fits : goal.returns-in-Ok-clause-fits
returns-in-Ok-clause-fits c = subst (λ xs. AllFit c.args.model.now (bare_items xs)) c.deref.ensures.value (items_fit c.args.model.now c.deref.result.now c.in-Ok.ensures.clean)

pub returns-in-Err-clause-refused : goal.returns-in-Err-clause-refused
returns-in-Err-clause-refused c places ends =
    let m = c.args.model.now in
    let b = c.args.block.now in
    let told = subst (λ xs. TellsFault c.in-Err.error (items_fault m xs)) c.deref.ensures.value c.in-Err.ensures.told in
    let is = c.moved_error.ensures.moved (told_within m b.text.now b.items.items _ c.in-Err.error (omega (arith, ends)) places told) in
    subst (λ e. TellsFault e (block_fault m b)) (sym is) (moved_tells m b c.in-Err.error told)

pub returns-in-Err-clause-only : goal.returns-in-Err-clause-only
returns-in-Err-clause-only c =
    let m = c.args.model.now in
    let b = c.args.block.now in
    let told = subst (λ xs. TellsFault c.in-Err.error (items_fault m xs)) c.deref.ensures.value c.in-Err.ensures.told in
    subst (λ k. IfSome k (λ j. IsSomeAnd (block_fault m b) (λ x. x.kind ≡ j))) (sym c.moved_error.ensures.kind) (kind_tells m b c.in-Err.error told)
