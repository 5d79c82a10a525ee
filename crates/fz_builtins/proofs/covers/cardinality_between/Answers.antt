use Rattle.std.proofs.Common.{◌≡◌, IfOk, subst}
use Rattle.fz_globals.specs.of_meaning.Relations.{counts_lie}
use Rattle.fz_globals.specs.of_kernel.Views.{arguments_of, assigned}
use Rattle.fz_builtins.proofs.ElementReadings.{ints_are}
use Rattle.fz_builtins.proofs.covers.cardinality_between.Goals as goal

pub returns : goal.returns
returns c =
    let K = assigned c.args.view.now in
    let xs = arguments_of c.args.view.now in
    let least = ints_are c.elements.result K xs 2 c.elements.ensures.slots c.elements.ensures.under in
    let most = ints_are c.elements-2.result K xs 3 c.elements-2.ensures.slots c.elements-2.ensures.under in
    let x = ints_are c.elements-3.result K xs 0 c.elements-3.ensures.slots c.elements-3.ensures.under in
    let cover = ints_are c.elements-4.result K xs 1 c.elements-4.ensures.slots c.elements-4.ensures.under in
    subst (λ b. IfOk c.counts_lie.result (λ r. r ≡ b)) (λ i. counts_lie (x i) (cover i) (least i) (most i)) c.counts_lie.ensures.exact
