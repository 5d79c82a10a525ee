use Rattle.std.proofs.Common.{◌≡◌, ℤ, Option, IfOk, subst}
use Rattle.fz_globals.specs.of_meaning.Relations.{◌=ℤ◌, is_weight_of}
use Rattle.fz_globals.specs.of_kernel.Views.{arguments_of, assigned, ints}
use Rattle.fz_builtins.specs.Said.{is_result}
use Rattle.fz_builtins.proofs.ElementReadings.{ints_are}
use Rattle.fz_builtins.proofs.RowTests.{ok_index_is}
use Rattle.fz_builtins.proofs.scheduling.set_weights.Goals as goal

pub returns : goal.returns
returns c =
    let K = assigned c.args.view.now in
    let xs = arguments_of c.args.view.now in
    let things = ints_are c.elements.result K xs 0 c.elements.ensures.slots c.elements.ensures.under in
    let weights = ints_are c.elements-2.result K xs 1 c.elements-2.ensures.slots c.elements-2.ensures.under in
    subst (λ (test : ℤ → _). IfOk c.weight_of.result (λ (o : Option ℤ). (n : ℤ) → test n ≡ is_result ◌=ℤ◌ o n))
    (λ i. is_weight_of (things i) (weights i) (c.set.ensures.read i))
    (ok_index_is (is_weight_of (ints c.elements.result) (ints c.elements-2.result) c.set.result.now) c.weight_of.result c.weight_of.ensures.exact c.weight_of.ensures.none)
