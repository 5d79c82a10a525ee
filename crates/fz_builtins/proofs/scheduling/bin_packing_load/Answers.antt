use Rattle.std.proofs.Common.{rules, ◌≡◌, FitsSigned, w64, ℤ, pos, ◌+ℤ◌, ◌-ℤ◌, Bool, ◌&&◌, List, length, ◌∙◌}
use Rattle.std.proofs.lemmas.Int.{to_z-of_z}
use Rattle.std.specs.List.{list_all}
use Rattle.fz_globals.specs.of_meaning.Relations.{lies_between, loads_are}
use Rattle.fz_globals.specs.of_kernel.Views.{arguments_of, assigned, ints}
use Rattle.fz_builtins.proofs.ElementReadings.{ints_are}
use Rattle.fz_builtins.proofs.scheduling.bin_packing_load.Goals as goal

abbrev packed : ℤ → List ℤ → List ℤ → List ℤ → Bool
packed o bins weights loads = list_all (lies_between o ((o +ℤ pos (length loads)) -ℤ pos 1)) bins && loads_are o bins weights loads

pub returns : goal.returns
returns c =
    let K = assigned c.args.view.now in
    let xs = arguments_of c.args.view.now in
    let loads = ints_are c.elements.result K xs 0 c.elements.ensures.slots c.elements.ensures.under in
    let bins = ints_are c.elements-2.result K xs 1 c.elements-2.ensures.slots c.elements-2.ensures.under in
    let weights = ints_are c.elements-3.result K xs 2 c.elements-3.ensures.slots c.elements-3.ensures.under in
    let fits : FitsSigned w64 c.int.result = search rules in
    let is : c.loads_are_given.result ≡ packed c.int.result (ints c.elements-2.result) (ints c.elements-3.result) (ints c.elements.result) = simp to_z-of_z at c.loads_are_given.ensures.exact in
    is ∙ (λ i. packed (c.int.ensures.read i) (bins i) (weights i) (loads i))
