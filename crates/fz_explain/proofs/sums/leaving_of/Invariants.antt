use Rattle.std.proofs.Common.{◌≡◌, drop}
use Rattle.fz_filling.specs.of_model.Parts.{constraint_view}
use Rattle.fz_explain.specs.Leaving.{leaving_of}
use Rattle.fz_explain.proofs.sums.leaving_of.Given as goal

abbrev pub invariant-loop-number : goal.invariant-loop-number
invariant-loop-number l = leaving_of l.filling (constraint_view l.parts).arguments l.numbers ≡ leaving_of l.filling (constraint_view l.parts).arguments (drop l.number-index l.numbers)
