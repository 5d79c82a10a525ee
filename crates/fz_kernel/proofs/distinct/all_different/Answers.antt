use Rattle.std.proofs.Common.{◌∙◌, sym}
use Rattle.fz_kernel.proofs.Different.{all_different-permutation}
use Rattle.fz_kernel.proofs.distinct.all_different.Goals as goal

pub returns : goal.returns
returns c = record {
  exact = c.neighbours_differ.ensures ∙ sym (all_different-permutation c.args.numbers.now c.sort_unstable.new.self c.sort_unstable.ensures.permutation);
}
