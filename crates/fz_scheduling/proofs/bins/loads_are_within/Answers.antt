use Rattle.std.proofs.Common.{ℤ, int_le, ◌∙◌, arith, rules}
use Rattle.fz_kernel.specs.of_meaning.Relations.{load_of}
use Rattle.fz_kernel.specs.Views.{ints}
use Rattle.fz_kernel.proofs.Between.{all_of}
use Rattle.fz_scheduling.specs.Places.{number_at}
use Rattle.fz_scheduling.proofs.Zipped.{next_number}
use Rattle.fz_scheduling.proofs.bins.loads_are_within.Goals as goal

pub returns : goal.returns
returns c =
    let bins = ints c.args.bins.now in
    let test = λ (v : ℤ). int_le (load_of bins (ints c.args.weights.now) v) c.args.capacity in
    record {
      exact = c.all_between.ensures.exact (λ k. test (number_at bins k)) (λ k b from below r. search rules)
          ∙ all_of bins (number_at bins) (next_number bins) test 0 _ (omega arith);
    }
