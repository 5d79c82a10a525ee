use Rattle.std.proofs.Common.{◌-◌, not, ap, ◌∙◌}
use Rattle.fz_kernel.proofs.Between.{none_passes}
use Rattle.fz_kernel.proofs.indices.any_between.Goals as goal

pub returns : goal.returns
returns g c = record {
  exact = λ test is.
      let s = c.args.start in
      ap not (c.all_between.ensures.exact (λ k. not (test k)) (λ k b from below r. r.2 ∙ ap not (is k r.0 from below r.1))) ∙ none_passes test s (c.args.end - s);
}
