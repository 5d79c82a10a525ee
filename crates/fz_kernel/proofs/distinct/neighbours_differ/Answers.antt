use Rattle.std.proofs.Common.{◌-◌, pos, not, get_or, refl, ◌∙◌, rules}
use Rattle.fz_store.specs.of_meaning.Relations.{◌=ℤ◌}
use Rattle.fz_kernel.proofs.Between.{neighbours_of}
use Rattle.fz_kernel.proofs.Different.{neighbours_are}
use Rattle.fz_kernel.proofs.distinct.neighbours_differ.Goals as goal

pub returns : goal.returns
returns c =
    let xs = c.args.sorted.now in
    c.all_between.ensures.exact (λ k. not (get_or xs (k - 1) (pos 0) =ℤ get_or xs k (pos 0))) (λ k b from below r. search rules)
    ∙ neighbours_of xs (pos 0) (λ x y. not (x =ℤ y)) _ refl ∙ neighbours_are xs c.requires
