use Rattle.std.proofs.Common.{◌≡◌, ℤ, false, int_le, length, pos, subst, ap, rules}
use Rattle.fz_model.specs.Relations.{lies_between}
use Rattle.fz_model.specs.of_builtins.of_kernel.Given.{ints_at}
use Rattle.fz_bounds.specs.Decided.{LiesIn}
use Rattle.fz_bounds.specs.Within.{given}
use Rattle.fz_bounds.proofs.Failed.{never_so}
use Rattle.fz_bounds.proofs.Lists.{numbers_counted}
use Rattle.fz_bounds.proofs.bounded.BoundedConstraint.names_none.Goals as goal

pub returns : goal.returns
returns c = λ never K f g n at.
    let xs = given c.args.self.now in
    let last = pos (length (ints_at K xs c.args.other)) in
    let lies = c.successor-named.ensures K f g n at in
    let counted = numbers_counted K xs c.args.other c.count.result c.count.ensures in
    let end : LiesIn c.size-last.result last = subst (λ k. LiesIn c.size-last.result (pos k)) counted c.size-last.ensures in
    never_so c.and.result (lies_between (pos 1) last n) (search rules)
    (c.and.ensures (int_le (pos 1) n) (int_le n last) (c.at_most.ensures (pos 1) n c.of.ensures lies) (c.at_most-2.ensures n last lies end))
