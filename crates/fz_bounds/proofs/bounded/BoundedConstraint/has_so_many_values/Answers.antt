use Rattle.std.proofs.Common.{length, pos}
use Rattle.fz_model.specs.Relations.{values_of}
use Rattle.fz_model.specs.of_builtins.of_kernel.Given.{int_at, ints_at}
use Rattle.fz_bounds.specs.Within.{given}
use Rattle.fz_bounds.proofs.bounded.BoundedConstraint.has_so_many_values.Goals as goal

pub returns : goal.returns
returns c = λ K f g.
    c.equal.ensures (int_at K (given c.args.self.now) 0) (pos (length (values_of (ints_at K (given c.args.self.now) 1)))) (c.number.ensures K f) (c.in_ok-number_of_values.ensures K g)
