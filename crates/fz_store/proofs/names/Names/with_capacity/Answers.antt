use Rattle.std.specs.List.{IsDistinct}
use Rattle.fz_store.proofs.Noted.{none_numbered}
use Rattle.fz_store.proofs.names.Names.with_capacity.Goals as goal

pub invariant_of-result : goal.invariant_of-result
unfolding IsDistinct
invariant_of-result c =
    let none = c.in_ok-with_capacity.ensures.items in
    (rw none tt, rw none tt, none_numbered _ _ c.in_ok-with_places.field-0 c.args.count none c.with_hasher.ensures.empty c.in_ok-with_places.ensures)
