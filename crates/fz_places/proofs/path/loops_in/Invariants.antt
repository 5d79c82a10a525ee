use Rattle.std.proofs.Common.{◌≡◌, ◌++◌, drop, map}
use Rattle.std.specs.List.{filter}
use Rattle.fz_places.specs.Paths.{is_own_loop}
use Rattle.fz_places.proofs.path.loops_in.Given as goal

abbrev pub invariant-loop-segment : goal.invariant-loop-segment
invariant-loop-segment l =
    map (λ s. s.what.now) (filter (is_own_loop l.first) l.segments)
    ≡ map (λ w. w.now) l.loops.items ++ map (λ s. s.what.now) (filter (is_own_loop l.first) (drop l.segment-index l.segments))
