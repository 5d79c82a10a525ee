use Rattle.std.proofs.Common.{◌≡◌, pos, option_map, sym, ◌∙◌}
use Rattle.std.proofs.lemmas.Int.{to_z-of_z}
use Rattle.fz_kernel.specs.of_meaning.Relations.{index_from}
use Rattle.fz_globals.specs.Keys.{comes_before}
use Rattle.fz_globals.proofs.FirstPlaces.{precedes_is}
use Rattle.fz_globals.proofs.precedence.comes_first.Goals as goal

pub returns : goal.returns
returns c =
    λ xs keys.
    let s = c.args.first in
    let t = c.args.second in
    let first : option_map pos c.first_place.result ≡ index_from (pos 0) xs s = simp (to_z-of_z, c.ranges.first) at (c.first_place.ensures xs keys) in
    let second : option_map pos c.first_place-2.result ≡ index_from (pos 0) xs t = simp (to_z-of_z, c.ranges.second) at (c.first_place-2.ensures xs keys) in
    c.comes_before.ensures ∙ (λ k. comes_before (first k) (second k)) ∙ sym (precedes_is (pos 0) s t xs)
