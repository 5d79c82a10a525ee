-- Which points of the declarations are not the domains of variables (`Overview`).
use Rattle.std.specs.Prelude.{◌≡◌, ℕ, suc, Bool, true, cond, List, [], ◌∷◌, flat_map, slice_get}
use Rattle.std.specs.Option.{option_map_or}
use Rattle.fz_builtins.specs.of_meaning.Meaning.{Model, Partial, Point, declared_points, numbered}
use Rattle.fz_model.specs.declared.overview.Overview.{Overview}
use Rattle.fz_model.specs.Holding.{point_holds}
use Rattle.fz_model.specs.Whole.{is_domain}

-- the numbers of the points that are not the domain of a variable, where the first point has this
-- number
abbrev pub others_from : ℕ → List Point → List ℕ
others_from k [] = []
others_from k (p ∷ ps) = cond (is_domain p) (others_from (suc k) ps) (k ∷ others_from (suc k) ps)

-- it has each point of the declarations but the domains of variables
abbrev pub IsOverview : Model → Overview → Type 0
IsOverview m o = o.others.items ≡ others_from 0 (flat_map declared_points (numbered m))

-- whether the point of a number holds, from 0, if there is one (private functions only)
abbrev pub holds_at : Partial → List Point → ℕ → Bool
holds_at K ps n = option_map_or (point_holds K) (slice_get ps n) true
