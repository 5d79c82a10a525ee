-- A tree of bounds: the present ones, and the branches that are open (private functions only).
use Rattle.std.specs.Prelude.{ℕ, Bool, List, [], ◌∷◌, Option, Some, None, IsSomeAnd, IsTrue, ◌⊎◌}
use Rattle.fz_bounds.specs.Bounds.{IsInside, Ranges}
use Rattle.fz_bounds.specs.Ends.{put_in}
use Rattle.fz_bounds.specs.Opened.{forgotten}
use Rattle.fz_bounds.specs.declared.ends.KindEnds.{KindEnds}
use Rattle.fz_bounds.specs.of_model.Meaning.{Assignment, value_at, whole}
use Rattle.fz_search.specs.declared.tree.Branch.{Branch}
use Rattle.fz_search.specs.declared.tree.Branch.TheVariants.{Part, Subsets}
use Rattle.fz_search.specs.declared.tree.Step.{Step}
use Rattle.fz_search.specs.Found.{Asked, IsSought}
use Rattle.fz_search.specs.Subsets.{IsAmong}

-- the same bounds, but for a variable, which has those that it had, or none
abbrev pub undone : Ranges → ℕ → Option KindEnds → Ranges
undone B n None = forgotten B n
undone B n (Some e) = put_in B n e

-- the assignment lies inside the bounds, with this part of a variable's, or with one of these
-- subsets as its value
abbrev pub IsInBranch : Assignment → Ranges → ℕ → Branch → Type 0
IsInBranch A B n (Part e) = IsInside (put_in B n e) A
IsInBranch A B n (Subsets s) = IsInside B A × IsAmong s (value_at (whole A) n)

abbrev pub IsInOpen : Assignment → Ranges → ℕ → Option Branch → Type 0
IsInOpen A B n o = IsSomeAnd o (IsInBranch A B n)

-- the assignment lies inside an open branch of the steps to these bounds, the last of which is
-- first
abbrev pub IsLeft : Assignment → Ranges → List Step → Type 0
IsLeft A B [] = ⊥
IsLeft A B (s ∷ rest) = IsInOpen A (undone B s.variable s.was) s.variable s.branch
    ⊎ IsLeft A (undone B s.variable s.was) rest

-- the assignment lies inside the present bounds, where these aren't closed, or inside an open
-- branch
abbrev pub IsOpen : Assignment → Ranges → List Step → Option ℕ → Type 0
IsOpen A B steps None = IsInside B A ⊎ IsLeft A B steps
IsOpen A B steps (Some k) = IsLeft A B steps

-- where nothing was given up, each known-solution that is asked for is in the tree
abbrev pub Covers : Asked → Bool → Ranges → List Step → Option ℕ → Type 0
Covers q all B steps closed =
    IsTrue all → (A : Assignment) → IsSought q A → IsOpen A B steps closed
