-- What extends a solution block of a model, and when assignments solve blocks in turn (MiniZinc
-- Handbook, FlatZinc, "Output" and "solve items"; this project's profile).
use Rattle.std.specs.Prelude.{◌≡◌, List, map, Option, Some, None, IsSomeAnd, ℤ, [], ◌∷◌, ⊤, ◌<ℤ◌}
use Rattle.std.specs.List.{AllByRecursion}
use Rattle.fz_stream.specs.Parts.{SolutionBlock}
use Rattle.fz_stream.specs.of_syntax.Tree.{PrintedValue, OneValue, ArrayOf}
use Rattle.fz_index.specs.of_model.Located.{LocatedTree}
use Rattle.fz_index.specs.of_model.Names.{literal_value, model_of}
use Rattle.fz_index.specs.of_model.Meaning.{Place, Scalar, Array, Model, Partial, Assignment, value, values, whole, find_name, Aim, Satisfy, Minimize, Maximize, objective, IsSolution}

-- what a name stands for, a scalar or an array, has the printed value: for an array, element by
-- element
abbrev pub HasPrinted : Partial → Place → PrintedValue → Type 0
HasPrinted K (Scalar k t) (OneValue l) = value K t ≡ Some (literal_value l)
HasPrinted K (Array x k ts) (ArrayOf is ls) = values K ts ≡ Some (map literal_value ls)
HasPrinted K _ _ = ⊥

-- each printed name is declared, and its value is the printed one
abbrev pub Extends : Model → Assignment → SolutionBlock → Type 0
Extends m A block = AllByRecursion
    (λ i. IsSomeAnd (find_name m i.name) (λ p. HasPrinted (whole A) p i.value)) block.items

-- the objective is strictly better than the one before: less where it is minimized, greater where
-- it is maximized
abbrev pub IsBetter : Aim → Option ℤ → Option ℤ → Type 0
IsBetter Satisfy before now = ⊤
IsBetter (Minimize t) before now = IsSomeAnd before (λ b. IsSomeAnd now (λ n. n <ℤ b))
IsBetter (Maximize t) before now = IsSomeAnd before (λ b. IsSomeAnd now (λ n. b <ℤ n))

-- an assignment improves on that of the block before; that of the first block always improves
abbrev pub Improves : Model → Option Assignment → Assignment → Type 0
Improves m None now = ⊤
Improves m (Some before) now = IsBetter m.aim (objective m (whole before)) (objective m (whole now))

-- one assignment for each block, in order: it extends its block, is a solution, and improves on the
-- assignment of the block before
abbrev pub SolveInTurn : Model → Option Assignment → List SolutionBlock → List Assignment → Type 0
SolveInTurn m before [] [] = ⊤
SolveInTurn m before (b ∷ bs) (A ∷ as') =
    Extends m A b × IsSolution m A × Improves m before A × SolveInTurn m (Some A) bs as'
SolveInTurn m before _ _ = ⊥

-- there are such assignments for these blocks of a tree's model
abbrev pub HaveSolutions : LocatedTree → List SolutionBlock → Type 0
HaveSolutions t blocks = (as' : List Assignment) × SolveInTurn (model_of t) None blocks as'
