-- The tree that asks for every scalar variable to be printed (MiniZinc Handbook, FlatZinc,
-- "Annotations": a solver prints the variables that have the annotation output_var).
use Rattle.std.specs.Prelude.{[], ◌∷◌, ◌++◌, map, Bool, false, not, ◌&&◌, cond, bytes_eq, codes}
use Rattle.std.specs.List.{list_any}
use Rattle.fz_filling.specs.of_syntax.Tree as tree
use Rattle.fz_filling.specs.of_syntax.Tree.Note.{Called}
use Rattle.fz_filling.specs.of_syntax.Tree.NoteArgs.{NoMoreArgs}
use Rattle.fz_search.specs.of_model.Located.{Decl, LocatedTree}
use Rattle.fz_search.specs.of_model.Names.{is_scalar_variable}

abbrev pub output_var : tree.Note
output_var = Called (codes "output_var") NoMoreArgs

abbrev pub is_output_var : tree.Note → Bool
is_output_var (Called name NoMoreArgs) = bytes_eq name (codes "output_var")
is_output_var _ = false

-- a scalar variable without the annotation
abbrev pub is_unprinted : Decl → Bool
is_unprinted d = is_scalar_variable d && not (list_any is_output_var d.notes)

-- the declaration, with the annotation added after the others where it is missing
abbrev pub printed_decl : Decl → Decl
printed_decl d = record {
  is_var = d.is_var;
  array_length = d.array_length;
  base = d.base;
  name = d.name;
  notes = cond (is_unprinted d) (d.notes ++ output_var ∷ []) d.notes;
  value = d.value;
}

-- the tree in which each scalar variable has the annotation
abbrev pub with_all_printed : LocatedTree → LocatedTree
with_all_printed t = record {
  predicates = t.predicates;
  decls = map printed_decl t.decls;
  constraints = t.constraints;
  solve = t.solve;
}
