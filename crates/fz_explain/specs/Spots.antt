-- The byte range of a point's name: of a constraint's predicate, or of a declared name (this
-- project's profile).
use Rattle.std.specs.Prelude.{ℕ, ◌-◌, List, Option, map, option_map, slice_get}
use Rattle.fz_filling.specs.of_syntax.Span.{Span}
use Rattle.fz_filling.specs.of_syntax.declared.Ast.{Ast}
use Rattle.fz_filling.specs.of_syntax.declared.Constraint.{Constraint}
use Rattle.fz_tree.specs.Tree.{Note}
use Rattle.fz_tree.specs.View.{bare_notes}
use Rattle.fz_filling.specs.of_model.Located.{Decl}
use Rattle.fz_filling.specs.of_model.Names.{declaration}
use Rattle.fz_filling.specs.of_model.View.{located_decl}
use Rattle.fz_filling.specs.of_model.declared.Point.{Point}
use Rattle.fz_filling.specs.of_model.declared.Point.TheVariants as points

abbrev pub declared : Ast → List ℕ → Option Decl
declared a x = declaration (map located_decl a.decls.items) x

abbrev pub posted : Ast → ℕ → Option Constraint
posted a k = slice_get a.constraints.items (k - 1)

abbrev pub point_place : Ast → Point → Option Span
point_place a (points.Domain x) = option_map (λ d. d.name.span) (declared a x.now)
point_place a (points.Definition x) = option_map (λ d. d.name.span) (declared a x.now)
point_place a (points.Constraint k x) = option_map (λ c. c.name.span) (posted a k)

-- its annotations
abbrev pub point_notes : Ast → Point → Option (List Note)
point_notes a (points.Domain x) = option_map (λ d. d.notes) (declared a x.now)
point_notes a (points.Definition x) = option_map (λ d. d.notes) (declared a x.now)
point_notes a (points.Constraint k x) = option_map (λ c. bare_notes c.notes.items) (posted a k)
