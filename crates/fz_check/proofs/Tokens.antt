-- The tokens of a tree that asks for every scalar variable: those of the tree, and those of the
-- annotation.
use Rattle.std.proofs.Common.{List, [], ◌∷◌, ◌++◌, map, cond, true, false, flat_map, codes, rules}
use Rattle.std.specs.List.{AllByRecursion}
use Rattle.fz_filling.specs.of_syntax.Token.{TokenValue, Word, Marked, IsTokenText}
use Rattle.fz_filling.specs.of_syntax.Lexing.{IsTokenWithinLimit}
use Rattle.fz_filling.specs.of_syntax.Mark.TheVariants.{Colon, ColonColon, Semicolon}
use Rattle.fz_filling.specs.of_syntax.Print.{CanBeWritten}
use Rattle.fz_filling.specs.of_syntax.Tree as tree
use Rattle.fz_filling.specs.of_syntax.Tokens.{decl_toks, predicate_toks, constraint_toks, solve_toks, notes_toks, note_toks, value_toks, prefix_toks, toks, var_toks, base_toks, word, mark}
use Rattle.fz_search.specs.of_model.Located.{Decl, LocatedTree, bare_decl, bare_constraint, bare_of}
use Rattle.fz_search.proofs.of_model.Lists.{all_append}
use Rattle.fz_check.specs.Outputs.{output_var, is_unprinted, printed_decl, with_all_printed}

pub record Both {X : Type 0} (P : X → Type 0) (xs ys : List X) : Type 0 where
  pub left : AllByRecursion P xs
  pub right : AllByRecursion P ys

split : {X : Type 0} (P : X → Type 0) (xs ys : List X) → AllByRecursion P (xs ++ ys) → Both P xs ys
split P [] ys h = record { left = tt; right = h }
split P (x ∷ xs) ys h = let rest = split P xs ys h.1 in record { left = (h.0, rest.left); right = rest.right }

-- what comes after it is replaced
behind : {X : Type 0} (P : X → Type 0) (xs ys zs : List X)
    → (AllByRecursion P ys → AllByRecursion P zs) → AllByRecursion P (xs ++ ys)
    → AllByRecursion P (xs ++ zs)
behind P [] ys zs turn h = turn h
behind P (x ∷ xs) ys zs turn h = (h.0, behind P xs ys zs turn h.1)

in_front : {X : Type 0} (P : X → Type 0) (xs ys zs : List X)
    → (AllByRecursion P xs → AllByRecursion P ys) → AllByRecursion P (xs ++ zs)
    → AllByRecursion P (ys ++ zs)
in_front P xs ys zs turn h = let parts = split P xs zs h in all_append P ys zs (turn parts.left) parts.right

-- a property that the annotation's two tokens have
module _ (P : TokenValue → Type 0) (colons : P (Marked ColonColon)) (named : P (Word (codes "output_var"))) where
  notes_kept : (notes : List tree.Note) → AllByRecursion P (notes_toks notes)
      → AllByRecursion P (notes_toks (notes ++ output_var ∷ []))
  notes_kept [] h = (colons, (named, tt))
  notes_kept (n ∷ notes) h =
      let parts = split P (Marked ColonColon ∷ note_toks n) (notes_toks notes) h in
      all_append P (Marked ColonColon ∷ note_toks n) (notes_toks (notes ++ output_var ∷ [])) parts.left (notes_kept notes parts.right)

  noted_kept : (d : Decl) → AllByRecursion P (notes_toks d.notes)
      → AllByRecursion P (notes_toks (printed_decl d).notes)
  noted_kept d h = elim (is_unprinted d) as (λ b. AllByRecursion P (notes_toks (cond b (d.notes ++ output_var ∷ []) d.notes))) [
    | true ↦ notes_kept d.notes h
    | false ↦ h
  ]

  decl_kept : (d : Decl) → AllByRecursion P (decl_toks (bare_decl d))
      → AllByRecursion P (decl_toks (bare_decl (printed_decl d)))
  decl_kept d =
      let front = prefix_toks d.array_length ++ var_toks d.is_var ++ base_toks d.base ++ mark Colon ++ word d.name.text in
      in_front P _ _ (mark Semicolon)
      (in_front P _ _ (value_toks (bare_decl d).value) (behind P front (notes_toks d.notes) (notes_toks (printed_decl d).notes) (noted_kept d)))

  decls_kept : (ds : List Decl) → AllByRecursion P (flat_map decl_toks (map bare_decl ds))
      → AllByRecursion P (flat_map decl_toks (map bare_decl (map printed_decl ds)))
  decls_kept [] h = tt
  decls_kept (d ∷ ds) h =
      let parts = split P (decl_toks (bare_decl d)) (flat_map decl_toks (map bare_decl ds)) h in
      all_append P (decl_toks (bare_decl (printed_decl d))) (flat_map decl_toks (map bare_decl (map printed_decl ds))) (decl_kept d parts.left) (decls_kept ds parts.right)

  tree_kept : (t : LocatedTree) → AllByRecursion P (toks (bare_of t))
      → AllByRecursion P (toks (bare_of (with_all_printed t)))
  tree_kept t =
      let decls = flat_map decl_toks (map bare_decl t.decls) in
      let with_notes = flat_map decl_toks (map bare_decl (map printed_decl t.decls)) in
      in_front P _ _ (solve_toks (bare_of t).solve)
      (in_front P _ _ (flat_map constraint_toks (map bare_constraint t.constraints)) (behind P (flat_map predicate_toks t.predicates) decls with_notes (decls_kept t.decls)))

pub can_be_written : (t : LocatedTree) → CanBeWritten (bare_of t)
    → CanBeWritten (bare_of (with_all_printed t))
can_be_written t h = record {
  texts = tree_kept IsTokenText tt (search rules) t h.texts;
  numbers = tree_kept IsTokenWithinLimit tt tt t h.numbers;
}
