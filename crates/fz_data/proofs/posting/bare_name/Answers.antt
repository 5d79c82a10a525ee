use Rattle.std.proofs.Common.{refl, ◌≡◌, List, [], ◌∷◌, map, Option, None, ℕ, sym, ap, ◌∙◌, length, arith}
use Rattle.fz_tree.specs.Tree as tree
use Rattle.fz_tree.specs.declared.tree.Note.{Note}
use Rattle.fz_tree.specs.View.{bare_note, bare_arg, arg_list, bare_arg_layer, bare_basic_layer, bare_note_layer}
use Rattle.fz_tree.specs.declared.tree.NoteArg.TheFolds.{fold_out-Note}
use Rattle.fz_store.specs.of_meaning.Names.{only_name}
use Rattle.std.proofs.lemmas.Bool.{eqb-false}
use Rattle.std.proofs.lemmas.List.{length-map}
use Rattle.fz_data.proofs.posting.bare_name.Goals as goal

abbrev name_of : tree.Note → Option (List ℕ)
name_of n = only_name (tree.MoreArgs (tree.OneBasic (tree.Inner n)) tree.NoMoreArgs)

with_arguments : (x : List ℕ) (args : List tree.NoteArg) → (args ≡ [] → ⊥) → ◌≡◌ {A = Option (List ℕ)} None (name_of (tree.Called x (arg_list args)))
with_arguments x [] h = absurd (h refl)
with_arguments x (a ∷ args) h = refl

unfolds : (n : Note) → bare_note n
    ≡ tree.Called n.name.text.now (arg_list (map bare_arg n.args.items))
unfolds n = fold_out-Note tree.NoteArg tree.NoteBasic tree.Note bare_arg_layer bare_basic_layer bare_note_layer n

pub returns : goal.returns
returns c =
    with_arguments c.args.note.now.name.text.now (map bare_arg c.args.note.now.args.items) (λ none.
    eqb-false _ 0 (sym c.is_empty.ensures ∙ c.if-is_empty.false) (omega (arith, sym (length-map c.args.note.now.args.items bare_arg) ∙ ap length none, c.args.note.now.args.ok.0)))
    ∙ ap name_of (sym (unfolds c.args.note.now))
