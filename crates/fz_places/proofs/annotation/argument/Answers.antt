use Rattle.std.proofs.Common.{◌≡◌, ◌≤◌, ℕ, refl, ap, sym, ◌∙◌, arith, List, [], ◌∷◌, map, length, Option, None, subst}
use Rattle.fz_tree.specs.Tree as tree
use Rattle.fz_tree.specs.declared.tree.Note.{Note}
use Rattle.fz_tree.specs.declared.tree.NoteArg.{NoteArg}
use Rattle.fz_tree.specs.declared.tree.NoteArg.TheFolds.{fold_out-Note}
use Rattle.fz_tree.specs.View.{arg_list, bare_arg, bare_arg_layer, bare_basic_layer, bare_note, bare_note_layer}
use Rattle.fz_places.specs.Annotations.{argument_of}
use Rattle.fz_places.proofs.annotation.argument.Goals as goal

not_one : (name x : List ℕ) (args : List NoteArg) → 2 ≤ length args
    → ◌≡◌ {A = Option tree.NoteArg} None (argument_of name (tree.Called x (arg_list (map bare_arg args))))
not_one name x [] h = absurd (omega (arith, h))
not_one name x (a ∷ []) h = absurd (omega (arith, h))
not_one name x (a ∷ b ∷ args) h = refl

unfolds : (n : Note) → bare_note n
    ≡ tree.Called n.name.text.now (arg_list (map bare_arg n.args.items))
unfolds n = fold_out-Note tree.NoteArg tree.NoteBasic tree.Note bare_arg_layer bare_basic_layer bare_note_layer n

pub returns-in-len2-up : goal.returns-in-len2-up
returns-in-len2-up c =
    not_one c.args.name.now _ c.args.note.now.args.items (subst (λ xs. 2 ≤ length xs) c.as_slice.ensures.value c.in-len2-up.len_at_least)
    ∙ ap (argument_of c.args.name.now) (sym (unfolds c.args.note.now))
