-- The plain annotation of one that was read or made.
use Rattle.std.proofs.Common.{◌≡◌, true, cond, [], ◌∷◌, ◌++◌, map, codes, sym, ap, ◌∙◌}
use Rattle.std.specs.Global.{Vec}
use Rattle.std.proofs.lemmas.List.{map-append}
use Rattle.fz_filling.specs.of_syntax.Tree as tree
use Rattle.fz_filling.specs.of_syntax.declared.Decl as the_decl
use Rattle.fz_filling.specs.of_syntax.declared.Note.{Note}
use Rattle.fz_filling.specs.of_syntax.declared.NoteArg.TheFolds.{fold_out-Note}
use Rattle.fz_filling.specs.of_syntax.View.{bare_note, bare_notes, bare_base, bare_arg, arg_list, bare_arg_layer, bare_basic_layer, bare_note_layer}
use Rattle.fz_search.specs.of_model.View.{located_decl, located_name, located_value}
use Rattle.fz_check.specs.Outputs.{output_var, is_unprinted, printed_decl}

pub unfolds : (n : Note) → bare_note n
    ≡ tree.Called n.name.text.now (arg_list (map bare_arg n.args.items))
unfolds n = fold_out-Note tree.NoteArg tree.NoteBasic tree.Note bare_arg_layer bare_basic_layer bare_note_layer n

-- the declaration with one more annotation, which is output_var
pub noted : (d : the_decl.Decl) (notes : Vec Note) (n : Note)
    → notes.items ≡ d.notes.items ++ n ∷ [] → n.name.text.now ≡ codes "output_var"
    → n.args.items ≡ []
    → is_unprinted (located_decl d) ≡ true
    → located_decl (record { is_var = d.is_var; length = d.length; base = d.base; name = d.name; notes = notes; value = d.value }) ≡ printed_decl (located_decl d)
noted d notes n longer name none lacks =
    let is : bare_note n ≡ output_var = unfolds n ∙ (λ i. tree.Called (name i) (arg_list (map bare_arg (none i)))) in
    let before = bare_notes d.notes.items in
    let all : bare_notes notes.items ≡ cond (is_unprinted (located_decl d)) (before ++ output_var ∷ []) before =
    ap bare_notes longer ∙ map-append bare_note d.notes.items (n ∷ []) ∙ ap (λ m. before ++ m ∷ []) is ∙ ap (λ b. cond b (before ++ output_var ∷ []) before) (sym lacks) in
    λ i. record { is_var = d.is_var; array_length = d.length; base = bare_base d.base; name = located_name d.name; notes = all i; value = located_value d.value }
