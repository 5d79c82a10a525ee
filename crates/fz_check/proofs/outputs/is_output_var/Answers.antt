use Rattle.std.proofs.Common.{◌≡◌, ℕ, true, List, [], ◌∷◌, map, length, ◌==◌, bytes_eq, codes, sym, ap, ◌∙◌, arith}
use Rattle.std.specs.Vec.{vec_len}
use Rattle.std.proofs.lemmas.List.{length-map}
use Rattle.fz_filling.specs.of_syntax.Tree as tree
use Rattle.std.proofs.Math.Dec.{eqb-suc-zero}
use Rattle.fz_filling.specs.of_syntax.View.{bare_arg, arg_list}
use Rattle.fz_check.specs.Outputs.{is_output_var}
use Rattle.fz_check.proofs.Notes.{unfolds}
use Rattle.fz_check.proofs.outputs.is_output_var.Goals as goal

alone : (name : List ℕ) (args : List tree.NoteArg) → true ≡ bytes_eq name (codes "output_var")
    → (length args == 0) ≡ is_output_var (tree.Called name (arg_list args))
alone name [] named = named
alone name (a ∷ args) named = eqb-suc-zero (length args)

pub returns-then-eq : goal.returns-then-eq
returns-then-eq c =
    let note = c.args.note.now in
    let count : vec_len note.args ≡ length (map bare_arg note.args.items) = omega (arith, length-map note.args.items bare_arg, note.args.ok.0) in
    c.is_empty.ensures ∙ ap (λ n. n == 0) count ∙ alone note.name.text.now (map bare_arg note.args.items) (sym c.if-eq.true ∙ c.eq.ensures) ∙ ap is_output_var (sym (unfolds note))
