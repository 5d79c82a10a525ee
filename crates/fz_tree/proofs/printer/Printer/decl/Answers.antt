use Rattle.std.proofs.Common.{◌++◌, fold, ap, ◌∙◌}
use Rattle.std.proofs.lemmas.Result.{on_ok_weaker}
use Rattle.fz_tree.specs.declared.token.Mark.TheVariants.{Semicolon, Colon}
use Rattle.fz_tree.specs.View.{bare_decl, bare_notes}
use Rattle.fz_tree.specs.Tokens.{mark, word, notes_toks, base_toks, var_toks, prefix_toks, value_toks}
use Rattle.fz_tree.specs.Printing.{page, with_token}
use Rattle.fz_tree.proofs.PrintSteps.{behind}
use Rattle.fz_tree.proofs.printer.Printer.decl.Goals as goal

pub returns : goal.returns
returns c =
    let d = bare_decl c.args.decl.now in
    let start = page c.args.self.now in
    let notes = c.in_ok-notes.ensures ∙ ap (λ ns. fold with_token (page c.text.new.self) (notes_toks (bare_notes ns))) c.deref.ensures.value in
    let to_var = behind start (page c.prefix.new.self) (page c.var.new.self) (prefix_toks d.length) (var_toks d.is_var) c.in_ok-prefix.ensures c.in_ok-var.ensures in
    let to_base = behind start (page c.var.new.self) (page c.base.new.self) (prefix_toks d.length ++ var_toks d.is_var) (base_toks d.base) to_var c.in_ok-base.ensures in
    let type = prefix_toks d.length ++ var_toks d.is_var ++ base_toks d.base in
    let to_colon = behind start (page c.base.new.self) (page c.mark.new.self) type (mark Colon) to_base c.in_ok-mark.ensures in
    let to_name = behind start (page c.mark.new.self) (page c.text.new.self) (type ++ mark Colon) (word d.name) to_colon c.in_ok-text.ensures.word in
    let named = type ++ mark Colon ++ word d.name in
    let to_notes = behind start (page c.text.new.self) (page c.notes.new.self) named (notes_toks d.notes) to_name notes in
    let to_value = behind start (page c.notes.new.self) (page c.value.new.self) (named ++ notes_toks d.notes) (value_toks d.value) to_notes c.in_ok-value.ensures in
    on_ok_weaker c.mark-2.result (behind start (page c.value.new.self) (page c.mark-2.new.self) (named ++ notes_toks d.notes ++ value_toks d.value) (mark Semicolon) to_value) c.mark-2.ensures
