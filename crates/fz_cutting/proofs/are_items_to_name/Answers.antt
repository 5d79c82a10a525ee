use Rattle.std.proofs.Common.{◌≡◌, ◌∷◌, ◌++◌, [], ◌∙◌, ap, sym, false, true}
use Rattle.std.proofs.lemmas.List.{map-append, nil_from_length}
use Rattle.fz_syntax.specs.View.{bare_items, bare_printed}
use Rattle.fz_cutting.specs.Short.{are_declared}
use Rattle.fz_cutting.proofs.Decided.{no_name, of_name, to_name}
use Rattle.fz_cutting.proofs.are_items_to_name.Goals as goal
use Rattle.fz_cutting.proofs.are_items_to_name.Goals.{then-are_declared, else-are_declared}

pub returns-in-Some-split_last : goal.returns-in-Some-split_last
returns-in-Some-split_last c =
    let m = c.args.model.now in
    let items = bare_items c.in-Some.items.items in
    let is = rw c.in-Some.is at c.in_ok-items.ensures in
    let others = bare_items c.in-Some-split_last.others.now in
    let last = bare_printed c.in-Some-split_last.last.now in
    let split : items ≡ others ++ last ∷ [] =
    ap bare_items (sym c.deref.ensures.value ∙ c.in-Some-split_last.ensures.cases.0)
    ∙ map-append bare_printed c.in-Some-split_last.others.now (c.in-Some-split_last.last.now ∷ []) in
    elim c.if-are_declared.branch [
      | then-are_declared w ↦ (
        (λ t. to_name c.args.limits m c.args.text.now items is others last split (sym c.are_declared.ensures ∙ w.if-are_declared.true) (w.is_half.ensures.0 (sym w.result-is ∙ t))),
        (λ a. w.result-is ∙ w.is_half.ensures.1 (of_name c.args.limits m c.args.text.now items is others last split a).1),
      )
      | else-are_declared w ↦ (
        (λ t. absurd (let no : false ≡ true = sym w.if-are_declared.false ∙ sym w.result-is ∙ t in cc)),
        (λ a. absurd (let no : false ≡ true = sym w.if-are_declared.false ∙ c.are_declared.ensures ∙ (of_name c.args.limits m c.args.text.now items is others last split a).0 in cc)),
      )
    ]

pub returns : goal.returns
returns c =
    let m = c.args.model.now in
    let items = bare_items c.in-Some.items.items in
    let is = rw c.in-Some.is at c.in_ok-items.ensures in
    let none = ap bare_items (sym c.deref.ensures.value ∙ nil_from_length _ c.in-None.ensures.cases) in (
      (λ t. absurd (let no : false ≡ true = t in cc)),
      (λ a. absurd (no_name c.args.limits m c.args.text.now items is none a)),
    )
