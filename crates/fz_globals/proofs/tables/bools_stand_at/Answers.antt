use Rattle.std.proofs.Common.{◌≡◌, ◌+◌, ◌-◌, ◌≤◌, true, drop, get_or, length, refl, sym, ◌∙◌, arith, rules}
use Rattle.std.proofs.lemmas.List.{get_or-drop, length-drop}
use Rattle.fz_kernel.specs.Indices.{all_from}
use Rattle.fz_kernel.specs.of_meaning.Relations.{◌=ᴮ◌}
use Rattle.fz_kernel.specs.Views.{bools, slots_of}
use Rattle.fz_kernel.proofs.Between.{both_of, read_at}
use Rattle.fz_kernel.proofs.Read.{bools_counted}
use Rattle.fz_globals.proofs.Compared.{same_truths}
use Rattle.fz_globals.proofs.InTable.{same_front}
use Rattle.fz_globals.proofs.tables.bools_stand_at.Goals as goal

pub returns : goal.returns
returns c =
    let xs = bools c.args.elements.now in
    let ts = bools c.args.table.now in
    let s = c.args.start in
    let n = c.len.result in
    let counted : n ≡ length xs = bools_counted c.args.elements.now n c.len.ensures.counted in
    let width : length (slots_of c.args.elements.now) ≡ length xs = bools_counted c.args.elements.now (length (slots_of c.args.elements.now)) refl in
    let long : length (slots_of c.args.table.now) ≡ length ts = bools_counted c.args.table.now (length (slots_of c.args.table.now)) refl in
    let room : s + length (slots_of c.args.elements.now) ≤ length (slots_of c.args.table.now) = c.requires in
    let inside : length xs ≤ length (drop s ts) = omega (arith, length-drop s ts) in
    c.all_between.ensures.exact (λ k. get_or xs k true =ᴮ get_or ts (s + k) true) (λ k b from below r. search (rules, read_at, same_truths))
    ∙ (λ i. all_from (λ k. get_or xs k true =ᴮ sym (get_or-drop s ts k true) i) 0 (n - 0))
    ∙ both_of ◌=ᴮ◌ xs (drop s ts) true true n (omega arith) ∙ same_front ◌=ᴮ◌ xs (drop s ts) inside
