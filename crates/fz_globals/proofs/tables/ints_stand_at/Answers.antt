use Rattle.std.proofs.Common.{◌≡◌, ◌+◌, ◌-◌, ◌≤◌, pos, drop, get_or, length, refl, sym, ◌∙◌, arith, rules}
use Rattle.std.proofs.lemmas.List.{get_or-drop, length-drop}
use Rattle.fz_kernel.specs.Indices.{all_from}
use Rattle.fz_kernel.specs.of_meaning.Relations.{◌=ℤ◌}
use Rattle.fz_kernel.specs.Views.{ints, slots_of}
use Rattle.fz_kernel.proofs.Between.{both_of, read_at}
use Rattle.fz_kernel.proofs.Read.{ints_counted}
use Rattle.fz_globals.proofs.InTable.{same_front}
use Rattle.fz_globals.proofs.tables.ints_stand_at.Goals as goal

pub returns : goal.returns
returns c =
    let xs = ints c.args.elements.now in
    let ts = ints c.args.table.now in
    let s = c.args.start in
    let n = c.len.result in
    let counted : n ≡ length xs = ints_counted c.args.elements.now n c.len.ensures.counted in
    let width : length (slots_of c.args.elements.now) ≡ length xs = ints_counted c.args.elements.now (length (slots_of c.args.elements.now)) refl in
    let long : length (slots_of c.args.table.now) ≡ length ts = ints_counted c.args.table.now (length (slots_of c.args.table.now)) refl in
    let room : s + length (slots_of c.args.elements.now) ≤ length (slots_of c.args.table.now) = c.requires in
    let inside : length xs ≤ length (drop s ts) = omega (arith, length-drop s ts) in
    c.all_between.ensures.exact (λ k. get_or xs k (pos 0) =ℤ get_or ts (s + k) (pos 0)) (λ k b from below r. search (rules, read_at))
    ∙ (λ i. all_from (λ k. get_or xs k (pos 0) =ℤ sym (get_or-drop s ts k (pos 0)) i) 0 (n - 0))
    ∙ both_of ◌=ℤ◌ xs (drop s ts) (pos 0) (pos 0) n (omega arith) ∙ same_front ◌=ℤ◌ xs (drop s ts) inside
