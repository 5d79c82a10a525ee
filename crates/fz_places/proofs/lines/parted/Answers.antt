use Rattle.std.proofs.Common.{◌≡◌, ◌<◌, ◌-◌, ◌+◌, ◌==◌, not, ℕ, List, Some, suc, take, drop, length, length-drop, add-one, sym, ap, ◌∙◌, arith}
use Rattle.std.specs.List.{list_all}
use Rattle.std.proofs.Math.Seq.{take-length}
use Rattle.fz_places.proofs.Parting.{clean, none, some}
use Rattle.fz_places.proofs.lines.parted.Goals as goal

pub returns-then-count-bytes-clause-parts : goal.returns-then-count-bytes-clause-parts
returns-then-count-bytes-clause-parts c =
    sym (none c.args.end c.args.bytes.now c.part_len-count.result c.part_len-count.ensures.part c.if-count-bytes.true)

-- all that is behind
behind : (bytes : List ℕ) (n : ℕ)
    → take (length bytes - (n + 1)) (drop (n + 1) bytes) ≡ drop (suc n) bytes
behind bytes n =
    ap (λ k. take (length bytes - k) (drop k bytes)) (add-one n)
    ∙ ap (λ k. take k (drop (suc n) bytes)) (sym (length-drop (suc n) bytes))
    ∙ take-length (drop (suc n) bytes)

pub returns-clause-first : goal.returns-clause-first
returns-clause-first c =
    ap (list_all (λ b. not (b == c.args.end))) c.part_len-count.ensures.part ∙ clean c.args.end c.args.bytes.now

pub returns-clause-parts : goal.returns-clause-parts
returns-clause-parts c =
    let bytes = c.args.bytes.now in
    let n = c.part_len-count.result in
    let less : n < length bytes = omega (arith, c.part_len-count.ensures.within, c.if-count-bytes.false) in
    (λ i. Some (take n bytes, behind bytes n i)) ∙ sym (some c.args.end bytes n c.part_len-count.ensures.part less)
