use Rattle.std.proofs.Common.{ℕ, leb, cond, bit_and, refl, ◌∙◌, arith}
use Rattle.std.proofs.lemmas.Simd.{zip2_splat, length-chunk}
use lib.Lanes.{chunk}
use Rattle.fz_tree.specs.Token.{is_word_byte}
use Rattle.fz_tree.proofs.Lanes.{joined, splat_is, run_in}
use Rattle.fz_tree.proofs.word.word_run.Goals as goal

pub returns : goal.returns
returns c =
    let v = chunk c.args.at 16 c.args.bytes.now in
    let long = length-chunk c.args.at 16 c.args.bytes.now c.requires in
    let no_letter = joined (λ a b. cond (leb a b) 255 0) _ _ v (splat_is v 16 26 long) (joined _ _ _ v (zip2_splat {Y = ℕ} _ v 16 32 long) (splat_is v 16 97 long)) in
    let no_digit = joined (λ a b. cond (leb a b) 255 0) _ _ v (splat_is v 16 10 long) (zip2_splat {Y = ℕ} _ v 16 48 long) in
    c.first_set.ensures
    ∙ run_in is_word_byte c.args.bytes.now c.args.at 16 _ _ c.requires (omega arith) c.type_inv.bytes
    (joined bit_and _ _ v (joined bit_and _ _ v no_letter no_digit) (zip2_splat {Y = ℕ} _ v 16 95 long)) refl
