use Rattle.std.proofs.Common.{◌≡◌, ◌&&◌, true, false, int_le, sym, ap, ◌∙◌, rules}
use Rattle.fz_kernel.specs.of_meaning.Relations.{all_both, count_of}
use Rattle.fz_kernel.specs.Views.{ints}
use Rattle.fz_globals.proofs.cover.come_within.Goals as goal

pub returns-then-enough : goal.returns-then-enough
returns-then-enough c =
    let enough = c.both_pass-enough.ensures (λ v n. int_le n (count_of c.args.sorted.now v)) (λ v n b fits_v fits_n r. search rules) in
    let few = c.both_pass.ensures (λ v n. int_le (count_of c.args.sorted.now v) n) (λ v n b fits_v fits_n r. search rules) in
    let yes : c.both_pass-enough.result ≡ true = search rules in
    few ∙ sym (ap (λ b. b && all_both (λ v n. int_le (count_of c.args.sorted.now v) n) (ints c.args.cover.now) (ints c.args.most.now)) (sym enough ∙ yes))

pub returns-else-enough : goal.returns-else-enough
returns-else-enough c =
    let enough = c.both_pass-enough.ensures (λ v n. int_le n (count_of c.args.sorted.now v)) (λ v n b fits_v fits_n r. search rules) in
    let no : c.both_pass-enough.result ≡ false = search rules in
    no ∙ sym (ap (λ b. b && all_both (λ v n. int_le (count_of c.args.sorted.now v) n) (ints c.args.cover.now) (ints c.args.most.now)) (sym enough ∙ no))
