use Rattle.std.proofs.Common.{◌≡◌, ◌++◌, ◌∷◌, [], pos, not, FitsSigned, w64, sym, ap, ◌∙◌, arith, rules}
use Rattle.std.proofs.lemmas.Int.{ints as numerals, to_z-of_z}
use Rattle.fz_kernel.specs.of_meaning.Relations.{is_nonzero}
use Rattle.fz_kernel.specs.Views.{ints}
use Rattle.fz_globals.proofs.Compared.{is_equal, is_other}
use Rattle.fz_globals.proofs.Each.{one_kept, one_skipped}
use Rattle.fz_globals.proofs.counts.nonzero_numbers.Goals.{then-number-ne0+in_ok-push, else-number-ne0}
use Rattle.fz_globals.proofs.counts.nonzero_numbers.Goals as goal

pub loop-place-preserved : goal.loop-place-preserved
loop-place-preserved c =
    let xs = ints c.args.elements.now in
    let i = c.loop-place.place in
    let x = c.int-number.result in
    let fits : FitsSigned w64 x = search rules in
    elim c.if-number-ne0.branch [
      | then-number-ne0+in_ok-push w ↦
          let other : ¬ (x ≡ pos 0) = λ same. omega (arith, numerals) in
          let pushed : w.push.new.self.items ≡ (c.loop-place.numbers.items ++ x ∷ []) = simp to_z-of_z at w.in_ok-push.ensures.items in
          ap (λ v. v.items) w.numbers-is ∙ pushed ∙ ap (λ l. l ++ x ∷ []) c.loop-place.invariant ∙ sym (one_kept is_nonzero xs i x c.int-number.ensures.read (ap not (is_other x (pos 0) other)))
      | else-number-ne0 w ↦
          let same : x ≡ pos 0 = omega (arith, numerals) in
          ap (λ v. v.items) w.numbers-is ∙ c.loop-place.invariant ∙ sym (one_skipped is_nonzero xs i x c.int-number.ensures.read (ap not (is_equal x (pos 0) same)))
    ]
