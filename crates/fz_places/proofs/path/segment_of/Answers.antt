use Rattle.std.proofs.Common.{◌≡◌, ◌∷◌, ◌++◌, [], ℕ, List, append_assoc, ap, ◌∙◌}
use Rattle.fz_places.specs.Paths.{barred}
use Rattle.fz_places.proofs.Parting.{joins}
use Rattle.fz_places.proofs.path.segment_of.Goals as goal

-- a part before what ends on the rest
on : (part text rest whole : List ℕ) → text ++ rest ≡ whole
    → barred part text ++ rest ≡ barred part whole
on part text rest whole is = append_assoc part (124 ∷ text) rest ∙ ap (λ t. barred part t) is

onto : (f l c e d w r s t u v x y : List ℕ) → s ≡ 124 ∷ l ++ t → t ≡ 124 ∷ c ++ u
    → u ≡ 124 ∷ e ++ v → v ≡ 124 ∷ d ++ x → x ≡ 124 ∷ y → y ≡ w ++ 59 ∷ r
    → barred f (barred l (barred c (barred e (barred d (w ++ 59 ∷ []))))) ++ r ≡ f ++ s
onto f l c e d w r s t u v x y at1 at2 at3 at4 at5 at6 =
    rw at1 (rw at2 (rw at3 (rw at4 (rw at5 (rw at6 (on f _ r _ (on l _ r _ (on c _ r _ (on e _ r _ (on d _ r _ (append_assoc w (59 ∷ []) r)))))))))))

pub returns-clause-text : goal.returns-clause-text
returns-clause-text c =
    onto c.args.file.now c.in_ok-line.line.now c.in_ok-column.column.now c.in_ok-end_line.end_line.now c.in_ok-end_column.end_column.now c.in_ok-what.what.now c.in_ok-what.rest.now c.args.text.now c.in_ok-line.text.now c.in_ok-column.text.now c.in_ok-end_line.text.now c.in_ok-end_column.text.now c.in_ok-behind_bar.field-0.now
    c.in_ok-line.ensures.text c.in_ok-column.ensures.text c.in_ok-end_line.ensures.text c.in_ok-end_column.ensures.text c.in_ok-behind_bar.ensures.bar (joins 59 c.in_ok-behind_bar.field-0.now c.in_ok-what.what.now c.in_ok-what.rest.now c.in_ok-what.ensures.parts)
