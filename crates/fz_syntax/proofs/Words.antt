-- A reserved word begins as one.
use Rattle.std.proofs.Common.{◌≡◌, ℕ, true, false, List, [], ◌∷◌, refl, sym, subst, ⊎_elim}
use Rattle.std.specs.List.{list_any, AllByRecursion}
use Rattle.std.specs.Str.{bytes_eq}
use Rattle.std.proofs.lemmas.Bool.{cases_Bool}
use Rattle.std.proofs.lemmas.Slice.Eq.{bytes_eq-Decides}
use Rattle.fz_tree.specs.Text.{reserved_words, is_reserved}
use Rattle.fz_syntax.specs.Words.{may_be_reserved}

one_of_them : (words : List (List ℕ)) → AllByRecursion (λ w. may_be_reserved w ≡ true) words
    → (text : List ℕ) → list_any (bytes_eq text) words ≡ true → may_be_reserved text ≡ true
one_of_them [] all text h = absurd cc
one_of_them (w ∷ words) all text h =
    ⊎_elim
    (λ e. subst (λ (t : List ℕ). may_be_reserved t ≡ true) (sym ((bytes_eq-Decides text w).0 e)) all.0)
    (λ e. let rest : list_any (bytes_eq text) words ≡ true = rw e at h in one_of_them words all.1 text rest)
    (cases_Bool (bytes_eq text w))

begin_so : AllByRecursion (λ w. may_be_reserved w ≡ true) reserved_words
begin_so = (refl, (refl, (refl, (refl, (refl, (refl, (refl, (refl, (refl, (refl, (refl, (refl, (refl, (refl, (refl, tt)))))))))))))))

pub not_reserved : (text : List ℕ) → may_be_reserved text ≡ false → is_reserved text ≡ false
not_reserved text h = ⊎_elim (λ e. let b = one_of_them reserved_words begin_so text e in absurd cc) (λ e. e) (cases_Bool (is_reserved text))
