-- Each set of some numbers is one of their subsets.
use Rattle.std.proofs.Common.{◌≡◌, ℕ, suc, ◌+◌, ◌*◌, ◌<◌, ◌≤◌, ◌^◌, ◌%◌, ◌/◌, ◌&&◌, ◌||◌, ℤ, Bool, true, false, cond, List, [], ◌∷◌, ◌++◌, drop, get_or, length, None, Some, Option, refl, sym, ap, ◌∙◌, eqb, arith, pos, add-one, drop-cons, append_assoc, int_le}
use Rattle.std.specs.Ordering.{int_eq}
use Rattle.std.specs.List.{list_any}
use Rattle.std.specs.Cmp.{int_cmp_total}
use Rattle.std.specs.FinSet.{contains, contains-from_list, from_list, is_subset, is_subset-contains}
use Rattle.std.proofs.Math.Nat.{pow-succ'}
use Rattle.std.proofs.lemmas.Bool.Decides.{Decides-int_eq, nat_tests}
use Rattle.fz_bounds.specs.Bounds.{LiesIn}
use Rattle.fz_bounds.specs.of_model.Meaning.{admits}
use Rattle.fz_bounds.specs.of_model.declared.Domain.{Domain}
use Rattle.fz_bounds.specs.of_model.declared.Kind.{Kind}
use Rattle.fz_bounds.specs.of_model.declared.Kind.TheVariants.{Set as SetKind}
use Rattle.fz_bounds.specs.of_model.of_base.Sets.{NumberSet, numbers_between}
use Rattle.fz_bounds.specs.of_model.of_base.declared.value.Value.{Value}
use Rattle.fz_bounds.specs.of_model.of_base.declared.value.Value.TheVariants.{Int, Bool as Truth, Set}
use Rattle.fz_bounds.proofs.of_model.of_base.Numbers.{contains-numbers_between, same_numbers}
use Rattle.fz_bounds.proofs.of_model.of_builtins.of_globals.NoGaps.{element_each}
use Rattle.fz_search.specs.Subsets.{IsAmong, kept, set_of}
use Rattle.fz_search.specs.declared.subsets.Subsets.{Subsets}

-- the bit of a number: 0 where it is in the set
abbrev pub bit : Bool → ℕ
bit b = cond b 0 1

abbrev pub code_of : List ℤ → NumberSet → ℕ
code_of [] s = 0
code_of (x ∷ xs) s = bit (contains s x) + 2 * code_of xs s

pub code_fits : (xs : List ℤ) (s : NumberSet) → code_of xs s < 2 ^ length xs
code_fits [] s = omega arith
code_fits (x ∷ xs) s = more (contains s x) (code_of xs s) (code_fits xs s)
  where
    more : (b : Bool) (r : ℕ) → r < 2 ^ length xs → bit b + 2 * r < 2 ^ suc (length xs)
    more true r h = omega (arith, pow-succ' 2 (length xs))
    more false r h = omega (arith, pow-succ' 2 (length xs))

even : (b : Bool) (r : ℕ) → eqb ((bit b + 2 * r) % 2) 0 ≡ b
even true r = let e : (0 + 2 * r) % 2 ≡ 0 = omega arith in rw e refl
even false r = let e : (1 + 2 * r) % 2 ≡ 1 = omega arith in rw e refl

half : (b : Bool) (r : ℕ) → (bit b + 2 * r) / 2 ≡ r
half true r = omega arith
half false r = omega arith

either : (c e a m : Bool) → (e ≡ true → c ≡ m) → ((c && e) || (a && m)) ≡ ((e || a) && m)
either c e a m h = grind (arith, nat_tests)

pub kept_is : (xs : List ℤ) (s : NumberSet) (q : ℤ)
    → list_any (int_eq q) (kept xs (code_of xs s)) ≡ (list_any (int_eq q) xs && contains s q)
kept_is [] s q = refl
kept_is (x ∷ xs) s q =
    (λ i. list_any (int_eq q) (cond (even (contains s x) (code_of xs s) i) (x ∷ kept xs (half (contains s x) (code_of xs s) i)) (kept xs (half (contains s x) (code_of xs s) i))))
    ∙ there (contains s x) (kept xs (code_of xs s))
    ∙ ap (λ b. (contains s x && int_eq q x) || b) (kept_is xs s q)
    ∙ either (contains s x) (int_eq q x) (list_any (int_eq q) xs) (contains s q) (λ e. ap (contains s) (sym ((Decides-int_eq q x).0 e)))
  where
    there : (c : Bool) (ys : List ℤ)
        → list_any (int_eq q) (cond c (x ∷ ys) ys) ≡ ((c && int_eq q x) || list_any (int_eq q) ys)
    there true ys = refl
    there false ys = refl

module _ (all ys zs xs : List ℤ) (i bits : ℕ) (below : i < length xs) (so_far : all ≡ ys ++ kept (drop i xs) bits) where
  pub kept_here : (x : ℤ) → bits % 2 ≡ 0 → zs ≡ ys ++ x ∷ [] → x ≡ get_or xs i (pos 0)
      → all ≡ zs ++ kept (drop (i + 1) xs) (bits / 2)
  kept_here x e more here = so_far ∙ rw (add-one, drop-cons xs i (pos 0), e, more, here) (sym (append_assoc ys (get_or xs i (pos 0) ∷ []) (kept (drop (suc i) xs) (bits / 2))))

  pub kept_not : (bits % 2 ≡ 0 → ⊥) → zs ≡ ys → all ≡ zs ++ kept (drop (i + 1) xs) (bits / 2)
  kept_not odd same = let e : bits % 2 ≡ 1 = omega arith in so_far ∙ rw (add-one, drop-cons xs i (pos 0), e, same) refl

either_in : (p q : Bool) → (p ≡ true → q ≡ true) → p ≡ (q && p)
either_in p q h = grind (arith, nat_tests)

-- a set of some numbers is the subset with its code
is_kept : (xs : List ℤ) (s : NumberSet)
    → ((x : ℤ) → contains s x ≡ true → contains (set_of xs) x ≡ true)
    → s ≡ from_list (kept xs (code_of xs s))
is_kept xs s among = same_numbers s (from_list (kept xs (code_of xs s))) (λ x.
    either_in (contains s x) (list_any (int_eq x) xs) (λ e. sym (contains-from_list int_cmp_total xs x) ∙ among x e)
    ∙ sym (contains-from_list int_cmp_total (kept xs (code_of xs s)) x ∙ kept_is xs s x))

-- so each value of a set variable is, where its domain has no other numbers
pub among_all : (s : Subsets) (k : Kind) (d : Domain) → k ≡ SetKind
    → 2 ^ length s.numbers.now ≤ s.code + 1
    → ((x : ℤ) → admits d x ≡ true → contains (set_of s.numbers.now) x ≡ true)
    → (o : Option Value) → LiesIn k d o → IsAmong s o
among_all s k d set most among None lies = absurd lies
among_all s k d set most among (Some (Int n)) lies = let e = lies.0 in cc
among_all s k d set most among (Some (Truth b)) lies = let e = lies.0 in cc
among_all s k d set most among (Some (Set t)) lies =
    let fits = code_fits s.numbers.now t in
    (code_of s.numbers.now t, omega arith, ap (λ u. Some (Set u)) (is_kept s.numbers.now t (λ x in_it. among x (element_each (admits d) t lies.1 x in_it))))

-- the numbers of a range are in each set that has them as a subset
pub range_among : (lo hi : ℤ) (own all : NumberSet) → own ≡ numbers_between lo hi
    → is_subset own all ≡ true → (x : ℤ) → (int_le lo x && int_le x hi) ≡ true
    → contains all x ≡ true
range_among lo hi own all is sub x in_it =
    is_subset-contains int_cmp_total own all sub x (ap (λ s. contains s x) is ∙ contains-numbers_between lo hi x ∙ in_it)
