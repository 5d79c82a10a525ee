-- A text and the part of it before a byte.
use Rattle.std.proofs.Common.{◌≡◌, ◌<◌, ◌==◌, ℕ, zero, suc, Bool, true, false, not, ◌&&◌, cond, List, [], ◌∷◌, ◌++◌, Option, None, Some, option_map, take, drop, length, refl, ap, ◌∙◌, arith}
use Rattle.std.specs.List.{list_all}
use Rattle.std.proofs.lemmas.Bool.{eqb-true}
use Rattle.fz_places.specs.Lines.{first_part, parted}

abbrev next : Bool → ℕ → List ℕ → Option (List ℕ × List ℕ) → Option (List ℕ × List ℕ)
next e b bytes more = cond e (Some ([], bytes)) (option_map (λ p. (b ∷ p.0, p.1)) more)

none_next : (e : Bool) (b : ℕ) (bytes xs ys : List ℕ) (more : Option (List ℕ × List ℕ))
    → b ∷ xs ≡ cond e [] (b ∷ ys) → (xs ≡ ys → more ≡ None) → next e b bytes more ≡ None
none_next true b bytes xs ys more is step = cc
none_next false b bytes xs ys more is step =
    ap (option_map (λ p. (b ∷ p.0, p.1))) (step (cc))

-- the part is the whole text
pub none : (end : ℕ) (bytes : List ℕ) (n : ℕ) → take n bytes ≡ first_part end bytes
    → n ≡ length bytes → parted end bytes ≡ None
none end [] n is whole = refl
none end (b ∷ bytes) zero is whole = absurd (omega arith)
none end (b ∷ bytes) (suc n) is whole = none_next (b == end) b bytes (take n bytes)
    (first_part end bytes) (parted end bytes) is (λ same. none end bytes n same (omega arith))

here : (e : Bool) (b : ℕ) (bytes ys : List ℕ) (more : Option (List ℕ × List ℕ))
    → [] ≡ cond e [] (b ∷ ys) → next e b bytes more ≡ Some ([], bytes)
here true b bytes ys more is = refl
here false b bytes ys more is = cc

some_next : (e : Bool) (b : ℕ) (bytes xs ys rest : List ℕ) (more : Option (List ℕ × List ℕ))
    → b ∷ xs ≡ cond e [] (b ∷ ys) → (xs ≡ ys → more ≡ Some (xs, rest))
    → next e b bytes more ≡ Some (b ∷ xs, rest)
some_next true b bytes xs ys rest more is step = cc
some_next false b bytes xs ys rest more is step =
    ap (option_map (λ p. (b ∷ p.0, p.1))) (step (cc))

-- something is behind it
pub some : (end : ℕ) (bytes : List ℕ) (n : ℕ) → take n bytes ≡ first_part end bytes
    → n < length bytes → parted end bytes ≡ Some (take n bytes, drop (suc n) bytes)
some end [] n is part = absurd (omega arith)
some end (b ∷ bytes) zero is part = here (b == end) b bytes (first_part end bytes) (parted end bytes) is
some end (b ∷ bytes) (suc n) is part = some_next (b == end) b bytes (take n bytes)
    (first_part end bytes) (drop (suc n) bytes) (parted end bytes) is (λ same. some end bytes n same (omega arith))

-- the parts make up the text
again : (e : Bool) (end b : ℕ) (bytes part rest : List ℕ) (more : Option (List ℕ × List ℕ))
    → (b == end) ≡ e → ((p r : List ℕ) → Some (p, r) ≡ more → bytes ≡ p ++ end ∷ r)
    → Some (part, rest) ≡ next e b bytes more → b ∷ bytes ≡ part ++ end ∷ rest
again true end b bytes part rest more same joins is =
    let both : ◌≡◌ {A = List ℕ × List ℕ} (part, rest) ([], bytes) = cc in
    rw (ap (λ p. p.0) both) (rw (ap (λ p. p.1) both) (ap (λ e. e ∷ bytes) (eqb-true b end same)))
again false end b bytes part rest None same joins is = cc
again false end b bytes part rest (Some m) same joins is =
    let both : ◌≡◌ {A = List ℕ × List ℕ} (part, rest) (b ∷ m.0, m.1) = cc in
    rw (ap (λ p. p.0) both) (rw (ap (λ p. p.1) both) (ap (◌∷◌ b) (joins m.0 m.1 refl)))

pub joins : (end : ℕ) (bytes part rest : List ℕ) → Some (part, rest) ≡ parted end bytes
    → bytes ≡ part ++ end ∷ rest
joins end [] part rest is = cc
joins end (b ∷ bytes) part rest is =
    again (b == end) end b bytes part rest (parted end bytes) refl (joins end bytes) is

clean_next : (e : Bool) (b end : ℕ) (part : List ℕ) → (b == end) ≡ e
    → list_all (λ b. not (b == end)) part ≡ true
    → list_all (λ b. not (b == end)) (cond e [] (b ∷ part)) ≡ true
clean_next true b end part is all = refl
clean_next false b end part is all = ap (λ t. not t && list_all (λ b. not (b == end)) part) is ∙ all

-- the first part doesn't have the byte
pub clean : (end : ℕ) (bytes : List ℕ) → list_all (λ b. not (b == end)) (first_part end bytes) ≡ true
clean end [] = refl
clean end (b ∷ bytes) = clean_next (b == end) b end (first_part end bytes) refl (clean end bytes)
