-- The points of declarations that are not the domain of a variable, by their numbers.
use Rattle.std.proofs.Common.{◌≡◌, ℕ, zero, suc, ◌+◌, ◌<◌, ◌≤◌, Bool, true, false, cond, ◌&&◌, List, [], ◌∷◌, ◌++◌, flat_map, length, take, Some, slice_get, refl, sym, ap, subst, ◌∙◌, arith, append_assoc, length-append}
use Rattle.std.specs.List.{AllByRecursion, list_all}
use Rattle.std.specs.Option.{option_map_or}
use Rattle.std.proofs.lemmas.List.{append-nil}
use Rattle.fz_builtins.specs.of_meaning.declared.state.State.{State}
use Rattle.fz_builtins.specs.of_meaning.Meaning.{Model, Partial, Point, constraint_points, declared_points, numbered, points, variables_of}
use Rattle.fz_builtins.specs.of_meaning.States.{state}
use Rattle.fz_model.specs.Holding.{is_held, point_holds, posted_holds}
use Rattle.fz_model.specs.Overviews.{others_from, holds_at}
use Rattle.fz_model.specs.Whole.{is_domain, lie_inside}
use Rattle.fz_builtins.proofs.of_meaning.Lists.{there_is}
use Rattle.fz_model.proofs.Together.{hold_together}
use Rattle.fz_model.proofs.Valued.{HoldsIfDomain, domains_hold}

-- ---- one point more

-- the number of a point, unless that is a domain
abbrev listed : Bool → ℕ → List ℕ
listed b n = cond b [] (n ∷ [])

before_more : (b : Bool) (k : ℕ) (xs ys : List ℕ)
    → cond b (xs ++ ys) (k ∷ xs ++ ys) ≡ cond b xs (k ∷ xs) ++ ys
before_more true k xs ys = refl
before_more false k xs ys = refl

others_more : (k : ℕ) (ps : List Point) (n : ℕ) (p : Point) → slice_get ps n ≡ Some p
    → others_from k (take (n + 1) ps) ≡ others_from k (take n ps) ++ listed (is_domain p) (k + n)
others_more k [] n p at = cc
others_more k (q ∷ ps) zero p at =
    let same : q ≡ p = cc in
    let place : k ≡ k + 0 = omega arith in
    ap (λ z. listed (is_domain z) k) same ∙ ap (listed (is_domain p)) place
others_more k (q ∷ ps) (suc n) p at =
    let count : suc n + 1 ≡ suc (n + 1) = omega arith in
    let place : suc k + n ≡ k + suc n = omega arith in
    ap (λ z. others_from k (take z (q ∷ ps))) count
    ∙ ap (λ xs. cond (is_domain q) xs (k ∷ xs)) (others_more (suc k) ps n p at ∙ ap (λ z. others_from (suc k) (take n ps) ++ listed (is_domain p) z) place)
    ∙ before_more (is_domain q) k (others_from (suc k) (take n ps)) (listed (is_domain p) (k + suc n))

module _ (ps : List Point) (n : ℕ) (p : Point) (at : slice_get ps n ≡ Some p) (xs : List ℕ) (is : xs ≡ others_from 0 (take n ps)) where
  pub passed_domain : is_domain p ≡ true → xs ≡ others_from 0 (take (n + 1) ps)
  passed_domain e = sym (others_more 0 ps n p at ∙ ap (λ b. others_from 0 (take n ps) ++ listed b (0 + n)) e ∙ append-nil (others_from 0 (take n ps)) ∙ sym is)

  pub noted_other : is_domain p ≡ false → xs ++ n ∷ [] ≡ others_from 0 (take (n + 1) ps)
  noted_other e =
      let place : 0 + n ≡ n = omega arith in
      ap (λ zs. zs ++ n ∷ []) is ∙ sym (others_more 0 ps n p at ∙ ap (λ b. others_from 0 (take n ps) ++ listed b (0 + n)) e ∙ ap (λ z. others_from 0 (take n ps) ++ z ∷ []) place)

-- ---- the points of these numbers

others_within : (k : ℕ) (ps : List Point) (limit : ℕ) → k + length ps ≤ limit
    → AllByRecursion (λ n. n < limit) (others_from k ps)
others_within k [] limit le = tt
others_within k (p ∷ ps) limit le =
    let here : k < limit = omega (arith, le) in
    let rest = others_within (suc k) ps limit (omega (arith, le)) in
    elim (is_domain p) as (λ b. AllByRecursion (λ n. n < limit) (cond b (others_from (suc k) ps) (k ∷ others_from (suc k) ps))) [
      | true ↦ rest
      | false ↦ (here, rest)
    ]

-- one of them, by its state
pub number_told : (K : Partial) (ps : List Point) (n : ℕ) (s : State) → n < length ps
    → ((p : Point) → slice_get ps n ≡ Some p → s ≡ state K p) → is_held s ≡ holds_at K ps n
number_told K ps n s lt exact = let (p, at) = there_is ps n lt in ap is_held (exact p at) ∙ sym (ap (λ o. option_map_or (point_holds K) o true) at)

point_between : (before after : List Point) (p : Point)
    → slice_get (before ++ p ∷ after) (length before) ≡ Some p
point_between [] after p = refl
point_between (q ∷ before) after p = point_between before after p

module _ (K : Partial) where
  others_held : (before ps after : List Point) (k : ℕ) → length before ≡ k
      → AllByRecursion (HoldsIfDomain K) ps
      → list_all (holds_at K (before ++ (ps ++ after))) (others_from k ps) ≡ list_all (point_holds K) ps
  others_held before [] after k count h = refl
  others_held before (p ∷ ps) after k count h =
      let all : List Point = before ++ (p ∷ (ps ++ after)) in
      let at : slice_get all k ≡ Some p = ap (slice_get all) (sym count) ∙ point_between before (ps ++ after) p in
      let here : holds_at K all k ≡ point_holds K p = ap (λ o. option_map_or (point_holds K) o true) at in
      let longer : length (before ++ p ∷ []) ≡ suc k = length-append before (p ∷ []) ∙ omega arith in
      let rest : list_all (holds_at K all) (others_from (suc k) ps) ≡ list_all (point_holds K) ps =
      subst (λ qs. list_all (holds_at K qs) (others_from (suc k) ps) ≡ list_all (point_holds K) ps) (append_assoc before (p ∷ []) (ps ++ after))
      (others_held (before ++ p ∷ []) ps after (suc k) longer h.1) in
      elim (is_domain p) as (λ b. is_domain p ≡ b → list_all (holds_at K all) (cond b (others_from (suc k) ps) (k ∷ others_from (suc k) ps)) ≡ (point_holds K p && list_all (point_holds K) ps)) [
        | true ↦ λ e. rest ∙ sym (ap (λ c. c && list_all (point_holds K) ps) (h.0 e))
        | false ↦ λ e. λ i. here i && rest i
      ] refl

module _ (m : Model) (xs : List ℕ) (is : xs ≡ others_from 0 (flat_map declared_points (numbered m))) where
  pub all_in_range : AllByRecursion (λ n. n < length (points m)) xs
  all_in_range =
      subst (AllByRecursion (λ n. n < length (points m))) (sym is)
      (others_within 0 (flat_map declared_points (numbered m)) (length (points m)) (omega (arith, length-append (flat_map declared_points (numbered m)) (constraint_points 1 m.constraints))))

  -- where the values lie inside their domains, all points hold where the others of the
  -- declarations and the constraints do
  module _ (K : Partial) (within : lie_inside (variables_of m) K ≡ true) (b : Bool)
      (tells : b ≡ list_all (holds_at K (points m)) xs) where
    others_tell : b ≡ list_all (point_holds K) (flat_map declared_points (numbered m))
    others_tell =
        tells ∙ ap (list_all (holds_at K (points m))) is
        ∙ others_held K [] (flat_map declared_points (numbered m)) (constraint_points 1 m.constraints)
        0 refl (domains_hold m K within)

    pub apart : (c : Bool) → b ≡ c → (c && list_all (posted_holds K) m.constraints)
        ≡ list_all (point_holds K) (points m)
    apart c e =
        ap (λ d. d && list_all (posted_holds K) m.constraints) (sym e ∙ others_tell)
        ∙ sym (hold_together K m)
