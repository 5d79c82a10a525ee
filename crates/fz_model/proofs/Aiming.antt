-- A constraint that is taken as one whose defined variable is a variable without a value in it.
use Rattle.std.proofs.Common.{◌≡◌, ℕ, zero, suc, List, [], ◌∷◌, flat_map, IsSomeAnd, Option, Some, None, Result, Ok, Err, IfOk, IfSome, slice_get, sym, ap, subst, ◌∙◌, ◌⊎◌, inl, inr, arith}
use Rattle.std.specs.List.{Contains}
use Rattle.fz_builtins.specs.of_meaning.of_base.declared.value.Value.{Value}
use Rattle.fz_builtins.specs.of_meaning.declared.term.Term.{Term}
use Rattle.fz_builtins.specs.of_meaning.declared.term.Term.TheVariants.{Var}
use Rattle.fz_builtins.specs.of_meaning.Meaning.{Model, Partial, Point, Posted, row_of, terms_in}
use Rattle.fz_builtins.specs.of_meaning.Meaning.Point.{ConstraintPoint}
use Rattle.fz_builtins.specs.of_meaning.Results.{result_of}
use Rattle.fz_builtins.specs.of_meaning.Steps.{Gives, IsResult, open_terms}
use Rattle.fz_model.specs.Aimed.{GivesAny, GivesNone, aimed, with_target}
use Rattle.fz_model.specs.Forced.{IsForced, IsForcedAny}
use Rattle.fz_model.specs.Openings.{IsOpenIn}

-- the only one of a list
is_only : (t u : Term) → Contains (t ∷ []) u → t ≡ u
is_only t u (zero, below, is) = is
is_only t u (suc i, below, is) = absurd (omega arith)

module _ (m : Model) (K : Partial) (k : ℕ) (p : Posted) where
  pub aims : (n : ℕ) → IsOpenIn K p (Some n) → (o : Option (ℕ × Value))
      → IsForced m K (ConstraintPoint k (with_target n p)) o → IsForcedAny m K (ConstraintPoint k p) o
  aims n there (Some r) g =
      let both : Some n ≡ Some r.0 = g.target.0 in
      let same : n ≡ r.0 = cc in
      subst (λ j. Gives m K (ConstraintPoint k (with_target j p)) r.0 r.1) same g
  aims n there None none = λ j v g.
      let only : Var j ≡ Var n = is_only (Var j) (Var n) (subst (λ ts. Contains ts (Var n)) g.only_open there) in
      let same : j ≡ n = cc in
      none j v (subst (λ i. Gives m K (ConstraintPoint k (with_target i p)) j v) same g)

  pub aims_nowhere : IsOpenIn K p None → GivesNone m K (ConstraintPoint k p)
  aims_nowhere (inl unknown) = λ n v g. subst (λ o. IsSomeAnd o (λ r. IsResult K p.arguments n (result_of r))) unknown g.target.1
  aims_nowhere (inr none) = λ n v g.
      let both : ◌≡◌ {A = List Term} [] (Var n ∷ []) = sym none ∙ g.only_open in
      cc

-- a point at which it doesn't matter gives what it gives
pub gives_any : (m : Model) (K : Partial) (ps : List Point) (k : ℕ) (q : Point)
    → slice_get ps k ≡ Some q → ((n : ℕ) → aimed n q ≡ q) → {E : Type 0}
    (r : Result (Option (ℕ × Value)) E)
    → IfOk r (λ o. IfSome o (λ z. (p : Point) → slice_get ps k ≡ Some p → Gives m K p z.0 z.1))
    → IfOk r (λ o. IfSome o (λ z. (p : Point) → slice_get ps k ≡ Some p → GivesAny m K p z.0 z.1))
gives_any m K ps k q at same (Err e) h = tt
gives_any m K ps k q at same (Ok None) h = tt
gives_any m K ps k q at same (Ok (Some z)) h = λ p is.
    let here : q ≡ p = cc in
    subst (λ t. GivesAny m K t z.0 z.1) here (subst (λ t. Gives m K t z.0 z.1) (sym (same z.0)) (h q at))
