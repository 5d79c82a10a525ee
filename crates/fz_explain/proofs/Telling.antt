-- Variables that are told one after another.
use Rattle.std.proofs.Common.{◌≡◌, ◌<◌, ◌+◌, ℕ, List, [], ◌∷◌, ◌++◌, map, length, take, slice_index_or, sym, ap, subst, ◌∙◌}
use Rattle.std.specs.List.{AllByRecursion}
use Rattle.std.proofs.lemmas.List.{map-append, take_more}
use Rattle.fz_filling.specs.of_model.Meaning.{Partial}
use Rattle.fz_filling.proofs.of_model.Lists.{all_append}
use Rattle.fz_explain.specs.Explained.{IsTold}
use Rattle.fz_explain.specs.declared.explained.Explained.{Explained}

-- those so far
pub record Telling (F : Partial) (steps : List (ℕ × ℕ)) (told : List Explained) (ns : List ℕ) : Type 0 where
  pub variables : map (λ e. e.variable) told ≡ ns
  pub each : AllByRecursion (λ e. IsTold F steps e.variable e) told

-- one more
pub told_next : (F : Partial) (steps : List (ℕ × ℕ)) (told more : List Explained) (e : Explained)
    (ns : List ℕ) (k d : ℕ) → Telling F steps told (take k ns) → k < length ns
    → more ≡ told ++ e ∷ [] → IsTold F steps (slice_index_or ns k d) e → Telling F steps more (take (k + 1) ns)
told_next F steps told more e ns k d so_far less longer t =
    let whole : IsTold F steps e.variable e = subst (λ n. IsTold F steps n e) (sym t.variable) t in
    record {
      variables = ap (map (λ x. x.variable)) longer ∙ map-append (λ x. x.variable) told (e ∷ []) ∙ (λ i. so_far.variables i ++ t.variable i ∷ []) ∙ sym (take_more ns k d less);
      each = subst (AllByRecursion (λ x. IsTold F steps x.variable x)) (sym longer) (all_append (λ x. IsTold F steps x.variable x) told (e ∷ []) so_far.each (whole, tt));
    }
