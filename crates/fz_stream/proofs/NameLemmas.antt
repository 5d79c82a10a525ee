-- Names that are looked up among the names before them.
use Rattle.std.proofs.Common.{◌≡◌, ◌≢◌, ℕ, ◌+◌, ◌<◌, Bool, true, false, List, [], ◌∷◌, ◌++◌, length, take, drop, suc, get_or, map, Bor, sym, ap, ◌∙◌, subst, arith, cond, take-append-drop, drop-cons}
use Rattle.std.proofs.lemmas.List.{get_or-map, get_or_default, take_more, map_push, get_or-take, length-take, length-map}
use Rattle.std.proofs.lemmas.List.Quantifiers.{all_pairs_push}
use Rattle.std.proofs.lemmas.List.Folds.{Any-from_list_any, list_any-from_Any}
use Rattle.std.proofs.lemmas.Slice.Eq.{bytes_eq-Decides}
use Rattle.std.proofs.lemmas.Bool.{false≢true}
use Rattle.std.specs.List.{list_any, Any}
use Rattle.std.specs.Str.{bytes_eq}
use Rattle.indexmap.specs.IndexSet.{insert_key}
use Rattle.fz_syntax.specs.declared.Printed.{Printed as CodePrinted}
use Rattle.fz_syntax.specs.Tree.{Printed}
use Rattle.fz_syntax.specs.View.{bare_printed, bare_items}
use Rattle.fz_stream.specs.Parts.{HasDistinctNames}
use Rattle.fz_stream.specs.Telling.{PrintsAgain}

abbrev pub text_of : CodePrinted → Bor (List ℕ)
text_of p = p.name.text

abbrev pub same : Bor (List ℕ) → Bor (List ℕ) → Bool
same a b = bytes_eq a.now b.now

-- an item p at index i, where the names before it are stored in a list
module _ (ps : List CodePrinted) (i : ℕ) (p : CodePrinted) (is : p ≡ get_or ps i p) (lt : i < length ps) (ks : List (Bor (List ℕ))) (are : ks ≡ map text_of (take i ps)) where
  next : take (i + 1) ps ≡ take i ps ++ p ∷ []
  next = take_more ps i p lt ∙ ap (λ q. take i ps ++ q ∷ []) (sym is)

  size : length ks ≡ length (take i ps)
  size = ap length are ∙ length-map (take i ps) text_of

  text_at : (k : ℕ) (x : Bor (List ℕ)) → k < length (take i ps) → get_or ks k x ≡ text_of (get_or (take i ps) k p)
  text_at k x l = ap (λ (l : List (Bor (List ℕ))). get_or l k x) are ∙ get_or-map text_of (take i ps) k p x l

  -- a name that is found is that of an item before
  own : list_any (same (text_of p)) ks ≡ true
      → Any (λ (q : CodePrinted). q.name.text.now ≡ p.name.text.now) (take i ps)
  own found =
      let w = Any-from_list_any (same (text_of p)) ks found in
      let l : w.0 < length (take i ps) = omega (arith, w.2, size) in
      let q : CodePrinted = get_or (take i ps) w.0 p in
      (w.0, q, l, get_or_default (take i ps) w.0 q p l, ap (λ (b : Bor (List ℕ)). b.now) (sym (text_at w.0 w.1 l) ∙ w.3) ∙ sym ((bytes_eq-Decides _ _).0 w.4))

  -- it is printed again
  pub prints_again : list_any (same (text_of p)) ks ≡ true
      → HasDistinctNames (bare_items (take i ps)) → PrintsAgain ps p
  prints_again found distinct = record {
    front = take i ps;
    rest = drop (suc i) ps;
    items_are = sym (take-append-drop i ps) ∙ ap (λ l. take i ps ++ l) (drop-cons ps i p lt ∙ ap (λ x. x ∷ drop (suc i) ps) (sym is));
    distinct = distinct;
    its_own = own found;
  }

  -- and the names aren't distinct
  pub repeated_in : list_any (same (text_of p)) ks ≡ true → HasDistinctNames (bare_items ps) → ⊥
  repeated_in found apart =
      let w = own found in
      let e : Printed = bare_printed w.1 in
      let before : w.0 < i = omega (arith, w.2, length-take i ps) in
      let there : get_or (bare_items ps) w.0 e ≡ e = get_or-map bare_printed ps w.0 w.1 e (omega arith) ∙ ap bare_printed (sym (get_or-take i ps w.0 w.1 before) ∙ w.3) in
      let here : get_or (bare_items ps) i e ≡ bare_printed p = get_or-map bare_printed ps i p e lt ∙ ap bare_printed (sym is) in
      apart w.0 i e before (omega (arith, lt, length-map ps bare_printed))
      (ap (λ (j : Printed). j.name) there ∙ w.4 ∙ sym (ap (λ (j : Printed). j.name) here))

  -- a name that isn't found differs from all before it
  pub apart_in : list_any (same (text_of p)) ks ≡ false → HasDistinctNames (bare_items (take i ps))
      → HasDistinctNames (bare_items (take (i + 1) ps))
  apart_in missing apart =
      let differs : (k : ℕ) (e : Printed) → k < length (bare_items (take i ps)) → (get_or (bare_items (take i ps)) k e).name ≡ p.name.text.now → ⊥ = λ k e l names.
      (let m : k < length (take i ps) = omega (arith, length-map (take i ps) bare_printed) in
      let there : (get_or (bare_items (take i ps)) k e).name ≡ (get_or (take i ps) k p).name.text.now = ap (λ (j : Printed). j.name) (get_or-map bare_printed (take i ps) k p e m) in
      false≢true (sym missing ∙ list_any-from_Any (same (text_of p)) ks (k, text_of (get_or (take i ps) k p), omega (arith, m, size), text_at k _ m, (bytes_eq-Decides _ _).1 (sym names ∙ there)))) in
      subst (λ qs. HasDistinctNames (bare_items qs)) (sym next)
      (subst HasDistinctNames (sym (map_push bare_printed (take i ps) p)) (all_pairs_push (λ (a b : Printed). a.name ≢ b.name) (bare_items (take i ps)) (bare_printed p) apart differs))

  pub names_in : (new : List (Bor (List ℕ))) → list_any (same (text_of p)) ks ≡ false
      → new ≡ insert_key same ks (text_of p) → new ≡ map text_of (take (i + 1) ps)
  names_in new missing e =
      e ∙ ap (λ b. cond b ks (ks ++ text_of p ∷ [])) missing ∙ ap (λ l. l ++ text_of p ∷ []) are ∙ sym (ap (map text_of) next ∙ map_push text_of (take i ps) p)
