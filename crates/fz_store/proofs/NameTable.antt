-- The table of names: what is looked up there, and what one more name leaves as it is.
use Rattle.std.proofs.Common.{◌≡◌, ℕ, suc, zero, ◌<◌, List, [], ◌∷◌, ◌++◌, map, length, Option, None, Some, IfSome, Bor, ltb, get_or, option_map, slice_get, cond, if◌then◌else◌, true, false, refl, sym, ap, ◌∙◌, subst, is_some, is_none, arith, Result, Ok, Err}
use Rattle.std.specs.Result.{OnOk, OnErr}
use Rattle.std.specs.List.{AllByRecursion, IsDistinct, find, list_any}
use Rattle.std.specs.Option.{option_map_or}
use Rattle.std.specs.Map.{lookup}
use Rattle.std.proofs.lemmas.List.{map-append, length-append}
use Rattle.std.proofs.lemmas.Slice.Eq.{bytes_eq-Decides}
use Rattle.std.proofs.lemmas.Bool.Decides.{nat_tests}
use Rattle.std.proofs.lemmas.Cmp.{nat_list_eq_equiv}
use Rattle.std.proofs.lemmas.Option.{slice_get_past, slice_get_read}
use Rattle.indexmap.specs.IndexSet.{insert_key}
use Rattle.fz_meaning.proofs.Points.{slice_get_at}
use Rattle.fz_meaning.proofs.Lists.{all_append, all_map}
use Rattle.fz_meaning.specs.declared.term.Term.{Term}
use Rattle.fz_store.specs.declared.names.Citation.{Citation}
use Rattle.fz_store.specs.declared.names.Kept.{Kept}
use Rattle.fz_store.specs.declared.names.Citation.TheVariants as citations
use Rattle.fz_store.specs.Naming.{Declared, has_text, stands_for, IsAmongTerms, no_term}
use Rattle.fz_store.specs.Names.{citation_stands, is_among_terms, is_key, same_key}

-- a look-up in the list is one in the table
pub looked_up : (ts : List Term) (x : List ℕ) (ks : List Kept)
    → lookup (has_text x) (map (citation_stands ts) ks)
    ≡ option_map (λ k. stands_for ts k.citation) (find (is_key x) ks)
looked_up ts x [] = refl
looked_up ts x (k ∷ ks) = grind (arith, looked_up ts x ks)

-- a citation that is found is among the terms
pub found_among : (ts : List Term) (x : List ℕ) (ks : List Kept) (k : Kept)
    → AllByRecursion (is_among_terms ts) ks → Some k ≡ find (is_key x) ks
    → IsAmongTerms ts k.citation
found_among ts x [] k h is = cc
found_among ts x (y ∷ ks) k h is =
    (elim (is_key x y) as (λ b. Some k ≡ cond b (Some y) (find (is_key x) ks) → IsAmongTerms ts k.citation) [
      | true ↦ λ is. let same : y ≡ k = cc in subst (is_among_terms ts) same h.0
      | false ↦ λ later. found_among ts x ks k h.1 later
    ]) is

-- the key that is found has the text
pub key_passes : (x : List ℕ) (ks : List Kept) (k : Kept) → Some k ≡ find (is_key x) ks
    → k.bytes.now ≡ x
key_passes x [] k e = cc
key_passes x (y ∷ ks) k e =
    let text = (bytes_eq-Decides x y.bytes.now).0 in
    grind (arith, key_passes x ks k)

-- ---- one more

-- a name that is new in the list is new in the table
pub new_key : (ts : List Term) (x : List ℕ) (ks : List Kept)
    → is_none (lookup (has_text x) (map (citation_stands ts) ks)) ≡ true
    → list_any (is_key x) ks ≡ false
new_key ts x [] e = refl
new_key ts x (k ∷ ks) e = grind (arith, new_key ts x ks)

-- what was found among the terms is found there where one more comes
pub get_front : {A : Type 0} (xs ys : List A) (i : ℕ) → i < length xs
    → slice_get (xs ++ ys) i ≡ slice_get xs i
get_front [] ys i lt = absurd (omega arith)
get_front (x ∷ xs) ys zero lt = refl
get_front (x ∷ xs) ys (suc i) lt = get_front xs ys i (omega arith)

pub among_more : (ts us : List Term) (es : List Kept) → AllByRecursion (is_among_terms ts) es
    → AllByRecursion (is_among_terms (ts ++ us)) es
among_more ts us es = all_map (is_among_terms ts) (is_among_terms (ts ++ us)) (λ k. one k.citation) es
  where
    one : (e : Citation) → IsAmongTerms ts e → IsAmongTerms (ts ++ us) e
    one (citations.Parameter i) h = omega (arith, length-append ts us)
    one _ h = tt

pub all_stand_same : (ts us : List Term) (es : List Kept) → AllByRecursion (is_among_terms ts) es
    → map (citation_stands (ts ++ us)) es ≡ map (citation_stands ts) es
all_stand_same ts us [] h = refl
all_stand_same ts us (e ∷ es) h = λ i. (e.bytes.now, one e.citation h.0 i) ∷ all_stand_same ts us es h.1 i
  where
    one : (e : Citation) → IsAmongTerms ts e → stands_for (ts ++ us) e ≡ stands_for ts e
    one (citations.Parameter i) h = ap (λ o. Declared.Scalar (option_map_or (λ t. t) o no_term)) (get_front ts us i h)
    one _ h = refl

-- ---- one more name

-- what is read at an index
pub got : (ks : List Kept) (i : ℕ) (r : Option (Bor Kept)) → is_some r ≡ ltb i (length ks)
    → IfSome r (λ x. x.now ≡ get_or ks i x.now) → option_map (λ x. x.now) r ≡ slice_get ks i
got ks i None there is = grind (arith, nat_tests, slice_get_past {X = Kept})
got ks i (Some x) there is = grind (arith, nat_tests, slice_get_read {X = Kept})

-- keys stay distinct where a new one is added
pub distinct_pushed : (ks : List Kept) (k : Kept) → IsDistinct same_key ks
    → list_any (is_key k.bytes.now) ks ≡ false → IsDistinct same_key (ks ++ k ∷ [])
unfolding IsDistinct
distinct_pushed [] k h absent = (tt, tt)
distinct_pushed (y ∷ ks) k h absent = (all_append (λ z. same_key y z ≡ false) ks (k ∷ []) h.0 (apart, tt), distinct_pushed ks k h.1 later)
  where
    later : list_any (is_key k.bytes.now) ks ≡ false
    later = grind arith

    other : is_key k.bytes.now y ≡ false
    other = grind arith

    apart : same_key y k ≡ false
    apart = nat_list_eq_equiv.symm y.bytes.now k.bytes.now ∙ other

-- a new key is appended
pub goes_last : (ks : List Kept) (k : Kept) → list_any (same_key k) ks ≡ false
    → insert_key same_key ks k ≡ ks ++ k ∷ []
goes_last ks k absent = ap (λ b. if b then ks else ks ++ k ∷ []) absent

module _ (ts : List Term) (ks new : List Kept) (k : Kept) (last : new ≡ ks ++ k ∷ []) where
  pub among_pushed : AllByRecursion (is_among_terms ts) ks → IsAmongTerms ts k.citation
      → AllByRecursion (is_among_terms ts) new
  among_pushed h here = subst (AllByRecursion (is_among_terms ts)) (sym last) (all_append (is_among_terms ts) ks (k ∷ []) h (here, tt))

  pub view_pushed : (n : List (List ℕ × Declared)) → map (citation_stands ts) ks ≡ n
      → map (citation_stands ts) new ≡ n ++ (k.bytes.now, stands_for ts k.citation) ∷ []
  view_pushed n is = ap (map (citation_stands ts)) last ∙ map-append (citation_stands ts) ks (k ∷ []) ∙ ap (λ zs. zs ++ (k.bytes.now, stands_for ts k.citation) ∷ []) is

-- what holds of the keys whether the last one was added or memory ran out
pub among_put : {A E : Type 0} (r : Result A E) (ts : List Term) (ks new : List Kept) (k : Kept)
    → OnOk r (new ≡ ks ++ k ∷ []) → OnErr r (new ≡ ks)
    → AllByRecursion (is_among_terms ts) ks → IsAmongTerms ts k.citation → AllByRecursion (is_among_terms ts) new
among_put (Ok a) ts ks new k last same h here = among_pushed ts ks new k last h here
among_put (Err e) ts ks new k last same h here = subst (AllByRecursion (is_among_terms ts)) (sym same) h

-- a parameter's term is appended
pub stands_last : (ts us : List Term) (t : Term) (i : ℕ) → us ≡ ts ++ t ∷ [] → i ≡ length ts
    → stands_for us (citations.Parameter i) ≡ Declared.Scalar t
stands_last ts us t i grew last = ap (λ o. Declared.Scalar (option_map_or (λ x. x) o no_term)) ((λ j. slice_get (grew j) (last j)) ∙ slice_get_at ts [] t)

pub last_within : (ts us : List Term) (t : Term) (i : ℕ) → us ≡ ts ++ t ∷ [] → i ≡ length ts
    → i < length us
last_within ts us t i grew last = omega (arith, ap length grew, length-append ts (t ∷ []), last)

-- what a citation that is found stands for
pub ruleset of_citation = (looked_up, found_among, key_passes)
