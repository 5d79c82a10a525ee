-- The rows of the table by name: no two rows share one, and each reified form has its base row's
-- names with `_reif` or `_imp` appended.
use Rattle.std.proofs.Common.{◌≡◌, ◌≢◌, ℕ, Bool, true, false, true≢false, not, ◌&&◌, cond, List, [], ◌∷◌, ◌++◌, ◌||◌, map, filter, find, length, drop, Option, Some, None, refl, sym, ap, subst, ◌∙◌, rules}
use Rattle.std.specs.Prelude.{◌==◌, codes, bytes_eq, option_map, option_and_then, ◌-◌}
use Rattle.std.specs.List.{list_all, list_any}
use Rattle.std.specs.Option.{option_or}
use Rattle.std.proofs.lemmas.List.{append_cancel_right, drop_at, length-append}
use Rattle.std.proofs.lemmas.List.Folds.{find-append}
use Rattle.std.proofs.lemmas.Bool.Decides.{same_from_decides}
use Rattle.std.proofs.lemmas.Slice.Eq.{bytes_eq-Decides}
use Rattle.std.proofs.lemmas.Bool.{and_parts, not-true}
use Rattle.fz_meaning.specs.Builtins.{Row, base_rows, builtins, implied, is_named, reified, row_at, rows, rows_with_forms}
use Rattle.fz_meaning.specs.declared.known.Form.{Form}
use Rattle.fz_meaning.specs.declared.known.Form.TheVariants.{Base, Reified, Implied}
use Rattle.fz_meaning.specs.Meaning.{Posted, fits, row_of, table_name}
use Rattle.fz_meaning.specs.Known.{HasTruth, form_at, row_named, suffix_of}

-- ---- a row's names are compared

pub same_name : (x y : List ℕ) → bytes_eq x y ≡ true → x ≡ y
same_name x y e = (bytes_eq-Decides x y).0 e

pub equal_names : (x y : List ℕ) → x ≡ y → bytes_eq x y ≡ true
equal_names x y e = (bytes_eq-Decides x y).1 e

-- the same suffix on both names makes no difference
pub suffix_drops : (x y s : List ℕ) → bytes_eq (x ++ s) (y ++ s) ≡ bytes_eq x y
suffix_drops x y s =
    search (
      rules,
      same_from_decides,
      append_cancel_right,
      same_name,
      equal_names,
      bytes_eq-Decides,
    )

suffixes_drop : (x s : List ℕ) (ns : List (List ℕ))
    → list_any (λ n. bytes_eq n (x ++ s)) (map (λ n. n ++ s) ns) ≡ list_any (λ n. bytes_eq n x) ns
suffixes_drop x s [] = refl
suffixes_drop x s (n ∷ ns) = λ i. suffix_drops n x s i || suffixes_drop x s ns i

-- what is one of the names with the suffix ends in that
front_of : (x s : List ℕ) (ns : List (List ℕ))
    → list_any (λ n. bytes_eq n x) (map (λ n. n ++ s) ns) ≡ true
    → (front : List ℕ) × (x ≡ front ++ s)
front_of x s [] e = cc
front_of x s (n ∷ ns) e =
    (elim (bytes_eq (n ++ s) x) as (λ b. bytes_eq (n ++ s) x ≡ b → (b || list_any (λ n. bytes_eq n x) (map (λ n. n ++ s) ns)) ≡ true → (front : List ℕ) × (x ≡ front ++ s)) [
      | true ↦ λ same _. (n, sym (same_name (n ++ s) x same))
      | false ↦ λ _ e. front_of x s ns e
    ]) refl e

-- ---- `find` over rows

-- no later row has a name of an earlier one
abbrev pub none_named : List Row → List ℕ → Bool
none_named rs x = list_all (λ r. not (is_named x r)) rs

abbrev pub apart : List Row → Bool
apart [] = true
apart (r ∷ rs) = list_all (none_named rs) r.names && apart rs

-- what holds of each name holds of the one that is meant
of_named : (q : List ℕ → Bool) (x : List ℕ) (ns : List (List ℕ))
    → list_any (λ n. bytes_eq n x) ns ≡ true → list_all q ns ≡ true → q x ≡ true
of_named q x [] e h = cc
of_named q x (n ∷ ns) e h =
    let parts = and_parts (q n) _ h in
    (elim (bytes_eq n x) as (λ b. bytes_eq n x ≡ b → (b || list_any (λ n. bytes_eq n x) ns) ≡ true → q x ≡ true) [
      | true ↦ λ same _. subst (λ y. q y ≡ true) (same_name n x same) parts.0
      | false ↦ λ _ e. of_named q x ns e parts.1
    ]) refl e

module _ {A : Type 0} where
  pub find_none : (t : A → Bool) (xs : List A) → list_all (λ x. not (t x)) xs ≡ true
      → find t xs ≡ None
  find_none t [] h = refl
  find_none t (x ∷ xs) h =
      let parts = and_parts (not (t x)) _ h in
      rw (not-true (t x) parts.0) (find_none t xs parts.1)

  -- what fails of the name fails with more asked
  pub find_none_and : (t u : A → Bool) (xs : List A) → list_all (λ x. not (t x)) xs ≡ true
      → find (λ x. t x && u x) xs ≡ None
  find_none_and t u [] h = refl
  find_none_and t u (x ∷ xs) h =
      let parts = and_parts (not (t x)) _ h in
      rw (not-true (t x) parts.0) (find_none_and t u xs parts.1)

  pub find_filter : (t u : A → Bool) (xs : List A)
      → find t (filter u xs) ≡ find (λ x. t x && u x) xs
  find_filter t u [] = refl
  find_filter t u (x ∷ xs) =
      let rest : find t (filter u xs) ≡ find (λ y. t y && u y) xs = find_filter t u xs in
      (elim (u x) as (λ b. find t (cond b (x ∷ filter u xs) (filter u xs)) ≡ cond (t x && b) (Some x) (find (λ y. t y && u y) xs)) [
        | true ↦ (elim (t x) as (λ c. cond c (Some x) (find t (filter u xs)) ≡ cond (c && true) (Some x) (find (λ y. t y && u y) xs)) [ true ↦ refl | false ↦ rest ])
        | false ↦ (elim (t x) as (λ c. find t (filter u xs) ≡ cond (c && false) (Some x) (find (λ y. t y && u y) xs)) [ true ↦ rest | false ↦ rest ])
      ])

-- where names are apart, the row of the name is found first, and then asked more of it
pub find_apart : (x : List ℕ) (u : Row → Bool) (rs : List Row) → apart rs ≡ true
    → find (λ r. is_named x r && u r) rs
    ≡ option_and_then (λ r. cond (u r) (Some r) None) (find (is_named x) rs)
find_apart x u [] h = refl
find_apart x u (r ∷ rs) h =
    let parts = and_parts (list_all (none_named rs) r.names) (apart rs) h in
    (elim (is_named x r) as (λ b. is_named x r ≡ b → cond (b && u r) (Some r) (find (λ s. is_named x s && u s) rs) ≡ option_and_then (λ s. cond (u s) (Some s) None) (cond b (Some r) (find (is_named x) rs))) [
      | true ↦ λ e. let none : none_named rs x ≡ true = of_named (none_named rs) x r.names e parts.0 in
          (elim (u r) as (λ c. cond c (Some r) (find (λ s. is_named x s && u s) rs) ≡ cond c (Some r) None) [ true ↦ refl | false ↦ find_none_and (is_named x) u rs none ])
      | false ↦ λ e. find_apart x u rs parts.1
    ]) refl

base_apart : apart base_rows ≡ true
unfolding row_at builtins
base_apart = refl

pub rows_apart : apart rows ≡ true
unfolding rows row_at builtins
rows_apart = refl

-- the row that a constraint fits is the one of its name, where it fits that
pub row_of_is : (p : Posted) → row_of p
    ≡ option_and_then (λ r. cond (fits r p.arguments) (Some r) None)
    (row_named (table_name p.name (length p.arguments)))
unfolding row_named
row_of_is p = find_apart (table_name p.name (length p.arguments)) (λ r. fits r p.arguments) rows rows_apart

-- ---- the reified forms

-- rows whose names have a suffix more are found under that, and under no name that doesn't end so
module _ (form : Row → Row) (suffix : List ℕ) (is : (r : Row) → (form r).names ≡ map (λ n. n ++ suffix) r.names) where
  find_form : (x : List ℕ) (rs : List Row)
      → find (is_named (x ++ suffix)) (map form rs) ≡ option_map form (find (is_named x) rs)
  find_form x [] = refl
  find_form x (r ∷ rs) =
      rw (ap (list_any (λ n. bytes_eq n (x ++ suffix))) (is r) ∙ suffixes_drop x suffix r.names)
      (elim (is_named x r) as (λ b. cond b (Some (form r)) (find (is_named (x ++ suffix)) (map form rs)) ≡ option_map form (cond b (Some r) (find (is_named x) rs))) [ true ↦ refl | false ↦ find_form x rs ])

  find_no_form : (x : List ℕ) → ((front : List ℕ) → x ≢ front ++ suffix) → (rs : List Row)
      → find (is_named x) (map form rs) ≡ None
  find_no_form x h [] = refl
  find_no_form x h (r ∷ rs) =
      (elim (is_named x (form r)) as (λ b. is_named x (form r) ≡ b → cond b (Some (form r)) (find (is_named x) (map form rs)) ≡ None) [
        | true ↦ λ e. let (front, ends) = front_of x suffix r.names (sym (ap (list_any (λ n. bytes_eq n x)) (is r)) ∙ e) in absurd (h front ends)
        | false ↦ λ e. find_no_form x h rs
      ]) refl

-- a name ends so
ends_in : List ℕ → List ℕ → Bool
ends_in suffix x = bytes_eq (drop (length x - length suffix) x) suffix

ends_there : (suffix front : List ℕ) → ends_in suffix (front ++ suffix) ≡ true
unfolding ends_in
ends_there suffix front = search (rules, length-append, equal_names, drop_at)

pub no_front : (suffix x end : List ℕ) → end ≡ drop (length x - length suffix) x
    → bytes_eq end suffix ≡ false → (front : List ℕ) → x ≡ front ++ suffix → ⊥
unfolding ends_in
no_front suffix x end is other front e = true≢false (sym (ends_there suffix front) ∙ ap (ends_in suffix) (sym e) ∙ ap (λ y. bytes_eq y suffix) (sym is) ∙ other)

-- what holds of all names of the rows holds of the one that is meant
of_row_named : (q : List ℕ → Bool) (x : List ℕ) (rs : List Row) (r : Row)
    → list_all (λ s. list_all q s.names) rs ≡ true → find (is_named x) rs ≡ Some r → q x ≡ true
of_row_named q x [] r h e = cc
of_row_named q x (s ∷ rs) r h e =
    let parts = and_parts (list_all q s.names) _ h in
    (elim (is_named x s) as (λ b. is_named x s ≡ b → cond b (Some s) (find (is_named x) rs) ≡ Some r → q x ≡ true) [
      | true ↦ λ named _. of_named q x s.names named parts.0
      | false ↦ λ _ e. of_row_named q x rs r parts.1 e
    ]) refl e

-- no name of a form is one of a base row
abbrev form_is_new : Form → Bool
form_is_new f = list_all (λ r. list_all (λ n. none_named base_rows (n ++ suffix_of f)) r.names) rows_with_forms

forms_are_new : (f : Form) → HasTruth f → form_is_new f ≡ true
unfolding row_at builtins
forms_are_new Base h = absurd h
forms_are_new _ h = refl

-- what ends in the one suffix doesn't end in the other
last : List ℕ → ℕ
last [] = 0
last (x ∷ []) = x
last (x ∷ y ∷ ys) = last (y ∷ ys)

last_behind : (xs : List ℕ) (y : ℕ) (ys : List ℕ) → last (xs ++ y ∷ ys) ≡ last (y ∷ ys)
unfolding last
last_behind (x ∷ z ∷ zs) y ys = last_behind (z ∷ zs) y ys
last_behind _ y ys = refl

pub other_suffix : (x y : List ℕ) → x ++ codes "_imp" ≢ y ++ codes "_reif"
unfolding last
other_suffix x y e = true≢false (ap (λ n. n == 112) (sym (last_behind x 95 (105 ∷ 109 ∷ 112 ∷ [])) ∙ ap last e ∙ last_behind y 95 (114 ∷ 101 ∷ 105 ∷ 102 ∷ [])))

option_or_none : (o : Option Row) → option_or o None ≡ o
option_or_none None = refl
option_or_none (Some r) = refl

-- the row of a name is a base row, or one of the forms
split : (x : List ℕ) → row_named x ≡ option_or (find (is_named x) base_rows)
    (option_or (find (is_named x) (map reified rows_with_forms))
    (find (is_named x) (map implied rows_with_forms)))
unfolding row_named rows
split x = find-append (is_named x) base_rows _ ∙ ap (option_or (find (is_named x) base_rows)) (find-append (is_named x) (map reified rows_with_forms) (map implied rows_with_forms))

pub found_with_forms : (x : List ℕ) → find (is_named x) rows_with_forms
    ≡ option_and_then (λ r. cond r.has_forms (Some r) None) (find (is_named x) base_rows)
found_with_forms x = find_filter (is_named x) (λ r. r.has_forms) base_rows ∙ find_apart x (λ r. r.has_forms) base_rows base_apart

-- a name with a suffix is a base row's, or the one of a base row's form
row_named_form : (f : Form) → HasTruth f → (x : List ℕ) → row_named (x ++ suffix_of f)
    ≡ option_or (find (is_named (x ++ suffix_of f)) base_rows)
    (option_map (form_at f) (find (is_named x) rows_with_forms))
row_named_form Base h x = absurd h
row_named_form Reified h x =
    let y = x ++ codes "_reif" in
    split y
    ∙ ap (λ o. option_or (find (is_named y) base_rows) (option_or (find (is_named y) (map reified rows_with_forms)) o)) (find_no_form implied (codes "_imp") (λ r. refl) y (λ front e. other_suffix front x (sym e)) rows_with_forms)
    ∙ ap (option_or (find (is_named y) base_rows)) (option_or_none (find (is_named y) (map reified rows_with_forms)) ∙ find_form reified (codes "_reif") (λ r. refl) x rows_with_forms)
row_named_form Implied h x =
    let y = x ++ codes "_imp" in
    split y
    ∙ ap (λ o. option_or (find (is_named y) base_rows) (option_or o (find (is_named y) (map implied rows_with_forms)))) (find_no_form reified (codes "_reif") (λ r. refl) y (λ front e. other_suffix x front e) rows_with_forms)
    ∙ ap (option_or (find (is_named y) base_rows)) (find_form implied (codes "_imp") (λ r. refl) x rows_with_forms)

pub row_of_form : (f : Form) → HasTruth f → (x : List ℕ) (r : Row)
    → find (is_named x) rows_with_forms ≡ Some r → row_named (x ++ suffix_of f) ≡ Some (form_at f r)
row_of_form f h x r e =
    let y = x ++ suffix_of f in
    let new : find (is_named y) base_rows ≡ None = find_none (is_named y) base_rows (of_row_named (λ n. none_named base_rows (n ++ suffix_of f)) x rows_with_forms r (forms_are_new f h) e) in
    row_named_form f h x ∙ ap (λ o. option_or o (option_map (form_at f) (find (is_named x) rows_with_forms))) new ∙ ap (option_map (form_at f)) e

pub row_of_no_form : (f : Form) → HasTruth f → (x : List ℕ) → find (is_named x) rows_with_forms ≡ None
    → row_named (x ++ suffix_of f) ≡ find (is_named (x ++ suffix_of f)) base_rows
row_of_no_form f h x e =
    let y = x ++ suffix_of f in
    row_named_form f h x ∙ ap (λ o. option_or (find (is_named y) base_rows) (option_map (form_at f) o)) e ∙ option_or_none (find (is_named y) base_rows)

-- and any other is a base row's
pub row_named_base : (x : List ℕ) → ((front : List ℕ) → x ≢ front ++ codes "_reif")
    → ((front : List ℕ) → x ≢ front ++ codes "_imp") → row_named x ≡ find (is_named x) base_rows
row_named_base x not_reified not_implied =
    split x
    ∙ ap (λ o. option_or (find (is_named x) base_rows) (option_or o (find (is_named x) (map implied rows_with_forms)))) (find_no_form reified (codes "_reif") (λ r. refl) x not_reified rows_with_forms)
    ∙ ap (option_or (find (is_named x) base_rows)) (find_no_form implied (codes "_imp") (λ r. refl) x not_implied rows_with_forms)
    ∙ option_or_none (find (is_named x) base_rows)
