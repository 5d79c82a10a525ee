-- Each builtin is found by its names, and has its row.
use Rattle.std.proofs.Common.{◌≡◌, ◌<◌, ◌≤◌, ◌+◌, ℕ, get_or, drop, Bool, true, false, ◌&&◌, ◌||◌, cond, eq-eqb, List, [], ◌∷◌, ◌++◌, map, find, flat_map, length, Option, Some, None, refl, sym, ap, subst, ◌∙◌, arith, rules}
use Rattle.std.specs.List.{list_all, list_any}
use Rattle.std.specs.Prelude.{IfNone, bytes_eq, option_map, option_and_then, ◌==◌}
use Rattle.std.proofs.lemmas.List.{at_drop_more, at_drop_all}
use Rattle.std.proofs.lemmas.Bool.{and_parts}
use Rattle.std.proofs.lemmas.Grind.{common_steps}
use Rattle.fz_meaning.specs.Builtins.{Row, base_rows, builtins, is_named, row_at, rows_with_forms}
use Rattle.fz_meaning.specs.Results.{first_name}
use Rattle.fz_meaning.specs.Meaning.{Posted, fits, row_of, table_name}
use Rattle.fz_meaning.specs.declared.builtin.Builtin.{Builtin}
use Rattle.fz_meaning.specs.declared.builtin.Builtin.TheVariants.{IntEq}
use Rattle.fz_meaning.specs.declared.known.Form.{Form}
use Rattle.fz_meaning.specs.declared.known.Known.{Known}
use Rattle.fz_meaning.specs.Known.{HasTruth, form_at, known_row, names_of, named_so_long, row_named, suffix_of}
use Rattle.fz_meaning.proofs.Named.{same_name, find_filter, found_with_forms, row_of_form, row_of_is, row_of_no_form}

-- the builtin of a name
abbrev pub called : List ℕ → Builtin → Bool
called x b = is_named x (row_at b)

abbrev pub name_of : Builtin → List ℕ
name_of b = first_name (row_at b)

found_own : (b : Builtin) → find (called (name_of b)) builtins ≡ Some b
unfolding row_at builtins
found_own IntEq = refl
found_own _ = refl

-- what holds of all that are listed holds of each
all_found : (t q : Builtin → Bool) (bs : List Builtin) (b : Builtin) → list_all q bs ≡ true
    → find t bs ≡ Some b → q b ≡ true
all_found t q [] b h e = cc
all_found t q (d ∷ bs) b h e =
    elim (t d) as (λ c. cond c (Some d) (find t bs) ≡ Some b → q b ≡ true) [
      | true ↦ λ e. let same : d ≡ b = cc in subst (λ z. q z ≡ true) same (and_parts (q d) _ h).0
      | false ↦ λ e. all_found t q bs b (and_parts (q d) _ h).1 e
    ] e

pub each_builtin : (q : Builtin → Bool) → list_all q builtins ≡ true → (b : Builtin) → q b ≡ true
each_builtin q h b = all_found (called (name_of b)) q builtins b h (found_own b)

-- two of one first name are one
pub own_name : (b d : Builtin) → name_of b ≡ name_of d → b ≡ d
own_name b d e = let same : Some b ≡ Some d = sym (found_own b) ∙ ap (λ n. find (called n) builtins) e ∙ found_own d in cc

find_row : (x : List ℕ) (bs : List Builtin)
    → find (is_named x) (map row_at bs) ≡ option_map row_at (find (called x) bs)
find_row x [] = refl
find_row x (b ∷ bs) = elim (called x b) as (λ c. cond c (Some (row_at b)) (find (is_named x) (map row_at bs)) ≡ option_map row_at (cond c (Some b) (find (called x) bs))) [ true ↦ refl | false ↦ find_row x bs ]

-- ---- each name with its builtin

abbrev builtin_in : Option (List ℕ × Builtin) → Option Builtin
builtin_in o = option_map (λ e. e.1) o

abbrev is_for : List ℕ → (List ℕ × Builtin) → Bool
is_for x e = bytes_eq e.0 x

among_own : (x : List ℕ) (b : Builtin) (ns : List (List ℕ)) (rest : List (List ℕ × Builtin))
    → builtin_in (find (is_for x) (map (λ n. (n, b)) ns ++ rest))
    ≡ cond (list_any (λ n. bytes_eq n x) ns) (Some b) (builtin_in (find (is_for x) rest))
among_own x b [] rest = refl
among_own x b (n ∷ ns) rest = elim (bytes_eq n x) as (λ c. builtin_in (cond c (Some (n, b)) (find (is_for x) (map (λ n. (n, b)) ns ++ rest))) ≡ cond (c || list_any (λ n. bytes_eq n x) ns) (Some b) (builtin_in (find (is_for x) rest))) [ true ↦ refl | false ↦ among_own x b ns rest ]

find_name : (x : List ℕ) (bs : List Builtin)
    → builtin_in (find (is_for x) (flat_map names_of bs)) ≡ find (called x) bs
find_name x [] = refl
find_name x (b ∷ bs) = among_own x b (row_at b).names (flat_map names_of bs) ∙ ap (cond (called x b) (Some b)) (find_name x bs)

-- a name is looked for among those of its length only
named_alike : (x : List ℕ) (es : List (List ℕ × Builtin))
    → find (λ e. is_for x e && (length e.0 == length x)) es ≡ find (is_for x) es
named_alike x es = grind (arith, common_steps, eq-eqb, same_name)

pub find_by_length : (x : List ℕ)
    → builtin_in (find (is_for x) (named_so_long (length x))) ≡ find (called x) builtins
find_by_length x =
    ap builtin_in (find_filter (is_for x) (λ e. length e.0 == length x) (flat_map names_of builtins) ∙ named_alike x (flat_map names_of builtins)) ∙ find_name x builtins

-- ---- the loop over them

-- names with their builtins, as they are listed
module _ {E : Type 0} (text : E → List ℕ) (what : E → Builtin) where
  found_in : (x : List ℕ) (ns : List E) → option_map what (find (λ n. bytes_eq (text n) x) ns) ≡ builtin_in (find (is_for x) (map (λ n. (text n, what n)) ns))
  found_in x [] = refl
  found_in x (n ∷ ns) = elim (bytes_eq (text n) x) as (λ c. option_map what (cond c (Some n) (find (λ n. bytes_eq (text n) x) ns)) ≡ builtin_in (cond c (Some (text n, what n)) (find (is_for x) (map (λ n. (text n, what n)) ns)))) [ true ↦ refl | false ↦ found_in x ns ]

  module _ (x : List ℕ) (ns : List E) (i : ℕ) (listed : map {B = List ℕ × Builtin} (λ n. (text n, what n)) ns ≡ named_so_long (length x))
      (so_far : find (λ n. bytes_eq (text n) x) (drop i ns) ≡ find (λ n. bytes_eq (text n) x) ns) where
    found : option_map what (find (λ n. bytes_eq (text n) x) (drop i ns)) ≡ find (called x) builtins
    found = ap (option_map what) so_far ∙ found_in x ns ∙ ap (λ es. builtin_in (find (is_for x) es)) listed ∙ find_by_length x

    pub found_here : (d : E) → i < length ns → bytes_eq (text (get_or ns i d)) x ≡ true
        → Some (what (get_or ns i d)) ≡ find (called x) builtins
    found_here d below e =
        sym (ap (option_map what) (at_drop_more (find (λ n. bytes_eq (text n) x)) ns i d below ∙ ap (λ c. cond c (Some (get_or ns i d)) (find (λ n. bytes_eq (text n) x) (drop (i + 1) ns))) e)) ∙ found

    pub found_nowhere : length ns ≤ i → None ≡ find (called x) builtins
    found_nowhere end = sym (ap (option_map what) (at_drop_all (find (λ n. bytes_eq (text n) x)) ns i end)) ∙ found

-- ---- the row of what is found

option_step : (u : Row → Bool) (o : Option Builtin) → option_and_then
    (λ r. cond (u r) (Some r) None) (option_map row_at o)
    ≡ option_map row_at (option_and_then (λ b. cond (u (row_at b)) (Some b) None) o)
option_step u None = refl
option_step u (Some b) = (elim (u (row_at b)) as (λ c. cond c (Some (row_at b)) None ≡ option_map row_at (cond c (Some b) None)) [ true ↦ refl | false ↦ refl ])

module _ (x : List ℕ) (o : Option Builtin) (is : o ≡ find (called x) builtins) where
  found_row : find (is_named x) base_rows ≡ option_map row_at o
  found_row = find_row x builtins ∙ ap (option_map row_at) (sym is)

  -- a name that isn't the one of a form
  pub base_is : row_named x ≡ find (is_named x) base_rows → row_named x ≡ option_map row_at o
  base_is h = h ∙ found_row

  with_forms : find (is_named x) rows_with_forms
      ≡ option_map row_at (option_and_then (λ b. cond (row_at b).has_forms (Some b) None) o)
  with_forms = search (rules, found_with_forms, found_row, option_step)

  -- a name with a suffix
  pub form_none : (f : Form) → HasTruth f → o ≡ None
      → row_named (x ++ suffix_of f) ≡ find (is_named (x ++ suffix_of f)) base_rows
  form_none f h e = row_of_no_form f h x (with_forms ∙ ap (λ q. option_map row_at (option_and_then (λ b. cond (row_at b).has_forms (Some b) None) q)) e)

  pub form_some : (f : Form) → HasTruth f → (b : Builtin) → o ≡ Some b → (row_at b).has_forms ≡ true
      → row_named (x ++ suffix_of f) ≡ Some (form_at f (row_at b))
  form_some f h b e has = row_of_form f h x (row_at b) (with_forms ∙ ap (λ q. option_map row_at (option_and_then (λ b. cond (row_at b).has_forms (Some b) None) q)) e ∙ ap (λ c. option_map row_at (cond c (Some b) None)) has)

  pub form_lacks : (f : Form) → HasTruth f → (b : Builtin) → o ≡ Some b
      → (row_at b).has_forms ≡ false
      → row_named (x ++ suffix_of f) ≡ find (is_named (x ++ suffix_of f)) base_rows
  form_lacks f h b e has = row_of_no_form f h x (with_forms ∙ ap (λ q. option_map row_at (option_and_then (λ b. cond (row_at b).has_forms (Some b) None) q)) e ∙ ap (λ c. option_map row_at (cond c (Some b) None)) has)

pub if_none : {A : Type 0} (o : Option A) (P : Type 0) → P → IfNone o P
if_none None P p = p
if_none (Some a) P p = tt

-- ---- the row of a constraint

pub row_of_known : (p : Posted) (k : Known)
    → row_named (table_name p.name (length p.arguments)) ≡ Some (known_row k)
    → row_of p ≡ cond (fits (known_row k) p.arguments) (Some (known_row k)) None
row_of_known p k h = row_of_is p ∙ ap (option_and_then (λ r. cond (fits r p.arguments) (Some r) None)) h

pub row_of_unknown : (p : Posted) → row_named (table_name p.name (length p.arguments)) ≡ None
    → row_of p ≡ None
row_of_unknown p h = row_of_is p ∙ ap (option_and_then (λ r. cond (fits r p.arguments) (Some r) None)) h
