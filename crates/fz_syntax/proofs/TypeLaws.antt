-- The laws of types.
use Rattle.std.proofs.Common.{◌≡◌, ℕ, pos, ◌≤◌, Bool, true, false, List, [], ◌∷◌, ◌++◌, drop, Option, Some, None, Ok, refl, ap, ◌∙◌, append_assoc, arith, ◌||◌}
use Rattle.std.specs.Prelude.{codes, nat_le, IfSome}
use Rattle.std.proofs.lemmas.Bool.{leb-true, le-leb}
use Rattle.std.proofs.lemmas.Bool.Decides.{Decides-int_eq}
use Rattle.fz_tree.specs.declared.token.Mark.TheVariants.{OpenBracket, CloseBracket, OpenBrace, DotDot}
use Rattle.fz_tree.specs.Token.{TokenValue, Word, Whole, Marked}
use Rattle.fz_tree.specs.Tree.{Literal, Range, Braces, Base, BoolBase, IntBase, SetBase}
use Rattle.fz_tree.specs.declared.limits.Limits.{Limits}
use Rattle.fz_tree.specs.Text.{IsBounds, IsBase, IsPlain, IsBaseOf, IsAnyIndex, IsParamArray, most_indexes}
use Rattle.fz_tree.specs.Tokens.{mark, word, literal_toks, separated, in_brackets, bounds_toks, base_toks, var_toks, index_toks, prefix_toks, any_index_toks, param_prefix_toks}
use Rattle.fz_syntax.specs.Reading.{Reader, ◌>>=◌, is_mark, is_word, is_whole, next_is, next_word, next_passes, whole_at, mark_at, word_at, range_at, bounds_at, int_at, base_at, plain_at, type_at, is_one, one_at, size_at, index_at, array_at, any_index_at, param_prefix_at, prefix_at, var_at, listed_index, separated_at}
use Rattle.fz_syntax.proofs.Laws.{Always, Takes, ◌⟫◌, step, next, made, choose, refused, first, none, marked, worded, split_of, mark_takes, mark_again, word_takes}
use Rattle.fz_syntax.proofs.ListLaws.{Law, apart_word, bounded, bounded_takes, few_of, separated_takes, separated_again}
use Rattle.fz_syntax.proofs.ExprLaws.{Allow, whole_takes, braces_take, braces_again}

-- ---- types without bounds

pub plain_takes : Takes base_toks IsPlain plain_at
unfolding plain_at
plain_takes tokens x e = choose (next_word (codes "bool") tokens) _ _ e
    (λ word f. made f (worded word) tt)
    (λ other f. choose (next_word (codes "set") tokens) _ _ f
    (λ word g.
    let of = step _ (word_takes (codes "of") (drop 1 tokens)) g in
    let int = step _ (word_takes (codes "int") of.left) of.on in
    made int.on (worded word ⟫ of.parts ⟫ int.parts) refl)
    (λ other g. let int = step _ (word_takes (codes "int") tokens) g in
    made int.on int.parts refl))

pub plain_again : (b : Base) (rest : List TokenValue) → IsPlain b
    → plain_at (base_toks b ++ rest) ≡ Ok (b, rest)
unfolding plain_at word_at
plain_again (IntBase (Some x)) rest is = absurd cc
plain_again (SetBase (Some x)) rest is = absurd cc
plain_again _ rest is = refl

plain_is_base : (limits : Limits) (b : Base) → IsPlain b → IsBase limits b
plain_is_base limits (IntBase (Some x)) is = absurd cc
plain_is_base limits (SetBase (Some x)) is = absurd cc
plain_is_base limits _ is = tt

pub base_of : (limits : Limits) (v : Bool) (b : Base) → IsBaseOf limits v b → IsBase limits b
base_of limits true b is = is
base_of limits false b is = plain_is_base limits b is

-- ---- what a type begins with

abbrev pub begins_bounds : TokenValue → Bool
begins_bounds t = is_whole t || is_mark OpenBrace t

abbrev begins_index : TokenValue → Bool
begins_index t = is_whole t || is_word (codes "int") t

bounds_begun : (limits : Limits) (x : Literal) (rest : List TokenValue) → IsBounds limits x
    → next_passes begins_bounds (literal_toks x ++ rest) ≡ true
bounds_begun limits (Range low high) rest is = refl
bounds_begun limits (Braces numbers) rest is = refl
bounds_begun limits _ rest is = absurd is

bounds_no_word : (limits : Limits) (text : List ℕ) (x : Literal) (rest : List TokenValue)
    → IsBounds limits x → next_word text (literal_toks x ++ rest) ≡ false
bounds_no_word limits text x rest is =
    apart_word begins_bounds text (literal_toks x ++ rest) refl (bounds_begun limits x rest is)

pub base_no_var : (limits : Limits) (b : Base) (rest : List TokenValue) → IsBase limits b
    → next_word (codes "var") (base_toks b ++ rest) ≡ false
base_no_var limits (IntBase (Some x)) rest is = bounds_no_word limits (codes "var") x rest is
base_no_var limits _ rest is = refl

pub no_array : (limits : Limits) (v : Bool) (b : Base) (rest : List TokenValue) → IsBase limits b
    → next_word (codes "array") (var_toks v ++ (base_toks b ++ rest)) ≡ false
no_array limits false (IntBase (Some x)) rest is = bounds_no_word limits (codes "array") x rest is
no_array limits _ _ rest is = refl

-- ---- the words and numbers before a type

pub var_takes : Takes var_toks Always var_at
unfolding var_at
var_takes tokens x e = choose (next_word (codes "var") tokens) _ _ e
    (λ word f. made f (worded word) tt) (λ other f. made f none tt)

pub var_again : (v : Bool) (rest : List TokenValue) → next_word (codes "var") rest ≡ false
    → var_at (var_toks v ++ rest) ≡ Ok (v, rest)
unfolding var_at
var_again true rest other = refl
var_again false rest other = rw other refl

one_tokens : (tokens : List TokenValue) → next_passes is_one tokens ≡ true
    → tokens ≡ Whole (pos 1) ∷ drop 1 tokens
one_tokens [] e = absurd cc
one_tokens (Whole n ∷ rest) e = ap (λ k. Whole k ∷ rest) ((Decides-int_eq n (pos 1)).0 e)
one_tokens (_ ∷ rest) e = absurd cc

one_takes : Takes (λ _. Whole (pos 1) ∷ []) Always one_at
unfolding one_at
one_takes tokens x e = choose (next_passes is_one tokens) _ _ e
    (λ one f. made f (record { is = one_tokens tokens one }) tt) (λ other f. refused f)

array_takes : {A : Type 0} (toks : A → List TokenValue) (Is : A → Type 0) (index : Reader A)
    → Takes toks Is index
    → Takes (λ x. in_brackets (toks x) ++ word (codes "of")) Is (array_at index)
unfolding array_at
array_takes toks Is index takes tokens x e =
    next _ (mark_takes OpenBracket tokens) e (λ opened.
    next _ (takes opened.left) opened.on (λ value.
    next _ (mark_takes CloseBracket value.left) value.on (λ closed.
    next _ (word_takes (codes "of") closed.left) closed.on (λ of.
    made of.on (opened.parts ⟫ value.parts ⟫ closed.parts ⟫ of.parts) value.fits))))

array_again : {A : Type 0} (toks : A → List TokenValue) (index : Reader A) (x : A)
    → ((rest : List TokenValue) → index (toks x ++ (Marked CloseBracket ∷ rest))
    ≡ Ok (x, Marked CloseBracket ∷ rest)) → (rest : List TokenValue)
    → array_at index ((in_brackets (toks x) ++ word (codes "of")) ++ rest) ≡ Ok (x, rest)
unfolding array_at word_at
array_again toks index x again rest =
    let inside : List TokenValue = (toks x ++ mark CloseBracket) ++ word (codes "of") in
    let after : List TokenValue = Word (codes "of") ∷ rest in
    let flat : inside ++ rest ≡ toks x ++ (Marked CloseBracket ∷ after) =
    append_assoc (toks x ++ mark CloseBracket) (word (codes "of")) rest
    ∙ append_assoc (toks x) (mark CloseBracket) after in
    rw (mark_again OpenBracket (inside ++ rest), flat, again after, mark_again CloseBracket after)
    refl

-- Reading under limits that are no smaller.
module _ (l m : Limits) (allow : Allow l m) where
  -- ---- bounds

  range_takes : Takes literal_toks (IsBounds m) range_at
  unfolding range_at
  range_takes tokens x e =
      next _ (whole_takes tokens) e (λ low.
      next _ (mark_takes DotDot low.left) low.on (λ dots.
      next _ (whole_takes dots.left) dots.on (λ high.
      made high.on (low.parts ⟫ dots.parts ⟫ high.parts) tt)))

  pub bounds_takes : Takes literal_toks (IsBounds m) (bounds_at m)
  unfolding bounds_at
  bounds_takes tokens x e = choose (next_is OpenBrace tokens) _ _ e
      (λ brace f.
      let t = braces_take l m allow (drop 1 tokens) x f in
      record { parts = (marked brace).is ∙ t.parts; fits = t.fits })
      (λ other f. range_takes tokens x f)

  pub bounds_again : (x : Literal) (rest : List TokenValue) → IsBounds l x
      → bounds_at m (literal_toks x ++ rest) ≡ Ok (x, rest)
  unfolding bounds_at range_at whole_at mark_at
  bounds_again (Range low high) rest is = refl
  bounds_again (Braces numbers) rest is = braces_again l m allow numbers rest is
  bounds_again _ rest is = absurd is

  int_takes : Takes bounds_toks (λ o. IfSome o (IsBounds m)) (int_at m)
  unfolding int_at
  int_takes tokens x e = choose (next_word (codes "int") tokens) _ _ e
      (λ word f. made f (worded word) tt)
      (λ other f. let t = step _ (bounds_takes tokens) f in made t.on t.parts t.fits)

  int_again : (o : Option Literal) (rest : List TokenValue) → IfSome o (IsBounds l)
      → int_at m (bounds_toks o ++ rest) ≡ Ok (o, rest)
  unfolding int_at
  int_again None rest is = refl
  int_again (Some x) rest is =
      rw (bounds_no_word l (codes "int") x rest is, bounds_again x rest is) refl

  -- ---- types

  pub base_takes : Takes base_toks (IsBase m) (base_at m)
  unfolding base_at
  base_takes tokens x e = choose (next_word (codes "bool") tokens) _ _ e
      (λ word f. made f (worded word) tt)
      (λ other f. choose (next_word (codes "set") tokens) _ _ f
      (λ word g.
      let of = step _ (word_takes (codes "of") (drop 1 tokens)) g in
      let bounds = step _ (int_takes of.left) of.on in
      made bounds.on (worded word ⟫ of.parts ⟫ bounds.parts) bounds.fits)
      (λ other g. let bounds = step _ (int_takes tokens) g in
      made bounds.on bounds.parts bounds.fits))

  pub base_again : (b : Base) (rest : List TokenValue) → IsBase l b
      → base_at m (base_toks b ++ rest) ≡ Ok (b, rest)
  unfolding base_at word_at
  base_again BoolBase rest is = refl
  base_again (IntBase None) rest is = rw (int_again None rest is) refl
  base_again (IntBase (Some x)) rest is = rw (
    bounds_no_word l (codes "bool") x rest is,
    bounds_no_word l (codes "set") x rest is,
    int_again (Some x) rest is,
  ) refl
  base_again (SetBase o) rest is = rw (int_again o rest is) refl

  pub type_takes : (v : Bool) → Takes base_toks (IsBaseOf m v) (type_at m v)
  unfolding type_at
  type_takes true = base_takes
  type_takes false = plain_takes

  pub type_again : (v : Bool) (b : Base) (rest : List TokenValue) → IsBaseOf l v b
      → type_at m v (base_toks b ++ rest) ≡ Ok (b, rest)
  unfolding type_at
  type_again true b rest is = base_again b rest is
  type_again false b rest is = plain_again b rest is

  -- ---- index sets

  size_takes : Takes (λ n. Whole (pos n) ∷ []) (λ n. n ≤ m.size) (size_at m)
  unfolding size_at
  size_takes (Whole (pos n) ∷ rest) x e = choose (nat_le n m.size) _ _ e
      (λ fits f. made f first (leb-true n m.size fits)) (λ large f. refused f)
  size_takes _ x e = refused e

  index_takes : Takes index_toks (λ n. n ≤ m.size) (index_at m)
  unfolding index_at
  index_takes tokens x e =
      let one = step _ (one_takes tokens) e in
      let dots = step _ (mark_takes DotDot one.left) one.on in
      let t = size_takes dots.left x dots.on in
      record { parts = (one.parts ⟫ dots.parts ⟫ split_of t).is; fits = t.fits }

  index_again : (n : ℕ) (rest : List TokenValue) → n ≤ l.size
      → index_at m (index_toks n ++ rest) ≡ Ok (n, rest)
  unfolding index_at one_at mark_at size_at
  index_again n rest fits =
      let le : n ≤ m.size = omega (arith, fits, allow.size) in rw (le-leb n m.size le) refl

  any_index_takes : Takes any_index_toks (IsAnyIndex m) (any_index_at m)
  unfolding any_index_at
  any_index_takes tokens x e = choose (next_word (codes "int") tokens) _ _ e
      (λ word f. made f (worded word) tt)
      (λ other f. let t = step _ (index_takes tokens) f in made t.on t.parts t.fits)

  any_index_again : (o : Option ℕ) (rest : List TokenValue) → IsAnyIndex l o
      → any_index_at m (any_index_toks o ++ rest) ≡ Ok (o, rest)
  unfolding any_index_at
  any_index_again None rest is = refl
  any_index_again (Some n) rest is =
      ap (λ r. r >>= λ k. Ok (Some k.0, k.1)) (index_again n rest is)

  any_index_begun : (o : Option ℕ) (rest : List TokenValue)
      → next_passes begins_index (any_index_toks o ++ rest) ≡ true
  any_index_begun None rest = refl
  any_index_begun (Some n) rest = refl

  pub any_index_law : Law begins_index any_index_toks (IsAnyIndex l) (IsAnyIndex m) (any_index_at m)
  any_index_law = record {
    takes = any_index_takes;
    again = λ o rest is ends. any_index_again o rest is;
    begun = λ o rest is. any_index_begun o rest;
  }

  indexes_takes : Takes (separated any_index_toks) (λ is. IsParamArray m (Some is))
      (separated_at (listed_index m))
  indexes_takes tokens x e =
      let t = separated_takes any_index_toks _ _ (bounded_takes any_index_law most_indexes)
      tokens x e in
      let few = few_of (IsAnyIndex m) most_indexes 0 x.0 (omega arith) t.fits.1 in
      record { parts = t.parts; fits = (t.fits.0, omega (arith, few.0), few.1) }

  indexes_again : (is : List (Option ℕ)) (rest : List TokenValue) → IsParamArray l (Some is)
      → separated_at (listed_index m)
      (separated any_index_toks is ++ (Marked CloseBracket ∷ rest))
      ≡ Ok (is, Marked CloseBracket ∷ rest)
  indexes_again [] rest are = absurd (omega (arith, are.0))
  indexes_again (i ∷ is) rest are =
      separated_again (bounded any_index_law most_indexes) i is (Marked CloseBracket ∷ rest)
      (omega (arith, are.1)) are.2.0 are.2.1 refl refl

  -- ---- the part before a type

  pub param_prefix_takes : Takes param_prefix_toks (IsParamArray m) (param_prefix_at m)
  unfolding param_prefix_at
  param_prefix_takes tokens x e = choose (next_word (codes "array") tokens) _ _ e
      (λ word f.
      let array = step _ (array_takes (separated any_index_toks) (λ is. IsParamArray m (Some is))
      _ indexes_takes (drop 1 tokens)) f in
      made array.on (worded word ⟫ array.parts) array.fits)
      (λ other f. made f none tt)

  pub param_prefix_again : (o : Option (List (Option ℕ))) (rest : List TokenValue)
      → IsParamArray l o → next_word (codes "array") rest ≡ false
      → param_prefix_at m (param_prefix_toks o ++ rest) ≡ Ok (o, rest)
  unfolding param_prefix_at
  param_prefix_again None rest is other = rw other refl
  param_prefix_again (Some indexes) rest is other = ap (λ r. r >>= λ a. Ok (Some a.0, a.1))
      (array_again (separated any_index_toks) _ indexes
      (λ ts. indexes_again indexes ts is) rest)

  pub prefix_takes : Takes prefix_toks (λ o. IfSome o (λ n. n ≤ m.size)) (prefix_at m)
  unfolding prefix_at
  prefix_takes tokens x e = choose (next_word (codes "array") tokens) _ _ e
      (λ word f.
      let array = step _ (array_takes index_toks (λ n. n ≤ m.size) (index_at m) index_takes
      (drop 1 tokens)) f in
      made array.on (worded word ⟫ array.parts) array.fits)
      (λ other f. made f none tt)

  pub prefix_again : (o : Option ℕ) (rest : List TokenValue) → IfSome o (λ n. n ≤ l.size)
      → next_word (codes "array") rest ≡ false
      → prefix_at m (prefix_toks o ++ rest) ≡ Ok (o, rest)
  unfolding prefix_at
  prefix_again None rest is other = rw other refl
  prefix_again (Some n) rest is other = rw (array_again index_toks (index_at m) n
      (λ ts. index_again n (Marked CloseBracket ∷ ts) is) rest) refl
