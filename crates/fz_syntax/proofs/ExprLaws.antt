-- The laws of literals and expressions.
use Rattle.std.proofs.Common.{◌≡◌, ℕ, ℤ, ◌≤◌, Bool, true, false, List, [], ◌∷◌, ◌++◌, length, drop, Ok, refl, ◌∙◌, arith, ◌||◌}
use Rattle.std.specs.Prelude.{codes}
use Rattle.std.specs.List.{AllByRecursion}
use Rattle.fz_tree.specs.declared.token.Mark.TheVariants.{OpenBracket, CloseBracket, OpenBrace, CloseBrace, DotDot}
use Rattle.fz_tree.specs.Token.{TokenValue, Word, Whole, Marked}
use Rattle.fz_tree.specs.Tree.{Literal, Number, Truth, Range, Braces, Basic, Lit, Named, Expr, One, Several}
use Rattle.fz_tree.specs.Tokens.{mark, number_toks, literal_toks, word, basic_toks, expr_toks, separated}
use Rattle.fz_tree.specs.declared.limits.Limits.{Limits}
use Rattle.fz_tree.specs.Text.{is_reserved, IsName, IsLiteral, IsBounds, IsBasic, IsExpr, IsLiteralBasic}
use Rattle.fz_syntax.specs.Reading.{is_mark, is_word, next_passes, next_is, next_word, whole_at, name_at, is_whole, is_name, braces_at, from_whole, literal_at, basic_at, expr_at, literal_basic_at}
use Rattle.fz_syntax.proofs.Laws.{Always, Took, Takes, ◌⟫◌, step, made, choose, refused, first, marked, worded}
use Rattle.fz_syntax.proofs.ListLaws.{Law, Ends, no_range, fits_more, apart, bounded, list_again, bounded_list_takes}

-- limits that are no smaller
pub record Allow (less more : Limits) : Type 0 where
  pub elements : less.elements ≤ more.elements
  pub size : less.size ≤ more.size
  pub depth : less.depth ≤ more.depth

pub same : (limits : Limits) → Allow limits limits
same limits = record { elements = omega arith; size = omega arith; depth = omega arith }

-- ---- integers and names

pub whole_takes : Takes number_toks Always whole_at
unfolding whole_at
whole_takes (Whole n ∷ ts) x e = made e first tt
whole_takes _ x e = refused e

whole_again : (n : ℤ) (rest : List TokenValue) → whole_at (Whole n ∷ rest) ≡ Ok (n, rest)
unfolding whole_at
whole_again n rest = refl

pub whole_law : Law is_whole number_toks Always Always whole_at
whole_law = record {
  takes = whole_takes;
  again = λ n rest is ends. whole_again n rest;
  begun = λ n rest is. refl;
}

pub name_takes : Takes word IsName name_at
unfolding name_at
name_takes (Word w ∷ ts) x e =
    choose (is_reserved w) _ _ e (λ reserved f. refused f) (λ free f. made f first free)
name_takes _ x e = refused e

pub name_again : (name : List ℕ) (rest : List TokenValue) → IsName name
    → name_at (Word name ∷ rest) ≡ Ok (name, rest)
unfolding name_at
name_again name rest is = rw is refl

-- ---- what a literal begins with

abbrev pub begins_literal : TokenValue → Bool
begins_literal t =
    is_whole t || (is_word (codes "true") t || (is_word (codes "false") t || is_mark OpenBrace t))

pub literal_begun : (x : Literal) (rest : List TokenValue)
    → next_passes begins_literal (literal_toks x ++ rest) ≡ true
literal_begun (Truth true) rest = refl
literal_begun (Truth false) rest = refl
literal_begun _ rest = refl

-- it isn't a name
pub literal_no_name : (x : Literal) (rest : List TokenValue)
    → next_passes is_name (literal_toks x ++ rest) ≡ false
literal_no_name (Truth true) rest = refl
literal_no_name (Truth false) rest = refl
literal_no_name _ rest = refl

-- where one of two tests is passed
pub first_of_two : (f g : TokenValue → Bool) (tokens : List TokenValue)
    → next_passes f tokens ≡ true → next_passes (λ t. f t || g t) tokens ≡ true
first_of_two f g [] e = e
first_of_two f g (t ∷ ts) e = rw e refl

pub second_of_two : (f g : TokenValue → Bool) (tokens : List TokenValue)
    → next_passes g tokens ≡ true → next_passes (λ t. f t || g t) tokens ≡ true
second_of_two f g [] e = e
second_of_two f g (t ∷ ts) e = or_true (f t) (g t) e
  where
    or_true : (a b : Bool) → b ≡ true → (a || b) ≡ true
    or_true true b h = refl
    or_true false b h = h

abbrev pub begins_basic : TokenValue → Bool
begins_basic t = is_name t || begins_literal t

abbrev pub begins_expr : TokenValue → Bool
begins_expr t = is_mark OpenBracket t || begins_basic t

pub all_always : {A : Type 0} (xs : List A) → AllByRecursion Always xs
all_always [] = tt
all_always (x ∷ xs) = (tt, all_always xs)

literal_of_bounds : (limits : Limits) (x : Literal) → IsBounds limits x → IsLiteral limits x
literal_of_bounds limits (Braces numbers) is = is
literal_of_bounds limits _ is = tt

-- Reading under limits that are no smaller.
module _ (l m : Limits) (allow : Allow l m) where
  -- ---- literals

  pub braces_take : (tokens : List TokenValue) (x : Literal × List TokenValue)
      → braces_at m tokens ≡ Ok x → Took literal_toks (IsBounds m) (Marked OpenBrace ∷ tokens) x
  unfolding braces_at
  braces_take tokens x e =
      let numbers = step _ (bounded_list_takes whole_law m.elements CloseBrace tokens) e in
      made numbers.on (first ⟫ numbers.parts) numbers.fits.0

  pub braces_again : (numbers : List ℤ) (rest : List TokenValue) → length numbers ≤ l.elements
      → braces_at m ((separated number_toks numbers ++ mark CloseBrace) ++ rest)
      ≡ Ok (Braces numbers, rest)
  unfolding braces_at
  braces_again numbers rest fits =
      rw (list_again (bounded whole_law m.elements) CloseBrace refl refl refl numbers rest
      (omega arith) (all_always numbers)) refl

  from_whole_takes : (low : ℤ) (tokens : List TokenValue) (x : Literal × List TokenValue)
      → from_whole low tokens ≡ Ok x → Took literal_toks (IsLiteral m) (Whole low ∷ tokens) x
  unfolding from_whole
  from_whole_takes low tokens x e = choose (next_is DotDot tokens) _ _ e
      (λ dots f.
      let high = step _ (whole_takes (drop 1 tokens)) f in
      made high.on (first ⟫ marked dots ⟫ high.parts) tt)
      (λ other f. made f first tt)

  literal_takes : Takes literal_toks (IsLiteral m) (literal_at m)
  unfolding literal_at
  literal_takes tokens x e = choose (next_passes is_whole tokens) _ _ e
      (λ whole f.
      let low = step _ (whole_takes tokens) f in
      let t = from_whole_takes low.value low.left x low.on in
      record { parts = low.parts.is ∙ t.parts; fits = t.fits })
      (λ other f. choose (next_word (codes "true") tokens) _ _ f
      (λ word g. made g (worded word) tt)
      (λ other g. choose (next_word (codes "false") tokens) _ _ g
      (λ word h. made h (worded word) tt)
      (λ other h. choose (next_is OpenBrace tokens) _ _ h
      (λ brace k.
      let t = braces_take (drop 1 tokens) x k in
      record { parts = (marked brace).is ∙ t.parts; fits = literal_of_bounds m x.0 t.fits })
      (λ other k. refused k))))

  literal_again : (x : Literal) (rest : List TokenValue) → IsLiteral l x → Ends rest
      → literal_at m (literal_toks x ++ rest) ≡ Ok (x, rest)
  unfolding literal_at whole_at from_whole
  literal_again (Number n) rest is ends = rw (no_range rest ends) refl
  literal_again (Truth true) rest is ends = refl
  literal_again (Truth false) rest is ends = refl
  literal_again (Range low high) rest is ends = refl
  literal_again (Braces numbers) rest is ends = braces_again numbers rest is

  pub literal_law : Law begins_literal literal_toks (IsLiteral l) (IsLiteral m) (literal_at m)
  literal_law = record {
    takes = literal_takes;
    again = literal_again;
    begun = λ x rest is. literal_begun x rest;
  }

  -- ---- basic expressions

  basic_takes : Takes basic_toks (IsBasic m) (basic_at m)
  unfolding basic_at
  basic_takes tokens x e = choose (next_passes is_name tokens) _ _ e
      (λ named f. let name = step _ (name_takes tokens) f in made name.on name.parts name.fits)
      (λ other f. let t = step _ (literal_takes tokens) f in made t.on t.parts t.fits)

  basic_again : (x : Basic) (rest : List TokenValue) → IsBasic l x → Ends rest
      → basic_at m (basic_toks x ++ rest) ≡ Ok (x, rest)
  unfolding basic_at
  basic_again (Named name) rest is ends = rw (is, name_again name rest is) refl
  basic_again (Lit x) rest is ends =
      rw (literal_no_name x rest, literal_again x rest is ends) refl

  basic_begun : (x : Basic) (rest : List TokenValue) → IsBasic m x
      → next_passes begins_basic (basic_toks x ++ rest) ≡ true
  basic_begun (Named name) rest is = rw is refl
  basic_begun (Lit x) rest is =
      second_of_two is_name begins_literal (literal_toks x ++ rest) (literal_begun x rest)

  pub basic_law : Law begins_basic basic_toks (IsBasic l) (IsBasic m) (basic_at m)
  basic_law = record { takes = basic_takes; again = basic_again; begun = basic_begun }

  -- ---- lists of them, or one

  expr_takes : Takes expr_toks (IsExpr m) (expr_at m)
  unfolding expr_at
  expr_takes tokens x e = choose (next_is OpenBracket tokens) _ _ e
      (λ bracket f.
      let bs = step _ (bounded_list_takes basic_law m.elements CloseBracket (drop 1 tokens)) f in
      made bs.on (marked bracket ⟫ bs.parts) bs.fits)
      (λ other f. let b = step _ (basic_takes tokens) f in made b.on b.parts b.fits)

  expr_again : (x : Expr) (rest : List TokenValue) → IsExpr l x → Ends rest
      → expr_at m (expr_toks x ++ rest) ≡ Ok (x, rest)
  unfolding expr_at
  expr_again (Several bs) rest is ends =
      rw (list_again (bounded basic_law m.elements) CloseBracket refl refl refl bs rest
      (omega (arith, is.0)) is.1) refl
  expr_again (One b) rest is ends =
      let begun = basic_begun b rest (fits_more basic_law b is) in
      let other = apart begins_basic OpenBracket (basic_toks b ++ rest) refl begun in
      rw (other, basic_again b rest is ends) refl

  expr_begun : (x : Expr) (rest : List TokenValue) → IsExpr m x
      → next_passes begins_expr (expr_toks x ++ rest) ≡ true
  expr_begun (Several bs) rest is = refl
  expr_begun (One b) rest is =
      second_of_two (is_mark OpenBracket) begins_basic (basic_toks b ++ rest)
      (basic_begun b rest is)

  pub expr_law : Law begins_expr expr_toks (IsExpr l) (IsExpr m) (expr_at m)
  expr_law = record { takes = expr_takes; again = expr_again; begun = expr_begun }

  -- ---- literals as basic expressions

  literal_basic_takes : Takes basic_toks (IsLiteralBasic m) (literal_basic_at m)
  unfolding literal_basic_at
  literal_basic_takes tokens x e =
      let t = step _ (literal_takes tokens) e in made t.on t.parts t.fits

  literal_basic_again : (x : Basic) (rest : List TokenValue) → IsLiteralBasic l x → Ends rest
      → literal_basic_at m (basic_toks x ++ rest) ≡ Ok (x, rest)
  unfolding literal_basic_at
  literal_basic_again (Lit x) rest is ends = rw (literal_again x rest is ends) refl
  literal_basic_again (Named name) rest is ends = absurd is

  literal_basic_begun : (x : Basic) (rest : List TokenValue) → IsLiteralBasic m x
      → next_passes begins_literal (basic_toks x ++ rest) ≡ true
  literal_basic_begun (Lit x) rest is = literal_begun x rest
  literal_basic_begun (Named name) rest is = absurd is

  pub literal_basic_law : Law begins_literal basic_toks (IsLiteralBasic l) (IsLiteralBasic m)
      (literal_basic_at m)
  literal_basic_law = record {
    takes = literal_basic_takes;
    again = literal_basic_again;
    begun = literal_basic_begun;
  }
