-- The laws of printed items.
use Rattle.std.proofs.Common.{◌≡◌, ◌<◌, ◌≤◌, ℕ, zero, suc, Bool, true, false, cond, eqb, List, [], ◌∷◌, ◌++◌, length, drop, Ok, refl, sym, ap, subst, ◌∙◌, append_assoc, arith}
use Rattle.std.specs.List.{AllByRecursion, flat_map}
use Rattle.std.specs.Str.{bytes_eq}
use Rattle.std.proofs.lemmas.Bool.Decides.{nat_tests}
use Rattle.std.proofs.lemmas.Slice.Eq.{bytes_eq-Decides}
use Rattle.std.proofs.lemmas.List.{append-nil}
use Rattle.fz_tree.specs.declared.token.Mark.TheVariants.{OpenParen, CloseParen, OpenBracket, CloseBracket, Comma, Semicolon, Equals}
use Rattle.fz_tree.specs.Token.{TokenValue, Word, Marked}
use Rattle.fz_tree.specs.Tree.{Literal, Truth, PrintedValue, OneValue, ArrayOf, Printed}
use Rattle.fz_tree.specs.declared.limits.Limits.{Limits}
use Rattle.fz_tree.specs.Text.{IsLiteral, IsBounds, IsPrintedValue, IsPrinted}
use Rattle.fz_tree.specs.Tokens.{mark, word, literal_toks, separated, array_word, printed_value_toks, printed_toks, itoks}
use Rattle.fz_syntax.specs.Reading.{is_name, ended}
use Rattle.fz_syntax.specs.ReadingItems.{dimensions_of, next_dimensions, index_set_at, index_sets_at, printed_array_at, printed_value_at, printed_at, items_at, items_of}
use Rattle.fz_syntax.proofs.Laws.{Took, Takes, Split, ◌⟫◌, step, next, made, choose, none, mark_takes, mark_again}
use Rattle.fz_syntax.proofs.ListLaws.{Law, Ends, AtMost, bounded, flat_map_first, cons_first, list_again, bounded_list_takes, items_take, items_again}
use Rattle.fz_syntax.proofs.ExprLaws.{Allow, name_takes, name_again, literal_law}
use Rattle.fz_syntax.proofs.TypeLaws.{bounds_takes, bounds_again}

-- ---- the word of an array

abbrev IsArrayWord : List ℕ → ℕ → Type 0
IsArrayWord w n = (w ≡ array_word n) × (1 ≤ n) × (n ≤ 6)

-- one of the six words, or one behind it
word_or : (w : List ℕ) (n k other : ℕ) → 1 ≤ k → k ≤ 6
    → (other ≡ n → 0 < n → IsArrayWord w n) → (b : Bool) → (b ≡ true → w ≡ array_word k)
    → cond b k other ≡ n → 0 < n → IsArrayWord w n
word_or w n k other some few behind true is e more = subst (IsArrayWord w) e (is refl, some, few)
word_or w n k other some few behind false is e more = behind e more

one_of : (w : List ℕ) (n k other : ℕ) → 1 ≤ k → k ≤ 6 → (other ≡ n → 0 < n → IsArrayWord w n)
    → cond (bytes_eq w (array_word k)) k other ≡ n → 0 < n → IsArrayWord w n
one_of w n k other some few behind = word_or w n k other some few behind
    (bytes_eq w (array_word k)) (bytes_eq-Decides w (array_word k)).0

array_word_of : (w : List ℕ) (n : ℕ) → dimensions_of w ≡ n → 0 < n → IsArrayWord w n
array_word_of w n = one_of w n 1 _ (omega arith) (omega arith)
    (one_of w n 2 _ (omega arith) (omega arith) (one_of w n 3 _ (omega arith) (omega arith)
    (one_of w n 4 _ (omega arith) (omega arith) (one_of w n 5 _ (omega arith) (omega arith)
    (one_of w n 6 0 (omega arith) (omega arith) (λ e more. absurd (omega (arith, e, more))))))))

pub array_tokens : (tokens : List TokenValue) → 0 < next_dimensions tokens
    → (tokens ≡ Word (array_word (next_dimensions tokens)) ∷ drop 1 tokens)
    × (1 ≤ next_dimensions tokens) × (next_dimensions tokens ≤ 6)
array_tokens [] some = absurd (omega arith)
array_tokens (Word w ∷ rest) some =
    let is = array_word_of w (dimensions_of w) refl some in
    (ap (λ (k : List ℕ). Word k ∷ rest) is.0, is.1, is.2)
array_tokens (_ ∷ rest) some = absurd (omega arith)

dimensions_again : (n : ℕ) → 1 ≤ n → n ≤ 6 → dimensions_of (array_word n) ≡ n
dimensions_again zero some few = absurd (omega arith)
dimensions_again (suc zero) some few = refl
dimensions_again (suc (suc zero)) some few = refl
dimensions_again (suc (suc (suc zero))) some few = refl
dimensions_again (suc (suc (suc (suc zero)))) some few = refl
dimensions_again (suc (suc (suc (suc (suc zero))))) some few = refl
dimensions_again (suc (suc (suc (suc (suc (suc zero)))))) some few = refl
dimensions_again (suc (suc (suc (suc (suc (suc (suc n))))))) some few = absurd (omega arith)

-- a literal begins no array
no_array : (x : Literal) (rest : List TokenValue) → next_dimensions (literal_toks x ++ rest) ≡ 0
no_array (Truth true) rest = refl
no_array (Truth false) rest = refl
no_array _ rest = refl

some_of : (n : ℕ) → eqb n 0 ≡ false → 0 < n
some_of zero e = absurd cc
some_of (suc n) e = omega arith

not_none : (n : ℕ) → 1 ≤ n → eqb n 0 ≡ false
not_none zero some = absurd (omega arith)
not_none (suc n) some = grind (arith, nat_tests)

abbrev index_set_toks : Literal → List TokenValue
index_set_toks x = literal_toks x ++ mark Comma

abbrev AreIndexSets : Limits → ℕ → List Literal → Type 0
AreIndexSets limits n xs = (length xs ≡ n) × AllByRecursion (IsBounds limits) xs

-- the tokens of an array behind its word
array_flat : (I S rest : List TokenValue)
    → Marked OpenParen ∷ (((I ++ (Marked OpenBracket ∷ S)) ++ mark CloseParen) ++ rest)
    ≡ Marked OpenParen ∷ (I ++ (Marked OpenBracket ∷ (S ++ (Marked CloseParen ∷ rest))))
array_flat I S rest = simp append_assoc

-- Reading under limits that are no smaller.
module _ (l m : Limits) (allow : Allow l m) where
  -- ---- index sets

  index_set_takes : Takes index_set_toks (IsBounds m) (index_set_at m)
  unfolding index_set_at
  index_set_takes tokens x e =
      let bounds = step _ (bounds_takes l m allow tokens) e in
      let comma = step _ (mark_takes Comma bounds.left) bounds.on in
      made comma.on (bounds.parts ⟫ comma.parts) bounds.fits

  pub index_sets_take : (n : ℕ)
      → Takes (flat_map index_set_toks) (AreIndexSets m n) (index_sets_at m n)
  unfolding index_sets_at
  index_sets_take zero tokens x e = made e none (refl, tt)
  index_sets_take (suc n) tokens x e =
      let set = step _ (index_set_takes tokens) e in
      let sets = step _ (index_sets_take n set.left) set.on in
      made sets.on (cons_first index_set_toks set.value sets.value (set.parts ⟫ sets.parts))
      (ap suc sets.fits.0, (set.fits, sets.fits.1))

  index_set_again : (x : Literal) (rest : List TokenValue) → IsBounds l x
      → index_set_at m (index_set_toks x ++ rest) ≡ Ok (x, rest)
  unfolding index_set_at
  index_set_again x rest is =
      ap (index_set_at m) (append_assoc (literal_toks x) (mark Comma) rest)
      ∙ rw (bounds_again l m allow x (Marked Comma ∷ rest) is, mark_again Comma rest) refl

  index_sets_again : (xs : List Literal) (rest : List TokenValue) → AllByRecursion (IsBounds l) xs
      → index_sets_at m (length xs) (flat_map index_set_toks xs ++ rest) ≡ Ok (xs, rest)
  unfolding index_sets_at
  index_sets_again [] rest are = refl
  index_sets_again (x ∷ xs) rest are =
      ap (index_sets_at m (suc (length xs))) (flat_map_first index_set_toks x xs rest)
      ∙ rw (
        index_set_again x (flat_map index_set_toks xs ++ rest) are.0,
        index_sets_again xs rest are.1,
      ) refl

  -- ---- values

  printed_array_takes : (n : ℕ) (tokens : List TokenValue) (x : PrintedValue × List TokenValue)
      → 1 ≤ n → n ≤ 6 → printed_array_at m n tokens ≡ Ok x
      → Took printed_value_toks (IsPrintedValue m) (Word (array_word n) ∷ tokens) x
  unfolding printed_array_at
  printed_array_takes n tokens x some few e =
      next _ (mark_takes OpenParen tokens) e (λ opened.
      next _ (index_sets_take n opened.left) opened.on (λ indexes.
      next _ (mark_takes OpenBracket indexes.left) indexes.on (λ bracket.
      next _ (bounded_list_takes (literal_law l m allow) m.elements CloseBracket bracket.left)
      bracket.on (λ elements.
      next _ (mark_takes CloseParen elements.left) elements.on (λ closed.
      let count : length indexes.value ≡ n = indexes.fits.0 in
      let worded : Split (Word (array_word n) ∷ tokens)
      (word (array_word (length indexes.value))) tokens =
      record { is = ap (λ (k : ℕ). Word (array_word k) ∷ tokens) (sym count) } in
      made closed.on (worded ⟫ (opened.parts ⟫ indexes.parts ⟫ (bracket.parts ⟫ elements.parts)
      ⟫ closed.parts))
      (omega arith, omega arith, indexes.fits.1, elements.fits.0, elements.fits.1))))))

  printed_value_takes : Takes printed_value_toks (IsPrintedValue m) (printed_value_at m)
  unfolding printed_value_at
  printed_value_takes tokens x e = choose (eqb (next_dimensions tokens) 0) _ _ e
      (λ one f. let t = step _ ((literal_law l m allow).takes tokens) f in made t.on t.parts t.fits)
      (λ array f.
      let is = array_tokens tokens (some_of (next_dimensions tokens) array) in
      let t = printed_array_takes (next_dimensions tokens) (drop 1 tokens) x is.1 is.2 f in
      record { parts = is.0 ∙ t.parts; fits = t.fits })

  printed_array_again : (xs es : List Literal) (rest : List TokenValue)
      → AllByRecursion (IsBounds l) xs → AtMost l.elements (IsLiteral l) es
      → printed_array_at m (length xs) (drop 1 (printed_value_toks (ArrayOf xs es) ++ rest))
      ≡ Ok (ArrayOf xs es, rest)
  unfolding printed_array_at
  printed_array_again xs es rest sets elements =
      let I : List TokenValue = flat_map index_set_toks xs in
      let S : List TokenValue = separated literal_toks es ++ mark CloseBracket in
      let Y : List TokenValue = S ++ (Marked CloseParen ∷ rest) in
      ap (printed_array_at m (length xs)) (array_flat I S rest)
      ∙ rw (
        mark_again OpenParen (I ++ (Marked OpenBracket ∷ Y)),
        index_sets_again xs (Marked OpenBracket ∷ Y) sets,
        mark_again OpenBracket Y,
        list_again (bounded (literal_law l m allow) m.elements) CloseBracket refl refl refl es
            (Marked CloseParen ∷ rest) (omega (arith, elements.0, allow.elements)) elements.1,
        mark_again CloseParen rest,
      ) refl

  printed_value_again : (v : PrintedValue) (rest : List TokenValue) → IsPrintedValue l v
      → Ends rest → printed_value_at m (printed_value_toks v ++ rest) ≡ Ok (v, rest)
  unfolding printed_value_at
  printed_value_again (OneValue x) rest is ends =
      rw (no_array x rest, (literal_law l m allow).again x rest is ends) refl
  printed_value_again (ArrayOf xs es) rest (some, few, sets, most, literals) ends =
      rw (
        dimensions_again (length xs) some few,
        not_none (length xs) some,
        printed_array_again xs es rest sets (most, literals),
      ) refl

  -- ---- items

  printed_takes : Takes printed_toks (IsPrinted m) (printed_at m)
  unfolding printed_at
  printed_takes tokens x e =
      next _ (name_takes tokens) e (λ name.
      next _ (mark_takes Equals name.left) name.on (λ equals.
      next _ (printed_value_takes equals.left) equals.on (λ value.
      next _ (mark_takes Semicolon value.left) value.on (λ end.
      made end.on (name.parts ⟫ equals.parts ⟫ value.parts ⟫ end.parts)
      (record { name = name.fits; value = value.fits })))))

  printed_again : (p : Printed) (rest : List TokenValue) → IsPrinted l p
      → printed_at m (printed_toks p ++ rest) ≡ Ok (p, rest)
  unfolding printed_at
  printed_again p rest is =
      let V : List TokenValue = printed_value_toks p.value in
      let Z : List TokenValue = Marked Semicolon ∷ rest in
      simp append_assoc (rw (
        name_again p.name (Marked Equals ∷ (V ++ Z)) is.name,
        mark_again Equals (V ++ Z),
        printed_value_again p.value Z is.value refl,
        mark_again Semicolon rest,
      ) refl)

  pub printed_law : Law is_name printed_toks (IsPrinted l) (IsPrinted m) (printed_at m)
  printed_law = record {
    takes = printed_takes;
    again = λ p rest is ends. printed_again p rest is;
    begun = λ p rest is. rw is.name refl;
  }

  pub items_takes : Takes itoks (AllByRecursion (IsPrinted m)) (items_at m)
  unfolding items_at
  items_takes = items_take printed_law

  pub items_of_toks : (ps : List Printed) → AllByRecursion (IsPrinted l) ps
      → items_of m (itoks ps) ≡ Ok ps
  unfolding items_of items_at ended
  items_of_toks ps are = ap (items_of m) (sym (append-nil (itoks ps)))
      ∙ rw (items_again printed_law printed_again ps [] are refl) refl
