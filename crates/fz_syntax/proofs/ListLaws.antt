-- The laws of parts one after another and of lists with commas follow from those of their elements.
use Rattle.std.proofs.Common.{◌≡◌, ℕ, zero, suc, ◌+◌, ◌≤◌, ◌<◌, Bool, true, false, eqb, List, [], ◌∷◌, ◌++◌, length, drop, Ok, ⊎_elim, refl, sym, ap, subst, ◌∙◌, append_assoc, arith, length-append, ◌||◌, nat_le}
use Rattle.std.specs.List.{flat_map, AllByRecursion}
use Rattle.std.proofs.lemmas.Bool.{eq-eqb, leb-false, lt-leb, cases_Bool}
use Rattle.std.specs.Str.{bytes_eq}
use Rattle.std.proofs.lemmas.Slice.Eq.{bytes_eq-Decides}
use Rattle.std.proofs.lemmas.List.Concat.{flat_map-cons}
use Rattle.fz_tree.specs.declared.token.Mark.{Mark}
use Rattle.fz_tree.specs.declared.token.Mark.TheVariants.{OpenParen, Comma, DotDot}
use Rattle.fz_tree.specs.Token.{TokenValue, Word, Marked}
use Rattle.fz_tree.specs.Tokens.{separated, mark}
use Rattle.fz_syntax.specs.Reading.{mark_number, next_word, Reader, ◌>>=◌, is_mark, next_passes, next_is, many_upto, many_at, after_token, separated_at, list_at, any_number, at_most}
use Rattle.fz_syntax.proofs.Lists.{Shrinks, many_step, many_ends}
use Rattle.fz_syntax.proofs.Separated.{Shrinks-after_token}
use Rattle.fz_syntax.proofs.Laws.{same_mark, Took, Takes, Split, ◌⟫◌, step, made, choose, refused, none, marked, split_of, mark_takes, mark_again}

-- What follows a part doesn't go on with it: it is neither the dots of a range nor the parenthesis
-- of arguments.
abbrev pub goes_on : TokenValue → Bool
goes_on t = is_mark DotDot t || is_mark OpenParen t

abbrev pub Ends : List TokenValue → Type 0
Ends rest = next_passes goes_on rest ≡ false

neither : (a b : Bool) → (a || b) ≡ false → (a ≡ false) × (b ≡ false)
neither true b e = absurd cc
neither false b e = (refl, e)

pub no_range : (rest : List TokenValue) → Ends rest → next_is DotDot rest ≡ false
no_range [] ends = refl
no_range (t ∷ ts) ends = (neither (is_mark DotDot t) (is_mark OpenParen t) ends).0

pub no_args : (rest : List TokenValue) → Ends rest → next_is OpenParen rest ≡ false
no_args [] ends = refl
no_args (t ∷ ts) ends = (neither (is_mark DotDot t) (is_mark OpenParen t) ends).1

-- The laws of a production: what is read is spelled so and fits, what fits and is spelled so is
-- read again, also under larger limits, and how it begins.
pub record Law {A : Type 0} (begins : TokenValue → Bool) (toks : A → List TokenValue)
    (Less Is : A → Type 0) (read : Reader A) : Type 0 where
  pub takes : Takes toks Is read
  pub again : (x : A) (rest : List TokenValue) → Less x → Ends rest
      → read (toks x ++ rest) ≡ Ok (x, rest)
  pub begun : (x : A) (rest : List TokenValue) → Is x
      → next_passes begins (toks x ++ rest) ≡ true

-- what begins so begins with no other mark
pub apart : (begins : TokenValue → Bool) (m : Mark) (tokens : List TokenValue)
    → begins (Marked m) ≡ false → next_passes begins tokens ≡ true → next_is m tokens ≡ false
apart begins m [] never begun = refl
apart begins m (Marked n ∷ rest) never begun =
    ⊎_elim (λ e. let same = same_mark m n e in absurd cc) (λ e. e)
    (cases_Bool (is_mark m (Marked n)))
apart begins m (_ ∷ rest) never begun = refl

-- and with no other word
pub apart_word : (begins : TokenValue → Bool) (text : List ℕ) (tokens : List TokenValue)
    → begins (Word text) ≡ false → next_passes begins tokens ≡ true
    → next_word text tokens ≡ false
apart_word begins text [] never begun = refl
apart_word begins text (Word w ∷ rest) never begun =
    ⊎_elim (λ e. let same = (bytes_eq-Decides w text).0 e in absurd cc) (λ e. e)
    (cases_Bool (bytes_eq w text))
apart_word begins text (_ ∷ rest) never begun = refl

-- ---- parts one after another

-- each element at its index
abbrev pub AllFrom : {A : Type 0} → (ℕ → A → Type 0) → ℕ → List A → Type 0
AllFrom Is i [] = Unit {0}
AllFrom Is i (x ∷ xs) = Is i x × AllFrom Is (i + 1) xs

pub all_of : {A : Type 0} (Is : A → Type 0) (i : ℕ) (xs : List A) → AllFrom (λ _. Is) i xs
    → AllByRecursion Is xs
all_of Is i [] h = tt
all_of Is i (x ∷ xs) h = (h.0, all_of Is (i + 1) xs h.1)

pub few_of : {A : Type 0} (Is : A → Type 0) (limit i : ℕ) (xs : List A) → i ≤ limit
    → AllFrom (λ k x. (k < limit) × Is x) i xs → (i + length xs ≤ limit) × AllByRecursion Is xs
few_of Is limit i [] le h = (omega arith, tt)
few_of Is limit i (x ∷ xs) le h =
    let others = few_of Is limit (i + 1) xs (omega (arith, h.0.0)) h.1 in
    (omega (arith, others.0), (h.0.1, others.1))

pub flat_map_first : {A : Type 0} (toks : A → List TokenValue) (x : A) (xs : List A)
    (rest : List TokenValue)
    → flat_map toks (x ∷ xs) ++ rest ≡ toks x ++ (flat_map toks xs ++ rest)
flat_map_first toks x xs rest = ap (λ (ys : List TokenValue). ys ++ rest) (flat_map-cons toks x xs)
    ∙ append_assoc (toks x) (flat_map toks xs) rest

pub cons_first : {A : Type 0} (toks : A → List TokenValue) (x : A) (xs : List A)
    {tokens rest : List TokenValue} → Split tokens (toks x ++ flat_map toks xs) rest
    → Split tokens (flat_map toks (x ∷ xs)) rest
cons_first toks x xs {tokens} {rest} s =
    subst (λ ts. Split tokens ts rest) (sym (flat_map-cons toks x xs)) s

many_upto_takes : {A : Type 0} (toks : A → List TokenValue) (Is : ℕ → A → Type 0)
    (more : TokenValue → Bool) (part : ℕ → Reader A)
    → ((i : ℕ) (tokens : List TokenValue) → next_passes more tokens ≡ true
    → (x : A × List TokenValue) → part i tokens ≡ Ok x → Took toks (Is i) tokens x)
    → (fuel i : ℕ) → Takes (flat_map toks) (AllFrom Is i) (many_upto fuel more part i)
unfolding many_upto
many_upto_takes toks Is more part takes zero i tokens xs e = made e none tt
many_upto_takes toks Is more part takes (suc fuel) i tokens xs e =
    choose (next_passes more tokens) _ _ e
    (λ wanted f.
    let first = step _ (takes i tokens wanted) f in
    let others =
    step _ (many_upto_takes toks Is more part takes fuel (i + 1) first.left) first.on in
    made others.on (cons_first toks first.value others.value (first.parts ⟫ others.parts))
    (first.fits, others.fits))
    (λ over f. made f none tt)

pub many_takes : {A : Type 0} (toks : A → List TokenValue) (Is : ℕ → A → Type 0)
    (more : TokenValue → Bool) (part : ℕ → Reader A)
    → ((i : ℕ) (tokens : List TokenValue) → next_passes more tokens ≡ true
    → (x : A × List TokenValue) → part i tokens ≡ Ok x → Took toks (Is i) tokens x)
    → (i : ℕ) → Takes (flat_map toks) (AllFrom Is i) (many_at more part i)
unfolding many_at
many_takes toks Is more part takes i tokens =
    many_upto_takes toks Is more part takes (length tokens) i tokens

-- ---- elements with commas between them

pub separated_takes : {A : Type 0} (toks : A → List TokenValue) (Is : ℕ → A → Type 0)
    (element : ℕ → Reader A) → ((i : ℕ) → Takes toks (Is i) (element i))
    → Takes (separated toks) (λ xs. (1 ≤ length xs) × AllFrom Is 0 xs) (separated_at element)
unfolding separated_at
separated_takes {A} toks Is element takes tokens xs e =
    let behind : A → List TokenValue = λ x. Marked Comma ∷ toks x in
    let first = step _ (takes 0 tokens) e in
    let others = step _ (many_takes behind Is (is_mark Comma) (after_token element)
    (λ i ys wanted x found. let t = takes i (drop 1 ys) x found in
    record { parts = (marked wanted ⟫ split_of t).is; fits = t.fits })
    1 first.left) first.on in
    made others.on (first.parts ⟫ others.parts) (omega arith, (first.fits, others.fits))

pub list_takes : {A : Type 0} (toks : A → List TokenValue) (Is : ℕ → A → Type 0) (close : Mark)
    (element : ℕ → Reader A) → ((i : ℕ) → Takes toks (Is i) (element i))
    → Takes (λ xs. separated toks xs ++ mark close) (AllFrom Is 0) (list_at close element)
unfolding list_at
list_takes toks Is close element takes tokens xs e = choose (next_is close tokens) _ _ e
    (λ closed f. made f (marked closed) tt)
    (λ filled f.
    let elements = step _ (separated_takes toks Is element takes tokens) f in
    let end = step _ (mark_takes close elements.left) elements.on in
    made end.on (elements.parts ⟫ end.parts) elements.fits.1)

-- ---- what is spelled so is read again

-- what is so of the tokens of each part is so of those of all, where it is so behind them
pub each_before : {A : Type 0} (E : List TokenValue → Type 0) (toks : A → List TokenValue)
    (Less : A → Type 0) → ((x : A) (rest : List TokenValue) → Less x → E (toks x ++ rest))
    → (xs : List A) (rest : List TokenValue) → AllByRecursion Less xs → E rest
    → E (flat_map toks xs ++ rest)
each_before E toks Less each [] rest are h = h
each_before E toks Less each (x ∷ xs) rest are h =
    subst E (sym (flat_map_first toks x xs rest)) (each x (flat_map toks xs ++ rest) are.0)

pub many_again : {A : Type 0} (E : List TokenValue → Type 0) (toks : A → List TokenValue)
    (Less : A → Type 0) (more : TokenValue → Bool) (part : ℕ → Reader A) → Shrinks part → (n : ℕ)
    → ((i : ℕ) (x : A) (rest : List TokenValue) → i < n → Less x → E rest
    → part i (toks x ++ rest) ≡ Ok (x, rest))
    → ((x : A) (rest : List TokenValue) → Less x → next_passes more (toks x ++ rest) ≡ true)
    → ((x : A) (rest : List TokenValue) → Less x → E (toks x ++ rest))
    → (i : ℕ) (xs : List A) (rest : List TokenValue) → i + length xs ≤ n → AllByRecursion Less xs
    → E rest → next_passes more rest ≡ false
    → many_at more part i (flat_map toks xs ++ rest) ≡ Ok (xs, rest)
many_again E toks Less more part shrinks n again wants each i [] rest fits is h over =
    many_ends more part i rest over
many_again E toks Less more part shrinks n again wants each i (x ∷ xs) rest fits is h over =
    let behind : List TokenValue = flat_map toks xs ++ rest in
    let one = many_step more part shrinks i (toks x ++ behind) x behind (wants x behind is.0)
    (again i x behind (omega arith) is.0 (each_before E toks Less each xs rest is.1 h)) in
    let others = many_again E toks Less more part shrinks n again wants each (i + 1) xs rest
    (omega arith) is.1 h over in
    ap (many_at more part i) (flat_map_first toks x xs rest) ∙ one
    ∙ ap (λ r. r >>= λ ys. Ok (x ∷ ys.0, ys.1)) others

-- The elements of a list that has at most so many: each of them, by its index.
pub record Elements {A : Type 0} (begins : TokenValue → Bool) (toks : A → List TokenValue)
    (Less : A → Type 0) (limit : ℕ) (element : ℕ → Reader A) : Type 0 where
  pub shrinks : Shrinks element
  pub again : (i : ℕ) (x : A) (rest : List TokenValue) → i < limit → Less x → Ends rest
      → element i (toks x ++ rest) ≡ Ok (x, rest)
  pub begun : (x : A) (rest : List TokenValue) → Less x
      → next_passes begins (toks x ++ rest) ≡ true

module _ {A : Type 0} {begins : TokenValue → Bool} {toks : A → List TokenValue}
    {Less : A → Type 0} {limit : ℕ} {element : ℕ → Reader A}
    (law : Elements begins toks Less limit element) where
  abbrev behind : A → List TokenValue
  behind x = Marked Comma ∷ toks x

  pub separated_again : (x : A) (xs : List A) (rest : List TokenValue) → length xs + 1 ≤ limit
      → Less x → AllByRecursion Less xs → Ends rest → next_is Comma rest ≡ false
      → separated_at element (separated toks (x ∷ xs) ++ rest) ≡ Ok (x ∷ xs, rest)
  unfolding separated_at
  separated_again x xs rest fits is all h over =
      let end = each_before Ends behind Less (λ y ts it. refl) xs rest all h in
      let others = many_again Ends behind Less (is_mark Comma) (after_token element)
      (Shrinks-after_token element law.shrinks) limit law.again (λ y ts it. refl)
      (λ y ts it. refl) 1 xs rest (omega arith) all h over in
      ap (separated_at element) (append_assoc (toks x) (flat_map behind xs) rest)
      ∙ rw (law.again 0 x (flat_map behind xs ++ rest) (omega arith) is end, others) refl

  pub list_again : (close : Mark) → goes_on (Marked close) ≡ false
      → is_mark Comma (Marked close) ≡ false → begins (Marked close) ≡ false
      → (xs : List A) (rest : List TokenValue) → length xs ≤ limit → AllByRecursion Less xs
      → list_at close element ((separated toks xs ++ mark close) ++ rest) ≡ Ok (xs, rest)
  unfolding list_at
  list_again close ends other never [] rest fits all =
      let same : eqb (mark_number close) (mark_number close) ≡ true = eq-eqb _ _ refl in
      rw same refl
  list_again close ends other never (x ∷ xs) rest fits all =
      let after : List TokenValue = Marked close ∷ rest in
      let elements = separated_again x xs after (omega arith) all.0 all.1 ends other in
      let open_still : next_is close (separated toks (x ∷ xs) ++ after) ≡ false =
      rw (append_assoc (toks x) (flat_map behind xs) after)
      (apart begins close _ never (law.begun x (flat_map behind xs ++ after) all.0)) in
      ap (list_at close element) (append_assoc (separated toks (x ∷ xs)) (mark close) rest)
      ∙ rw (open_still, elements, mark_again close rest) refl

-- ---- elements of a list, with and without a limit

some_tokens : (begins : TokenValue → Bool) (ts : List TokenValue)
    → next_passes begins (ts ++ []) ≡ true → 0 < length ts
some_tokens begins [] h = absurd cc
some_tokens begins (t ∷ ts) h = omega arith

abbrev pub AtMost : {A : Type 0} → ℕ → (A → Type 0) → List A → Type 0
AtMost limit Is xs = (length xs ≤ limit) × AllByRecursion Is xs

module _ {A : Type 0} {begins : TokenValue → Bool} {toks : A → List TokenValue}
    {Less Is : A → Type 0} {read : Reader A} (law : Law begins toks Less Is read) where
  -- what is read takes a token at least
  shortens : (tokens : List TokenValue) (x : A) (rest : List TokenValue)
      → read tokens ≡ Ok (x, rest) → length rest < length tokens
  shortens tokens x rest e =
      let t = law.takes tokens (x, rest) e in
      omega (
        arith,
        ap length t.parts,
        length-append (toks x) rest,
        some_tokens begins (toks x) (law.begun x [] t.fits),
      )

  -- what fits under smaller limits fits
  pub fits_more : (x : A) → Less x → Is x
  fits_more x is = (law.takes _ (x, []) (law.again x [] is refl)).fits

  pub unbounded : (limit : ℕ) → Elements begins toks Less limit (any_number read)
  unbounded limit = record {
    shrinks = λ i. shortens;
    again = λ i x rest lt. law.again x rest;
    begun = λ x rest is. law.begun x rest (fits_more x is);
  }

  -- an element is read only where there is room
  pub bounded_takes : (limit i : ℕ)
      → Takes toks (λ x. (i < limit) × Is x) (at_most limit read i)
  bounded_takes limit i tokens x e = choose (nat_le limit i) _ _ e (λ full f. refused f)
      (λ free f. let t = law.takes tokens x f in
      record { parts = t.parts; fits = (leb-false limit i free, t.fits) })

  pub bounded : (limit : ℕ) → Elements begins toks Less limit (at_most limit read)
  bounded limit = record {
    shrinks = λ i tokens x rest e. choose (nat_le limit i) _ _ e (λ full f. refused f)
        (λ free f. shortens tokens x rest f);
    again = λ i x rest lt is ends. rw (lt-leb limit i lt) (law.again x rest is ends);
    begun = λ x rest is. law.begun x rest (fits_more x is);
  }

  -- ---- lists, with and without a limit

  pub bounded_list_takes : (limit : ℕ) (close : Mark)
      → Takes (λ xs. separated toks xs ++ mark close) (AtMost limit Is)
      (list_at close (at_most limit read))
  bounded_list_takes limit close tokens xs e =
      let t = list_takes toks _ close _ (bounded_takes limit) tokens xs e in
      let few = few_of Is limit 0 xs.0 (omega arith) t.fits in
      record { parts = t.parts; fits = (omega (arith, few.0), few.1) }

  pub unbounded_list_takes : (close : Mark) → Takes (λ xs. separated toks xs ++ mark close)
      (AllByRecursion Is) (list_at close (any_number read))
  unbounded_list_takes close tokens xs e =
      let t = list_takes toks (λ _. Is) close _ (λ i. law.takes) tokens xs e in
      record { parts = t.parts; fits = all_of Is 0 xs.0 t.fits }

  -- ---- items, as long as one begins

  pub items_take : Takes (flat_map toks) (AllByRecursion Is) (many_at begins (any_number read) 0)
  items_take tokens xs e =
      let t = many_takes toks (λ _. Is) _ _ (λ i ys wanted. law.takes ys) 0 tokens xs e in
      record { parts = t.parts; fits = all_of Is 0 xs.0 t.fits }

  pub items_again : ((x : A) (rest : List TokenValue) → Less x
      → read (toks x ++ rest) ≡ Ok (x, rest)) → (xs : List A) (rest : List TokenValue)
      → AllByRecursion Less xs → next_passes begins rest ≡ false
      → many_at begins (any_number read) 0 (flat_map toks xs ++ rest) ≡ Ok (xs, rest)
  items_again again xs rest are over =
      let each = unbounded (length xs) in
      many_again (λ ts. Unit {0}) toks Less begins _ each.shrinks (length xs)
      (λ i x ts lt is h. again x ts is) each.begun (λ x ts is. tt) 0 xs rest (omega arith) are tt
      over
