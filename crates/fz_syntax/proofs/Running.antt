-- The invariants of the parser's loops.
use Rattle.std.proofs.Common.{◌≡◌, ◌+◌, ℕ, Bool, true, false, cond, drop, List, [], ◌∷◌, ◌++◌, length, map, Ok, Err, refl, sym, ap, subst, ◌∙◌, arith, length-append}
use Rattle.std.proofs.lemmas.List.{length-map, map_push}
use Rattle.fz_syntax.specs.declared.parser.refusal.Refusal.{Refusal}
use Rattle.fz_tree.specs.declared.token.Mark.{Mark}
use Rattle.fz_tree.specs.declared.token.Mark.TheVariants.{Comma, ColonColon}
use Rattle.fz_tree.specs.Token.{TokenValue}
use Rattle.fz_tree.specs.Tree.{Note}
use Rattle.fz_tree.specs.declared.limits.Limits.{Limits}
use Rattle.fz_syntax.specs.Reading.{Read, Reader, is_mark, next_is, next_passes, many_at, after_token, separated_at, any_number, note_at, notes_at}
use Rattle.fz_syntax.specs.Outcome.{Fails}
use Rattle.fz_syntax.proofs.Lists.{with_front, Shrinks, loop_step, loop_fails, loop_ends}
use Rattle.fz_syntax.proofs.Separated.{Shrinks-after_token, separated_starts, separated_fails, Taken, fails_like}

-- The parts so far, followed by those that are still to be read, are all of them.
pub record Gathers {A : Type 0} (more : TokenValue → Bool) (part : ℕ → Reader A) (front : List A) (tokens : List TokenValue) (all : Read (List A)) : Type 0 where
  pub so_far : with_front front (many_at more part (length front) tokens) ≡ all

-- The same, where each part is read after the mark.
abbrev pub Continues : {A : Type 0} → Mark → (ℕ → Reader A) → List A → List TokenValue
    → Read (List A) → Type 0
Continues m part front tokens all = Gathers (is_mark m) (after_token part) front tokens all

-- a list that grew by one
pub grown : {A B : Type 0} (view : A → B) (items front : List A) (x : A) → items ≡ front ++ x ∷ []
    → map view items ≡ map view front ++ view x ∷ []
grown view items front x e = ap (map view) e ∙ map_push view front x

pub separated_init : {A : Type 0} (element : ℕ → Reader A) (tokens : List TokenValue) (x : A)
    (rest : List TokenValue) (made items : List A) → made ≡ [] → items ≡ made ++ x ∷ []
    → element 0 tokens ≡ Ok (x, rest)
    → Continues Comma element items rest (separated_at element tokens)
separated_init {A} element tokens x rest made items empty one found =
    let only : items ≡ x ∷ [] = one ∙ ap (λ (xs : List A). xs ++ x ∷ []) empty in
    subst (λ (xs : List A). Continues Comma element xs rest (separated_at element tokens)) (sym only) (record { so_far = separated_starts element tokens x rest found })

pub gathers_on : {A : Type 0} (more : TokenValue → Bool) (part : ℕ → Reader A) → Shrinks part
    → (front items : List A) (tokens : List TokenValue) (x : A) (rest : List TokenValue)
    (all : Read (List A)) (i : ℕ) → i ≡ length front → items ≡ front ++ x ∷ [] → (b : Bool)
    → b ≡ true → b ≡ next_passes more tokens → part i tokens ≡ Ok (x, rest)
    → Gathers more part front tokens all → Gathers more part items rest all
gathers_on {A} more part shrinks front items tokens x rest all i at grew b wanted tested found g =
    let one : length (front ++ x ∷ []) ≡ length front + 1 =
    omega (arith, length-append front (x ∷ [])) in
    let step = loop_step more part shrinks front (length front) tokens x rest all
    (sym tested ∙ wanted) (ap (λ j. part j tokens) (sym at) ∙ found) g.so_far in
    subst (λ (xs : List A). Gathers more part xs rest all) (sym grew)
    (record {
      so_far = subst (λ (n : ℕ). with_front (front ++ x ∷ []) (many_at more part n rest)
          ≡ all) (sym one) step;
    })

pub gathers_stop : {A : Type 0} (e : Refusal) (more : TokenValue → Bool) (part : ℕ → Reader A)
    (front : List A) (tokens : List TokenValue) (all : Read (List A)) (i : ℕ)
    → i ≡ length front → (b : Bool) → b ≡ true → b ≡ next_passes more tokens
    → Gathers more part front tokens all → Fails e (part i tokens) → Fails e all
gathers_stop e more part front tokens all i at b wanted tested g h =
    fails_like e (part i tokens) all
    (λ found. loop_fails more part front (length front) tokens tt all (sym tested ∙ wanted)
    (ap (λ j. part j tokens) (sym at) ∙ found) g.so_far) h

pub gathers_all : {A : Type 0} (more : TokenValue → Bool) (part : ℕ → Reader A) (front : List A)
    (tokens : List TokenValue) (all : Read (List A)) (b : Bool) → b ≡ false
    → b ≡ next_passes more tokens → Gathers more part front tokens all
    → all ≡ Ok (front, tokens)
gathers_all more part front tokens all b wanted tested g =
    loop_ends more part front (length front) tokens all (sym tested ∙ wanted) g.so_far

-- what is left behind a mark that was taken
behind : (m : Mark) (before after : List TokenValue) (b c : Bool) → c ≡ b → c ≡ next_is m before
    → Taken m before after → after ≡ cond b (drop 1 before) before
behind m before after b c wanted tested taken =
    taken ∙ ap (λ d. cond d (drop 1 before) before) (sym tested ∙ wanted)

pub keeps_on : {A : Type 0} (m : Mark) (part : ℕ → Reader A) → Shrinks part
    → (front items : List A) (before after : List TokenValue) (x : A) (rest : List TokenValue)
    (all : Read (List A)) → (i : ℕ) → i ≡ length front → items ≡ front ++ x ∷ [] → (b : Bool)
    → b ≡ true → b ≡ next_is m before → Taken m before after → part i after ≡ Ok (x, rest)
    → Continues m part front before all → Continues m part items rest all
keeps_on m part shrinks front items before after x rest all i at grew b wanted tested taken found =
    gathers_on (is_mark m) (after_token part) (Shrinks-after_token part shrinks) front items before
    x rest all i at grew b wanted tested
    (ap (part i) (sym (behind m before after true b wanted tested taken)) ∙ found)

pub stops : {A : Type 0} (e : Refusal) (m : Mark) (part : ℕ → Reader A) (front : List A)
    (before after : List TokenValue) (all : Read (List A)) (i : ℕ) → i ≡ length front
    → (b : Bool) → b ≡ true → b ≡ next_is m before → Taken m before after
    → Continues m part front before all → Fails e (part i after) → Fails e all
stops e m part front before after all i at b wanted tested taken c h =
    gathers_stop e (is_mark m) (after_token part) front before all i at b wanted tested c
    (subst (λ ts. Fails e (part i ts)) (behind m before after true b wanted tested taken) h)

pub is_whole_list : {A : Type 0} (m : Mark) (part : ℕ → Reader A) (front : List A)
    (before after : List TokenValue) (all : Read (List A)) (b : Bool) → b ≡ false
    → b ≡ next_is m before → Taken m before after → Continues m part front before all
    → all ≡ Ok (front, after)
is_whole_list m part front before after all b wanted tested taken c =
    gathers_all (is_mark m) (after_token part) front before all b wanted tested c
    ∙ ap (λ ts. Ok (front, ts)) (sym (behind m before after false b wanted tested taken))

-- The parts so far are all but those from here on: the mark was taken behind which the next one
-- stands.
pub record Awaits {A : Type 0} (m : Mark) (part : ℕ → Reader A) (front : List A) (tokens : List TokenValue) (all : Read (List A)) : Type 0 where
  pub before : List TokenValue
  pub marked : next_is m before ≡ true
  pub taken : Taken m before tokens
  pub so_far : Continues m part front before all

-- the mark is taken
pub awaits_first : {A : Type 0} (m : Mark) (part : ℕ → Reader A) (front : List A)
    (before after : List TokenValue) (all : Read (List A)) (b : Bool) → b ≡ true
    → b ≡ next_is m before → Taken m before after
    → Continues m part front before all → Awaits m part front after all
awaits_first m part front before after all b wanted tested taken c = record { before = before; marked = sym tested ∙ wanted; taken = taken; so_far = c }

-- the part is read
pub awaits_part : {A : Type 0} (m : Mark) (part : ℕ → Reader A) → Shrinks part
    → (front items : List A) (after : List TokenValue) (x : A) (rest : List TokenValue)
    (all : Read (List A)) → (i : ℕ) → i ≡ length front → items ≡ front ++ x ∷ []
    → part i after ≡ Ok (x, rest) → Awaits m part front after all → Continues m part items rest all
awaits_part m part shrinks front items after x rest all i at grew found a = keeps_on m part shrinks front items a.before after x rest all i at grew true refl (sym a.marked) a.taken found a.so_far

pub awaits_fails : {A : Type 0} (e : Refusal) (m : Mark) (part : ℕ → Reader A) (front : List A)
    (after : List TokenValue) (all : Read (List A)) (i : ℕ) → i ≡ length front
    → Awaits m part front after all → Fails e (part i after) → Fails e all
awaits_fails e m part front after all i at a h = stops e m part front a.before after all i at true refl (sym a.marked) a.taken a.so_far h

-- The parts so far, and those that are still read, of which the next is an element: none is there
-- yet, or the comma was taken behind which the next one stands.
pub data Wants {A : Type 0} (element : ℕ → Reader A) (front : List A) (tokens : List TokenValue) (all : Read (List A)) : Type 0 where
  wants_first : front ≡ [] → separated_at element tokens ≡ all → Wants element front tokens all
  wants_next : Awaits Comma element front tokens all → Wants element front tokens all

-- the element is read
pub wants_part : {A : Type 0} (element : ℕ → Reader A) → Shrinks element
    → (front items : List A) (after : List TokenValue) (x : A) (rest : List TokenValue)
    (all : Read (List A)) → (i : ℕ) → i ≡ length front → items ≡ front ++ x ∷ []
    → element i after ≡ Ok (x, rest) → Wants element front after all → Continues Comma element items rest all
wants_part {A} element shrinks front items after x rest all i at grew found (wants_first none begins) =
    let first : element 0 after ≡ Ok (x, rest) = ap (λ n. element n after) (sym (ap (λ (xs : List A). length xs) none) ∙ sym at) ∙ found in
    subst (λ r. Continues Comma element items rest r) begins (separated_init element after x rest front items none grew first)
wants_part element shrinks front items after x rest all i at grew found (wants_next a) = awaits_part Comma element shrinks front items after x rest all i at grew found a

pub wants_fails : {A : Type 0} (e : Refusal) (element : ℕ → Reader A) (front : List A)
    (after : List TokenValue) (all : Read (List A)) (i : ℕ) → i ≡ length front
    → Wants element front after all → Fails e (element i after) → Fails e all
wants_fails {A} e element front after all i at (wants_first none begins) h =
    let zeroth : i ≡ 0 = at ∙ ap (λ (xs : List A). length xs) none in
    subst (λ r. Fails e r) begins (separated_fails e element after (subst (λ n. Fails e (element n after)) zeroth h))
wants_fails e element front after all i at (wants_next a) h = awaits_fails e Comma element front after all i at a h

-- the element is read, and the comma behind it is taken
pub wants_more : {A : Type 0} (element : ℕ → Reader A) → Shrinks element
    → (front items : List A) (after : List TokenValue) (x : A) (rest : List TokenValue)
    (all : Read (List A)) → (i : ℕ) → i ≡ length front → items ≡ front ++ x ∷ []
    → next_is Comma rest ≡ true
    → element i after ≡ Ok (x, rest) → Wants element front after all → Wants element items (drop 1 rest) all
wants_more element shrinks front items after x rest all i at grew marked found w =
    wants_next (record { before = rest; marked = marked; taken = sym (ap (λ b. cond b (drop 1 rest) rest) marked); so_far = wants_part element shrinks front items after x rest all i at grew found w })

pub length_seen : {A B : Type 0} (view : A → B) (xs : List A) → length xs ≡ length (map view xs)
length_seen view xs = sym (length-map xs view)

pub front_of_none : {A : Type 0} (read : Read (List A)) → with_front [] read ≡ read
front_of_none (Ok x) = refl
front_of_none (Err f) = refl

-- no part was read yet
pub gathers_begin : {A : Type 0} (more : TokenValue → Bool) (part : ℕ → Reader A)
    (tokens : List TokenValue) (front : List A) → front ≡ []
    → Gathers more part front tokens (many_at more part 0 tokens)
gathers_begin {A} more part tokens front empty =
    subst (λ (xs : List A). Gathers more part xs tokens (many_at more part 0 tokens)) (sym empty)
    (record { so_far = front_of_none (many_at more part 0 tokens) })

-- no annotation was read yet
pub notes_begin : (limits : Limits) (tokens : List TokenValue) (front : List Note) → front ≡ []
    → Continues ColonColon (any_number (note_at limits limits.depth)) front tokens
    (notes_at limits tokens)
unfolding notes_at
notes_begin limits tokens front empty = gathers_begin (is_mark ColonColon)
    (after_token (any_number (note_at limits limits.depth))) tokens front empty
