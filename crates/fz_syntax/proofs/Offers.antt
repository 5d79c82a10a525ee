-- What is left of a text, as one more item is read, as none of its kind is left, and as the source
-- is refused.
use Rattle.std.proofs.Common.{◌≡◌, ℕ, zero, suc, ◌+◌, Bool, true, false, cond, List, [], ◌∷◌, ◌++◌, length, map, Result, Ok, Err, refl, sym, ap, subst, drop, arith, ◌∙◌, append_assoc, inl, inr}
use Rattle.std.specs.Prelude.{◌≤◌, ◌<◌, ◌⊎◌, Option, Some, None, IfSome, IfNone, is_some}
use Rattle.std.specs.List.{flat_map}
use Rattle.std.proofs.lemmas.List.{append-nil}
use Rattle.fz_tree.specs.Ahead.{tokens_ahead}
use Rattle.fz_tree.specs.Left.{left, source_of}
use Rattle.fz_tree.specs.Lexing.{SpannedToken, LexesWithin}
use Rattle.fz_tree.specs.declared.limits.Limits.{Limits}
use Rattle.fz_tree.specs.Spanned.{IsLexicalFaultWithin, IsPlacedWithin, spanned, AreWithinLimit, LexesToSpanned}
use Rattle.fz_tree.specs.declared.ahead.Tokens.{Tokens}
use Rattle.fz_tree.specs.declared.token.Token.{Token}
use Rattle.fz_tree.specs.Token.{TokenValue}
use Rattle.fz_tree.specs.declared.error.SyntaxError.{SyntaxError}
use Rattle.fz_tree.specs.declared.error.SyntaxError.TheVariants as errors
use Rattle.fz_tree.specs.Tree as tree
use Rattle.fz_syntax.specs.declared.parser.cursor.Parser.{Parser}
use Rattle.fz_syntax.specs.declared.parser.refusal.Refusal.{Refusal}
use Rattle.fz_syntax.specs.declared.reader.Rest.{Rest}
use Rattle.fz_tree.specs.declared.tree.Predicate.{Predicate}
use Rattle.fz_tree.specs.declared.tree.Decl.{Decl}
use Rattle.fz_tree.specs.declared.tree.Constraint.{Constraint}
use Rattle.fz_tree.specs.declared.tree.Solve.{Solve}
use Rattle.fz_tree.specs.View.{bare_solve}
use Rattle.fz_tree.specs.Text.{IsTextOfTreeWithin}
use Rattle.fz_syntax.specs.Placed.{PlacedToken, placed_predicate, placed_decl, placed_constraint, placed_solve}
use Rattle.fz_syntax.specs.Reading.{Fault, Read, Reader, ◌>>=◌, next_passes, many_upto, many_at, any_number, solve_at, tree_at, tree_of, ended, whole}
use Rattle.fz_syntax.specs.Outcome.{Fails, IsErrorOf, IsWhole}
use Rattle.fz_syntax.specs.Walk.{ahead, lexemes, Walk}
use Rattle.fz_syntax.specs.Offering.{placed_all, IsTextOfAllWithin, IsRefusedWithin, IsRefusedAt, IsRefusedBy, by_lexer, by_grammar, Part, kind_before, from_solve, from_predicates, all_items, IsLeft, IsWithin, Kind, Leaves, Took, TookAll, TookOne, changed}
use Rattle.fz_tree.specs.View.{bare_all}
use Rattle.fz_syntax.proofs.Lists.{Shrinks, put_first, many_step, many_ends, many_fails}
use Rattle.fz_syntax.proofs.Separated.{fails_bind, fails_like}
use Rattle.fz_syntax.proofs.Walks.{walk_none, walk_still, walk_then}
use Rattle.fz_syntax.proofs.Whole.{refused_so, refused_more, grammar_refuses, lexer_refuses}
use Rattle.fz_syntax.proofs.Parsed.{tree_found, tree_read}
use Rattle.fz_syntax.proofs.Standing.{placed_in, stands_of}

-- ---- what is read, with its value changed

whole_changed : {A B : Type 0} (f : A → B) (read : Read A) (e : Fault) → whole read ≡ Err e
    → whole (changed f read) ≡ Err e
unfolding ended
whole_changed f (Ok (x, [])) e h = absurd cc
whole_changed f (Ok (x, t ∷ ts)) e h = cc
whole_changed f (Err d) e h = cc

-- ---- one step

-- the text with the parser in another state
abbrev pub moved : Rest → Parser → Rest
moved i p = record { parser = p; source = i.source; limits = i.limits }

-- Between two states the parser took some tokens, and what is left before is read as what is left
-- after it, with some items more.
pub record Step {R B Q C : Type 0} (before : Part R B) (after : Part Q C) (bare : C → B) (all : Q → R) (old : Rest) (new : Parser) : Type 0 where
  pub end : new.end ≡ old.parser.end
  pub taken : List PlacedToken
  pub walked : Walk old.parser new taken
  pub read : before.read old.limits (lexemes old.parser)
      ≡ changed bare (after.read old.limits (lexemes new))
  pub bares : (r : Q) → bare (after.bare r) ≡ before.bare (all r)
  pub places : (r : Q) → taken ++ after.placed r ≡ before.placed (all r)

pub step_leaves : {R B Q C : Type 0} (before : Part R B) (after : Part Q C) (bare : C → B)
    (all : Q → R) (old : Rest) (new : Parser) → Step before after bare all old new
    → Leaves before after all old (moved old new)
step_leaves before after bare all old new s = record {
  same = refl;
  same_limits = refl;
  all_left = λ r left. record {
    lexed = left.lexed;
    read = s.read ∙ ap (changed bare) left.read ∙ ap (λ b. Ok (b, [])) (s.bares r);
    last = left.last;
    walked = subst (λ (placed : List PlacedToken). Walk old.parser left.last placed) (s.places r) (walk_then s.walked left.walked);
    ended = left.ended;
  };
}

pub step_within : {R B Q C : Type 0} (before : Part R B) (after : Part Q C) (bare : C → B)
    (all : Q → R) (old : Rest) (new : Parser) → Step before after bare all old new
    → IsWithin before old → IsWithin after (moved old new)
step_within before after bare all old new s h = record {
  short = h.short;
  of_source = s.walked.on.same_source ∙ h.of_source;
  ends = s.end ∙ h.ends;
  no_tree = λ f fails t text. h.no_tree f (ap whole s.read ∙ whole_changed bare (after.read old.limits (lexemes new)) f fails) t text;
}

changed_same : {A : Type 0} (read : Read A) → changed (λ (a : A). a) read ≡ read
changed_same (Ok r) = refl
changed_same (Err e) = refl

-- What is left stays, whatever else of the parser changes.
pub still : {R B : Type 0} (part : Part R B) (old : Rest) (new : Parser)
    → new.tokens ≡ old.parser.tokens → new.reached ≡ old.parser.reached
    → new.end ≡ old.parser.end → Leaves part part (λ r. r) old (moved old new)
still {R} {B} part old new tokens upto end =
    step_leaves part part (λ (b : B). b) (λ (r : R). r) old new
    (record {
      end = end;
      taken = [];
      walked = walk_still old.parser new (ap left tokens) upto (ap source_of tokens) end;
      read = ap (λ (ts : Tokens). part.read old.limits (map (λ t. t.token) (left ts))) (sym tokens) ∙ sym (changed_same (part.read old.limits (lexemes new)));
      bares = λ r. refl;
      places = λ r. refl;
    })

-- ---- a refusal

pub lexer_refused : (limits : Limits) (source : List ℕ) (e : SyntaxError)
    → IsLexicalFaultWithin limits source e
    → ((tokens : List SpannedToken) → LexesWithin limits source tokens → ⊥)
    → IsPlacedWithin (length source) e → IsRefusedWithin limits source e
lexer_refused limits source e fault none place = record {
  no_tree = λ t text. absurd (none text.lexes.0 text.lexes.1);
  order = lexer_refuses limits source e fault;
  place = place;
}

pub too_long_refused : (limits : Limits) (source : List ℕ) → limits.bytes < length source
    → IsRefusedWithin limits source errors.TooLong
too_long_refused limits source long = record { no_tree = λ t text. let short = text.lexes.1.short in absurd (omega (arith, short, long)); order = long; place = tt }

-- what isn't whole is a fault, unless memory ran out
fault_or_memory : {B : Type 0} (e : SyntaxError) (read : Result B Fault)
    → IsWhole (λ (b : B). b) (Err e) read → (e ≡ errors.Memory) ⊎ ((f : Fault) × (read ≡ Err f))
fault_or_memory errors.Memory read h = inl refl
fault_or_memory _ read h = inr (tt, h.1)

no_tree_left : {R B : Type 0} (part : Part R B) (i : Rest) (e : SyntaxError) → IsWithin part i
    → (e ≡ errors.Memory) ⊎ ((f : Fault) × (whole (part.read i.limits (lexemes i.parser)) ≡ Err f))
    → (t : tree.Tree) → IsTextOfTreeWithin i.limits i.source.now t → e ≡ errors.Memory
no_tree_left part i e within (inl memory) t text = memory
no_tree_left part i e within (inr fault) t text = absurd (within.no_tree fault.0 fault.1 t text)

refused_if : {R B : Type 0} (part : Part R B) (i : Rest) (r : Refusal) (e : SyntaxError)
    → IsWithin part i
    → (IsErrorOf r e → IsWhole (λ (b : B). b) (Err e) (whole (part.read i.limits (lexemes i.parser))))
    → IsRefusedBy i.limits i.source.now r e → IsRefusedAt i e
refused_if part i r e within reads (by_lexer fault none place) = lexer_refused i.limits i.source.now e fault none place
refused_if {R} {B} part i r e within reads (by_grammar lexed of place) = record {
  no_tree = no_tree_left part i e within (fault_or_memory e (whole (part.read i.limits (lexemes i.parser))) (reads of));
  order = grammar_refuses (λ (b : B). b) i.limits i.source.now e (whole (part.read i.limits (lexemes i.parser))) (tokens_ahead i.source.now 0) lexed (reads of);
  place = place;
}

-- what is left can't be read
pub left_refused : {R B : Type 0} (part : Part R B) (i : Rest) (r : Refusal) (e : SyntaxError)
    → IsWithin part i → Fails r (part.read i.limits (lexemes i.parser))
    → IsRefusedBy i.limits i.source.now r e → IsRefusedAt i e
left_refused {R} {B} part i r e within fails = refused_if part i r e within (refused_so (λ (b : B). b) r e (whole (part.read i.limits (lexemes i.parser))) (fails_like r (part.read i.limits (lexemes i.parser)) _ (λ k. ap whole k) fails))

-- ---- the items of a kind

-- which number the first item has makes no difference
same_numbered : {A : Type 0} (begins : TokenValue → Bool) (item : Reader A) (room i j : ℕ)
    (tokens : List TokenValue) → many_upto room begins (any_number item) i tokens ≡ many_upto room begins (any_number item) j tokens
unfolding many_upto
same_numbered begins item zero i j tokens = refl
same_numbered {A} begins item (suc room) i j tokens =
    λ k. cond (next_passes begins tokens) (item tokens >>= λ x. put_first x.0 (same_numbered begins item room (i + 1) (j + 1) x.1 k)) (Ok ([], tokens))

many_same : {A : Type 0} (begins : TokenValue → Bool) (item : Reader A) (i j : ℕ)
    (tokens : List TokenValue)
    → many_at begins (any_number item) i tokens ≡ many_at begins (any_number item) j tokens
unfolding many_at
many_same begins item i j tokens = same_numbered begins item (length tokens) i j tokens

-- An item was read between the two states.
pub record Reads {X A : Type 0} (kind : Kind X A) (old : Rest) (new : Parser) (x : X) : Type 0 where
  pub end : new.end ≡ old.parser.end
  pub begun : next_passes kind.begins (lexemes old.parser) ≡ true
  pub found : kind.read old.limits (lexemes old.parser) ≡ Ok (kind.bare x, lexemes new)
  pub walked : Walk old.parser new (kind.placed x)

module _ {X A R B : Type 0} (kind : Kind X A) (behind : Part R B) where
  abbrev here : Part (List X × R) (List A × B)
  here = kind_before kind behind

  abbrev behind_items : Limits → List A × List TokenValue → Read (List A × B)
  behind_items limits xs = changed (λ b. (xs.0, b)) (behind.read limits xs.1)

  abbrev first_of : A → List A × B → List A × B
  first_of a b = (a ∷ b.0, b.1)

  behind_first : (a : A) (xs : List A) (read : Read B)
      → changed {B = List A × B} (λ b. (a ∷ xs, b)) read
      ≡ changed (first_of a) (changed (λ b. (xs, b)) read)
  behind_first a xs (Ok r) = refl
  behind_first a xs (Err f) = refl

  first_put : (limits : Limits) (a : A) (read : Read (List A))
      → (put_first a read >>= behind_items limits) ≡ changed (first_of a)
      (read >>= behind_items limits)
  first_put limits a (Ok xs) = behind_first a xs.0 (behind.read limits xs.1)
  first_put limits a (Err f) = refl

  item_step : (x : X) (old : Rest) (new : Parser) → Shrinks (any_number (kind.read old.limits))
      → Reads kind old new x
      → Step here here (first_of (kind.bare x)) (λ r. ((x ∷ []) ++ r.0, r.1)) old new
  item_step x old new shrinks h = record {
    end = h.end;
    taken = kind.placed x;
    walked = h.walked;
    read =
        ap (λ (q : Read (List A)). q >>= behind_items old.limits) (many_step kind.begins (any_number (kind.read old.limits)) shrinks 0 (lexemes old.parser) (kind.bare x) (lexemes new) h.begun h.found ∙ ap (put_first (kind.bare x)) (many_same kind.begins (kind.read old.limits) 1 0 (lexemes new)))
        ∙ first_put old.limits (kind.bare x) (many_at kind.begins (any_number (kind.read old.limits)) 0 (lexemes new));
    bares = λ r. refl;
    places = λ r. sym (append_assoc (kind.placed x) (flat_map kind.placed r.0) (behind.placed r.1));
  }

  -- one more is read
  pub item_within : (x : X) (old : Rest) (new : Parser)
      → Shrinks (any_number (kind.read old.limits)) → Reads kind old new x → IsWithin here old
      → IsWithin here (moved old new)
  item_within x old new shrinks h = step_within here here (first_of (kind.bare x)) _ old new (item_step x old new shrinks h)

  pub item_took : (x : X) (old : Rest) (new : Parser)
      → Shrinks (any_number (kind.read old.limits)) → Reads kind old new x
      → TookOne here x old (moved old new)
  item_took x old new shrinks h = (
    step_leaves here here (first_of (kind.bare x)) _ old new (item_step x old new shrinks h),
    shrinks 0 (lexemes old.parser) (kind.bare x) (lexemes new) h.found,
  )

  none_step : (i : Rest) → next_passes kind.begins (lexemes i.parser) ≡ false
      → Step here behind (λ b. ([], b)) (λ r. ([], r)) i i.parser
  none_step i none = record {
    end = refl;
    taken = [];
    walked = walk_none;
    read = ap (λ (q : Read (List A)). q >>= behind_items i.limits) (many_ends kind.begins (any_number (kind.read i.limits)) 0 (lexemes i.parser) none);
    bares = λ r. refl;
    places = λ r. refl;
  }

  -- none is left
  pub none_within : (i : Rest) → next_passes kind.begins (lexemes i.parser) ≡ false
      → IsWithin here i → IsWithin behind i
  none_within i none = step_within here behind (λ b. ([], b)) _ i i.parser (none_step i none)

  pub none_took : (i : Rest) → next_passes kind.begins (lexemes i.parser) ≡ false
      → TookAll here behind [] i i
  none_took i none = step_leaves here behind (λ b. ([], b)) _ i i.parser (none_step i none)

  -- the next one is refused
  pub item_refused : (i : Rest) (r : Refusal) (e : SyntaxError)
      → next_passes kind.begins (lexemes i.parser) ≡ true
      → Fails r (kind.read i.limits (lexemes i.parser)) → IsWithin here i
      → IsRefusedBy i.limits i.source.now r e → IsRefusedAt i e
  item_refused i r e begun fails within =
      let item = any_number (kind.read i.limits) in
      let all = many_at kind.begins item 0 (lexemes i.parser) in
      let many : Fails r all = fails_like r (kind.read i.limits (lexemes i.parser)) all (λ found. many_fails kind.begins item 0 (lexemes i.parser) tt begun found) fails in
      left_refused here i r e within (fails_bind r all (behind_items i.limits) many)

-- ---- items taken one after another

pub took_none : {X A R B : Type 0} {part : Part (List X × R) (List A × B)} {i : Rest}
    → Took part [] i i
took_none = record { same = refl; same_limits = refl; all_left = λ r left. left }

-- nothing more is taken
pub took_still : {X A R B : Type 0} {part : Part (List X × R) (List A × B)} {a b c : Rest}
    (xs : List X) → Took part xs a b → Took part [] b c → Took part xs a c
took_still xs h k = record { same = k.same ∙ h.same; same_limits = k.same_limits ∙ h.same_limits; all_left = λ r left. h.all_left _ (k.all_left r left) }

pub took_more : {X A R B : Type 0} {part : Part (List X × R) (List A × B)} {a b c : Rest}
    (xs : List X) (x : X) → Took part xs a b → Took part (x ∷ []) b c → Took part (xs ++ x ∷ []) a c
took_more {X} {A} {R} {B} {part} {a} {b} {c} xs x h k = record {
  same = k.same ∙ h.same;
  same_limits = k.same_limits ∙ h.same_limits;
  all_left = λ r left. subst (λ (all : List X). IsLeft part a (all, r.1)) (sym (append_assoc xs (x ∷ []) r.0)) (h.all_left _ (k.all_left r left));
}

pub took_left : {X A R B : Type 0} {part : Part (List X × R) (List A × B)} {a b : Rest} {r : R}
    (xs : List X) → Took part xs a b → IsLeft part b ([], r) → IsLeft part a (xs, r)
took_left {X} {A} {R} {B} {part} {a} {b} {r} xs h left = subst (λ (all : List X). IsLeft part a (all, r)) (append-nil xs) (h.all_left ([], r) left)

pub took_all : {X A R B : Type 0} {part : Part (List X × R) (List A × B)} {behind : Part R B}
    {a b c : Rest} (xs : List X) → Took part xs a b → TookAll part behind [] b c
    → TookAll part behind xs a c
took_all xs h k = record { same = k.same ∙ h.same; same_limits = k.same_limits ∙ h.same_limits; all_left = λ r left. took_left xs h (k.all_left r left) }

-- a refusal later on, as one of the source under the limits that it began with
pub refused_at : {limits : Limits} {source : List ℕ} (i : Rest) → i.source.now ≡ source
    → i.limits ≡ limits → (e : SyntaxError) → IsRefusedAt i e → IsRefusedWithin limits source e
refused_at {limits} i same within e h = subst (λ (s : List ℕ). IsRefusedWithin limits s e) same (subst (λ (l : Limits). IsRefusedWithin l i.source.now e) within h)

-- ---- the solve item

-- whether a token is left
pub some_left : (o : Option Token) (p : Parser) → is_some o ≡ true
    → IfSome o (λ t. ahead p ≡ spanned t ∷ drop 1 (ahead p)) → 0 < length (lexemes p)
some_left None p some h = absurd cc
some_left (Some t) p some h = subst (λ (ts : List SpannedToken). 0 < length (map (λ u. u.token) ts)) (sym h) (omega arith)

pub none_left : (o : Option Token) (p : Parser) → is_some o ≡ false → IfNone o (ahead p ≡ [])
    → ahead p ≡ []
none_left None p none h = h
none_left (Some t) p none h = absurd cc

-- tokens follow it
pub more_refused : (s : Solve) (i : Rest) (r : Refusal) (e : SyntaxError) (left : List TokenValue)
    → solve_at i.limits (lexemes i.parser) ≡ Ok (bare_solve s, left) → 0 < length left
    → IsWithin from_solve i → IsRefusedBy i.limits i.source.now r e → IsRefusedAt i e
more_refused s i r e left found some within =
    refused_if from_solve i r e within (λ of. refused_more (λ (t : tree.Solve). t) r e (solve_at i.limits) (lexemes i.parser) left _ found some of)

-- nothing follows it
pub solve_left : (s : Solve) (i : Rest) (now : Parser) → solve_at i.limits (lexemes i.parser)
    ≡ Ok (bare_solve s, lexemes now) → ahead now ≡ [] → Walk i.parser now (placed_solve s)
    → LexesToSpanned i.source.now (tokens_ahead i.source.now 0)
    → AreWithinLimit (tokens_ahead i.source.now 0) → IsWithin from_solve i → IsLeft from_solve i s
solve_left s i now found none walked lexes numbers within = record {
  lexed = record { short = within.short; lexes = lexes; numbers = numbers };
  read = found ∙ ap (λ (ts : List SpannedToken). Ok (bare_solve s, map (λ t. t.token) ts)) none;
  last = now;
  walked = walked;
  ended = none;
}

-- ---- the beginning

abbrev tree_of_parts : List tree.Predicate × (List tree.Decl × (List tree.Constraint × tree.Solve))
    → tree.Tree
tree_of_parts b = record { predicates = b.0; decls = b.1.0; constraints = b.1.1.0; solve = b.1.1.1 }

then_again : {A B C : Type 0} (read : Read A) (f : A × List TokenValue → Read B)
    (g : B × List TokenValue → Read C) → ((read >>= f) >>= g) ≡ (read >>= λ x. f x >>= g)
then_again (Ok x) f g = refl
then_again (Err e) f g = refl

tree_parts : (limits : Limits) (tokens : List TokenValue)
    → tree_at limits tokens ≡ changed tree_of_parts (from_predicates.read limits tokens)
unfolding tree_at
tree_parts limits tokens = sym (simp then_again)

pub all_left : (i : Rest) → ahead i.parser ≡ tokens_ahead i.source.now 0
    → (r : List Predicate × (List Decl × (List Constraint × Solve))) → IsLeft from_predicates i r
    → IsTextOfAllWithin i.limits i.source.now (all_items r)
unfolding tree_of ended
all_left i all r left =
    let source = i.source.now in
    let lexed : LexesWithin i.limits source (tokens_ahead source 0) = left.lexed in
    let read : tree_of i.limits (lexemes i.parser) ≡ Ok (bare_all (all_items r)) = ap whole (tree_parts i.limits (lexemes i.parser) ∙ ap (changed tree_of_parts) left.read) in
    let predicates = flat_map placed_predicate r.0 in
    let decls = flat_map placed_decl r.1.0 in
    let behind = flat_map placed_constraint r.1.1.0 in
    let solve = placed_solve r.1.1.1 in
    let walked : Walk i.parser left.last (placed_all (all_items r)) =
    subst (Walk i.parser left.last) (sym (append_assoc (predicates ++ decls) behind solve
    ∙ append_assoc predicates decls (behind ++ solve))) left.walked in
    let placed = placed_in source i.parser left.last (placed_all (all_items r)) all walked left.ended lexed.lexes in
    record {
      text = tree_found i.limits source i.parser all (bare_all (all_items r)) lexed.short lexed.lexes lexed.numbers read;
      placed = placed;
      stands = stands_of source (placed_all (all_items r)) placed;
    }

pub all_within : (i : Rest) → ahead i.parser ≡ tokens_ahead i.source.now 0
    → source_of i.parser.tokens ≡ i.source.now → i.parser.end ≡ length i.source.now
    → length i.source.now ≤ i.limits.bytes → IsWithin from_predicates i
unfolding tree_of
all_within i all of_source end short = record {
  short = short;
  of_source = of_source;
  ends = end;
  no_tree = λ f fails t text.
      let read = tree_read i.limits i.source.now i.parser all t text in
      let faulty : tree_of i.limits (lexemes i.parser) ≡ Err f = ap whole (tree_parts i.limits (lexemes i.parser)) ∙ whole_changed tree_of_parts (from_predicates.read i.limits (lexemes i.parser)) f fails in
      cc;
}
