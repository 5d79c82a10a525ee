-- The laws of annotations.
use Rattle.std.proofs.Common.{◌≡◌, ℕ, zero, suc, ◌≤◌, Bool, true, false, cond, List, [], ◌∷◌, ◌++◌, length, drop, Ok, refl, sym, ap, subst, ◌∙◌, append_assoc, arith, ◌||◌}
use Rattle.std.specs.List.{AllByRecursion}
use Rattle.fz_tree.specs.declared.token.Mark.TheVariants.{OpenParen, CloseParen, OpenBracket, CloseBracket, ColonColon}
use Rattle.fz_tree.specs.Token.{TokenValue, FloatText, StringText, Marked}
use Rattle.fz_tree.specs.Tree.{Literal, Truth, Note, Called, NoteArgs, NoMoreArgs, MoreArgs, NoteArg, OneBasic, ListOf, NoteBasics, NoMoreBasics, MoreBasics, NoteBasic, NoteLiteral, NoteFloat, NoteString, Inner}
use Rattle.fz_tree.specs.Tokens.{mark, literal_toks, in_parens, in_brackets, note_toks, args_toks, arg_toks, basics_toks, note_basic_toks, notes_toks, separated}
use Rattle.fz_tree.specs.View.{arg_list, basic_list}
use Rattle.fz_tree.specs.declared.limits.Limits.{Limits}
use Rattle.fz_tree.specs.Text.{IsNote, AreArgs, IsArg, AreBasics, IsNoteBasic, AreNotes, count_basics}
use Rattle.fz_syntax.specs.Reading.{Reader, ◌>>=◌, is_mark, next_passes, next_is, after_token, any_number, is_name, literal_at, note_at, note_args_at, note_arg_at, note_basic_at, notes_at}
use Rattle.fz_syntax.proofs.Separated.{Shrinks-after_token}
use Rattle.fz_syntax.proofs.Laws.{Takes, Split, ◌⟫◌, step, made, choose, refused, first, none, marked, mark_takes, mark_again, split_of}
use Rattle.fz_syntax.proofs.ListLaws.{Law, Ends, no_args, apart, fits_more, bounded, unbounded, list_again, separated_takes, separated_again, bounded_list_takes, all_of, many_takes, many_again}
use Rattle.fz_syntax.proofs.ExprLaws.{begins_literal, Allow, same, name_takes, name_again, literal_law, literal_begun, literal_no_name, first_of_two, second_of_two}
use Rattle.fz_tree.proofs.PrintSteps.{more_args_are, more_basics_are}

-- ---- lists of parts, as a tree of annotations holds them

args_are : (a : NoteArg) (args : List NoteArg)
    → args_toks (arg_list (a ∷ args)) ≡ in_parens (separated arg_toks (a ∷ args))
args_are a args = ap (λ (ys : List TokenValue). in_parens (arg_toks a ++ ys)) (more_args_are args)

basics_are : (bs : List NoteBasic) → basics_toks (basic_list bs) ≡ separated note_basic_toks bs
basics_are [] = refl
basics_are (b ∷ rest) =
    ap (λ (ys : List TokenValue). note_basic_toks b ++ ys) (more_basics_are rest)

count_are : (bs : List NoteBasic) → count_basics (basic_list bs) ≡ length bs
count_are [] = refl
count_are (b ∷ rest) = let e = count_are rest in omega arith

all_args : (limits : Limits) (depth : ℕ) (args : List NoteArg)
    → AreArgs (arg_list args) limits depth ≡ AllByRecursion (λ a. IsArg a limits depth) args
all_args limits depth [] = refl
all_args limits depth (a ∷ args) =
    ap (λ (T : Type 0). IsArg a limits depth × T) (all_args limits depth args)

all_basics : (limits : Limits) (depth : ℕ) (bs : List NoteBasic)
    → AreBasics (basic_list bs) limits depth ≡ AllByRecursion (λ b. IsNoteBasic b limits depth) bs
all_basics limits depth [] = refl
all_basics limits depth (b ∷ bs) =
    ap (λ (T : Type 0). IsNoteBasic b limits depth × T) (all_basics limits depth bs)

cast : {S T : Type 0} → S ≡ T → S → T
cast same x = subst (λ (U : Type 0). U) same x

-- each is one of a list
of_args : (args : NoteArgs) → (xs : List NoteArg) × (arg_list xs ≡ args)
of_args NoMoreArgs = ([], refl)
of_args (MoreArgs a rest) = let r = of_args rest in (a ∷ r.0, ap (MoreArgs a) r.1)

of_basics : (bs : NoteBasics) → (xs : List NoteBasic) × (basic_list xs ≡ bs)
of_basics NoMoreBasics = ([], refl)
of_basics (MoreBasics b rest) = let r = of_basics rest in (b ∷ r.0, ap (MoreBasics b) r.1)

-- ---- elements and arguments of a level, where `inner` reads the annotations below it

-- a name begins an annotation, which may be one level too deep
abbrev is_deep_name : ℕ → TokenValue → Bool
is_deep_name zero t = false
is_deep_name (suc depth) t = is_name t

abbrev is_quoted : TokenValue → Bool
is_quoted (FloatText text) = true
is_quoted (StringText text) = true
is_quoted _ = false

abbrev begins_note_basic : ℕ → TokenValue → Bool
begins_note_basic depth t = is_quoted t || (is_deep_name depth t || begins_literal t)

abbrev begins_arg : ℕ → TokenValue → Bool
begins_arg depth t = is_mark OpenBracket t || begins_note_basic depth t

-- what no float or string is read as
abbrev plain_at : Limits → Reader Note → Reader NoteBasic
plain_at limits inner tokens = cond (next_passes is_name tokens)
    (inner tokens >>= λ n. Ok (Inner n.0, n.1))
    (literal_at limits tokens >>= λ x. Ok (NoteLiteral x.0, x.1))

deep_name : (e : ℕ) (tokens : List TokenValue) → next_passes (is_deep_name e) tokens ≡ true
    → next_passes is_name tokens ≡ true
deep_name e [] h = h
deep_name zero (t ∷ ts) h = absurd cc
deep_name (suc e) (t ∷ ts) h = h

-- no element begins with a bracket
never_closes : (e : ℕ) → begins_note_basic e (Marked CloseBracket) ≡ false
never_closes zero = refl
never_closes (suc e) = refl

never_opens : (e : ℕ) → begins_note_basic e (Marked OpenBracket) ≡ false
never_opens zero = refl
never_opens (suc e) = refl

-- one argument at least is spelled in parentheses
in_parentheses : (args : List NoteArg) {tokens rest : List TokenValue} → 1 ≤ length args
    → Split tokens (in_parens (separated arg_toks args)) rest
    → Split tokens (args_toks (arg_list args)) rest
in_parentheses [] some s = absurd (omega arith)
in_parentheses (a ∷ args) {tokens} {rest} some s =
    subst (λ ts. Split tokens ts rest) (sym (args_are a args)) s

abbrev NoteLaw : Limits → Limits → ℕ → ℕ → Reader Note → Type 0
NoteLaw l m d e inner =
    Law (is_deep_name e) note_toks (λ n. IsNote n l d) (λ n. IsNote n m e) inner

module _ (l m : Limits) (allow : Allow l m) (d e : ℕ) (inner : Reader Note)
    (law : NoteLaw l m d e inner) where
  abbrev IsElement : NoteBasic → Type 0
  IsElement b = IsNoteBasic b m e

  plain_takes : Takes note_basic_toks IsElement (plain_at m inner)
  plain_takes tokens x f = choose (next_passes is_name tokens) _ _ f
      (λ named g. let n = step _ (law.takes tokens) g in made n.on n.parts n.fits)
      (λ other g.
      let t = step _ ((literal_law l m allow).takes tokens) g in made t.on t.parts t.fits)

  note_basic_takes : Takes note_basic_toks IsElement (note_basic_at m inner)
  unfolding note_basic_at
  note_basic_takes (FloatText text ∷ rest) x f = made f first tt
  note_basic_takes (StringText text ∷ rest) x f = made f first tt
  note_basic_takes tokens x f = plain_takes tokens x f

  -- a literal or an annotation is read as what is no float or string
  as_plain : (x : Literal) (rest : List TokenValue)
      → note_basic_at m inner (literal_toks x ++ rest) ≡ plain_at m inner (literal_toks x ++ rest)
  unfolding note_basic_at
  as_plain (Truth true) rest = refl
  as_plain (Truth false) rest = refl
  as_plain _ rest = refl

  as_note : (n : Note) (rest : List TokenValue)
      → note_basic_at m inner (note_toks n ++ rest) ≡ plain_at m inner (note_toks n ++ rest)
  unfolding note_basic_at
  as_note (Called name args) rest = refl

  note_basic_again : (b : NoteBasic) (rest : List TokenValue) → IsNoteBasic b l d → Ends rest
      → note_basic_at m inner (note_basic_toks b ++ rest) ≡ Ok (b, rest)
  unfolding note_basic_at
  note_basic_again (NoteFloat text) rest is ends = refl
  note_basic_again (NoteString text) rest is ends = refl
  note_basic_again (NoteLiteral x) rest is ends = as_plain x rest
      ∙ rw (literal_no_name x rest, (literal_law l m allow).again x rest is ends) refl
  note_basic_again (Inner n) rest is ends =
      let named = deep_name e _ (law.begun n rest (fits_more law n is)) in
      as_note n rest ∙ rw (named, law.again n rest is ends) refl

  note_basic_begun : (b : NoteBasic) (rest : List TokenValue) → IsElement b
      → next_passes (begins_note_basic e) (note_basic_toks b ++ rest) ≡ true
  note_basic_begun (NoteFloat text) rest is = refl
  note_basic_begun (NoteString text) rest is = refl
  note_basic_begun (NoteLiteral x) rest is =
      let toks : List TokenValue = literal_toks x ++ rest in
      second_of_two is_quoted (λ t. is_deep_name e t || begins_literal t) toks
      (second_of_two (is_deep_name e) begins_literal toks (literal_begun x rest))
  note_basic_begun (Inner n) rest is =
      let toks : List TokenValue = note_toks n ++ rest in
      second_of_two is_quoted (λ t. is_deep_name e t || begins_literal t) toks
      (first_of_two (is_deep_name e) begins_literal toks (law.begun n rest is))

  pub note_basic_law : Law (begins_note_basic e) note_basic_toks (λ b. IsNoteBasic b l d) IsElement
      (note_basic_at m inner)
  note_basic_law = record {
    takes = note_basic_takes;
    again = note_basic_again;
    begun = note_basic_begun;
  }

  note_arg_takes : Takes arg_toks (λ a. IsArg a m e) (note_arg_at m e inner)
  unfolding note_arg_at
  note_arg_takes tokens x f = choose (next_is OpenBracket tokens) _ _ f
      (λ bracket g.
      let bs = step _ (bounded_list_takes note_basic_law m.elements CloseBracket
      (drop 1 tokens)) g in
      let split = subst (λ ts. Split tokens (in_brackets ts) bs.left) (sym (basics_are bs.value))
      (marked bracket ⟫ bs.parts) in
      made bs.on split (
        omega (arith, bs.fits.0, count_are bs.value),
        cast (sym (all_basics m e bs.value)) bs.fits.1,
      ))
      (λ other g. let b = step _ (note_basic_takes tokens) g in made b.on b.parts b.fits)

  note_list_again : (bs : List NoteBasic) (rest : List TokenValue)
      → IsArg (ListOf (basic_list bs)) l d → note_arg_at m e inner
      (arg_toks (ListOf (basic_list bs)) ++ rest) ≡ Ok (ListOf (basic_list bs), rest)
  unfolding note_arg_at
  note_list_again bs rest is =
      let again = list_again (bounded note_basic_law m.elements) CloseBracket refl refl
      (never_closes e) bs rest (omega (arith, is.0, count_are bs, allow.elements))
      (cast (all_basics l d bs) is.1) in
      rw (basics_are bs, again) refl

  note_arg_again : (a : NoteArg) (rest : List TokenValue) → IsArg a l d → Ends rest
      → note_arg_at m e inner (arg_toks a ++ rest) ≡ Ok (a, rest)
  unfolding note_arg_at
  note_arg_again (ListOf bs) rest is ends =
      subst (λ (xs : NoteBasics). IsArg (ListOf xs) l d
      → note_arg_at m e inner (arg_toks (ListOf xs) ++ rest) ≡ Ok (ListOf xs, rest))
      (of_basics bs).1 (note_list_again (of_basics bs).0 rest) is
  note_arg_again (OneBasic b) rest is ends =
      let begun = note_basic_begun b rest (fits_more note_basic_law b is) in
      let other = apart (begins_note_basic e) OpenBracket (note_basic_toks b ++ rest)
      (never_opens e) begun in
      rw (other, note_basic_again b rest is ends) refl

  note_arg_begun : (a : NoteArg) (rest : List TokenValue) → IsArg a m e
      → next_passes (begins_arg e) (arg_toks a ++ rest) ≡ true
  note_arg_begun (ListOf bs) rest is = refl
  note_arg_begun (OneBasic b) rest is = second_of_two (is_mark OpenBracket) (begins_note_basic e)
      (note_basic_toks b ++ rest) (note_basic_begun b rest is)

  pub note_arg_law : Law (begins_arg e) arg_toks (λ a. IsArg a l d) (λ a. IsArg a m e)
      (note_arg_at m e inner)
  note_arg_law = record { takes = note_arg_takes; again = note_arg_again; begun = note_arg_begun }

  pub note_args_take : Takes (λ args. args_toks (arg_list args))
      (AllByRecursion (λ a. IsArg a m e)) (note_args_at m e inner)
  unfolding note_args_at
  note_args_take tokens x f = choose (next_is OpenParen tokens) _ _ f
      (λ paren g.
      let args = step _ (separated_takes arg_toks (λ i a. IsArg a m e) _
      (λ i. note_arg_takes) (drop 1 tokens)) g in
      let end = step _ (mark_takes CloseParen args.left) args.on in
      made end.on (in_parentheses args.value args.fits.0 (marked paren ⟫ args.parts ⟫ end.parts))
      (all_of (λ a. IsArg a m e) 0 args.value args.fits.1))
      (λ other g. made g none tt)

  pub note_args_again : (args : List NoteArg) (rest : List TokenValue)
      → AllByRecursion (λ a. IsArg a l d) args → Ends rest
      → note_args_at m e inner (args_toks (arg_list args) ++ rest) ≡ Ok (args, rest)
  unfolding note_args_at
  note_args_again [] rest is ends = rw (no_args rest ends) refl
  note_args_again (a ∷ args) rest is ends =
      let after : List TokenValue = Marked CloseParen ∷ rest in
      let again = separated_again (unbounded note_arg_law (length (a ∷ args))) a args after
      (omega arith) is.0 is.1 refl refl in
      let flat : args_toks (arg_list (a ∷ args)) ++ rest
      ≡ Marked OpenParen ∷ (separated arg_toks (a ∷ args) ++ after) =
      ap (λ (ts : List TokenValue). ts ++ rest) (args_are a args)
      ∙ ap (λ (ts : List TokenValue). Marked OpenParen ∷ ts)
      (append_assoc (separated arg_toks (a ∷ args)) (mark CloseParen) rest) in
      ap (note_args_at m e inner) flat ∙ rw (again, mark_again CloseParen rest) refl

-- ---- annotations, by the number of levels

no_level : (n : Note) (limits : Limits) → IsNote n limits zero → ⊥
no_level (Called name args) limits is = is

-- Reading under limits that are no smaller.
module _ (l m : Limits) (allow : Allow l m) where
  -- a level above one of which the laws hold
  module _ (d e : ℕ) (law : NoteLaw l m d e (note_at m e)) where
    level_takes : Takes note_toks (λ n. IsNote n m (suc e)) (note_at m (suc e))
    unfolding note_at
    level_takes tokens x f =
        let name = step _ (name_takes tokens) f in
        let args = step _ (note_args_take l m allow d e (note_at m e) law name.left) name.on in
        made args.on (name.parts ⟫ args.parts)
        (name.fits, cast (sym (all_args m e args.value)) args.fits)

    level_again : (name : List ℕ) (args : List NoteArg) (rest : List TokenValue)
        → IsNote (Called name (arg_list args)) l (suc d) → Ends rest
        → note_at m (suc e) (note_toks (Called name (arg_list args)) ++ rest)
        ≡ Ok (Called name (arg_list args), rest)
    unfolding note_at
    level_again name args rest is ends =
        let again = note_args_again l m allow d e (note_at m e) law args rest
        (cast (all_args l d args) is.1) ends in
        rw (name_again name (args_toks (arg_list args) ++ rest) is.0, again) refl

    again_above : (n : Note) (rest : List TokenValue) → IsNote n l (suc d) → Ends rest
        → note_at m (suc e) (note_toks n ++ rest) ≡ Ok (n, rest)
    again_above (Called name args) rest is ends =
        subst (λ (xs : NoteArgs). IsNote (Called name xs) l (suc d)
        → note_at m (suc e) (note_toks (Called name xs) ++ rest) ≡ Ok (Called name xs, rest))
        (of_args args).1 (λ it. level_again name (of_args args).0 rest it ends) is

    begun_above : (n : Note) (rest : List TokenValue) → IsNote n m (suc e)
        → next_passes (is_deep_name (suc e)) (note_toks n ++ rest) ≡ true
    begun_above (Called name args) rest is = rw is.0 refl

  pub note_law : (d e : ℕ) → d ≤ e → NoteLaw l m d e (note_at m e)
  unfolding note_at
  note_law zero zero le = record {
    takes = λ tokens x f. refused f;
    again = λ n rest is ends. absurd (no_level n l is);
    begun = λ n rest is. absurd (no_level n m is);
  }
  note_law (suc d) zero le = absurd (omega arith)
  note_law zero (suc e) le =
      let law = note_law zero e (omega arith) in
      record {
        takes = level_takes zero e law;
        again = λ n rest is ends. absurd (no_level n l is);
        begun = begun_above zero e law;
      }
  note_law (suc d) (suc e) le =
      let law = note_law d e (omega arith) in
      record {
        takes = level_takes d e law;
        again = again_above d e law;
        begun = begun_above d e law;
      }

  pub notes_take : Takes notes_toks (AreNotes m) (notes_at m)
  unfolding notes_at
  notes_take tokens x f =
      let behind : Note → List TokenValue = λ n. Marked ColonColon ∷ note_toks n in
      let law = note_law l.depth m.depth allow.depth in
      let t = many_takes behind (λ i n. IsNote n m m.depth) (is_mark ColonColon) _
      (λ i ys wanted y g. let u = law.takes (drop 1 ys) y g in
      record { parts = (marked wanted ⟫ split_of u).is; fits = u.fits }) 0 tokens x f in
      record { parts = t.parts; fits = all_of (λ n. IsNote n m m.depth) 0 x.0 t.fits }

  pub notes_again : (notes : List Note) (rest : List TokenValue) → AreNotes l notes → Ends rest
      → next_is ColonColon rest ≡ false → notes_at m (notes_toks notes ++ rest) ≡ Ok (notes, rest)
  unfolding notes_at
  notes_again notes rest are ends over =
      let law = note_law l.depth m.depth allow.depth in
      let each = unbounded law (length notes) in
      many_again Ends (λ n. Marked ColonColon ∷ note_toks n) (λ n. IsNote n l l.depth)
      (is_mark ColonColon) (after_token (any_number (note_at m m.depth)))
      (Shrinks-after_token _ each.shrinks) (length notes) each.again
      (λ n ts it. refl) (λ n ts it. refl) 0 notes rest (omega arith) are ends over
