-- The laws of items and of a whole tree.
use Rattle.std.proofs.Common.{◌≡◌, ℕ, Bool, true, false, not, ◌&&◌, ◌||◌, List, [], ◌∷◌, ◌++◌, length, drop, Option, Some, None, Ok, refl, sym, ap, ◌∙◌, append_assoc, arith}
use Rattle.std.specs.Prelude.{codes}
use Rattle.std.specs.List.{flat_map}
use Rattle.std.proofs.lemmas.List.{append-nil}
use Rattle.fz_tree.specs.declared.token.Mark.TheVariants.{OpenParen, CloseParen, OpenBracket, CloseBracket, Semicolon, Colon, ColonColon, Equals}
use Rattle.fz_tree.specs.Token.{TokenValue, Word, Marked}
use Rattle.fz_tree.specs.Tree.{Number, Truth, Expr, One, Several, Base, IntBase, Param, Predicate, Decl, Constraint, Goal, Satisfy, Minimize, Maximize, Solve, Tree}
use Rattle.fz_tree.specs.declared.limits.Limits.{Limits}
use Rattle.fz_tree.specs.Text.{IsBase, IsBaseOf, IsParam, IsPredicate, IsValueOf, IsDecl, IsConstraint, IsGoal, IsSolve, HasShape}
use Rattle.fz_tree.specs.Tokens.{mark, basic_toks, expr_toks, separated, notes_toks, base_toks, var_toks, prefix_toks, param_prefix_toks, param_toks, predicate_toks, value_toks, decl_toks, constraint_toks, goal_toks, solve_toks, toks}
use Rattle.fz_syntax.specs.Reading.{is_word, next_is, next_word, next_passes, any_number, mark_at, word_at, begins_decl, may_lack_value, value_at, given_value_at, param_at, predicate_at, decl_at, constraint_at, goal_at, solve_at, tree_at, ended, tree_of}
use Rattle.fz_syntax.proofs.Lists.{Shrinks}
use Rattle.fz_syntax.proofs.Laws.{Takes, ◌⟫◌, step, next, made, choose, none, worded, mark_takes, mark_again, word_takes}
use Rattle.fz_syntax.proofs.ListLaws.{Law, Ends, fits_more, apart_word, each_before, bounded, unbounded, list_again, bounded_list_takes, unbounded_list_takes, items_take, items_again}
use Rattle.fz_syntax.proofs.ExprLaws.{Allow, same, all_always, name_takes, name_again, basic_law, expr_law, literal_basic_law}
use Rattle.fz_syntax.proofs.NoteLaws.{notes_take, notes_again}
use Rattle.fz_syntax.proofs.TypeLaws.{begins_bounds, base_of, base_no_var, no_array, var_takes, var_again, base_takes, base_again, type_takes, type_again, param_prefix_takes, param_prefix_again, prefix_takes, prefix_again}
use Rattle.std.proofs.Math.Bool.{and-false}

-- ---- what items begin with

-- what a predicate's parameter begins with
abbrev pub begins_param : TokenValue → Bool
begins_param t = begins_decl t || begins_bounds t

type_begun : (limits : Limits) (o : Option (List (Option ℕ))) (v : Bool) (b : Base)
    (rest : List TokenValue) → IsBase limits b → next_passes begins_param
    (param_prefix_toks o ++ (var_toks v ++ (base_toks b ++ rest))) ≡ true
type_begun limits None false (IntBase (Some (Number n))) rest is = absurd is
type_begun limits None false (IntBase (Some (Truth b))) rest is = absurd is
type_begun limits _ _ _ rest is = refl

decl_begun : (limits : Limits) (o : Option ℕ) (v : Bool) (b : Base) (rest : List TokenValue)
    → IsBaseOf limits v b
    → next_passes begins_decl (prefix_toks o ++ (var_toks v ++ (base_toks b ++ rest))) ≡ true
decl_begun limits None false (IntBase (Some x)) rest is = absurd cc
decl_begun limits _ _ _ rest is = refl

-- ---- what ends a part

value_ends : (e : Option Expr) (rest : List TokenValue)
    → Ends (value_toks e ++ (Marked Semicolon ∷ rest))
value_ends None rest = refl
value_ends (Some e) rest = refl

value_no_note : (e : Option Expr) (rest : List TokenValue)
    → next_is ColonColon (value_toks e ++ (Marked Semicolon ∷ rest)) ≡ false
value_no_note None rest = refl
value_no_note (Some e) rest = refl

goal_ends : (g : Goal) (rest : List TokenValue) → Ends (goal_toks g ++ rest)
goal_ends Satisfy rest = refl
goal_ends _ rest = refl

goal_no_note : (g : Goal) (rest : List TokenValue)
    → next_is ColonColon (goal_toks g ++ rest) ≡ false
goal_no_note Satisfy rest = refl
goal_no_note _ rest = refl

no_value : (limits : Limits) (v : Bool) (o : Option ℕ) (b : Bool)
    → (may_lack_value v o && b) ≡ true → IsValueOf limits v o None
no_value limits true None b e = tt
no_value limits _ _ b e = absurd cc

-- what begins neither a constraint nor the solve item begins nothing behind the declarations
no_item : (begins : TokenValue → Bool) → begins (Word (codes "constraint")) ≡ false
    → begins (Word (codes "solve")) ≡ false → (t : Tree) (rest : List TokenValue)
    → next_passes begins (flat_map constraint_toks t.constraints ++ (solve_toks t.solve ++ rest))
    ≡ false
no_item begins constraint solve t rest = each_before (λ ts. next_passes begins ts ≡ false)
    constraint_toks (λ c. Unit {0}) (λ c ts it. constraint) t.constraints
    (solve_toks t.solve ++ rest) (all_always t.constraints) solve

-- Reading under limits that are no smaller.
module _ (l m : Limits) (allow : Allow l m) where
  -- ---- predicates

  param_takes : Takes param_toks (IsParam m) (param_at m)
  unfolding param_at
  param_takes tokens x e =
      next _ (param_prefix_takes l m allow tokens) e (λ array.
      next _ (var_takes array.left) array.on (λ is_var.
      next _ (base_takes l m allow is_var.left) is_var.on (λ base.
      next _ (mark_takes Colon base.left) base.on (λ colon.
      next _ (name_takes colon.left) colon.on (λ name.
      made name.on (array.parts ⟫ is_var.parts ⟫ base.parts ⟫ colon.parts ⟫ name.parts)
      (record { array = array.fits; base = base.fits; name = name.fits }))))))

  param_again : (p : Param) (rest : List TokenValue) → IsParam l p
      → param_at m (param_toks p ++ rest) ≡ Ok (p, rest)
  unfolding param_at
  param_again p rest is =
      let V : List TokenValue = var_toks p.is_var in
      let B : List TokenValue = base_toks p.base in
      let Z : List TokenValue = Marked Colon ∷ (Word p.name ∷ rest) in
      simp append_assoc (rw (
        param_prefix_again l m allow p.array (V ++ (B ++ Z)) is.array
            (no_array l p.is_var p.base Z is.base),
        var_again p.is_var (B ++ Z) (base_no_var l p.base Z is.base),
        base_again l m allow p.base Z is.base,
        mark_again Colon (Word p.name ∷ rest),
        name_again p.name rest is.name,
      ) refl)

  pub param_law : Law begins_param param_toks (IsParam l) (IsParam m) (param_at m)
  param_law = record {
    takes = param_takes;
    again = λ p rest is ends. param_again p rest is;
    begun = λ p rest is. simp append_assoc
        (type_begun m p.array p.is_var p.base (Marked Colon ∷ (Word p.name ∷ rest)) is.base);
  }

  predicate_takes : Takes predicate_toks (IsPredicate m) (predicate_at m)
  unfolding predicate_at
  predicate_takes tokens x e =
      next _ (word_takes (codes "predicate") tokens) e (λ start.
      next _ (name_takes start.left) start.on (λ name.
      next _ (mark_takes OpenParen name.left) name.on (λ opened.
      next _ (unbounded_list_takes param_law CloseParen opened.left) opened.on (λ params.
      next _ (mark_takes Semicolon params.left) params.on (λ end.
      made end.on (start.parts ⟫ name.parts ⟫ opened.parts ⟫ params.parts ⟫ end.parts)
      (record { name = name.fits; params = params.fits }))))))

  predicate_again : (p : Predicate) (rest : List TokenValue) → IsPredicate l p
      → predicate_at m (predicate_toks p ++ rest) ≡ Ok (p, rest)
  unfolding predicate_at word_at
  predicate_again p rest is =
      let S : List TokenValue = separated param_toks p.params ++ mark CloseParen in
      let Z : List TokenValue = Marked Semicolon ∷ rest in
      let params = list_again (unbounded param_law (length p.params)) CloseParen refl refl refl
      p.params Z (omega arith) is.params in
      rw (
        name_again p.name (Marked OpenParen ∷ ((S ++ mark Semicolon) ++ rest)) is.name,
        mark_again OpenParen ((S ++ mark Semicolon) ++ rest),
        append_assoc S (mark Semicolon) rest,
        params,
        mark_again Semicolon rest,
      ) refl

  pub predicate_law : Law (is_word (codes "predicate")) predicate_toks (IsPredicate l)
      (IsPredicate m) (predicate_at m)
  predicate_law = record {
    takes = predicate_takes;
    again = λ p rest is ends. predicate_again p rest is;
    begun = λ p rest is. refl;
  }

  -- ---- declarations

  value_takes : (v : Bool) (o : Option ℕ)
      → Takes expr_toks (λ e. IsValueOf m v o (Some e)) (value_at m v o)
  unfolding value_at
  value_takes true None tokens x e =
      let b = step _ ((basic_law l m allow).takes tokens) e in made b.on b.parts b.fits
  value_takes false None tokens x e =
      let b = step _ ((literal_basic_law l m allow).takes tokens) e in made b.on b.parts b.fits
  value_takes true (Some n) tokens x e =
      let opened = step _ (mark_takes OpenBracket tokens) e in
      let bs = step _ (bounded_list_takes (basic_law l m allow) m.elements CloseBracket opened.left)
      opened.on in
      made bs.on (opened.parts ⟫ bs.parts) bs.fits
  value_takes false (Some n) tokens x e =
      let opened = step _ (mark_takes OpenBracket tokens) e in
      let bs = step _ (bounded_list_takes (literal_basic_law l m allow) m.elements CloseBracket
      opened.left) opened.on in
      made bs.on (opened.parts ⟫ bs.parts) bs.fits

  value_again : (v : Bool) (o : Option ℕ) (e : Expr) (rest : List TokenValue)
      → IsValueOf l v o (Some e) → Ends rest
      → value_at m v o (expr_toks e ++ rest) ≡ Ok (e, rest)
  unfolding value_at
  value_again true None (One b) rest is ends = rw ((basic_law l m allow).again b rest is ends) refl
  value_again false None (One b) rest is ends =
      rw ((literal_basic_law l m allow).again b rest is ends) refl
  value_again true (Some n) (Several bs) rest is ends =
      let again = list_again (bounded (basic_law l m allow) m.elements) CloseBracket refl refl refl
      bs rest (omega (arith, is.0, allow.elements)) is.1 in
      rw (mark_again OpenBracket ((separated basic_toks bs ++ mark CloseBracket) ++ rest), again)
      refl
  value_again false (Some n) (Several bs) rest is ends =
      let again = list_again (bounded (literal_basic_law l m allow) m.elements) CloseBracket
      refl refl refl bs rest (omega (arith, is.0, allow.elements)) is.1 in
      rw (mark_again OpenBracket ((separated basic_toks bs ++ mark CloseBracket) ++ rest), again)
      refl
  value_again _ _ _ rest is ends = absurd is

  given_value_takes : (v : Bool) (o : Option ℕ)
      → Takes value_toks (IsValueOf m v o) (given_value_at m v o)
  unfolding given_value_at
  given_value_takes v o tokens x e =
      choose (may_lack_value v o && not (next_is Equals tokens)) _ _ e
      (λ lacks f. made f none (no_value m v o _ lacks))
      (λ given f.
      let equals = step _ (mark_takes Equals tokens) f in
      let value = step _ (value_takes v o equals.left) equals.on in
      made value.on (equals.parts ⟫ value.parts) value.fits)

  given_value_again : (v : Bool) (o : Option ℕ) (e : Option Expr) (rest : List TokenValue)
      → IsValueOf l v o e → given_value_at m v o (value_toks e ++ (Marked Semicolon ∷ rest))
      ≡ Ok (e, Marked Semicolon ∷ rest)
  unfolding given_value_at mark_at
  given_value_again v o (Some e) rest is = rw (
    and-false (may_lack_value v o),
    value_again v o e (Marked Semicolon ∷ rest) is refl,
  ) refl
  given_value_again true None None rest is = refl
  given_value_again true (Some n) None rest is = absurd is
  given_value_again false None None rest is = absurd is
  given_value_again false (Some n) None rest is = absurd is

  decl_takes : Takes decl_toks (IsDecl m) (decl_at m)
  unfolding decl_at
  decl_takes tokens x e =
      next _ (prefix_takes l m allow tokens) e (λ length.
      next _ (var_takes length.left) length.on (λ is_var.
      next _ (type_takes l m allow is_var.value is_var.left) is_var.on (λ base.
      next _ (mark_takes Colon base.left) base.on (λ colon.
      next _ (name_takes colon.left) colon.on (λ name.
      next _ (notes_take l m allow name.left) name.on (λ notes.
      next _ (given_value_takes is_var.value length.value notes.left) notes.on (λ value.
      next _ (mark_takes Semicolon value.left) value.on (λ end.
      made end.on (length.parts ⟫ is_var.parts ⟫ base.parts ⟫ colon.parts ⟫ name.parts
      ⟫ notes.parts ⟫ value.parts ⟫ end.parts)
      (record {
        length = length.fits;
        base = base.fits;
        name = name.fits;
        notes = notes.fits;
        value = value.fits;
      })))))))))

  decl_again : (d : Decl) (rest : List TokenValue) → IsDecl l d
      → decl_at m (decl_toks d ++ rest) ≡ Ok (d, rest)
  unfolding decl_at
  decl_again d rest is =
      let V : List TokenValue = var_toks d.is_var in
      let B : List TokenValue = base_toks d.base in
      let N : List TokenValue = notes_toks d.notes in
      let E : List TokenValue = value_toks d.value in
      let Y : List TokenValue = N ++ (E ++ (Marked Semicolon ∷ rest)) in
      let Z : List TokenValue = Marked Colon ∷ (Word d.name ∷ Y) in
      let base = base_of l d.is_var d.base is.base in
      simp append_assoc (rw (
        prefix_again l m allow d.length (V ++ (B ++ Z)) is.length
            (no_array l d.is_var d.base Z base),
        var_again d.is_var (B ++ Z) (base_no_var l d.base Z base),
        type_again l m allow d.is_var d.base Z is.base,
        mark_again Colon (Word d.name ∷ Y),
        name_again d.name Y is.name,
        notes_again l m allow d.notes (E ++ (Marked Semicolon ∷ rest)) is.notes
            (value_ends d.value rest) (value_no_note d.value rest),
        given_value_again d.is_var d.length d.value rest is.value,
        mark_again Semicolon rest,
      ) refl)

  pub decl_law : Law begins_decl decl_toks (IsDecl l) (IsDecl m) (decl_at m)
  decl_law = record {
    takes = decl_takes;
    again = λ d rest is ends. decl_again d rest is;
    begun = λ d rest is. simp append_assoc (decl_begun m d.length d.is_var d.base (Marked Colon
        ∷ (Word d.name ∷ (notes_toks d.notes ++ (value_toks d.value ++ (Marked Semicolon ∷ rest)))))
        is.base);
  }

  -- ---- constraints and the solve item

  constraint_takes : Takes constraint_toks (IsConstraint m) (constraint_at m)
  unfolding constraint_at
  constraint_takes tokens x e =
      next _ (word_takes (codes "constraint") tokens) e (λ start.
      next _ (name_takes start.left) start.on (λ name.
      next _ (mark_takes OpenParen name.left) name.on (λ opened.
      next _ (unbounded_list_takes (expr_law l m allow) CloseParen opened.left)
      opened.on (λ args.
      next _ (notes_take l m allow args.left) args.on (λ notes.
      next _ (mark_takes Semicolon notes.left) notes.on (λ end.
      made end.on
      (start.parts ⟫ name.parts ⟫ opened.parts ⟫ args.parts ⟫ notes.parts ⟫ end.parts)
      (record { name = name.fits; args = args.fits; notes = notes.fits })))))))

  constraint_again : (c : Constraint) (rest : List TokenValue) → IsConstraint l c
      → constraint_at m (constraint_toks c ++ rest) ≡ Ok (c, rest)
  unfolding constraint_at word_at
  constraint_again c rest is =
      let S : List TokenValue = separated expr_toks c.args ++ mark CloseParen in
      let N : List TokenValue = notes_toks c.notes in
      let Z : List TokenValue = Marked Semicolon ∷ rest in
      let flat : ((S ++ N) ++ mark Semicolon) ++ rest ≡ S ++ (N ++ Z) =
      append_assoc (S ++ N) (mark Semicolon) rest ∙ append_assoc S N Z in
      let args = list_again (unbounded (expr_law l m allow) (length c.args)) CloseParen refl refl
      refl c.args (N ++ Z) (omega arith) is.args in
      rw (
        name_again c.name (Marked OpenParen ∷ (((S ++ N) ++ mark Semicolon) ++ rest)) is.name,
        mark_again OpenParen (((S ++ N) ++ mark Semicolon) ++ rest),
        flat,
        args,
        notes_again l m allow c.notes Z is.notes refl refl,
        mark_again Semicolon rest,
      ) refl

  pub constraint_law : Law (is_word (codes "constraint")) constraint_toks (IsConstraint l)
      (IsConstraint m) (constraint_at m)
  constraint_law = record {
    takes = constraint_takes;
    again = λ c rest is ends. constraint_again c rest is;
    begun = λ c rest is. refl;
  }

  goal_takes : Takes goal_toks (IsGoal m) (goal_at m)
  unfolding goal_at
  goal_takes tokens x e = choose (next_word (codes "minimize") tokens) _ _ e
      (λ word f.
      let b = step _ ((basic_law l m allow).takes (drop 1 tokens)) f in
      made b.on (worded word ⟫ b.parts) b.fits)
      (λ other f. choose (next_word (codes "maximize") tokens) _ _ f
      (λ word g.
      let b = step _ ((basic_law l m allow).takes (drop 1 tokens)) g in
      made b.on (worded word ⟫ b.parts) b.fits)
      (λ other g.
      let word = step _ (word_takes (codes "satisfy") tokens) g in made word.on word.parts tt))

  goal_again : (g : Goal) (rest : List TokenValue) → IsGoal l g → Ends rest
      → goal_at m (goal_toks g ++ rest) ≡ Ok (g, rest)
  unfolding goal_at word_at
  goal_again Satisfy rest is ends = refl
  goal_again (Minimize b) rest is ends = rw ((basic_law l m allow).again b rest is ends) refl
  goal_again (Maximize b) rest is ends = rw ((basic_law l m allow).again b rest is ends) refl

  solve_takes : Takes solve_toks (IsSolve m) (solve_at m)
  unfolding solve_at
  solve_takes tokens x e =
      next _ (word_takes (codes "solve") tokens) e (λ start.
      next _ (notes_take l m allow start.left) start.on (λ notes.
      next _ (goal_takes notes.left) notes.on (λ goal.
      next _ (mark_takes Semicolon goal.left) goal.on (λ end.
      made end.on (start.parts ⟫ notes.parts ⟫ goal.parts ⟫ end.parts)
      (record { notes = notes.fits; goal = goal.fits })))))

  solve_again : (s : Solve) (rest : List TokenValue) → IsSolve l s
      → solve_at m (solve_toks s ++ rest) ≡ Ok (s, rest)
  unfolding solve_at word_at
  solve_again s rest is =
      let N : List TokenValue = notes_toks s.notes in
      let G : List TokenValue = goal_toks s.goal in
      let Z : List TokenValue = Marked Semicolon ∷ rest in
      let flat : ((N ++ G) ++ mark Semicolon) ++ rest ≡ N ++ (G ++ Z) =
      append_assoc (N ++ G) (mark Semicolon) rest ∙ append_assoc N G Z in
      rw (
        flat,
        notes_again l m allow s.notes (G ++ Z) is.notes (goal_ends s.goal Z)
            (goal_no_note s.goal Z),
        goal_again s.goal Z is.goal refl,
        mark_again Semicolon rest,
      ) refl

  -- ---- the whole tree

  pub tree_takes : Takes toks (HasShape m) (tree_at m)
  unfolding tree_at
  tree_takes tokens x e =
      next _ (items_take predicate_law tokens) e (λ predicates.
      next _ (items_take decl_law predicates.left) predicates.on (λ decls.
      next _ (items_take constraint_law decls.left) decls.on (λ constraints.
      next _ (solve_takes constraints.left) constraints.on (λ solve.
      made solve.on (predicates.parts ⟫ decls.parts ⟫ constraints.parts ⟫ solve.parts)
      (record {
        predicates = predicates.fits;
        decls = decls.fits;
        constraints = constraints.fits;
        solve = solve.fits;
      })))))

  tree_again : (t : Tree) (rest : List TokenValue) → HasShape l t
      → tree_at m (toks t ++ rest) ≡ Ok (t, rest)
  unfolding tree_at
  tree_again t rest is =
      let P : List TokenValue = flat_map predicate_toks t.predicates in
      let D : List TokenValue = flat_map decl_toks t.decls in
      let C : List TokenValue = flat_map constraint_toks t.constraints in
      let S : List TokenValue = solve_toks t.solve ++ rest in
      let predicates = items_again predicate_law predicate_again t.predicates (D ++ (C ++ S))
      is.predicates
      (each_before (λ ts. next_word (codes "predicate") ts ≡ false) decl_toks (IsDecl l)
      (λ d ts it. apart_word begins_decl (codes "predicate") (decl_toks d ++ ts) refl
      (decl_law.begun d ts (fits_more decl_law d it))) t.decls (C ++ S) is.decls
      (no_item (is_word (codes "predicate")) refl refl t rest)) in
      let decls = items_again decl_law decl_again t.decls (C ++ S) is.decls
      (no_item begins_decl refl refl t rest) in
      let constraints =
      items_again constraint_law constraint_again t.constraints S is.constraints refl in
      ap (tree_at m) (append_assoc (P ++ D ++ C) (solve_toks t.solve) rest
      ∙ append_assoc (P ++ D) C S ∙ append_assoc P D (C ++ S))
      ∙ rw (predicates, decls, constraints, solve_again t.solve rest is.solve) refl

  pub tree_of_toks : (t : Tree) → HasShape l t → tree_of m (toks t) ≡ Ok t
  unfolding tree_of ended
  tree_of_toks t is = ap (tree_of m) (sym (append-nil (toks t))) ∙ rw (tree_again t [] is) refl

-- ---- what is read takes a token at least

pub predicates_shrink : (limits : Limits) → Shrinks (any_number (predicate_at limits))
predicates_shrink limits = (unbounded (predicate_law limits limits (same limits)) 0).shrinks

pub decls_shrink : (limits : Limits) → Shrinks (any_number (decl_at limits))
decls_shrink limits = (unbounded (decl_law limits limits (same limits)) 0).shrinks

pub constraints_shrink : (limits : Limits) → Shrinks (any_number (constraint_at limits))
constraints_shrink limits = (unbounded (constraint_law limits limits (same limits)) 0).shrinks
