-- Lists that grow while a model is loaded: what is in them stays, whatever is appended.
use Rattle.std.proofs.Common.{◌≡◌, ℕ, ◌+◌, ◌<◌, true, List, [], ◌∷◌, ◌++◌, map, length, take, drop, get_or, refl, sym, ap, subst, ◌∙◌, append_assoc}
use Rattle.std.proofs.lemmas.Bool.{false≢true}
use Rattle.std.proofs.lemmas.List.{append-nil, map-append, length-map}
use Rattle.std.proofs.Math.Seq.{take-append_seam, drop-append_seam}
use Rattle.fz_store.specs.of_meaning.of_base.declared.value.Value.{Value}
use Rattle.fz_store.specs.of_meaning.declared.term.Term.{Term}
use Rattle.fz_store.specs.declared.parts.Variable.{Variable}
use Rattle.fz_store.specs.declared.parts.Array.{Array}
use Rattle.fz_store.specs.declared.store.Slot.{Slot}
use Rattle.fz_store.specs.declared.store.Slot.TheVariants as slots
use Rattle.fz_store.specs.declared.store.Argument.{Argument}
use Rattle.fz_store.specs.declared.store.Store.{Store}
use Rattle.fz_store.specs.Slots.{IsGrown, IsSlotOf, is_scalar, slot_term}
use Rattle.fz_store.specs.Parts.{place_view, scalar_view}
use Rattle.fz_data.specs.Posting.{IsLonger}
use Rattle.fz_data.proofs.Loops.{two_more}
use Rattle.fz_data.proofs.Tells.{tells_stop}

-- ---- one list

pub grown_none : {A : Type 0} (xs : List A) → IsGrown xs xs
grown_none xs = ([], sym (append-nil xs))

pub grown_more : {A : Type 0} (xs ys zs : List A) → IsGrown xs ys → IsGrown ys zs → IsGrown xs zs
grown_more xs ys zs (more, e) (further, d) = (more ++ further, d ∙ ap (λ ws. ws ++ further) e ∙ append_assoc xs more further)

pub grown_one : {A : Type 0} (xs ys zs : List A) (z : A) → IsGrown xs ys → zs ≡ ys ++ z ∷ []
    → IsGrown xs zs
grown_one xs ys zs z g e = grown_more xs ys zs g (z ∷ [], e)

-- ---- the lists of a store

pub longer_none : (st : Store) → IsLonger st st
longer_none st = record { arguments = grown_none st.arguments.items; slots = grown_none st.slots.items; constants = grown_none st.constants.items }

pub longer_more : (a b c : Store) → IsLonger a b → IsLonger b c → IsLonger a c
longer_more a b c g h = record {
  arguments = grown_more a.arguments.items b.arguments.items c.arguments.items g.arguments h.arguments;
  slots = grown_more a.slots.items b.slots.items c.slots.items g.slots h.slots;
  constants = grown_more a.constants.items b.constants.items c.constants.items g.constants h.constants;
}

-- one more argument at the end
pub argument_pushed : (before after : Store) (a : Argument)
    → after.arguments.items ≡ before.arguments.items ++ a ∷ [] → after.slots ≡ before.slots
    → after.constants ≡ before.constants → IsLonger before after
argument_pushed before after a pushed slots constants = record {
  arguments = (a ∷ [], pushed);
  slots = ([], ap (λ v. v.items) slots ∙ sym (append-nil before.slots.items));
  constants = ([], ap (λ v. v.items) constants ∙ sym (append-nil before.constants.items));
}

-- ---- what a slot stands for

pub scalar_is : (vs : List Variable) (xs : List Array) (cs : List Value) (s : Slot)
    → is_scalar s ≡ true → place_view vs xs cs s ≡ scalar_view vs (slot_term cs s)
scalar_is vs xs cs (slots.Array i) h = absurd (false≢true h)
scalar_is vs xs cs _ h = refl

-- a slot of a scalar stands for it, whatever constants are appended
pub slot_is : (vs : List Variable) (xs : List Array) (cs : List Value) (t : Term) (s : Slot)
    → IsSlotOf cs t s → (later : List Value) → IsGrown cs later
    → place_view vs xs later s ≡ scalar_view vs t
slot_is vs xs cs t s h later g = scalar_is vs xs later s h.scalar ∙ ap (scalar_view vs) (h.stands later g)

-- ---- items that are appended to others

taken_behind : {A : Type 0} (old behind new : List A) (first n : ℕ) → new ≡ old ++ behind
    → first ≡ length old → n ≡ length behind → (later : List A) → IsGrown new later
    → take n (drop first later) ≡ behind
taken_behind old behind new first n grown from long later (more, e) =
    (λ i. take (long i) (drop (from i) later))
    ∙ ap (λ zs. take (length behind) (drop (length old) zs)) (e ∙ ap (λ ws. ws ++ more) grown ∙ append_assoc old behind more)
    ∙ ap (take (length behind)) (drop-append_seam old (behind ++ more))
    ∙ take-append_seam behind more

module _ {E A V : Type 0} (Later : E → E → Type 0) (view : E → A → V) where
  -- all items read so, whatever is appended
  abbrev pub AllRead : E → List A → List V → Type 0
  AllRead e items xs = (later : E) → Later e later → map (view later) items ≡ xs

  pub none_read : (e : E) (items : List A) → items ≡ [] → AllRead e items []
  none_read e items none later h = ap (map (view later)) none

  pub next_read : {P Q : Type 0} (want : Q → V) (located : P → Q) (ps : List P) (k : ℕ) (p : P)
      (e f : E) (old new : List A) (a : A) → k < length ps → p ≡ get_or ps k p
      → ((g : E) → Later f g → Later e g) → new ≡ old ++ a ∷ []
      → ((later : E) → Later f later → view later a ≡ want (located p)) → AllRead e old (map want (map located (take k ps))) → AllRead f new (map want (map located (take (k + 1) ps)))
  next_read want located ps k p e f old new a lt at on pushed is all later h =
      ap (map (view later)) pushed ∙ map-append (view later) old (a ∷ []) ∙ (λ i. all later (on later h) i ++ is later h i ∷ []) ∙ sym (two_more want located ps k p lt at)

  -- items were appended to the old ones that read so, whatever is appended later
  pub record SoFar (e : E) (old new : List A) (xs : List V) : Type 0 where
    pub behind : List A
    pub grown : new ≡ old ++ behind
    pub reads : (later : E) → Later e later → map (view later) behind ≡ xs

  pub none_so_far : (e : E) (old : List A) → SoFar e old old []
  none_so_far e old = record { behind = []; grown = sym (append-nil old); reads = λ later h. refl }

  -- what was appended to the old ones is read the same in a later state
  pub still_so_far : (e f : E) (old new : List A) (xs : List V) → ((g : E) → Later f g → Later e g)
      → SoFar e old new xs → SoFar f old new xs
  still_so_far e f old new xs on s = record { behind = s.behind; grown = s.grown; reads = λ later h. s.reads later (on later h) }

  one_so_far : (e : E) (old new newer : List A) (xs : List V) (a : A) (x : V)
      → newer ≡ new ++ a ∷ [] → ((later : E) → Later e later → view later a ≡ x)
      → SoFar e old new xs → SoFar e old newer (xs ++ x ∷ [])
  one_so_far e old new newer xs a x pushed is s = record {
    behind = s.behind ++ a ∷ [];
    grown = pushed ∙ ap (λ ws. ws ++ a ∷ []) s.grown ∙ append_assoc old s.behind (a ∷ []);
    reads = λ later h. map-append (view later) s.behind (a ∷ []) ∙ (λ i. s.reads later h i ++ is later h i ∷ []);
  }

  -- one more item of a list that is gone through
  pub next_so_far : {P Q : Type 0} (want : Q → V) (located : P → Q) (ps : List P) (k : ℕ) (p : P)
      (e f : E) (old new newer : List A) (a : A) → k < length ps → p ≡ get_or ps k p
      → ((g : E) → Later f g → Later e g)
      → newer ≡ new ++ a ∷ [] → ((later : E) → Later f later → view later a ≡ want (located p)) → SoFar e old new (map want (map located (take k ps))) → SoFar f old newer (map want (map located (take (k + 1) ps)))
  next_so_far want located ps k p e f old new newer a lt at on pushed is s =
      subst (SoFar f old newer) (sym (two_more want located ps k p lt at))
      (one_so_far f old new newer (map want (map located (take k ps))) a (want (located p)) pushed is (still_so_far e f old new _ on s))

  -- the segment of the items that were appended
  pub segment_is : (e : E) (old new : List A) (xs : List V) (first n : ℕ) → first ≡ length old
      → n ≡ length xs → SoFar e old new xs → Later e e → (later : E) → Later e later
      → (items : List A) → IsGrown new items → map (view later) (take n (drop first items)) ≡ xs
  segment_is e old new xs first n from many s self later h items g =
      let long : length s.behind ≡ length xs = sym (length-map s.behind (view e)) ∙ ap length (s.reads e self) in
      ap (map (view later)) (taken_behind old s.behind new first n s.grown from (many ∙ sym long) items g) ∙ s.reads later h

-- what a loop over the parts of an argument cites
pub ruleset grows = (tells_stop, none_so_far, longer_none)
