-- A block's refusal: it tells the fault of the first item that has one, and the fault's place lies
-- in the block's text.
use Rattle.std.proofs.Common.{◌≡◌, ◌<◌, ℕ, ◌≤◌, true, false, not, ◌==◌, List, [], ◌∷◌, length, get_or, take, Option, Some, None, is_some, IsSomeAnd, option_map, refl, sym, ap, subst, ◌∙◌, arith}
use Rattle.std.specs.List.{AllByRecursion}
use Rattle.std.specs.Option.{option_or}
use Rattle.fz_stream.specs.of_syntax.Span.{Span}
use Rattle.fz_index.specs.of_model.declared.Kind.{Kind}
use Rattle.fz_index.specs.of_model.Meaning.{Place, Model, find_name, first_some}
use Rattle.fz_index.specs.of_model.Meaning.Place.{Scalar, Array}
use Rattle.fz_index.specs.of_model.Names.{literal_value}
use Rattle.fz_index.specs.of_model.Relations.{kind_of, same_kind}
use Rattle.fz_stream.specs.declared.block.Block.{Block}
use Rattle.fz_stream.specs.of_syntax.View.{bare_literal}
use Rattle.fz_stream.specs.of_syntax.declared.Literal as the_literal
use Rattle.fz_stream.specs.of_syntax.declared.Name.{Name}
use Rattle.fz_stream.specs.of_syntax.declared.Printed as the_printed
use Rattle.fz_stream.specs.of_syntax.declared.PrintedValue as the_value
use Rattle.fz_stream.specs.of_syntax.declared.PrintedValue.TheVariants as printed
use Rattle.fz_stream.proofs.of_syntax.Standing.{LieBetween, elements_lie, lie_each, lie_in, literal_lies, printed_lies}
use Rattle.fz_stream.specs.of_syntax.Placed.{ArePlacedIn, placed_items, placed_literal, placed_printed, placed_printed_value}
use Rattle.fz_stream.specs.of_syntax.Places.{IsSpanWithin}
use Rattle.fz_filling.specs.BlockFaults.{BlockFault, BlockFaultKind, fault_if, literal_fault, value_fault, printed_fault, items_fault, block_fault, moved}
use Rattle.fz_filling.specs.BlockFaults.BlockFaultKind.{UnknownName, WrongKind, WrongLength}
use Rattle.fz_filling.specs.declared.error.BlockError.{BlockError}
use Rattle.fz_filling.specs.declared.error.BlockError.TheVariants as errors
use Rattle.fz_filling.specs.Judged.{TellsFault, TellsKind}
use Rattle.fz_filling.specs.Working.{IsPlacedWithin, moved_error}
use Rattle.fz_filling.proofs.Lists.{found_here}

-- ---- what an error tells

-- where the second has the fault that the first has
tells_further : (e : BlockError) (f g : Option BlockFault)
    → ((x : BlockFault) → f ≡ Some x → g ≡ Some x) → TellsFault e f → TellsFault e g
tells_further (errors.UnknownName at) f g same h = same _ h
tells_further (errors.Kind at) f g same h = same _ h
tells_further (errors.Length at) f g same h = same _ h
tells_further errors.Memory f g same h = tt

-- the first fault of a list, where none was met before
pub tells_stop : {A : Type 0} (f : A → Option BlockFault) (xs : List A) (i : ℕ) (x : A)
    (e : BlockError) → i < length xs → x ≡ get_or xs i x → first_some f (take i xs) ≡ None
    → TellsFault e (f x) → TellsFault e (first_some f xs)
tells_stop f xs i x e lt at none h =
    tells_further e (f x) (first_some f xs) (λ y here. found_here f xs i x lt at none (ap is_some here) ∙ here) h

-- ---- the fault's place

module _ (upto : ℕ) where
  fault_within : (at : Span) (k : BlockFaultKind) (f : BlockFault) → IsSpanWithin upto at
      → ◌≡◌ {A = Option BlockFault} (Some (record { kind = k; at = at })) (Some f)
      → IsSpanWithin upto f.at
  fault_within at k f h e =
      let same : record { kind = k; at = at } ≡ f = cc in
      subst (IsSpanWithin upto) (ap (λ (g : BlockFault). g.at) same) h

  literal_within : (k : Kind) (l : the_literal.Literal) (f : BlockFault)
      → literal_fault k l ≡ Some f → IsSpanWithin upto l.span
      → IsSpanWithin upto f.at
  literal_within k l f e h =
      (elim (not (same_kind (kind_of (literal_value (bare_literal l))) k)) as (λ b.
      fault_if b WrongKind l.span ≡ Some f → IsSpanWithin upto f.at) [
        | true ↦ λ e. fault_within l.span WrongKind f h e
        | false ↦ λ e. cc
      ]) e

  literals_within : (k : Kind) (ls : List the_literal.Literal) (f : BlockFault)
      → first_some (literal_fault k) ls ≡ Some f
      → AllByRecursion (λ l. LieBetween 0 upto (placed_literal l)) ls → IsSpanWithin upto f.at
  literals_within k [] f e h = cc
  literals_within k (l ∷ ls) f e h =
      (elim (literal_fault k l) as (λ o. literal_fault k l ≡ o
      → option_or o (first_some (literal_fault k) ls) ≡ Some f
      → IsSpanWithin upto f.at) [
        | None ↦ λ _ e. literals_within k ls f e h.1
        | Some g ↦ λ here e.
            let same : g ≡ f = cc in
            literal_within k l f (here ∙ ap Some same) (literal_lies l 0 upto h.0)
      ]) refl e

  value_within : (x : Name) (p : Place) (v : the_value.PrintedValue) (f : BlockFault)
      → IsSpanWithin upto x.span → value_fault x p v ≡ Some f
      → LieBetween 0 upto (placed_printed_value v) → IsSpanWithin upto f.at
  value_within x (Scalar k t) (printed.One l) f n e h =
      literal_within k l f e (literal_lies l 0 upto h)
  value_within x (Scalar k t) (printed.Array is ls) f n e h = fault_within x.span WrongKind f n e
  value_within x (Array y k ts) (printed.One l) f n e h = fault_within x.span WrongKind f n e
  value_within x (Array y k ts) (printed.Array is ls) f n e h =
      (elim (not (length ls.items == length ts)) as (λ b. option_or
      (fault_if b WrongLength x.span) (first_some (literal_fault k) ls.items)
      ≡ Some f → IsSpanWithin upto f.at) [
        | true ↦ λ e. fault_within x.span WrongLength f n e
        | false ↦ λ e. literals_within k ls.items f e (elements_lie 0 upto is ls h)
      ]) e

  item_within : (m : Model) (p : the_printed.Printed) (f : BlockFault)
      → printed_fault m p ≡ Some f → LieBetween 0 upto (placed_printed p)
      → IsSpanWithin upto f.at
  item_within m p f e h =
      let (name, value) = printed_lies p 0 upto h in
      (elim (find_name m p.name.text.now) as (λ o. (elim o [ None ↦ Some (record { kind = UnknownName; at = p.name.span }) | Some q ↦ value_fault p.name q p.value ]) ≡ Some f → IsSpanWithin upto f.at) [
        | None ↦ λ e. fault_within p.name.span UnknownName f name e
        | Some q ↦ λ e. value_within p.name q p.value f name e value
      ]) e

  items_within : (m : Model) (items : List the_printed.Printed) (f : BlockFault)
      → items_fault m items ≡ Some f
      → AllByRecursion (λ p. LieBetween 0 upto (placed_printed p)) items → IsSpanWithin upto f.at
  items_within m [] f e h = cc
  items_within m (p ∷ items) f e h =
      (elim (printed_fault m p) as (λ o.
      printed_fault m p ≡ o
      → option_or o (items_fault m items) ≡ Some f → IsSpanWithin upto f.at) [
        | None ↦ λ _ e. items_within m items f e h.1
        | Some g ↦ λ here e.
            let same : g ≡ f = cc in item_within m p f (here ∙ ap Some same) h.0
      ]) refl e

-- ---- the refusal of a block

abbrev at_place : ℕ → BlockFault → BlockFault
at_place offset f = record { kind = f.kind; at = moved offset f.at }

-- the error in the text, moved, tells the block's fault
pub moved_tells : (m : Model) (b : Block) (e : BlockError) → TellsFault e (items_fault m b.items.items)
    → TellsFault (moved_error b.offset e) (block_fault m b)
moved_tells m b (errors.UnknownName at) h = ap (option_map (at_place b.offset)) h
moved_tells m b (errors.Kind at) h = ap (option_map (at_place b.offset)) h
moved_tells m b (errors.Length at) h = ap (option_map (at_place b.offset)) h
moved_tells m b errors.Memory h = tt

-- of whatever places they are, the block has a fault of that kind
pub kind_tells : (m : Model) (b : Block) (e : BlockError) → TellsFault e (items_fault m b.items.items)
    → TellsKind e (block_fault m b)
kind_tells m b (errors.UnknownName at) h = subst (λ o. IsSomeAnd (option_map (at_place b.offset) o) (λ x. x.kind ≡ UnknownName)) (sym h) refl
kind_tells m b (errors.Kind at) h = subst (λ o. IsSomeAnd (option_map (at_place b.offset) o) (λ x. x.kind ≡ WrongKind)) (sym h) refl
kind_tells m b (errors.Length at) h = subst (λ o. IsSomeAnd (option_map (at_place b.offset) o) (λ x. x.kind ≡ WrongLength)) (sym h) refl
kind_tells m b errors.Memory h = tt

fault_lies : (m : Model) (text : List ℕ) (items : List the_printed.Printed) (n : ℕ)
    (f : BlockFault) → length text ≤ n → ArePlacedIn text (placed_items items)
    → items_fault m items ≡ Some f → IsSpanWithin n f.at
fault_lies m text items n f le h e =
    let all = lie_each placed_printed 0 (length text) items (lie_in text (placed_items items) h) in
    let within : IsSpanWithin (length text) f.at = items_within (length text) m items f e all in
    (within.0, omega (arith, within.1, le))

-- and lies where it can be moved
pub told_within : (m : Model) (text : List ℕ) (items : List the_printed.Printed) (n : ℕ)
    (e : BlockError) → length text ≤ n → ArePlacedIn text (placed_items items)
    → TellsFault e (items_fault m items) → IsPlacedWithin n e
told_within m text items n (errors.UnknownName at) le h told = fault_lies m text items n _ le h told
told_within m text items n (errors.Kind at) le h told = fault_lies m text items n _ le h told
told_within m text items n (errors.Length at) le h told = fault_lies m text items n _ le h told
told_within m text items n errors.Memory le h told = tt
