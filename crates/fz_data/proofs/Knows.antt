-- What the scope says of a name is what the declarations that were read say.
use Rattle.std.proofs.Common.{◌≡◌, ℕ, true, false, cond, List, [], ◌∷◌, ◌++◌, map, Option, Some, None, option_map, refl, sym, ap, ◌∙◌, find}
use Rattle.std.specs.Option.{option_map_or, option_or}
use Rattle.std.proofs.lemmas.List.{append-nil}
use Rattle.std.specs.Str.{bytes_eq}
use Rattle.fz_store.specs.of_meaning.declared.kind.Kind.{Kind}
use Rattle.fz_store.specs.of_meaning.declared.kind.Kind.TheVariants.{Int as IntKind}
use Rattle.fz_store.specs.of_meaning.Located.{Basic, Expr, Decl}
use Rattle.fz_store.specs.of_meaning.Located.Basic.{Lit, Named}
use Rattle.fz_store.specs.of_meaning.Located.Expr.{One, Several}
use Rattle.fz_store.specs.of_meaning.Meaning.{first_some}
use Rattle.fz_store.specs.of_meaning.Meaning.Place.{Array}
use Rattle.fz_store.specs.of_meaning.Names.{parts, kind_of_base, is_scalar, named_as, declaration, scalar_place, declared_elements, place_of_declared, scalar_kind, scalars, kinds, term_at, term_of, definition_of, part_fault, parts_fault}
use Rattle.fz_store.proofs.of_meaning.KnownNames.{clean_name, found_stays, term_found, term_placed}
use Rattle.fz_store.proofs.of_meaning.ScanSteps.{first_none, second_none}
use Rattle.fz_store.specs.declared.scope.Scope.{Scope}
use Rattle.fz_data.specs.Scope.{place_in, place_kind, kinds_in}
use Rattle.fz_data.specs.Stands.{StandsFor, entry_place, declared_pair}
use Rattle.fz_store.proofs.Finds.{by_name, first_entry, or_else}

first_pair : (all ds : List Decl) (x : List ℕ) → first_some (by_name x) (map (declared_pair all) ds)
    ≡ option_map (place_of_declared all) (find (named_as x) ds)
first_pair all [] x = refl
first_pair all (d ∷ ds) x = ap (option_or (cond (bytes_eq d.name.text x) (Some (place_of_declared all d)) None)) (first_pair all ds x) ∙ or_else (place_of_declared all) (named_as x d) d (find (named_as x) ds)

kind_known : (all : List Decl) (o : Option Decl)
    → option_map place_kind (option_map (place_of_declared all) o) ≡ option_map scalar_kind o
kind_known all None = refl
kind_known all (Some d) =
    elim (is_scalar d) as (λ b. Some (place_kind (cond b (scalar_place all d) (Array d.name.text (kind_of_base d.base) (declared_elements all d)))) ≡ Some (cond b (Some (kind_of_base d.base)) None)) [ true ↦ refl | false ↦ refl ]

module _ (all known : List Decl) (s : Scope) (st : StandsFor all known s) where
  pub places_now : map (entry_place s.variables.items s.arrays.items) s.names
      ≡ map (declared_pair all) known
  places_now = (λ i. map (entry_place (sym (append-nil s.variables.items) i) (sym (append-nil s.arrays.items) i)) s.names) ∙ st.places [] []

  pub knows : (x : List ℕ) → place_in s x ≡ option_map (place_of_declared all) (declaration known x)
  knows x = sym (first_entry s.variables.items s.arrays.items x s.names) ∙ ap (first_some (by_name x)) places_now ∙ first_pair all known x

  pub same_kinds : kinds_in s ≡ kinds known
  same_kinds = λ i x. (ap (option_map place_kind) (knows x) ∙ kind_known all (declaration known x)) i

  -- ---- terms

  module _ (rest : List Decl) (split : all ≡ known ++ rest) where
    found_in_all : (x : List ℕ) (d : Decl) → declaration known x ≡ Some d
        → declaration all x ≡ Some d
    found_in_all x d e = ap (λ ds. declaration ds x) split ∙ found_stays known rest x d e

    term_same : (k : Kind) (b : Basic) → part_fault (kinds known) (Some k) b ≡ None
        → term_of (place_in s) b ≡ term_of (scalars all) b
    term_same k (Lit l) e = refl
    term_same k (Named x) e =
        let (d, found, scalar, is) = clean_name k (declaration known x.text) x.span e in
        let later : declaration all x.text ≡ Some d = found_in_all x.text d found in
        ap (λ o. term_at (option_map_or (λ p. p) o (Array x.text IntKind []))) (knows x.text ∙ ap (option_map (place_of_declared all)) (found ∙ sym later))
        ∙ term_placed all x d later scalar ∙ sym (term_found all x d later)

    pub terms_same : (k : Kind) (bs : List Basic) → parts_fault (kinds known) (Some k) bs ≡ None
        → map (term_of (place_in s)) bs ≡ map (term_of (scalars all)) bs
    terms_same k [] e = refl
    terms_same k (b ∷ bs) e =
        let here : term_of (place_in s) b ≡ term_of (scalars all) b = term_same k b (first_none (part_fault (kinds known) (Some k) b) (parts_fault (kinds known) (Some k) bs) e) in
        let later : map (term_of (place_in s)) bs ≡ map (term_of (scalars all)) bs = terms_same k bs (second_none (part_fault (kinds known) (Some k) b) (parts_fault (kinds known) (Some k) bs) e) in
        λ i. here i ∷ later i

    pub definition_same : (k : Kind) (v : Option Expr)
        → parts_fault (kinds known) (Some k) (parts v) ≡ None
        → definition_of (place_in s) v ≡ definition_of (scalars all) v
    definition_same k None e = refl
    definition_same k (Some (Several bs)) e = refl
    definition_same k (Some (One b)) e = ap Some (term_same k b (first_none (part_fault (kinds known) (Some k) b) None e))
