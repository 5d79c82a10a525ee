-- In the model of a tree without faults, whose scalar parameters have values of their kinds, each
-- scalar that a name stands for or that is in a constraint has the kind that it is read with.
use Rattle.std.proofs.Common.{◌≡◌, cond, List, [], ◌∷◌, map, Option, Some, None, option_map, slice_get, refl, sym, ap, ◌∙◌}
use Rattle.std.specs.List.{AllByRecursion}
use Rattle.std.specs.Option.{option_map_or}
use Rattle.fz_store.specs.of_meaning.of_base.declared.value.Value.{Value}
use Rattle.fz_store.specs.of_meaning.declared.kind.Kind.{Kind}
use Rattle.fz_store.specs.of_meaning.declared.kind.Kind.TheVariants.{Int as IntKind}
use Rattle.fz_store.specs.of_meaning.declared.term.Term.TheVariants.{Var, Fixed}
use Rattle.fz_store.specs.of_meaning.Relations.{kind_of}
use Rattle.fz_store.specs.of_meaning.Located.{Basic, Constraint, Decl, Expr, LocatedTree}
use Rattle.fz_store.specs.of_meaning.Located.Basic.{Lit, Named}
use Rattle.fz_store.specs.of_meaning.Located.Expr.{One, Several}
use Rattle.fz_store.specs.of_meaning.Meaning.Place.{Array}
use Rattle.fz_store.specs.of_meaning.Names.{argument_of, declaration, literal_of, model_of, number_of, place_of, place_of_declared, places, posted_of, decls_fault}
use Rattle.fz_store.proofs.of_meaning.NamedKinds.{ParameterIs, declared_fits}
use Rattle.fz_store.proofs.of_meaning.Scope.{literal_is_of}
use Rattle.fz_store.proofs.of_meaning.Values.{no}
use Rattle.fz_store.proofs.of_meaning.Table.{array_by_place, scalar_by_place}
use Rattle.fz_store.specs.declared.parts.Array as the_array
use Rattle.fz_store.specs.declared.parts.Variable.{Variable}
use Rattle.fz_store.specs.Kinds.{ArgumentFits, PlaceFits, PostedFits}
use Rattle.fz_store.specs.Naming as the_declared
use Rattle.fz_store.specs.Naming.{Declared as declarations}
use Rattle.fz_store.specs.Parts.{array_view, no_array, elements_of}
use Rattle.fz_store.specs.Declarations.{declared_place}
use Rattle.fz_data.specs.Stands.{Entry, declared_pair, entry_place}

-- ---- parameters: the kind of a stored value is its own

abbrev pub HasKind : Kind → Value → Type 0
HasKind k v = kind_of v ≡ k

-- a scalar parameter's value has the declared kind
abbrev pub HasOwnKind : Decl → Type 0
HasOwnKind d = ParameterIs HasKind d

module _ (all : List Decl) (vs : List Variable) (xs : List the_array.Array) where
  no_scalar : (d : Decl) (o : Option the_array.Array)
      → option_map_or array_view o no_array ≡ place_of_declared all d → HasOwnKind d
  no_scalar d None h = λ scalar _. no (sym (array_by_place all d [] IntKind [] (sym h)).0 ∙ scalar)
  no_scalar d (Some a) h = λ scalar _. no (sym (array_by_place all d a.name.now a.kind (elements_of a) (sym h)).0 ∙ scalar)

  own_kind : (d : Decl) (e : the_declared.Declared)
      → declared_place vs xs e ≡ place_of_declared all d → HasOwnKind d
  own_kind d (declarations.Array i) h = no_scalar d (slice_get xs i) h
  own_kind d (declarations.Scalar (Var n)) h = λ scalar fixed.
      let found = scalar_by_place all d _ (Var n) (sym h) in
      let bad : Fixed (literal_of d.value) ≡ Var n = sym (ap (λ b. cond b (Var (number_of all d.name.text)) (Fixed (literal_of d.value))) fixed) ∙ found.2 in
      cc
  own_kind d (declarations.Scalar (Fixed v)) h = λ scalar fixed.
      let found = scalar_by_place all d (kind_of v) (Fixed v) (sym h) in
      let term : Fixed (literal_of d.value) ≡ Fixed v = sym (ap (λ b. cond b (Var (number_of all d.name.text)) (Fixed (literal_of d.value))) fixed) ∙ found.2 in
      let same : literal_of d.value ≡ v = cc in
      ap kind_of same ∙ sym found.1

  pub own_kinds : (es : List Entry) (ds : List Decl)
      → map (entry_place vs xs) es ≡ map (declared_pair all) ds → AllByRecursion HasOwnKind ds
  own_kinds es [] h = tt
  own_kinds [] (d ∷ ds) h = cc
  own_kinds (e ∷ es) (d ∷ ds) h =
      let here : entry_place vs xs e ≡ declared_pair all d = cc in
      let rest : map (entry_place vs xs) es ≡ map (declared_pair all) ds = cc in
      (own_kind d e.1 (ap (λ q. q.1) here), own_kinds es ds rest)

-- ---- the scalars of a tree's constraints

module _ (t : LocatedTree) (clean : decls_fault [] t.decls ≡ None) (own : AllByRecursion HasOwnKind t.decls) where
  part_fits : (b : Basic) → PlaceFits (model_of t) (place_of (places t.decls) b)
  part_fits (Lit l) = refl
  part_fits (Named x) = by_declaration (declaration t.decls x.text) refl
    where
      by_declaration : (o : Option Decl) → declaration t.decls x.text ≡ o
          → PlaceFits (model_of t)
          (option_map_or (λ p. p) (option_map (place_of_declared t.decls) o) (Array x.text IntKind []))
      by_declaration None found = tt
      by_declaration (Some d) found = declared_fits HasKind t clean literal_is_of own x.text d found

  parts_fit : (bs : List Basic) → AllByRecursion (PlaceFits (model_of t))
      (map (place_of (places t.decls)) bs)
  parts_fit [] = tt
  parts_fit (b ∷ bs) = (part_fits b, parts_fit bs)

  argument_fits : (e : Expr) → ArgumentFits (model_of t) (argument_of (places t.decls) e)
  argument_fits (One b) = part_fits b
  argument_fits (Several bs) = parts_fit bs

  arguments_fit : (es : List Expr)
      → AllByRecursion (ArgumentFits (model_of t)) (map (argument_of (places t.decls)) es)
  arguments_fit [] = tt
  arguments_fit (e ∷ es) = (argument_fits e, arguments_fit es)

  pub posted_fit : (cs : List Constraint)
      → AllByRecursion (PostedFits (model_of t)) (map (posted_of (places t.decls)) cs)
  posted_fit [] = tt
  posted_fit (c ∷ cs) = (arguments_fit c.args, posted_fit cs)
