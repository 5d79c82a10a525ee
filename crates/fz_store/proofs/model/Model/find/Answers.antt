use Rattle.std.proofs.Common.{◌≡◌, Some, slice_get, refl, ap, sym, ◌∙◌}
use Rattle.std.proofs.lemmas.Option.{slice_get_past, slice_get_read}
use Rattle.fz_meaning.specs.Meaning.{variables_of}
use Rattle.fz_meaning.specs.Meaning.Place.{Scalar, Array}
use Rattle.fz_meaning.specs.declared.term.Term.TheVariants.{Var}
use Rattle.fz_store.specs.Naming.{standing_view}
use Rattle.fz_store.specs.Parts.{elements_of}
use Rattle.fz_store.specs.Shown.{found_place, kind_among}
use Rattle.fz_store.proofs.Finds.{found_scalar, stands, found_array}
use Rattle.fz_store.proofs.FindsKinds.{fits_found}
use Rattle.fz_store.proofs.model.Model.find.Goals as goal
use Rattle.fz_store.proofs.model.Model.find.Goals.{in-Parameter, in-Variable, in-Array+in_ok-array-in-Array}

pub returns-in_err-array-in-Array-clause-place : goal.returns-in_err-array-in-Array-clause-place
returns-in_err-array-in-Array-clause-place c =
    absurd (stands c.self.inside c.self.invariant c.args.self.now c.self.view_is c.args.name.now (standing_view c.in_ok-text.standing) c.in-Array.number c.in_ok-text.ensures.stands (ap standing_view c.in-Array.is)
    (ap (λ xs. slice_get xs c.in-Array.number) (sym c.deref.ensures.value) ∙ slice_get_past c.deref.result.now c.in-Array.number c.in_err-array-in-Array.ensures.lookup.3))

pub returns-clause-place : goal.returns-clause-place
returns-clause-place c = elim c.match-standing.branch [
  | in-Variable w ↦ ap (λ what. Some (found_place (variables_of c.args.self.now) (record { name = c.in_ok-text.text; what = what }))) w.what-is
      ∙ found_scalar c.self.inside c.self.invariant c.args.self.now c.self.view_is c.args.name.now (standing_view c.in_ok-text.standing) (Var w.in-Variable.number) c.in_ok-text.ensures.stands (ap standing_view w.in-Variable.is)
  | in-Parameter w ↦ ap (λ what. Some (found_place (variables_of c.args.self.now) (record { name = c.in_ok-text.text; what = what }))) w.what-is
      ∙ ap (λ t. Some (Scalar (kind_among (variables_of c.args.self.now) t) t)) w.read_term.ensures
      ∙ found_scalar c.self.inside c.self.invariant c.args.self.now c.self.view_is c.args.name.now (standing_view c.in_ok-text.standing) w.in-Parameter.term.now c.in_ok-text.ensures.stands (ap standing_view w.in-Parameter.is)
  | in-Array+in_ok-array-in-Array w ↦ (
      let a = w.in_ok-array-in-Array.array.now in
      let found = w.in_ok-array-in-Array.ensures.lookup in
      let at : slice_get c.self.inside.arrays.items w.in-Array.number ≡ Some a =
      ap (λ xs. slice_get xs w.in-Array.number) (sym w.deref.ensures.value) ∙ slice_get_read w.deref.result.now _ w.in-Array.number a refl found.3.0 found.1 in
      ap (λ what. Some (found_place (variables_of c.args.self.now) (record { name = c.in_ok-text.text; what = what }))) w.what-is ∙ ap (λ ts. Some (Array c.in_ok-text.text.now a.kind ts)) w.elements_of.ensures
      ∙ ap (λ y. Some (Array y a.kind (elements_of a))) c.in_ok-text.ensures.text
      ∙ found_array c.self.inside c.self.invariant c.args.self.now c.self.view_is c.args.name.now (standing_view c.in_ok-text.standing) w.in-Array.number c.in_ok-text.ensures.stands (ap standing_view w.in-Array.is) a at)
]

pub returns-clause-kinds : goal.returns-clause-kinds
returns-clause-kinds c = fits_found c.self.inside c.self.invariant c.args.self.now c.self.view_is c.args.name.now _ (returns-clause-place c)
