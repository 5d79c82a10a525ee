use Rattle.std.proofs.Common.{◌≡◌, ◌+◌, ◌-◌, ◌<◌, length, refl, sym, ap, subst, ◌∙◌, slice_get, Some, arith}
use Rattle.std.proofs.lemmas.Option.{slice_get_read}
use Rattle.fz_meaning.specs.Meaning.{points, row_of}
use Rattle.fz_meaning.specs.Meaning.Point.{ConstraintPoint}
use Rattle.fz_store.specs.Kinds.{PostedFits}
use Rattle.fz_store.specs.Layout.{model_view}
use Rattle.fz_store.specs.Parts.{posted_view}
use Rattle.fz_store.proofs.Points.{how_many, row_in_place, kinds_in_place, point_posted}
use Rattle.fz_store.proofs.model.Model.point_parts.Goals as goal

pub returns-then-number-len : goal.returns-then-number-len
returns-then-number-len c =
    let m = c.self.inside in
    let p = c.index.result.now in
    let k = c.args.number - c.len-then-number-len.result in
    let at : c.len-then-number-len.result ≡ length m.points.items = omega arith in
    let all = ap (λ z. length (points z)) (sym c.self.view_is) ∙ how_many m c.self.invariant in
    let lt : k < length m.constraints.items = omega (arith, all, c.requires.in_range, at, c.len.ensures, c.if-number-len.true) in
    let here : slice_get m.constraints.items k ≡ Some p = slice_get_read m.constraints.items _ _ _ refl lt c.index.ensures in
    let variables = sym c.deref.ensures.value in
    let arrays = sym c.deref-then-number-len.ensures.value in
    record {
      parts = ap (λ z. slice_get (points z) c.args.number) (sym c.self.view_is) ∙ point_posted m c.self.invariant c.args.number c.len-then-number-len.result p at (omega arith) here
          ∙ (λ i. Some (ConstraintPoint (k + 1) (posted_view (variables i) (arrays i) m.store p)));
      known = row_in_place m c.self.invariant k p here ∙ (λ i. row_of (posted_view (variables i) (arrays i) m.store p));
      kinds = subst (λ z. PostedFits z (posted_view c.deref.result.now c.deref-then-number-len.result.now m.store p)) c.self.view_is
          (subst (λ vs. PostedFits (model_view m) (posted_view vs c.deref-then-number-len.result.now m.store p)) variables
          (subst (λ xs. PostedFits (model_view m) (posted_view m.variables.items xs m.store p)) arrays (kinds_in_place m c.self.invariant k p here)));
    }
