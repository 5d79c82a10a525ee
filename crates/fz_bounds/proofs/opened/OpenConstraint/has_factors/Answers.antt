use Rattle.std.proofs.Common.{◌≡◌, ◌∙◌, Some, ap, length, refl, slice_get, subst, sym, inl, inr, arith}
use Rattle.std.proofs.lemmas.Option.{slice_get_within}
use Rattle.fz_model.specs.of_builtins.of_kernel.Given.{slots_at}
use Rattle.fz_bounds.specs.Opened.{IsFactor, probed}
use Rattle.fz_bounds.specs.Within.{given}
use Rattle.fz_bounds.proofs.Inside.{same_or_other}
use Rattle.fz_bounds.proofs.opened.OpenConstraint.has_factors.Goals as goal

pub loop-place-preserved : goal.loop-place-preserved
loop-place-preserved c = λ i s less here. elim (same_or_other i c.loop-place.place) [
  | inl e ↦ c.if-not-is_factor.ensures refl s (subst (λ k. slice_get (slots_at (given c.args.self.now.at) 0) k ≡ Some s) e here)
  | inr other ↦ c.loop-place.invariant i s (grind (arith, other)) here
]

pub returns : goal.returns
returns c = λ yes i s here.
    let o = c.args.self.now in
    let within = slice_get_within (slots_at (given o.at) 0) i s here in
    let same : c.count-2.result ≡ length (slots_at (given o.at) 0) = c.count-2.ensures ∙ ap (λ xs. length (slots_at xs 0)) c.requires.probed.same in
    c.loop-place.invariant i s (omega arith) here
