use Rattle.std.proofs.Common.{[], ◌∷◌, ◌++◌, Result, Ok, Err}
use Rattle.std.specs.Prelude.{IfOk}
use Rattle.fz_syntax.proofs.Offers.{took_all, took_more, took_none}
use Rattle.fz_data.proofs.text.behind_decl.Goals as goal

if_ok : {X E : Type 0} (r : Result X E) (P Q : Type 0) → (P → Q) → IfOk r (λ _. P) → IfOk r (λ _. Q)
if_ok (Ok x) P Q f h = f h
if_ok (Err e) P Q f h = h

pub loop-decl-init : goal.loop-decl-init
loop-decl-init c = ([], took_none)

pub loop-decl-preserved : goal.loop-decl-preserved
loop-decl-preserved c = (c.loop-decl.invariant.0 ++ c.in-Item.decl ∷ [], took_more _ _ c.loop-decl.invariant.1 (rw c.in-Item.is at c.in_ok-decl.ensures.offers).0)

pub returns-in-End-clause-left : goal.returns-in-End-clause-left
returns-in-End-clause-left c = if_ok c.behind_constraint.result _ _ (λ h. ((c.loop-decl.invariant.0, h.0), (took_all _ c.loop-decl.invariant.1 (rw c.in-End.is at c.in_ok-decl.ensures.offers)).all_left h.0 h.1)) c.behind_constraint.ensures.left
