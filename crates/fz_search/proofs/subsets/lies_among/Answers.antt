use Rattle.std.proofs.Common.{◌≡◌, ◌∙◌, IsTrue, ap, subst, sym, true}
use Rattle.std.specs.Cmp.{int_cmp_total}
use Rattle.std.specs.FinSet.{contains, is_subset-contains}
use Rattle.fz_bounds.specs.of_model.Meaning.{admits}
use Rattle.fz_search.proofs.Codes.{range_among}
use Rattle.fz_search.proofs.subsets.lies_among.Goals as goal

pub returns-in-Within : goal.returns-in-Within
returns-in-Within c = λ holds x in_it.
    ap (λ s. contains s x) (sym c.in_ok-all.ensures)
    ∙ range_among c.in-Within.low c.in-Within.high c.in_ok-between-in-Within.field-0 c.in_ok-all.all c.in_ok-between-in-Within.ensures (sym c.is_subset-in-Within.ensures ∙ holds) x (subst (λ d. IsTrue (admits d x)) c.in-Within.is in_it)

pub returns : goal.returns
returns c = λ holds x in_it.
    ap (λ s. contains s x) (sym c.in_ok-all.ensures)
    ∙ is_subset-contains int_cmp_total c.in-Among.own c.in_ok-all.all (sym c.is_subset-in-Among.ensures ∙ holds) x (subst (λ d. IsTrue (admits d x)) c.in-Among.is in_it)
