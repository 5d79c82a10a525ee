use Rattle.std.proofs.Common.{◌≡◌, None, sym, ap, subst, ◌∙◌}
use Rattle.fz_index.specs.of_model.Meaning.{IsPartial, variables_of}
use Rattle.fz_index.specs.of_model.Relations.{kind_of}
use Rattle.fz_index.specs.of_model.Shown.{found_place, what_place}
use Rattle.fz_filling.specs.BlockFaults.{value_fault}
use Rattle.fz_stream.specs.of_syntax.View.{bare_printed_value}
use Rattle.fz_filling.specs.Judged.{refusal}
use Rattle.fz_filling.proofs.Starts.{map_none}
use Rattle.fz_filling.proofs.Starting.{all_fit, place_pairs_fit, value_fits, what_within}
use Rattle.fz_filling.proofs.start.set_item.Goals as goal

pub set_value-requires : goal.set_value-requires
set_value-requires c = record { within = what_within c.args.model.now c.args.partial.now (variables_of c.args.model.now) c.in-Some.found.name.now c.in-Some.found.what c.requires.fits c.in-Some.ensures.kinds }

pub returns-clause-kinds : goal.returns-clause-kinds
returns-clause-kinds c =
    let m = c.args.model.now in
    let x = c.in-Some.found.name.now in
    let place = found_place (variables_of m) c.in-Some.found in
    let none : value_fault c.args.item.now.name place c.args.item.now.value ≡ None =
    ap (λ vs. value_fault c.args.item.now.name (what_place vs x c.in-Some.found.what) c.args.item.now.value) (sym c.variables.ensures.all)
    ∙ map_none refusal _ (sym (c.value_fault.ensures x) ∙ c.in_default-value_fault.is) in
    subst (IsPartial m) (sym (c.in_ok-set_value.ensures (variables_of m) x))
    (all_fit (λ k v. kind_of v ≡ k) m c.args.partial.now _ c.requires.fits (place_pairs_fit (λ k v. kind_of v ≡ k) m place (bare_printed_value c.args.item.now.value) c.in-Some.ensures.kinds (value_fits c.args.item.now.name place c.args.item.now.value none)))
