use Rattle.std.proofs.Common.{map, ap, ◌∙◌}
use Rattle.fz_store.specs.of_meaning.Meaning.{row_of, first_some}
use Rattle.fz_store.specs.of_meaning.View.{located_expr}
use Rattle.fz_tree.specs.View.{bare_notes}
use Rattle.fz_store.specs.Parts.{argument_view}
use Rattle.fz_store.specs.of_meaning.Names.{argument_of, defined_by}
use Rattle.fz_data.specs.Scope.{place_in}
use Rattle.fz_store.specs.Slots.{segment}
use Rattle.fz_data.proofs.Grown.{longer_none}
use Rattle.fz_data.proofs.posting.posted.Goals as goal

pub returns-clause-row : goal.returns-clause-row
returns-clause-row c =
    let s = c.args.scope.now in
    let st = c.arguments_of.new.store in
    c.row_of-known.ensures c.target_of.result
    ∙ (λ i. row_of (record {
      name = c.args.constraint.now.name.text.now;
      arguments = map (argument_view (c.cited.ensures.variables i) (c.cited.ensures.arrays i) st) ((c.part.ensures ∙ ap (λ as'. segment as' c.in_ok-arguments.arguments) c.deref-2.ensures.value) i);
      target = c.target_of.result;
    }))
    ∙ (λ i. row_of (record {
      name = c.args.constraint.now.name.text.now;
      arguments = (c.in_ok-arguments.ensures.arguments st (longer_none st) ∙ ap (λ xs. map (argument_of (place_in s)) (map located_expr xs)) c.deref.ensures.value) i;
      target = (c.target_of.ensures ∙ ap (λ ns. first_some (defined_by (place_in s)) (bare_notes ns)) c.deref-3.ensures.value) i;
    }))
