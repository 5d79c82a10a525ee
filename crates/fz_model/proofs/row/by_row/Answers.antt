use Rattle.std.proofs.Common.{◌≡◌, true, IfSome, None, Some, option_map, sym, ap, subst, subst₂, ◌∙◌}
use Rattle.fz_builtins.specs.of_meaning.Known.{known_row}
use Rattle.fz_builtins.specs.of_meaning.Meaning.{row_of}
use Rattle.fz_builtins.specs.of_store.Parts.{constraint_view}
use Rattle.fz_model.proofs.ConstraintStates.{row_fits}
use Rattle.fz_model.specs.Forced.{IsOnlyValue, IsReady}
use Rattle.fz_model.specs.KindsFit.{each_fits}
use Rattle.fz_model.proofs.Placed.{forces_nothing, forces_value}
use Rattle.fz_model.proofs.row.by_row.Goals as goal

pub returns-in-Never : goal.returns-in-Never
returns-in-Never c = record { forced = λ m fits kinds. c.in-Never.ensures m c.args.parts.number c.args.partial.now (λ n v e. e) }

pub returns-in-Waits : goal.returns-in-Waits
returns-in-Waits c = record { forced = λ m fits kinds. c.in-Waits.ensures.1 m c.args.parts.number c.args.partial.now (λ n v e. e) c.in-Waits.ensures.0 }

pub value_at-requires : goal.value_at-requires
value_at-requires c =
    let p = constraint_view c.args.parts in
    let K = c.args.partial.now in
    let r = known_row c.in-Some.known in
    let row : row_of p ≡ Some r = sym c.requires.known ∙ ap (option_map known_row) c.in-Some.is in
    let alone = c.in-At.ensures in
    let found : IsReady K p.arguments r c.in-At.spot = record {
      shaped = row_fits p r row;
      only_open = alone.only_open;
      stands = alone.stands;
      kinds = subst (λ o. IfSome o (λ k. each_fits K (known_row k).shapes p.arguments ≡ true)) c.in-Some.is c.requires.kinds;
    } in
    record {
      row = (p, row);
      ready = subst₂ (λ L ys. IsReady L ys r c.in-At.spot) (sym c.new.ensures.assigned) (sym c.new.ensures.arguments) found;
    }

pub returns-in-Some-2 : goal.returns-in-Some-2
returns-in-Some-2 c =
    let p = constraint_view c.args.parts in
    let r = known_row c.in-Some.known in
    let only = subst₂ (λ L ys. IsOnlyValue L ys r c.in-At.spot.variable (Some c.in-Some-2.value)) c.new.ensures.assigned c.new.ensures.arguments (rw c.in-Some-2.is at c.in_ok-value-in-At.ensures) in
    record {
      forced = λ m fits kinds. forces_value m c.args.partial.now fits c.args.parts.number p r (sym c.requires.known ∙ ap (option_map known_row) c.in-Some.is) c.in-At.spot.variable c.in-At.ensures.target kinds c.in-Some-2.value only;
    }

pub returns-in-None : goal.returns-in-None
returns-in-None c =
    let p = constraint_view c.args.parts in
    let r = known_row c.in-Some.known in
    let only = subst₂ (λ L ys. IsOnlyValue L ys r c.in-At.spot.variable None) c.new.ensures.assigned c.new.ensures.arguments (rw c.in-None.is at c.in_ok-value-in-At.ensures) in
    record {
      forced = λ m fits kinds. forces_nothing m c.args.partial.now fits c.args.parts.number p r (sym c.requires.known ∙ ap (option_map known_row) c.in-Some.is) c.in-At.spot.variable c.in-At.ensures.target only;
    }
