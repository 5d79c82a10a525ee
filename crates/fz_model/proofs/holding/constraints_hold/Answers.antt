use Rattle.std.proofs.Common.{sym, ◌∙◌, arith}
use Rattle.fz_builtins.proofs.of_meaning.Lists.{at_place}
use Rattle.fz_builtins.specs.of_meaning.Meaning.{row_of}
use Rattle.fz_builtins.specs.of_store.Kinds.{PostedFits}
use Rattle.fz_builtins.specs.of_store.Parts.{kept_row, posted_view}
use Rattle.fz_model.specs.Holding.{posted_holds}
use Rattle.fz_model.proofs.Together.{all_next, all_seen, all_stops, row_there, same_length, stands}
use Rattle.fz_model.proofs.Valued.{posted_ready}
use Rattle.fz_model.proofs.holding.constraints_hold.Goals as goal

pub constraint_holds-requires : goal.constraint_holds-requires
constraint_holds-requires c =
    let m = c.args.model.now in
    let all = c.constraints-all.result in
    let k = c.loop-place.place in
    let p = posted_view all.variables.now all.arrays.now all.store.now c.item_at.result.now in
    let at = stands m all k c.item_at.result.now c.item_at.ensures c.constraints-all.ensures.all in
    record {
      known = row_there m all k c.item_at.result.now c.item_at.ensures c.constraints-all.ensures.all c.constraints-all.ensures.rows;
      ready = posted_ready m c.args.partial.now c.requires.inside p (at_place (PostedFits m) m.constraints k p c.constraints-all.ensures.kinds at);
    }

pub returns-then-not-branch : goal.returns-then-not-branch
returns-then-not-branch c =
    all_stops (posted_holds c.args.partial.now) c.args.model.now.constraints c.loop-place.place _
    (stands c.args.model.now c.constraints-all.result _ _ c.item_at.ensures c.constraints-all.ensures.all)
    (sym c.in_ok-constraint_holds.ensures ∙ c.if-not-branch.true)

pub loop-place-preserved : goal.loop-place-preserved
loop-place-preserved c =
    all_next (posted_holds c.args.partial.now) c.args.model.now.constraints c.loop-place.place _
    (stands c.args.model.now c.constraints-all.result _ _ c.item_at.ensures c.constraints-all.ensures.all)
    c.loop-place.invariant (sym c.in_ok-constraint_holds.ensures ∙ c.if-not-branch.false)

pub returns : goal.returns
returns c =
    let rows = same_length kept_row row_of c.constraints-all.result.posted.now c.args.model.now.constraints c.constraints-all.ensures.rows in
    all_seen (posted_holds c.args.partial.now) c.args.model.now.constraints c.loop-place.place
    (omega (arith, rows, c.loop-place-test.false)) c.loop-place.invariant
