use Rattle.std.proofs.Common.{◌<◌, get_or, length, sym, ◌∙◌, arith}
use Rattle.std.proofs.lemmas.Option.{slice_get-get_or}
use Rattle.fz_builtins.proofs.of_meaning.Lists.{at_place}
use Rattle.fz_builtins.specs.of_meaning.Meaning.{points}
use Rattle.fz_model.specs.Overviews.{holds_at}
use Rattle.fz_model.proofs.Others.{number_told}
use Rattle.fz_model.proofs.Together.{all_stops}
use Rattle.fz_model.proofs.holding.others_hold.Goals as goal

pub returns-then-not-is_held : goal.returns-then-not-is_held
returns-then-not-is_held c =
    let ps = points c.args.model.now in
    let K = c.args.partial.now in
    let others = c.args.others.now in
    let place = c.loop-place.place in
    let at = slice_get-get_or others place 0 (omega (arith, c.loop-place-test.true)) in
    let within = at_place (λ n. n < length ps) others place (get_or others place 0) c.requires.in_range at in
    all_stops (holds_at K ps) others place (get_or others place 0) at
    (sym (number_told K ps (get_or others place 0) c.in_ok-found.found within c.in_ok-found.ensures.exact) ∙ sym c.is_held.ensures ∙ c.if-not-is_held.true)
