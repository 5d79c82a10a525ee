use Rattle.std.proofs.Common.{refl, ap, ◌∙◌, ◌++◌, ◌∷◌, [], arith, map, subst}
use Rattle.std.proofs.lemmas.List.{length-map, take_all}
use Rattle.fz_store.specs.of_meaning.View.{located_expr}
use Rattle.fz_store.proofs.of_meaning.ScanSteps.{first_more}
use Rattle.fz_store.specs.declared.store.Store.{Store}
use Rattle.fz_store.specs.Parts.{argument_view}
use Rattle.fz_data.specs.Posting.{IsLonger}
use Rattle.fz_store.specs.of_meaning.Names.{argument_fault, argument_of}
use Rattle.fz_data.specs.Scope.{kinds_in, place_in}
use Rattle.fz_data.proofs.Grown.{SoFar, argument_pushed, longer_none, longer_more, next_so_far, segment_is}
use Rattle.fz_data.proofs.posting.arguments_of.Goals as goal

pub loop-argument-preserved : goal.loop-argument-preserved
loop-argument-preserved c =
    let before = c.loop-argument.store in
    let between = c.argument_of.new.store in
    let after : Store = record { arguments = c.push.new.self; slots = between.slots; constants = between.constants } in
    let pushed = c.in_ok-push.ensures.items in
    let on = longer_more before between after c.in_ok-given.ensures.longer (argument_pushed between after c.in_ok-given.given pushed refl refl) in
    record {
      clean = first_more (argument_fault (kinds_in c.args.scope.now)) located_expr c.args.arguments.now c.loop-argument.argument-index c.argument-item.result c.loop-argument-test.true c.argument-item.is c.loop-argument.invariant.clean c.in_ok-given.ensures.known;
      given = next_so_far IsLonger (argument_view c.args.scope.now.variables.items c.args.scope.now.arrays.items) (argument_of (place_in c.args.scope.now)) located_expr c.args.arguments.now c.loop-argument.argument-index c.argument-item.result
          before after c.args.store.now.arguments.items before.arguments.items c.push.new.self.items c.in_ok-given.given c.loop-argument-test.true c.argument-item.is
          (λ later g. longer_more before after later on g) (pushed ∙ ap (λ zs. zs ++ c.in_ok-given.given ∷ []) c.in_ok-given.ensures.kept)
          (λ later g. c.in_ok-given.ensures.argument later (longer_more between after later (argument_pushed between after c.in_ok-given.given pushed refl refl) g)) c.loop-argument.invariant.given;
      longer = longer_more c.args.store.now before after c.loop-argument.invariant.longer on;
    }

pub returns-clause-arguments : goal.returns-clause-arguments
returns-clause-arguments c later h =
    let all = take_all c.loop-argument.argument-index c.args.arguments.now c.loop-argument-test.false in
    let view = argument_view c.args.scope.now.variables.items c.args.scope.now.arrays.items in
    segment_is IsLonger view c.loop-argument.store c.args.store.now.arguments.items c.loop-argument.store.arguments.items
    (map (argument_of (place_in c.args.scope.now)) (map located_expr c.args.arguments.now)) c.in_ok-first.first c.in_ok-count.count
    (omega (arith, c.in_ok-first.ensures, c.len.ensures, c.args.store.now.arguments.ok.0))
    (omega (arith, c.in_ok-count.ensures, length-map (map located_expr c.args.arguments.now) (argument_of (place_in c.args.scope.now)), length-map c.args.arguments.now located_expr))
    (subst (λ xs. SoFar IsLonger view c.loop-argument.store c.args.store.now.arguments.items c.loop-argument.store.arguments.items (map (argument_of (place_in c.args.scope.now)) (map located_expr xs))) all c.loop-argument.invariant.given)
    (longer_none c.loop-argument.store) later h later.arguments.items h.arguments
