use Rattle.std.proofs.Common.{◌≡◌, Ok, rules}
use Rattle.fz_check.specs.declared.reader.Step.TheVariants as steps
use Rattle.fz_check.proofs.LearningLemmas.{knows_next, listening_first, listening_next, listening_read}
use Rattle.fz_check.proofs.learning.learn.Goals as goal

pub loop-parts-init : goal.loop-parts-init
loop-parts-init g c = listening_first c.new-parts.result _ c.args.model.now c.args.options.completion c.completing-judge.result c.args.reads c.args.known.now c.new-parts.ensures.nothing c.new-parts.ensures.pieces c.completing-judge.ensures

pub loop-parts-smaller-in-Ok : goal.loop-parts-smaller-in-Ok
loop-parts-smaller-in-Ok g c =
    let is : c.advance.result ≡ Ok steps.Part = search rules in
    c.advance.ensures.fewer is _ _ _ _ c.loop-parts.invariant.stands

pub loop-parts-preserved-in-Ok : goal.loop-parts-preserved-in-Ok
loop-parts-preserved-in-Ok g c =
    let is : c.advance.result ≡ Ok steps.Part = search rules in
    listening_next _ _ _ _ _ _ c.loop-parts.invariant c.advance.new.self c.learn_next.new.judge c.learn_next.new.known (c.advance.ensures.part is _) (c.in-Ok.ensures.read _) c.learn_next.ensures.same_model c.learn_next.ensures.knows

pub returns-in-Err-learn_next : goal.returns-in-Err-learn_next
returns-in-Err-learn_next g c = record { knows = knows_next _ _ _ _ _ _ c.loop-parts.invariant c.learn_next.new.known c.learn_next.ensures.knows }

pub read-requires-clause-none : goal.read-requires-clause-none
read-requires-clause-none g c =
    let is : c.advance.result ≡ Ok steps.Bytes = search rules in
    (c.advance.ensures.bytes is _ _ _ _ c.loop-parts.invariant.stands).0

pub loop-parts-preserved : goal.loop-parts-preserved
loop-parts-preserved g c =
    let is : c.advance.result ≡ Ok steps.Bytes = search rules in
    listening_read _ _ _ _ _ _ c.loop-parts.invariant c.advance.new.self c.read.new.self _ (c.advance.ensures.bytes is _) c.read.ensures.same c.read.ensures.end

pub returns-in-Err-read : goal.returns-in-Err-read
returns-in-Err-read g c = record { knows = c.loop-parts.invariant.knows }

pub returns-in-Ok-End : goal.returns-in-Ok-End
returns-in-Ok-End g c = record { knows = c.loop-parts.invariant.knows }

pub returns-in-Err : goal.returns-in-Err
returns-in-Err g c = record { knows = c.loop-parts.invariant.knows }
