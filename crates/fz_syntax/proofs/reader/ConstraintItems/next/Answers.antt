use Rattle.std.proofs.Common.{sym, ◌∙◌}
use Rattle.fz_syntax.specs.Offering.{constraint_kind, from_solve}
use Rattle.fz_syntax.proofs.ItemLaws.{constraints_shrink}
use Rattle.fz_syntax.proofs.Offers.{Reads, item_refused, item_took, item_within, none_took, none_within}
use Rattle.fz_syntax.proofs.reader.ConstraintItems.next.Goals as goal

pub solve-requires : goal.solve-requires
solve-requires c = none_within constraint_kind from_solve c.args.self.rest (sym c.next_word.ensures ∙ c.if-not-next_word.true) c.args.self.within

pub returns-then-not-next_word : goal.returns-then-not-next_word
returns-then-not-next_word c = record { offers = (none_took constraint_kind from_solve c.args.self.rest (sym c.next_word.ensures ∙ c.if-not-next_word.true)).all_left c.in_ok-solve.field-0 c.in_ok-solve.ensures.left }

pub invariant_of-result : goal.invariant_of-result
invariant_of-result c =
    let reads : Reads constraint_kind c.args.self.rest c.constraint.new.self c.in-Ok.item = record { end = c.in-Ok.ensures.walked.on.end; begun = sym c.next_word.ensures ∙ c.if-not-next_word.false; found = c.in-Ok.ensures.read; walked = c.in-Ok.ensures.walked } in
    record { within = item_within constraint_kind from_solve c.in-Ok.item c.args.self.rest c.constraint.new.self (constraints_shrink _) reads c.args.self.within }

pub returns-in-Ok : goal.returns-in-Ok
returns-in-Ok c =
    let reads : Reads constraint_kind c.args.self.rest c.constraint.new.self c.in-Ok.item = record { end = c.in-Ok.ensures.walked.on.end; begun = sym c.next_word.ensures ∙ c.if-not-next_word.false; found = c.in-Ok.ensures.read; walked = c.in-Ok.ensures.walked } in
    record { offers = item_took constraint_kind from_solve c.in-Ok.item c.args.self.rest c.constraint.new.self (constraints_shrink _) reads }

pub returns : goal.returns
returns c = record { offers = item_refused constraint_kind from_solve c.args.self.rest c.in-Err.refusal c.refused.result (sym c.next_word.ensures ∙ c.if-not-next_word.false) c.in-Err.ensures.read c.args.self.within (c.refused.ensures c.args.self.within.short (c.in-Err.ensures.walked.end ∙ c.args.self.within.ends)) }
