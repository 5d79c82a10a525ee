use Rattle.std.proofs.Common.{sym, ◌∙◌}
use Rattle.fz_syntax.specs.Offering.{predicate_kind, from_decls}
use Rattle.fz_syntax.proofs.ItemLaws.{predicates_shrink}
use Rattle.fz_syntax.proofs.Offers.{Reads, item_refused, item_took, item_within, none_took, none_within}
use Rattle.fz_syntax.proofs.reader.PredicateItems.next.Goals as goal

pub invariant_of-result : goal.invariant_of-result
invariant_of-result c = record { within = none_within predicate_kind from_decls c.args.self.rest (sym c.next_word.ensures ∙ c.if-not-next_word.true) c.args.self.within }

pub returns-then-not-next_word : goal.returns-then-not-next_word
returns-then-not-next_word c = record { offers = none_took predicate_kind from_decls c.args.self.rest (sym c.next_word.ensures ∙ c.if-not-next_word.true) }

pub invariant_of-result-in-Ok : goal.invariant_of-result-in-Ok
invariant_of-result-in-Ok c =
    let reads : Reads predicate_kind c.args.self.rest c.predicate.new.self c.in-Ok.item = record { end = c.in-Ok.ensures.walked.on.end; begun = sym c.next_word.ensures ∙ c.if-not-next_word.false; found = c.in-Ok.ensures.read; walked = c.in-Ok.ensures.walked } in
    record { within = item_within predicate_kind from_decls c.in-Ok.item c.args.self.rest c.predicate.new.self (predicates_shrink _) reads c.args.self.within }

pub returns-in-Ok : goal.returns-in-Ok
returns-in-Ok c =
    let reads : Reads predicate_kind c.args.self.rest c.predicate.new.self c.in-Ok.item = record { end = c.in-Ok.ensures.walked.on.end; begun = sym c.next_word.ensures ∙ c.if-not-next_word.false; found = c.in-Ok.ensures.read; walked = c.in-Ok.ensures.walked } in
    record { offers = item_took predicate_kind from_decls c.in-Ok.item c.args.self.rest c.predicate.new.self (predicates_shrink _) reads }

pub returns : goal.returns
returns c = record { offers = item_refused predicate_kind from_decls c.args.self.rest c.in-Err.refusal c.refused.result (sym c.next_word.ensures ∙ c.if-not-next_word.false) c.in-Err.ensures.read c.args.self.within (c.refused.ensures c.args.self.within.short (c.in-Err.ensures.walked.end ∙ c.args.self.within.ends)) }
