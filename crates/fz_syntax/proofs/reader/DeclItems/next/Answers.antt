use Rattle.std.proofs.Common.{sym, ◌∙◌}
use Rattle.fz_syntax.specs.Offering.{decl_kind, from_constraints}
use Rattle.fz_syntax.proofs.ItemLaws.{decls_shrink}
use Rattle.fz_syntax.proofs.Offers.{Reads, item_refused, item_took, item_within, none_took, none_within}
use Rattle.fz_syntax.proofs.reader.DeclItems.next.Goals as goal

pub invariant_of-result : goal.invariant_of-result
invariant_of-result c = record { within = none_within decl_kind from_constraints c.args.self.rest (sym c.begins_decl.ensures ∙ c.if-not-begins_decl.true) c.args.self.within }

pub returns-then-not-begins_decl : goal.returns-then-not-begins_decl
returns-then-not-begins_decl c = record { offers = none_took decl_kind from_constraints c.args.self.rest (sym c.begins_decl.ensures ∙ c.if-not-begins_decl.true) }

pub invariant_of-result-in-Ok : goal.invariant_of-result-in-Ok
invariant_of-result-in-Ok c =
    let reads : Reads decl_kind c.args.self.rest c.decl.new.self c.in-Ok.item = record { end = c.in-Ok.ensures.walked.on.end; begun = sym c.begins_decl.ensures ∙ c.if-not-begins_decl.false; found = c.in-Ok.ensures.read; walked = c.in-Ok.ensures.walked } in
    record { within = item_within decl_kind from_constraints c.in-Ok.item c.args.self.rest c.decl.new.self (decls_shrink _) reads c.args.self.within }

pub returns-in-Ok : goal.returns-in-Ok
returns-in-Ok c =
    let reads : Reads decl_kind c.args.self.rest c.decl.new.self c.in-Ok.item = record { end = c.in-Ok.ensures.walked.on.end; begun = sym c.begins_decl.ensures ∙ c.if-not-begins_decl.false; found = c.in-Ok.ensures.read; walked = c.in-Ok.ensures.walked } in
    record { offers = item_took decl_kind from_constraints c.in-Ok.item c.args.self.rest c.decl.new.self (decls_shrink _) reads }

pub returns : goal.returns
returns c = record { offers = item_refused decl_kind from_constraints c.args.self.rest c.in-Err.refusal c.refused.result (sym c.begins_decl.ensures ∙ c.if-not-begins_decl.false) c.in-Err.ensures.read c.args.self.within (c.refused.ensures c.args.self.within.short (c.in-Err.ensures.walked.end ∙ c.args.self.within.ends)) }
