use Rattle.std.proofs.Common.{Some, option_map, sym, ap, ◌∙◌}
use Rattle.std.specs.Map.{lookup}
use Rattle.fz_store.specs.Naming.{has_text}
use Rattle.fz_store.proofs.Noted.{elsewhere, there_found, there_stands, there_among}
use Rattle.fz_store.proofs.names.Names.get.Goals as goal

pub standing_of-requires : goal.standing_of-requires
standing_of-requires c =
    let n = c.self.inside in
    let found = there_found c.args.name.now n.listed.items n.others.keys n.numbered c.self.invariant.2 c.in-Some.citation (sym c.in-Some.ensures) in
    record { within = rw c.deref.ensures.value (there_among n.parameters.items c.args.name.now n.listed.items c.in-Some.citation found c.self.invariant.0) }

pub returns-in-Some : goal.returns-in-Some
returns-in-Some c =
    let n = c.self.inside in
    let found = there_found c.args.name.now n.listed.items n.others.keys n.numbered c.self.invariant.2 c.in-Some.citation (sym c.in-Some.ensures) in
    let there = there_stands n.parameters.items c.args.name.now n.listed.items c.in-Some.citation found in
    record { stands = ap Some c.standing_of.ensures.stands ∙ rw c.deref.ensures.value (sym there) ∙ ap (lookup (has_text c.args.name.now)) c.self.view_is }

pub standing_of-requires-2 : goal.standing_of-requires-2
standing_of-requires-2 c =
    let n = c.self.inside in
    let same = elsewhere c.args.name.now n.listed.items n.others.keys n.numbered c.self.invariant.2 (sym c.in_default.ensures) in
    let found = ap (option_map (λ k. k.citation)) (sym same) ∙ sym c.in_ok-citation.ensures in
    record { within = rw c.deref-2.ensures.value (there_among n.parameters.items c.args.name.now n.listed.items c.in_ok-citation.citation found c.self.invariant.0) }

pub returns : goal.returns
returns c =
    let n = c.self.inside in
    let same = elsewhere c.args.name.now n.listed.items n.others.keys n.numbered c.self.invariant.2 (sym c.in_default.ensures) in
    let found = ap (option_map (λ k. k.citation)) (sym same) ∙ sym c.in_ok-citation.ensures in
    let there = there_stands n.parameters.items c.args.name.now n.listed.items c.in_ok-citation.citation found in
    record { stands = ap Some c.standing_of-2.ensures.stands ∙ rw c.deref-2.ensures.value (sym there) ∙ ap (lookup (has_text c.args.name.now)) c.self.view_is }
