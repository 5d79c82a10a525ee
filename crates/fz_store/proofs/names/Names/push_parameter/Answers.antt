use Rattle.std.proofs.Common.{◌≡◌, ◌++◌, ◌∷◌, [], map, length, arith, is_none, ap, ◌∙◌, subst, sym}
use Rattle.std.specs.Map.{lookup}
use Rattle.std.specs.List.{AllByRecursion}
use Rattle.std.proofs.lemmas.Result.{on_ok_weaker}
use Rattle.fz_meaning.specs.declared.term.Term.TheVariants.{Fixed}
use Rattle.fz_store.specs.declared.names.Citation.TheVariants as citations
use Rattle.fz_store.specs.declared.names.Kept.{Kept}
use Rattle.fz_store.specs.Naming.{has_text}
use Rattle.fz_store.specs.Names.{citation_stands, is_among_terms}
use Rattle.fz_store.proofs.NameTable.{new_key, among_put, view_pushed, among_more, all_stand_same, stands_last, last_within}
use Rattle.fz_store.proofs.names.Names.push_parameter.Goals as goal

pub put-requires-clause-new : goal.put-requires-clause-new
put-requires-clause-new c = new_key c.self.inside.parameters.items c.args.name.now c.self.inside.listed.items (ap (λ n. is_none (lookup (has_text c.args.name.now) n)) c.self.view_is ∙ c.requires.new)

pub invariant_of-self-2 : goal.invariant_of-self-2
invariant_of-self-2 c =
    let ts = c.self.inside.parameters.items in
    let ks = c.self.inside.listed.items in
    let us = c.push.new.self.items in
    let counted : c.len-number.result ≡ length ts = omega arith in
    let kept : Kept = record { bytes = c.args.name; citation = citations.Parameter c.len-number.result } in
    let stay = subst (λ zs. AllByRecursion (is_among_terms zs) ks) (sym c.in_ok-push.ensures.items) (among_more ts (Fixed c.args.value ∷ []) ks c.self.invariant.0) in (
      among_put c.put.result us ks _ kept c.put.ensures.pushed c.put.ensures.unchanged stay (last_within ts us (Fixed c.args.value) c.len-number.result c.in_ok-push.ensures.items counted),
      c.put.ensures.distinct,
      c.put.ensures.numbered,
    )

pub returns : goal.returns
returns c =
    let ts = c.self.inside.parameters.items in
    let ks = c.self.inside.listed.items in
    let us = c.push.new.self.items in
    let counted : c.len-number.result ≡ length ts = omega arith in
    let kept : Kept = record { bytes = c.args.name; citation = citations.Parameter c.len-number.result } in
    let stay = ap (λ zs. map (citation_stands zs) ks) c.in_ok-push.ensures.items ∙ all_stand_same ts (Fixed c.args.value ∷ []) ks c.self.invariant.0 ∙ c.self.view_is in
    record {
      pushed = on_ok_weaker c.put.result
          (λ last. view_pushed us ks _ kept last _ stay
          ∙ ap (λ d. c.args.self.now ++ (c.args.name.now, d) ∷ []) (stands_last ts us (Fixed c.args.value) c.len-number.result c.in_ok-push.ensures.items counted))
          c.put.ensures.pushed;
    }
