use Rattle.std.proofs.Common.{is_some, ap, ◌∙◌, sym}
use Rattle.std.specs.Map.{lookup}
use Rattle.fz_store.specs.Naming.{has_text}
use Rattle.fz_store.proofs.Noted.{any_found, declared_as, unseated}
use Rattle.fz_store.proofs.names.Names.contains.Goals as goal

pub returns-else-is_some : goal.returns-else-is_some
returns-else-is_some c =
    let n = c.self.inside in
    let x = c.args.name.now in
    let same = unseated x n.listed.items n.others.keys n.numbered c.self.invariant.2 (ap is_some (sym c.get.ensures) ∙ sym c.is_some.ensures ∙ c.if-is_some.false) in
    record {
      declared = c.contains.ensures ∙ any_found x n.others.keys ∙ ap is_some same ∙ sym (declared_as n.parameters.items x n.listed.items) ∙ ap (λ m. is_some (lookup (has_text x) m)) c.self.view_is;
    }
