use Rattle.std.proofs.Common.{◌∙◌, ap, nat_eq}
use Rattle.std.specs.List.{list_any, starts_with}
use Rattle.fz_store.proofs.Finds.{begins_any}
use Rattle.fz_store.proofs.names.Names.begins.Goals as goal

pub returns : goal.returns
returns c =
    let front = c.args.front.now in
    c.has_front.ensures
    ∙ ap (list_any (λ k. starts_with nat_eq k.bytes.now front)) c.deref.ensures.value
    ∙ begins_any front c.self.inside.parameters.items c.self.inside.listed.items
    ∙ ap (list_any (λ n. starts_with nat_eq n.0 front)) c.self.view_is
