use Rattle.std.proofs.Common.{◌∙◌, sym}
use Rattle.std.proofs.lemmas.Result.{err_from_is_err_and}
use Rattle.fz_store.specs.of_meaning.View.{located_decl}
use Rattle.fz_data.proofs.Next.{new_name}
use Rattle.fz_data.proofs.OneMore.{declares_more, fault_same}
use Rattle.fz_data.proofs.Tells.{tells_further}
use Rattle.fz_data.proofs.loading.declare.Goals as goal

pub add-requires : goal.add-requires
add-requires c = record { new = new_name c.args.scope.now (located_decl c.args.decl.now) c.in_ok-item.ensures.clean }

pub returns-in_err-item-clause-tells : goal.returns-in_err-item-clause-tells
returns-in_err-item-clause-tells c =
    let p = err_from_is_err_and c.from_residual.result c.from_residual.ensures.1 in
    λ known h. rw (p.1, p.2) (tells_further _ _ _ (λ y here. sym (fault_same known c.args.scope.now (located_decl c.args.decl.now) h) ∙ here) c.in_err-item.ensures.tells)

pub returns-clause-more : goal.returns-clause-more
returns-clause-more c = λ known h. declares_more known (located_decl c.args.decl.now) c.args.scope.now c.add.new.scope c.in_ok-item.item h c.in_ok-item.ensures.clean c.in_ok-item.ensures.item c.in_ok-add.ensures.added
