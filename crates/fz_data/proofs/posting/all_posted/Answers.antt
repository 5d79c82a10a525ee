use Rattle.std.proofs.Common.{List, map, sym, subst}
use Rattle.std.proofs.lemmas.List.{take_all}
use Rattle.std.proofs.lemmas.Result.{err_from_is_err_and}
use Rattle.fz_store.specs.of_meaning.Located.{Constraint}
use Rattle.fz_store.specs.of_meaning.View.{located_constraint}
use Rattle.fz_store.proofs.of_meaning.ScanSteps.{take_one_more}
use Rattle.fz_data.specs.Posting.{Posts}
use Rattle.fz_data.specs.Scope.{constraint_fault_in}
use Rattle.fz_data.proofs.OneMore.{posts_none}
use Rattle.fz_data.proofs.Tells.{tells_stop}
use Rattle.fz_data.proofs.posting.all_posted.Goals as goal

pub returns-in_err-post-clause-tells : goal.returns-in_err-post-clause-tells
returns-in_err-post-clause-tells c =
    let p = err_from_is_err_and c.from_residual-in_err-post.result c.from_residual-in_err-post.ensures.1 in
    rw (p.1, p.2) (tells_stop (constraint_fault_in c.args.scope.now) located_constraint c.args.constraints.now c.loop-constraint.constraint-index c.constraint-item.result _ c.loop-constraint-test.true c.constraint-item.is c.loop-constraint.invariant.posts.clean c.in_err-post.ensures.tells)

pub loop-constraint-init : goal.loop-constraint-init
loop-constraint-init c = record { posts = posts_none c.args.scope.now c.args.store.now c.in_ok-found.found.items c.in_ok-found.ensures.items }

pub loop-constraint-preserved : goal.loop-constraint-preserved
loop-constraint-preserved c = record {
  posts = subst (λ (cs : List Constraint). Posts c.args.scope.now cs c.post.new.store c.post.new.found.items) (sym (take_one_more located_constraint c.args.constraints.now c.loop-constraint.constraint-index c.constraint-item.result c.loop-constraint-test.true c.constraint-item.is))
      (c.in_ok-post.ensures.more _ c.loop-constraint.invariant.posts);
}

pub returns-clause-posts : goal.returns-clause-posts
returns-clause-posts c = subst (λ cs. Posts c.args.scope.now (map located_constraint cs) c.loop-constraint.store c.loop-constraint.found.items) (take_all c.loop-constraint.constraint-index c.args.constraints.now c.loop-constraint-test.false) c.loop-constraint.invariant.posts
