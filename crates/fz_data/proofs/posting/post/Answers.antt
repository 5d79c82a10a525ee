use Rattle.fz_store.specs.of_meaning.View.{located_constraint}
use Rattle.fz_data.proofs.OneMore.{posts_more}
use Rattle.fz_data.proofs.posting.post.Goals as goal

pub returns-clause-more : goal.returns-clause-more
returns-clause-more c =
    λ known h. posts_more c.args.scope.now known (located_constraint c.args.constraint.now) c.args.store.now c.posted.new.store c.args.found.now.items c.push.new.self.items c.in_ok-one.one h c.in_ok-one.ensures.known c.in_ok-one.ensures.longer
    c.in_ok-push.ensures.items c.in_ok-one.ensures.posted c.in_ok-one.ensures.row
