use Rattle.fz_places.proofs.Forms.{number_in}
use Rattle.fz_places.proofs.path.number.Goals as goal

pub returns-clause-digits : goal.returns-clause-digits
returns-clause-digits c =
    rw c.split_at.ensures.front (number_in c.in_ok-rest.rest.now c.count_digits-count.result c.count_digits-count.ensures.digits c.count_digits-count.ensures.within c.if-count-eq0.false)
