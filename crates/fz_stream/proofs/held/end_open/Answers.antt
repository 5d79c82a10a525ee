use Rattle.std.proofs.Common.{arith, refl}
use Rattle.fz_stream.proofs.EndLemmas.{ends_framed, ends_left_open}
use Rattle.fz_stream.proofs.held.end_open.Goals as goal

pub returns-then-held-gt0-clause-broken : goal.returns-then-held-gt0-clause-broken
returns-then-held-gt0-clause-broken c limits bytes frames l =
    ends_left_open c.args.held.now bytes frames l limits (omega arith) _ refl (omega (arith, c.args.held.now.buffer.ok.0))

pub returns-clause-ends : goal.returns-clause-ends
returns-clause-ends c bytes frames offset text l = ends_framed c.args.held.now bytes frames l (omega arith)
