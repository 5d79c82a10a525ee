use Rattle.std.proofs.Common.{◌≡◌, ◌<◌, ◌∙◌, length, get_or, arith}
use Rattle.fz_tree.proofs.AheadLaws.{stop_stays}
use Rattle.fz_tree.proofs.Next.{comma_cut}
use Rattle.fz_tree.proofs.lexer.Lexer.eat_comma.Goals as goal

pub invariant_of-self : goal.invariant_of-self
invariant_of-self c =
    let old = c.args.self.now in
    let before : old.place < length old.source.now = omega (arith, old.within) in
    let comma : get_or old.source.now old.place 0 ≡ 44 = omega arith in
    record { within = omega arith; stop = stop_stays old.source.now old.place _ _ old.within (omega arith) (comma_cut old.source.now old.place before comma) tt ∙ old.stop }
