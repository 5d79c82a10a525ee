use Rattle.std.proofs.Common.{◌+◌, ◌∙◌, slice_range, refl}
use Rattle.fz_tree.specs.Lexing.{SpannedToken}
use Rattle.fz_tree.specs.Spanned.{token_value}
use Rattle.fz_tree.proofs.AheadLaws.{stop_stays}
use Rattle.fz_tree.proofs.Next.{found_within, found_cut, found_limit}
use Rattle.fz_tree.proofs.lexer.Lexer.take.Goals as goal

pub invariant_of-self : goal.invariant_of-self
invariant_of-self c =
    let old = c.args.self.now in
    let source = old.source.now in
    let start = c.args.start in
    let end = start + c.args.len in
    let kind = c.args.kind in
    let len = c.args.len in
    let r = c.requires in
    let within = found_within source old.place start r.within r.gap kind len r.front in
    let value = token_value kind (slice_range source start end) in
    let t : SpannedToken = record { token = value; start = start; end = end } in
    let cut = found_cut source old.place start r.within r.gap kind len t r.front refl refl refl in
    let limit = found_limit source old.place start r.within r.gap kind len r.front in
    let same = stop_stays source old.place end t old.within within cut limit in
    record { within = within; stop = same ∙ old.stop }
