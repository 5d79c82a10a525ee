use Rattle.std.proofs.Common.{rules, ap₂, ◌∙◌, ◌==◌}
use Rattle.fz_meaning.proofs.Ends.{numbers_decide}
use Rattle.fz_meaning.proofs.text.same_eight.Goals as goal

pub returns : goal.returns
returns c =
    let xs = c.args.left.now in
    let ys = c.args.right.now in
    ap₂ ◌==◌ c.from_le_bytes.ensures c.from_le_bytes-2.ensures ∙ numbers_decide xs ys (search rules) (search rules) (search rules) (search rules)
