use Rattle.std.proofs.Common.{◌++◌, append-nil, sym, ap, ◌∙◌, arith}
use Rattle.fz_explain.proofs.Products.{no_products}
use Rattle.fz_explain.proofs.sums.products_of.Goals as goal

pub returns : goal.returns
returns c =
    let none = no_products c.args.filling.now c.args.a.now c.args.b.now c.loop-place.place (omega (arith, c.min-place-end.ensures, c.loop-place-test.false)) in
    let all = c.loop-place.products.items in
    sym (c.loop-place.invariant ∙ ap (λ ps. all ++ ps) none ∙ append-nil all)
