use Rattle.std.proofs.Common.{◌≡◌, ◌+ℤ◌, ◌*ℤ◌, FitsSigned, to_z, of_z, [], drop, length, sym, ap, subst, ◌∙◌, arith, rules}
use Rattle.std.specs.Int.{w128}
use Rattle.std.proofs.lemmas.Int.{to_z-of_z}
use Rattle.fz_store.specs.of_meaning.Relations.{products}
use Rattle.fz_kernel.specs.Views.{ints}
use Rattle.fz_kernel.proofs.Left.{one_ends}
use Rattle.fz_kernel.proofs.Read.{ints_counted}
use Rattle.fz_kernel.proofs.Added.{passed_on, one_added, leaves, no_products_left, stays_within, all_added}
use Rattle.fz_kernel.proofs.arrays.sums.sum_of_products.Goals as goal

pub returns-in-None-clause-leaves : goal.returns-in-None-clause-leaves
returns-in-None-clause-leaves c =
    let s = to_z w128 c.loop-place.sum-bits in
    let x = c.int.result in
    let y = c.int-in-loop-place.result in
    let p = c.product-term.result in
    let is : to_z w128 (of_z w128 p) ≡ (x *ℤ y) = passed_on p x y (search rules) (search rules) (search rules) c.product-term.ensures.exact in
    let out : ¬ (FitsSigned w128 (s +ℤ to_z w128 (of_z w128 p))) = c.in-None.ensures in
    leaves (ints c.args.a.now) (ints c.args.b.now) c.loop-place.place s x y c.loop-place.invariant c.int.ensures.read c.int-in-loop-place.ensures.read
    (λ fits. out (subst (λ t. FitsSigned w128 (s +ℤ t)) (sym is) fits))

pub loop-place-preserved : goal.loop-place-preserved
loop-place-preserved c =
    let s = to_z w128 c.loop-place.sum-bits in
    let x = c.int.result in
    let y = c.int-in-loop-place.result in
    let p = c.product-term.result in
    let is : to_z w128 (of_z w128 p) ≡ (x *ℤ y) = passed_on p x y (search rules) (search rules) (search rules) c.product-term.ensures.exact in
    let told : FitsSigned w128 (s +ℤ to_z w128 (of_z w128 p)) × (c.in-Some.more ≡ (s +ℤ to_z w128 (of_z w128 p))) = c.in-Some.ensures in
    let fits : FitsSigned w128 c.in-Some.more = subst (λ t. FitsSigned w128 t) (sym told.1) told.0 in
    let same : to_z w128 (of_z w128 c.in-Some.more) ≡ c.in-Some.more = to_z-of_z w128 c.in-Some.more fits in
    one_added (ints c.args.a.now) (ints c.args.b.now) c.loop-place.place s x y c.loop-place.invariant c.int.ensures.read c.int-in-loop-place.ensures.read
    (to_z w128 (of_z w128 c.in-Some.more)) (same ∙ told.1 ∙ ap (λ t. s +ℤ t) is) (subst (λ t. FitsSigned w128 t) (sym same) fits)

pub returns-clause-exact : goal.returns-clause-exact
returns-clause-exact c =
    let xs = ints c.args.a.now in
    let ys = ints c.args.b.now in
    let i = c.loop-place.place in
    let counted_a : c.len.result ≡ length xs = ints_counted c.args.a.now c.len.result c.len.ensures.counted in
    let counted_b : c.len-2.result ≡ length ys = ints_counted c.args.b.now c.len-2.result c.len-2.ensures.counted in
    let ended : products (drop i xs) (drop i ys) ≡ [] = no_products_left xs ys i (one_ends (length xs) (length ys) c.min-place-end.result i (omega arith) (omega arith)) in
    all_added xs ys i (to_z w128 c.loop-place.sum-bits) c.loop-place.invariant ended

pub returns-clause-within : goal.returns-clause-within
returns-clause-within c =
    let xs = ints c.args.a.now in
    let ys = ints c.args.b.now in
    let i = c.loop-place.place in
    let counted_a : c.len.result ≡ length xs = ints_counted c.args.a.now c.len.result c.len.ensures.counted in
    let counted_b : c.len-2.result ≡ length ys = ints_counted c.args.b.now c.len-2.result c.len-2.ensures.counted in
    let ended : products (drop i xs) (drop i ys) ≡ [] = no_products_left xs ys i (one_ends (length xs) (length ys) c.min-place-end.result i (omega arith) (omega arith)) in
    stays_within xs ys i (to_z w128 c.loop-place.sum-bits) c.loop-place.invariant ended
