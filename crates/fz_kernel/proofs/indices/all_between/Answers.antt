use Rattle.std.proofs.Common.{◌≡◌, true, false, sym, ◌∙◌, arith, rules}
use Rattle.fz_kernel.proofs.Between.{fails, passes, ends}
use Rattle.fz_kernel.proofs.indices.all_between.Goals as goal

pub returns-then-not-passes : goal.returns-then-not-passes
returns-then-not-passes g c =
    record {
      exact = λ test is.
          let i = c.loop-index.index in
          let told : c.passes.result ≡ test i = is i c.passes.result (omega arith) (omega arith) c.passes.ensures in
          let no : c.passes.result ≡ false = search rules in
          sym (c.loop-index.invariant test is ∙ fails test i c.args.end (omega arith) (sym told ∙ no));
    }

pub loop-index-preserved : goal.loop-index-preserved
loop-index-preserved g c test is =
    let i = c.loop-index.index in
    let told : c.passes.result ≡ test i = is i c.passes.result (omega arith) (omega arith) c.passes.ensures in
    let yes : c.passes.result ≡ true = search rules in
    c.loop-index.invariant test is ∙ passes test i c.args.end (omega arith) (sym told ∙ yes)

pub returns : goal.returns
returns g c =
    record {
      exact = λ test is. sym (c.loop-index.invariant test is ∙ ends test c.loop-index.index c.args.end (omega arith));
    }
