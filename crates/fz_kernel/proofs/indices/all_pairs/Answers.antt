use Rattle.std.proofs.Common.{◌≡◌, ◌-◌, true, false, sym, ap, ◌∙◌, arith, rules}
use Rattle.fz_kernel.specs.Indices.{all_pairs_from}
use Rattle.fz_kernel.proofs.Between.{fails, passes, ends, pair_fails, pairs_pass}
use Rattle.fz_kernel.proofs.indices.all_pairs.Goals as goal

pub returns-then-not-pass : goal.returns-then-not-pass
returns-then-not-pass g c =
    record {
      exact = λ test is.
          let i = c.loop-one.one in
          let j = c.loop-other.other in
          let told : c.pass.result ≡ test i j = is i j c.pass.result (omega arith) (omega arith) c.pass.ensures in
          let no : c.pass.result ≡ false = search rules in
          let behind = c.loop-other.invariant test is ∙ fails (test i) j c.args.count (omega arith) (sym told ∙ no) in
          sym (c.loop-one.invariant test is ∙ pair_fails test i c.args.count (omega arith) behind);
    }

pub loop-other-preserved : goal.loop-other-preserved
loop-other-preserved g c test is =
    let i = c.loop-one.one in
    let j = c.loop-other.other in
    let told : c.pass.result ≡ test i j = is i j c.pass.result (omega arith) (omega arith) c.pass.ensures in
    let yes : c.pass.result ≡ true = search rules in
    c.loop-other.invariant test is ∙ passes (test i) j c.args.count (omega arith) (sym told ∙ yes)

pub loop-one-preserved : goal.loop-one-preserved
loop-one-preserved g c test is =
    let i = c.loop-one.one in
    let behind = c.loop-other.invariant test is ∙ ends (test i) c.loop-other.other c.args.count (omega arith) in
    c.loop-one.invariant test is ∙ pairs_pass test i c.args.count (omega arith) behind

pub returns : goal.returns
returns g c =
    record {
      exact = λ test is.
          let none : c.args.count - c.loop-one.one ≡ 0 = omega arith in
          sym (c.loop-one.invariant test is ∙ ap (all_pairs_from test c.loop-one.one) none);
    }
