use Rattle.std.proofs.lemmas.List.Sorted.{IsPermutation-trans}
use Rattle.fz_kernel.specs.Views.{ints}
use Rattle.fz_globals.specs.Keys.{keys_from}
use Rattle.fz_globals.proofs.firsts.keys_in_order.Goals as goal

pub returns-clause-keys : goal.returns-clause-keys
returns-clause-keys c =
    let keys = c.in_ok-keys.ensures in
    record {
      short = keys.short;
      moved = IsPermutation-trans (keys_from 0 (ints c.args.elements.now)) c.in_ok-keys.keys.items c.sort_unstable.new.self.items keys.moved c.sort_unstable.ensures.permutation;
    }
