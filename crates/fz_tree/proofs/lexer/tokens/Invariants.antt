use Rattle.std.proofs.Common.{◌≡◌, ◌-◌, length}
use Rattle.fz_tree.specs.Spanned.{all_spanned, TextsAreSlices, CutUpTo, AreWithinLimit}
use Rattle.fz_tree.proofs.lexer.tokens.Given as goal

abbrev pub invariant-loop-tokens : goal.invariant-loop-tokens
invariant-loop-tokens l = record {
  same_source : l.lexer.source.now ≡ l.source;
  cut : CutUpTo l.source l.lexer.place (all_spanned l.tokens.items);
  numbers : AreWithinLimit (all_spanned l.tokens.items);
  texts : TextsAreSlices l.source l.tokens.items;
}

abbrev pub decreases-loop-tokens : goal.decreases-loop-tokens
decreases-loop-tokens l = length l.lexer.source.now - l.lexer.place
