-- The definitions computed, where no answer of the program shows what they are.
use Rattle.std.proofs.Common.{◌≡◌, length, flat_map, refl}
use Rattle.fz_meaning.specs.Builtins.{rows, builtins, row_at}

how_many : length (flat_map (λ r. r.names) rows) ≡ 450
unfolding rows row_at builtins
how_many = refl
