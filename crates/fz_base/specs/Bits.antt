-- How a set of numbers from 0 to 63 is stored: as the bits of a word. A reader need not believe
-- this file: no public clause speaks of it.
use Rattle.std.specs.Prelude.{ℕ, ℤ, pos, negsuc, Bool, false, ◌&&◌, ◌==◌, ltb}
use Rattle.std.specs.Int.{bit_at}
use Rattle.std.specs.List.{filter}
use Rattle.std.specs.FinSet.{from_list}
use Rattle.fz_base.specs.Sets.{NumberSet, counting_from}

-- the number is from 0 to 63, and its bit is 1
abbrev pub has_bit : ℕ → ℤ → Bool
has_bit bits (pos n) = ltb n 64 && (bit_at bits n == 1)
has_bit bits (negsuc n) = false

-- the set of the numbers whose bits are 1
unfoldable pub numbers_of_bits : ℕ → NumberSet
numbers_of_bits bits = from_list (filter (has_bit bits) (counting_from (pos 0) 64))
