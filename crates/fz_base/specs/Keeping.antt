-- How the numbers of a set are stored: as bits or as ranges. A reader need not believe this file:
-- no public clause speaks of it.
use Rattle.std.specs.Prelude.{ℤ, Bool, List}
use Rattle.fz_base.specs.declared.ranges.Range.{Range}
use Rattle.fz_base.specs.declared.kept.Numbers.{Numbers}
use Rattle.fz_base.specs.declared.kept.Numbers.TheVariants as numbers
use Rattle.fz_base.specs.declared.kept.Held.{Held}
use Rattle.fz_base.specs.declared.kept.Held.TheVariants as held
use Rattle.std.specs.FinSet.{union, intersection, difference}
use Rattle.fz_base.specs.declared.ranges.Rule.{Rule}
use Rattle.fz_base.specs.declared.ranges.Rule.TheVariants.{Union, Intersect, Minus, Symdiff}
use Rattle.fz_base.specs.Bits.{has_bit, numbers_of_bits}
use Rattle.fz_base.specs.Ranges.{lowest, numbers_of, AreInOrder, covers}
use Rattle.fz_base.specs.Sets.{NumberSet, symmetric_difference}

-- the number is one of those stored
abbrev pub has : Numbers → ℤ → Bool
has (numbers.Low bits) x = has_bit bits x
has (numbers.Ranges ranges) x = covers ranges.value.items x

-- the set of all the numbers stored
abbrev pub set_of : Numbers → NumberSet
set_of (numbers.Low bits) = numbers_of_bits bits
set_of (numbers.Ranges ranges) = numbers_of ranges.value.items

-- the result of the operation on two sets
abbrev pub combined : Rule → NumberSet → NumberSet → NumberSet
combined Union s t = union s t
combined Intersect s t = intersection s t
combined Minus s t = difference s t
combined Symdiff s t = symmetric_difference s t

-- ranges are stored in order
abbrev pub AreKept : Numbers → Type 0
AreKept (numbers.Low bits) = Unit {0}
AreKept (numbers.Ranges ranges) = AreInOrder lowest ranges.value.items

-- the ranges of numbers
abbrev pub held_ranges : Held → List Range
held_ranges (held.Spread ranges) = ranges.items
held_ranges (held.Kept ranges) = ranges.now
