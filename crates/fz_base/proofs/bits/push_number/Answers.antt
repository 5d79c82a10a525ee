use Rattle.std.proofs.Common.{[], ◌||◌, ◌≡◌, ◌≤ℤ◌, ◌∷◌, ◌++◌, ap, ◌∙◌, FitsSigned, w64, arith, rules}
use Rattle.std.proofs.lemmas.Int.{ints, to_z-of_z}
use Rattle.fz_base.specs.Ranges.{lowest, highest, covers}
use Rattle.fz_base.proofs.Covers.{joined_in_order, joined_ends, joined_covers, apart_in_order, apart_ends, apart_covers}
use Rattle.fz_base.proofs.Numbers.{between_one}
use Rattle.fz_base.proofs.bits.push_number.Goals as goal

pub returns-then-touches : goal.returns-then-touches
returns-then-touches c = record {
  in_order = search (rules, ints, to_z-of_z, joined_in_order);
  ends = search (rules, ints, to_z-of_z, joined_ends);
  added = let n = c.args.number in
      let low : FitsSigned w64 c.in-Some.last.lo = search rules in
      let high : FitsSigned w64 n = search rules in
      let up_to : n ≤ℤ highest = omega (arith, ints) in
      let made : c.push-then-touches.new.self.items ≡ c.pop.new.self.items ++ record { lo = c.in-Some.last.lo; hi = n } ∷ [] = simp to_z-of_z at c.push-then-touches.ensures.items in
      λ x. joined_covers lowest n n c.args.ranges.now.items c.pop.new.self.items _ c.in-Some.last c.in-Some.ensures.items c.requires.in_order c.requires.below (omega (arith, ints)) up_to made (search rules) x ∙ ap (λ b. covers c.args.ranges.now.items x || b) (between_one n x);
  len = search rules;
}

pub returns-else-touches : goal.returns-else-touches
returns-else-touches c = record {
  in_order = search (rules, ints, to_z-of_z, apart_in_order);
  ends = search (rules, ints, to_z-of_z, apart_ends);
  added = let n = c.args.number in
      let high : FitsSigned w64 n = search rules in
      let up_to : n ≤ℤ highest = omega (arith, ints) in
      let made : c.push-else-touches-2.new.self.items ≡ (c.pop.new.self.items ++ c.in-Some.last ∷ []) ++ record { lo = n; hi = n } ∷ [] = simp to_z-of_z at (rw c.push-else-touches.ensures.items at c.push-else-touches-2.ensures.items) in
      λ x. apart_covers lowest n n c.args.ranges.now.items c.pop.new.self.items _ c.in-Some.last c.in-Some.ensures.items c.requires.in_order c.requires.below (omega (arith, ints)) up_to made x ∙ ap (λ b. covers c.args.ranges.now.items x || b) (between_one n x);
  len = search rules;
}
