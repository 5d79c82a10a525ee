use Rattle.std.specs.Prelude.{◌≡◌}
use Rattle.fz_bounds.specs.Bounds.{IsInside}
use Rattle.fz_bounds.specs.of_model.Meaning.{Assignment}
use Rattle.fz_search.specs.Found.{IsSought, asked_of}
use Rattle.fz_search.proofs.enclosing.enclose_each.Given as goal

abbrev pub invariant-rounds : goal.invariant-rounds
invariant-rounds l = record {
  inside : (A : Assignment) → IsSought (asked_of l.task) A
      → IsInside l.fn.bounds A → IsInside l.bounds A;
  unmarked : l.marks.lowest ≡ l.marks.highest;
}

abbrev pub invariant-variables : goal.invariant-variables
invariant-variables l = record {
  inside : (A : Assignment) → IsSought (asked_of l.task) A
      → IsInside l.fn.bounds A → IsInside l.bounds A;
  unmarked : l.marks.lowest ≡ l.marks.highest;
}
