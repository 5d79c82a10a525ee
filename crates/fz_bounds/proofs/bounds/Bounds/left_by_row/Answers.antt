use Rattle.std.proofs.Common.{◌≡◌, ◌∙◌, Some, ap, pos, subst, sym, true, option_map, rules}
use Rattle.fz_store.specs.declared.Builtin.TheVariants.{IntPow}
use Rattle.fz_model.specs.of_base.declared.value.Value.TheVariants.{Int}
use Rattle.fz_model.specs.Meaning.{row_of, whole}
use Rattle.fz_model.specs.Parts.{constraint_view}
use Rattle.fz_model.specs.Steps.{give}
use Rattle.fz_model.specs.of_builtins.of_kernel.Given.{are_read}
use Rattle.fz_model.specs.of_builtins.of_meaning.Known.{known_row}
use Rattle.fz_model.proofs.Powers.{known_sums}
use Rattle.fz_model.proofs.Values.{no}
use Rattle.fz_bounds.specs.Bounds.{Ranges}
use Rattle.fz_bounds.specs.Opened.{IsAmid}
use Rattle.fz_bounds.specs.Within.{AreKnown, given}
use Rattle.fz_bounds.specs.declared.bounded.BoundedConstraint.{BoundedConstraint}
use Rattle.fz_bounds.proofs.Between.{are_amid}
use Rattle.fz_bounds.proofs.Never.{holds_at}
use Rattle.fz_bounds.proofs.Shares.{still_read}
use Rattle.fz_bounds.proofs.bounds.Bounds.left_by_row.Goals as goal

pub returns-then-are_known : goal.returns-then-are_known
returns-then-are_known c = λ k A a there amid holds.
    let s : BoundedConstraint = record { parts = c.args.parts.now; lowest = c.lowest.result; highest = c.highest.result } in
    let p = constraint_view c.args.parts.now in
    let r = known_row c.in-Some.known in
    let zero = give (whole A) c.args.variable (Int (pos 0)) in
    let B : Ranges = record { lowest = s.lowest.now; highest = s.highest.now } in
    let same : B ≡ c.args.self.now = λ i. record { lowest = c.lowest.ensures i; highest = c.highest.ensures i } in
    let known : AreKnown s r.shapes = search rules in
    let other : c.in-Some.known.builtin ≡ IntPow → ⊥ = λ e. let same : c.eq.result ≡ true = rw e at c.eq.ensures in no (sym c.if-eq.false ∙ same) in
    let fits : row_of p ≡ Some r = sym c.requires.known ∙ ap (option_map known_row) c.in-Some.is in
    let (read, test) = holds_at A k p r fits (known_sums c.in-Some.known other) holds in
    let read_too : are_read zero r.shapes (given s) ≡ true = still_read (whole A) c.args.variable a (pos 0) there r.shapes (given s) ∙ read in
    c.left.ensures (whole A) a there (are_amid B zero r.shapes (given s) (subst (λ C. IsAmid C zero) (sym same) amid) known.low read_too known.high) test
