use Rattle.std.proofs.Common.{◌≡◌, ℕ, List, Option, Some, None, cond, length, map, option_map, sym, ap, subst, ◌∙◌}
use Rattle.std.proofs.lemmas.List.{length-map}
use Rattle.fz_store.specs.of_meaning.Builtins.{Row}
use Rattle.fz_store.specs.of_meaning.Known.{known_row, row_named}
use Rattle.fz_store.specs.of_meaning.Meaning.{table_name}
use Rattle.fz_store.proofs.of_meaning.FoundRows.{row_of_known, row_of_unknown}
use Rattle.fz_store.specs.Parts.{argument_view}
use Rattle.fz_data.proofs.rows.row_of.Goals as goal

-- each argument is one where it is read too
as_many : {A B : Type 0} (f : A → B) (xs : List A) (name : List ℕ) (row : Option Row)
    → row_named (table_name name (length xs)) ≡ row
    → row_named (table_name name (length (map f xs))) ≡ row
as_many f xs name row e = subst (λ n. row_named (table_name name n) ≡ row) (sym (length-map xs f)) e

pub returns-in_err-known : goal.returns-in_err-known
returns-in_err-known c t =
    let view = argument_view c.args.cited.now.variables.now c.args.cited.now.arrays.now c.args.store.now in
    let none = as_many view c.args.arguments.now c.args.name.now None c.in_err-known.ensures.none in
    ap (option_map known_row) c.from_residual.ensures
    ∙ sym (row_of_unknown (record { name = c.args.name.now; arguments = map view c.args.arguments.now; target = t }) none)

pub returns-then-fits : goal.returns-then-fits
returns-then-fits c t =
    let k = known_row c.in_ok-known.known in
    let view = argument_view c.args.cited.now.variables.now c.args.cited.now.arrays.now c.args.store.now in
    let named = as_many view c.args.arguments.now c.args.name.now (Some k) c.in_ok-known.ensures.has_row in
    sym (row_of_known (record { name = c.args.name.now; arguments = map view c.args.arguments.now; target = t }) c.in_ok-known.known named
    ∙ ap (λ b. cond b (Some k) None) (sym c.fits.ensures ∙ c.if-fits.true))

pub returns-else-fits : goal.returns-else-fits
returns-else-fits c t =
    let k = known_row c.in_ok-known.known in
    let view = argument_view c.args.cited.now.variables.now c.args.cited.now.arrays.now c.args.store.now in
    let named = as_many view c.args.arguments.now c.args.name.now (Some k) c.in_ok-known.ensures.has_row in
    sym (row_of_known (record { name = c.args.name.now; arguments = map view c.args.arguments.now; target = t }) c.in_ok-known.known named
    ∙ ap (λ b. cond b (Some k) None) (sym c.fits.ensures ∙ c.if-fits.false))
