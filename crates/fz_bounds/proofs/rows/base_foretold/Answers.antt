use Rattle.fz_store.specs.declared.Builtin.TheVariants as builtin
use Rattle.fz_model.specs.Builtins.{row_at}
use Rattle.fz_bounds.specs.Within.{Foretells}
use Rattle.fz_bounds.proofs.At.{at_row}
use Rattle.fz_bounds.proofs.Numbers.{if_ok}
use Rattle.fz_bounds.proofs.rows.base_foretold.Goals as goal

pub returns-in-FznAllDifferentInt : goal.returns-in-FznAllDifferentInt
unfolding row_at
returns-in-FznAllDifferentInt c = if_ok c.all_different.result _ (Foretells c.args.at.now (row_at c.args.builtin)) (λ o told. at_row c.args.at.now c.args.builtin builtin.FznAllDifferentInt o c.in-FznAllDifferentInt.is (λ K h. told K (record { low = h.low.0; high = h.high.0 }))) c.all_different.ensures

pub returns-in-FznNvalue : goal.returns-in-FznNvalue
unfolding row_at
returns-in-FznNvalue c = if_ok c.has_so_many_values.result _ (Foretells c.args.at.now (row_at c.args.builtin)) (λ o told. at_row c.args.at.now c.args.builtin builtin.FznNvalue o c.in-FznNvalue.is (λ K h. told K (record { low = h.low.0; high = h.high.0 }) (record { low = h.low.1.0; high = h.high.1.0 }))) c.has_so_many_values.ensures

pub returns-in-GecodeCircuit : goal.returns-in-GecodeCircuit
unfolding row_at
returns-in-GecodeCircuit c = if_ok c.is_circuit.result _ (Foretells c.args.at.now (row_at c.args.builtin)) (λ o told. at_row c.args.at.now c.args.builtin builtin.GecodeCircuit o c.in-GecodeCircuit.is (λ K h. told K (record { low = h.low.0; high = h.high.0 }) (record { low = h.low.1.0; high = h.high.1.0 }))) c.is_circuit.ensures

pub returns-in-FzcheckSubcircuit : goal.returns-in-FzcheckSubcircuit
unfolding row_at
returns-in-FzcheckSubcircuit c = if_ok c.is_subcircuit.result _ (Foretells c.args.at.now (row_at c.args.builtin)) (λ o told. at_row c.args.at.now c.args.builtin builtin.FzcheckSubcircuit o c.in-FzcheckSubcircuit.is (λ K h. told K (record { low = h.low.0; high = h.high.0 }) (record { low = h.low.1.0; high = h.high.1.0 }))) c.is_subcircuit.ensures
