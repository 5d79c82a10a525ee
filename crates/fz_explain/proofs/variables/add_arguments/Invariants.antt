use Rattle.std.proofs.Common.{◌≡◌, map, drop, flat_map}
use Rattle.fz_filling.specs.of_model.Meaning.{terms_in}
use Rattle.fz_filling.specs.of_model.Parts.{argument_view, constraint_view}
use Rattle.fz_explain.specs.Sources.{with_terms}
use Rattle.fz_explain.proofs.variables.add_arguments.Given as goal

abbrev pub invariant-loop-argument : goal.invariant-loop-argument
invariant-loop-argument l =
    with_terms l.fn.variables.keys (flat_map terms_in (constraint_view l.parts).arguments)
    ≡ with_terms l.variables.keys (flat_map terms_in (map (argument_view l.parts.variables.now l.parts.arrays.now l.parts.store.now) (drop l.argument-index l.argument-items)))
