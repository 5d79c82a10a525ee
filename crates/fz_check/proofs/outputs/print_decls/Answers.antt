use Rattle.std.proofs.Common.{map, refl, sym, ap, ◌∙◌, arith}
use Rattle.std.proofs.lemmas.List.{length-map}
use Rattle.fz_search.specs.of_model.View.{located_decl}
use Rattle.fz_check.specs.Outputs.{printed_decl}
use Rattle.fz_check.proofs.Fronts.{all_turned, one_more_turned}
use Rattle.fz_check.proofs.outputs.print_decls.Goals as goal

pub loop-decl-init : goal.loop-decl-init
loop-decl-init c = refl

pub loop-decl-preserved : goal.loop-decl-preserved
loop-decl-preserved c =
    one_more_turned located_decl printed_decl c.loop-decl.decls (map located_decl c.args.decls.now) c.loop-decl.decl-index c.decl-item.result c.print_decl.new.decl
    (omega (arith, c.loop-decl.auto.decls, c.loop-decl-test.true)) c.decl-item.is (c.in_ok-print_decl.ensures ∙ ap (λ d. printed_decl (located_decl d)) (sym c.decl-item.is)) c.loop-decl.invariant

pub returns : goal.returns
returns c = c.loop-decl.invariant ∙ all_turned printed_decl (map located_decl c.args.decls.now) c.loop-decl.decl-index (omega (arith, length-map c.args.decls.now located_decl, c.loop-decl-test.false))
