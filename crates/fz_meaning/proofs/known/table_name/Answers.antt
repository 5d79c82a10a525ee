use Rattle.std.proofs.Common.{◌∙◌, ◌&&◌, ap, bytes_eq, codes, cond, sym, true, false}
use Rattle.std.proofs.lemmas.Bool.{eq-eqb, ne_eqb}
use Rattle.fz_meaning.specs.Meaning.{table_name}
use Rattle.fz_meaning.proofs.known.table_name.Goals as goal
use Rattle.fz_meaning.proofs.known.table_name.Goals.{else-count-eq2-via-then-count-eq2+else-same_text, else-count-eq2-via-else-count-eq2}

pub returns-then-same_text : goal.returns-then-same_text
unfolding table_name
returns-then-same_text c =
    let name = c.args.name.now in
    let is_xor = bytes_eq name (codes "bool_xor") in
    sym (ap (λ two. cond (two && is_xor) (codes "bool_ne") name) (eq-eqb c.args.count 2 c.if-count-eq2.true)
    ∙ ap (λ xor. cond xor (codes "bool_ne") name) (sym c.same_text.ensures ∙ c.if-same_text.true))

pub returns-else-count-eq2 : goal.returns-else-count-eq2
unfolding table_name
returns-else-count-eq2 c =
    let name = c.args.name.now in
    let is_xor = bytes_eq name (codes "bool_xor") in
    elim c.else-count-eq2.branch [
      | else-count-eq2-via-then-count-eq2+else-same_text w ↦
          sym (ap (λ two. cond (two && is_xor) (codes "bool_ne") name) (eq-eqb c.args.count 2 w.if-count-eq2.true)
          ∙ ap (λ xor. cond xor (codes "bool_ne") name) (sym w.same_text.ensures ∙ w.if-same_text.false))
      | else-count-eq2-via-else-count-eq2 w ↦
          sym (ap (λ two. cond (two && is_xor) (codes "bool_ne") name) (ne_eqb c.args.count 2 w.if-count-eq2.false))
    ]
