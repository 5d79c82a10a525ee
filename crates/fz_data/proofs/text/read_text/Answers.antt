use Rattle.std.proofs.Common.{[], ◌∙◌, sym, subst, refl, inr}
use Rattle.std.proofs.lemmas.Result.{err_from_is_err_and}
use Rattle.fz_syntax.specs.Offering.{IsLeft, IsRefusedAt, IsRefusedWithin, IsTextOfAllWithin, all_items, from_constraints, from_decls}
use Rattle.fz_tree.specs.View.{TreeItems}
use Rattle.fz_tree.specs.Text.{IsTextOfTreeWithin}
use Rattle.fz_store.specs.of_meaning.View.{located_all}
use Rattle.fz_syntax.proofs.Offers.{refused_at}
use Rattle.fz_store.proofs.of_meaning.Places.{all_are_bare}
use Rattle.fz_data.proofs.Loaded.{all_laid_out, goal_told, loaded_model, no_fault_told}
use Rattle.fz_data.proofs.OneMore.{declares_none}
use Rattle.fz_data.proofs.RestOfText.{refusal_before}
use Rattle.fz_data.proofs.text.read_text.Goals as goal

pub declared_in-requires : goal.declared_in-requires
declared_in-requires c = record {
  kinds = c.in_ok-nothing.ensures.kinds;
  nothing = declares_none c.in_ok-nothing.nothing c.in_ok-nothing.ensures.names c.in_ok-nothing.ensures.variables c.in_ok-nothing.ensures.arrays c.in_ok-nothing.ensures.points;
}

pub returns-in_err-items-2-clause-refused : goal.returns-in_err-items-2-clause-refused
returns-in_err-items-2-clause-refused c =
    let p = err_from_is_err_and c.from_residual-in_err-items-2.result c.from_residual-in_err-items-2.ensures.1 in
    let past = c.in_ok-items.ensures.past in
    rw (p.1, p.2)
    (refusal_before (IsLeft from_decls c.in_ok-items.items.rest) (λ r. all_items ([], r)) (IsTextOfAllWithin c.args.limits c.args.source.now) (λ t. t) (λ r. all_items (past.0, r)) (λ r left. c.in_ok-new.ensures.text _ (past.1.all_left r left)) (λ r. refl) (IsRefusedAt c.in_ok-items.items.rest) (IsRefusedWithin c.args.limits c.args.source.now) (refused_at c.in_ok-items.items.rest (past.1.same ∙ c.in_ok-new.ensures.source) (past.1.same_limits ∙ c.in_ok-new.ensures.limits)) _ c.in_err-items-2.ensures.refused)

pub returns-in_err-constraints-clause-refused : goal.returns-in_err-constraints-clause-refused
returns-in_err-constraints-clause-refused c =
    let p = err_from_is_err_and c.from_residual-in_err-constraints.result c.from_residual-in_err-constraints.ensures.1 in
    let past = c.in_ok-items.ensures.past in
    let declared = c.in_ok-items-2.ensures.declared in
    rw (p.1, p.2)
    (refusal_before (IsLeft from_constraints c.in_ok-items-2.items.rest) (λ r. all_items ([], (declared.decls, r))) (IsTextOfAllWithin c.args.limits c.args.source.now) (λ t. t) (λ r. all_items (past.0, (declared.decls, r))) (λ r left. c.in_ok-new.ensures.text _ (past.1.all_left _ (declared.took.all_left r left))) (λ r. refl) (IsRefusedAt c.in_ok-items-2.items.rest) (IsRefusedWithin c.args.limits c.args.source.now) (refused_at c.in_ok-items-2.items.rest (declared.took.same ∙ past.1.same ∙ c.in_ok-new.ensures.source) (declared.took.same_limits ∙ past.1.same_limits ∙ c.in_ok-new.ensures.limits)) _ (c.in_err-constraints.ensures.refused declared.decls declared.declares))

pub returns-in_err-goal-clause-refused : goal.returns-in_err-goal-clause-refused
returns-in_err-goal-clause-refused c =
    let p = err_from_is_err_and c.from_residual-in_err-goal.result c.from_residual-in_err-goal.ensures.1 in
    let declared = c.in_ok-items-2.ensures.declared in
    let posted = c.in_ok-constraints.ensures.posted in
    let all : TreeItems = all_items (c.in_ok-items.ensures.past.0, (declared.decls, (posted.constraints, c.in_ok-constraints.solve))) in
    let text : IsTextOfAllWithin c.args.limits c.args.source.now all = c.in_ok-new.ensures.text _ (c.in_ok-items.ensures.past.1.all_left _ (declared.took.all_left _ posted.left)) in
    rw (p.1, p.2) (inr (record { rest = all; left = text; tells = goal_told (located_all all) c.in_ok-items-2.scope declared.declares c.posted_in.new.store c.in_ok-constraints.constraints posted.posts _ c.in_err-goal.ensures.tells }))

pub assembled-requires : goal.assembled-requires
assembled-requires c =
    let declared = c.in_ok-items-2.ensures.declared in
    let posted = c.in_ok-constraints.ensures.posted in
    let all : TreeItems = all_items (c.in_ok-items.ensures.past.0, (declared.decls, (posted.constraints, c.in_ok-constraints.solve))) in
    record { laid_out = all_laid_out (located_all all) c.in_ok-items-2.scope declared.declares c.posted_in.new.store c.in_ok-constraints.constraints posted.posts c.in_ok-goal.goal c.in_ok-goal.ensures.clean c.in_ok-goal.ensures.aim }

pub returns-clause-loaded : goal.returns-clause-loaded
returns-clause-loaded c =
    let declared = c.in_ok-items-2.ensures.declared in
    let posted = c.in_ok-constraints.ensures.posted in
    let all : TreeItems = all_items (c.in_ok-items.ensures.past.0, (declared.decls, (posted.constraints, c.in_ok-constraints.solve))) in
    let text : IsTextOfAllWithin c.args.limits c.args.source.now all = c.in_ok-new.ensures.text _ (c.in_ok-items.ensures.past.1.all_left _ (declared.took.all_left _ posted.left)) in
    record {
      tree = located_all all;
      text = subst (IsTextOfTreeWithin c.args.limits c.args.source.now) (sym (all_are_bare all)) text.text;
      no_fault = no_fault_told (located_all all) c.in_ok-items-2.scope declared.declares c.posted_in.new.store c.in_ok-constraints.constraints posted.posts c.in_ok-goal.goal c.in_ok-goal.ensures.clean c.in_ok-goal.ensures.aim;
      is = c.assembled.ensures.view ∙ loaded_model (located_all all) c.in_ok-items-2.scope declared.declares c.posted_in.new.store c.in_ok-constraints.constraints posted.posts c.in_ok-goal.goal c.in_ok-goal.ensures.clean c.in_ok-goal.ensures.aim;
    }
