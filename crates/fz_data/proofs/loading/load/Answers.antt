use Rattle.std.proofs.Common.{subst, ◌∙◌, map}
use Rattle.std.proofs.lemmas.Result.{err_from_is_err_and}
use Rattle.fz_store.specs.of_meaning.Meaning.{first_some}
use Rattle.fz_store.specs.of_meaning.View.{Tells, located, located_decl, located_constraint}
use Rattle.fz_data.specs.Posting.{Posts}
use Rattle.fz_data.specs.Scope.{constraint_fault_in}
use Rattle.fz_data.specs.Stands.{Declares}
use Rattle.fz_data.proofs.Loaded.{all_laid_out, all_stand, goal_told, loaded_model, no_fault_told, told_in_constraints}
use Rattle.fz_data.proofs.loading.load.Goals as goal

pub returns-in_err-constraints-clause-first : goal.returns-in_err-constraints-clause-first
returns-in_err-constraints-clause-first c =
    let s = c.in_ok-scope.scope in
    let p = err_from_is_err_and c.from_residual-in_err-constraints.result c.from_residual-in_err-constraints.ensures.1 in
    let declares = subst (λ ds. Declares (map located_decl ds) s) c.deref.ensures.value c.in_ok-scope.ensures.declares in
    rw (p.1, p.2)
    (told_in_constraints (located c.args.ast.now) s (all_stand (located c.args.ast.now) s declares) declares.clean _
    (subst (λ cs. Tells c.in_err-constraints.field-0.0 (first_some (constraint_fault_in s) (map located_constraint cs))) c.deref-2.ensures.value c.in_err-constraints.ensures.tells))

pub returns-in_err-goal-clause-first : goal.returns-in_err-goal-clause-first
returns-in_err-goal-clause-first c =
    let s = c.in_ok-scope.scope in
    let p = err_from_is_err_and c.from_residual-in_err-goal.result c.from_residual-in_err-goal.ensures.1 in
    let declares = subst (λ ds. Declares (map located_decl ds) s) c.deref.ensures.value c.in_ok-scope.ensures.declares in
    let posts = subst (λ cs. Posts s (map located_constraint cs) c.all_posted.new.store c.in_ok-constraints.constraints.items) c.deref-2.ensures.value c.in_ok-constraints.ensures.posts in
    rw (p.1, p.2) (goal_told (located c.args.ast.now) s declares c.all_posted.new.store c.in_ok-constraints.constraints posts _ c.in_err-goal.ensures.tells)

pub assembled-requires : goal.assembled-requires
assembled-requires c =
    let s = c.in_ok-scope.scope in
    let declares = subst (λ ds. Declares (map located_decl ds) s) c.deref.ensures.value c.in_ok-scope.ensures.declares in
    let posts = subst (λ cs. Posts s (map located_constraint cs) c.all_posted.new.store c.in_ok-constraints.constraints.items) c.deref-2.ensures.value c.in_ok-constraints.ensures.posts in
    record { laid_out = all_laid_out (located c.args.ast.now) s declares c.all_posted.new.store c.in_ok-constraints.constraints posts c.in_ok-goal.goal c.in_ok-goal.ensures.clean c.in_ok-goal.ensures.aim }

pub returns-clause-no_fault : goal.returns-clause-no_fault
returns-clause-no_fault c =
    let s = c.in_ok-scope.scope in
    let declares = subst (λ ds. Declares (map located_decl ds) s) c.deref.ensures.value c.in_ok-scope.ensures.declares in
    let posts = subst (λ cs. Posts s (map located_constraint cs) c.all_posted.new.store c.in_ok-constraints.constraints.items) c.deref-2.ensures.value c.in_ok-constraints.ensures.posts in
    no_fault_told (located c.args.ast.now) s declares c.all_posted.new.store c.in_ok-constraints.constraints posts c.in_ok-goal.goal c.in_ok-goal.ensures.clean c.in_ok-goal.ensures.aim

pub returns-clause-model : goal.returns-clause-model
returns-clause-model c =
    let s = c.in_ok-scope.scope in
    let declares = subst (λ ds. Declares (map located_decl ds) s) c.deref.ensures.value c.in_ok-scope.ensures.declares in
    let posts = subst (λ cs. Posts s (map located_constraint cs) c.all_posted.new.store c.in_ok-constraints.constraints.items) c.deref-2.ensures.value c.in_ok-constraints.ensures.posts in
    c.assembled.ensures.view ∙ loaded_model (located c.args.ast.now) s declares c.all_posted.new.store c.in_ok-constraints.constraints posts c.in_ok-goal.goal c.in_ok-goal.ensures.clean c.in_ok-goal.ensures.aim
