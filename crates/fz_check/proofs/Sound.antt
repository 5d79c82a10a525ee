-- A tree has the fault that it has where it asks for every scalar variable, or none there either.
use Rattle.std.proofs.Common.{◌≡◌, List, [], ◌∷◌, ◌++◌, refl, ap, sym, ◌∙◌}
use Rattle.std.specs.Option.{option_or}
use Rattle.std.proofs.lemmas.List.{map-append}
use Rattle.fz_search.specs.of_model.Meaning.{first_some}
use Rattle.fz_search.specs.of_model.Names.{HasNoFault, kinds, scalar_kind, fault_at_decl, decls_fault, constraint_fault, goal_fault, first_fault}
use Rattle.fz_search.specs.of_model.Located.{Decl, LocatedTree}
use Rattle.fz_check.specs.Outputs.{printed_decl, with_all_printed}
use Rattle.fz_check.proofs.Same.{printed, looked_up}

kinds_still : (ds : List Decl) → kinds (printed ds) ≡ kinds ds
kinds_still ds = λ i x. looked_up scalar_kind scalar_kind (λ d. refl) ds x i

decls_still : (before ds : List Decl)
    → decls_fault (printed before) (printed ds) ≡ decls_fault before ds
decls_still before [] = refl
decls_still before (d ∷ ds) =
    (λ i. option_or (fault_at_decl (kinds_still before i) d)
    (decls_fault (sym (map-append printed_decl before (d ∷ [])) i) (printed ds)))
    ∙ ap (option_or (fault_at_decl (kinds before) d)) (decls_still (before ++ d ∷ []) ds)

fault_still : (t : LocatedTree) → first_fault (with_all_printed t) ≡ first_fault t
fault_still t = λ i. option_or (decls_still [] t.decls i) (option_or
    (first_some (constraint_fault (kinds_still t.decls i)) t.constraints)
    (goal_fault (kinds_still t.decls i) t.solve.goal))

pub no_fault_still : (t : LocatedTree) → HasNoFault t → HasNoFault (with_all_printed t)
no_fault_still t none = fault_still t ∙ none
