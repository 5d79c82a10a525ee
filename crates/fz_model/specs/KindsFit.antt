-- Whether the values that the scalars of a constraint have are of the kinds that its row asks for
-- (private functions only).
use Rattle.std.specs.Prelude.{Bool, true, ◌&&◌, List, ◌∷◌}
use Rattle.std.specs.List.{list_all}
use Rattle.std.specs.Option.{option_map_or}
use Rattle.fz_builtins.specs.of_meaning.declared.kind.Kind.{Kind}
use Rattle.fz_builtins.specs.of_meaning.declared.term.Term.{Term}
use Rattle.fz_builtins.specs.of_meaning.Relations.{kind_of, same_kind}
use Rattle.fz_builtins.specs.of_meaning.Builtins.{Shape}
use Rattle.fz_builtins.specs.of_meaning.Meaning.{Argument, Partial, value, terms_in}
pub use Rattle.fz_model.specs.Whole.{kind_in}

-- a scalar's value is of the kind, if it has one
abbrev pub kind_fits : Partial → Kind → Term → Bool
kind_fits K k t = option_map_or (λ v. same_kind (kind_of v) k) (value K t) true

abbrev pub each_fits : Partial → List Shape → List Argument → Bool
each_fits K (s ∷ ss) (x ∷ xs) = list_all (kind_fits K (kind_in s)) (terms_in x) && each_fits K ss xs
each_fits K _ _ = true
