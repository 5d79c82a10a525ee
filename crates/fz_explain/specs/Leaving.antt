-- Where a sum of products leaves signed 128 bits, when the products are added from the left (this
-- project's profile).
use Rattle.std.specs.Prelude.{ℕ, suc, ℤ, pos, ◌+ℤ◌, List, [], ◌∷◌, Option, Some, None, cond}
use Rattle.std.specs.Option.{option_map_or, option_or}
use Rattle.fz_filling.specs.of_model.States.{fits_128, known_products, terms_at_argument}
use Rattle.fz_filling.specs.of_model.Meaning.{Argument, Partial, Point, row_of}
use Rattle.fz_store.specs.declared.Wide.{Wide}
use Rattle.fz_store.specs.declared.Wide.TheVariants.{Products, Power}
use Rattle.fz_filling.specs.of_model.Meaning.Point.{DomainPoint, DefinitionPoint, ArrayPoint, ConstraintPoint}

-- the number, from 1, of the first addend with which the sum leaves signed 128 bits, where k
-- addends come before these and add up to s
abbrev pub leaving_from : ℕ → ℤ → List ℤ → Option ℕ
leaving_from k s [] = None
leaving_from k s (n ∷ ns) =
    cond (fits_128 (s +ℤ n)) (leaving_from (suc k) (s +ℤ n) ns) (Some (suc k))

abbrev pub first_leaving : List ℤ → Option ℕ
first_leaving ns = leaving_from 0 (pos 0) ns

-- the same number, of the first sum of products of arguments that leaves signed 128 bits
abbrev pub leaving_of : Partial → List Argument → List Wide → Option ℕ
leaving_of K xs [] = None
leaving_of K xs (Products i j ∷ ws) = option_or (first_leaving (known_products K
    (terms_at_argument xs i) (terms_at_argument xs j))) (leaving_of K xs ws)
leaving_of K xs (Power i j ∷ ws) = leaving_of K xs ws

abbrev pub leaving_in : Partial → Point → Option ℕ
leaving_in K (ConstraintPoint k c) =
    option_map_or (λ r. leaving_of K c.arguments r.wide) (row_of c) None
leaving_in K (DomainPoint x n) = None
leaving_in K (DefinitionPoint x n e) = None
leaving_in K (ArrayPoint x d ts) = None
