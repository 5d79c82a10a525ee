-- A row's kinds followed by the Boolean of a reified form, which is its result.
use Rattle.std.proofs.Common.{◌≡◌, ◌+◌, ◌-◌, List, [], ◌∷◌, ◌++◌, map, length, take, refl, sym, ap, ◌∙◌, arith}
use Rattle.std.proofs.lemmas.List.{length-map, take-map, take_at}
use Rattle.fz_meaning.specs.Builtins.{Shape as Kinds, B, Row, reified, with_bool}
use Rattle.fz_meaning.specs.Results.{result_of}
use Rattle.fz_meaning.specs.Results.Result.{Places}
use Rattle.fz_meaning.specs.declared.row.Shape.{Shape}
use Rattle.fz_meaning.specs.Known.{shape_of}

with_bool_is : (ss : List Kinds) → with_bool ss ≡ ss ++ B ∷ []
with_bool_is [] = refl
with_bool_is (s ∷ ss) = ap (λ l. s ∷ l) (with_bool_is ss)

length_with : (ss : List Kinds) → length (with_bool ss) ≡ length ss + 1
length_with [] = refl
length_with (s ∷ ss) = let rest : length (with_bool ss) ≡ length ss + 1 = length_with ss in omega arith

pub reified_result : (r : Row) → result_of (reified r) ≡ Places (length r.shapes ∷ [])
unfolding result_of
reified_result r = let h : length (with_bool r.shapes) ≡ length r.shapes + 1 = length_with r.shapes in let last : length (with_bool r.shapes) - 1 ≡ length r.shapes = omega arith in ap (λ n. Places (n ∷ [])) last

pub one_more : (l : List Shape) (ss : List Kinds) → map shape_of l ≡ with_bool ss
    → length l ≡ length ss + 1
one_more l ss e = sym (length-map l shape_of) ∙ ap length e ∙ length_with ss

pub last_place : (l : List Shape) (ss : List Kinds) → map shape_of l ≡ with_bool ss
    → length l - 1 ≡ length ss
last_place l ss e = let h : length l ≡ length ss + 1 = one_more l ss e in omega arith

pub front_of : (l : List Shape) (ss : List Kinds) → map shape_of l ≡ with_bool ss
    → map shape_of (take (length l - 1) l) ≡ ss
front_of l ss e =
    sym (take-map shape_of (length l - 1) l)
    ∙ ap (take (length l - 1)) (e ∙ with_bool_is ss)
    ∙ take_at ss (B ∷ []) (length l - 1) (sym (last_place l ss e))
