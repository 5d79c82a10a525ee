-- What a reader gave, where it was read up to its end or up to a limit.
use Rattle.std.proofs.Common.{◌≡◌, ℕ, ◌≤◌, List, [], ◌++◌, length, take, Option, Some, None, IfSome, sym, ap, ◌∙◌, append-nil}
use Rattle.std.proofs.lemmas.List.{take_at, take_all}
use Rattle.std.specs.Io.KnownBytes.{Consumes, IsAtEnd}

-- as many bytes as the limit were given
pub given_up_to : (known left : Option (List ℕ)) (limit : ℕ) (bytes : List ℕ) → length bytes ≡ limit
    → Consumes known left bytes → IfSome known (λ xs. bytes ≡ take limit xs)
given_up_to None left limit bytes size given = tt
given_up_to (Some xs) None limit bytes size given = absurd given
given_up_to (Some xs) (Some ys) limit bytes size given = sym (ap (take limit) given ∙ take_at bytes ys limit size)

-- no more than the limit were given, and then a read gave none
pub given_to_end : (known left last : Option (List ℕ)) (limit : ℕ) (bytes : List ℕ)
    → length bytes ≤ limit → Consumes known left bytes → Consumes left last [] → IsAtEnd last
    → IfSome known (λ xs. bytes ≡ take limit xs)
given_to_end None left last limit bytes size given none end = tt
given_to_end (Some xs) None last limit bytes size given none end = absurd given
given_to_end (Some xs) (Some ys) None limit bytes size given none end = absurd none
given_to_end (Some xs) (Some ys) (Some zs) limit bytes size given none end =
    let all : xs ≡ bytes = given ∙ ap (λ l. bytes ++ l) (none ∙ end) ∙ append-nil bytes in
    sym (ap (take limit) all ∙ take_all limit bytes size)

-- a read that gives none changes nothing
pub given_none : (known left last : Option (List ℕ)) (bytes : List ℕ) → Consumes known left bytes
    → Consumes left last [] → Consumes known last bytes
given_none None left last bytes given none = tt
given_none (Some xs) None last bytes given none = absurd given
given_none (Some xs) (Some ys) None bytes given none = absurd none
given_none (Some xs) (Some ys) (Some zs) bytes given none = given ∙ ap (λ l. bytes ++ l) none
