use Rattle.std.proofs.Common.{◌≡◌, ◌∷◌, [], ◌++◌, ℕ, List, ◌+◌, take, length, sym, ap, ◌∙◌, arith, inl, inr, subst}
use Rattle.std.proofs.lemmas.Bool.{eqb-true}
use Rattle.std.proofs.lemmas.List.{drop_all, length-take-le, take_all, take_more}
use Rattle.memchr.specs.Find.{IsFirstByte, is_byte}
use Rattle.fz_stream.specs.Parts.{lines_of}
use Rattle.fz_stream.specs.Splitting.{EndsWithFeed, HasNoFeed}
use Rattle.fz_stream.proofs.SplitLemmas.{first_whole, no_feed_to, one_line}
use Rattle.fz_stream.proofs.line.first_line.Goals as goal

pub returns-in-Some : goal.returns-in-Some
returns-in-Some c =
    let xs : List ℕ = c.args.rest.now in
    let i : ℕ = c.in-Some.i in
    let first = subst (IsFirstByte (is_byte 10) xs) c.in-Some.is c.memchr.ensures in
    let len : length (take (i + 1) xs) ≡ i + 1 = length-take-le (i + 1) xs (omega (arith, first.0.high)) in
    let front : take (i + 1) xs ≡ take (length (take (i + 1) xs)) xs = ap (λ n. take n xs) (sym len) in
    let ends : EndsWithFeed (take (i + 1) xs) = (
      take i xs,
      no_feed_to xs i (λ k l. first.0.before k (omega arith) l),
      take_more xs i 0 first.0.high ∙ ap (λ b. take i xs ++ b ∷ []) (eqb-true _ 10 first.1),
    ) in
    record {
      front = front;
      some = omega (arith, len);
      within = omega (arith, len, first.0.high);
      whole = inl ends;
      cut = first_whole xs _ front ends;
    }

pub returns-in-None : goal.returns-in-None
returns-in-None c =
    let xs : List ℕ = c.args.rest.now in
    let all = drop_all (length xs) xs (omega arith) in
    let none : HasNoFeed xs =
    subst HasNoFeed (take_all (length xs) xs (omega arith)) (no_feed_to xs (length xs) (λ k l. subst (IsFirstByte (is_byte 10) xs) c.in-None.is c.memchr.ensures k (omega arith) l)) in
    record {
      front = sym (take_all (length xs) xs (omega arith));
      some = c.requires;
      within = omega arith;
      whole = inr none;
      cut = one_line xs c.requires none ∙ sym (ap (λ r. xs ∷ lines_of r) all);
    }
