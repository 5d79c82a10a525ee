-- A table that is read line by line.
use Rattle.std.proofs.Common.{◌≡◌, ◌<◌, ◌≤◌, ◌+◌, ◌-◌, ◌==◌, ℕ, zero, suc, Bool, true, false, cond, List, [], ◌∷◌, ◌++◌, map, length, take, drop, Option, None, Some, option_map, is_some, length-drop, append_assoc, refl, sym, ap, ◌∙◌, arith}
use Rattle.std.specs.Option.{option_and_then}
use Rattle.std.proofs.Math.Seq.{take-length}
use Rattle.std.proofs.lemmas.List.{drop-drop, length-take-le, map-append}
use Rattle.fz_places.specs.Lines.{first_part}
use Rattle.fz_places.specs.Tables.{Row, fault, fault_from, lines, onto_line, row_in, row_of, rows_of, table}
use Rattle.fz_places.specs.declared.names.NameLine.{NameLine}

-- the rows so far, before what is left of the text
pub record Reading (text : List ℕ) (start : ℕ) (done : List NameLine) : Type 0 where
  pub rows : table text ≡ option_map (λ more. map row_of done ++ more) (rows_of (lines (drop start text)))
  pub fault : fault text ≡ fault_from start (lines (drop start text))

-- ---- the first line of what is left

ended : (e : Bool) (b : ℕ) (ys : List ℕ) (ls : List (List ℕ)) → [] ≡ cond e [] (b ∷ ys)
    → cond e ([] ∷ ls) (onto_line b ls) ≡ [] ∷ ls
ended true b ys ls is = refl
ended false b ys ls is = cc

goes_on : (e : Bool) (b : ℕ) (xs ys : List ℕ) (ls ms : List (List ℕ)) → b ∷ xs ≡ cond e [] (b ∷ ys)
    → (xs ≡ ys → onto_line b ls ≡ ms) → cond e ([] ∷ ls) (onto_line b ls) ≡ ms
goes_on true b xs ys ls ms is next = cc
goes_on false b xs ys ls ms is next = next (cc)

first_line : (rest : List ℕ) (n : ℕ) → take n rest ≡ first_part 10 rest → n ≤ length rest
    → 0 < length rest → lines rest ≡ take n rest ∷ lines (drop (suc n) rest)
first_line [] n is within some = absurd (omega arith)
first_line (b ∷ rest) zero is within some = ended (b == 10) b (first_part 10 rest) (lines rest) is
first_line (b ∷ []) (suc zero) is within some =
    goes_on (b == 10) b [] [] [] ((b ∷ []) ∷ []) is (λ same. refl)
first_line (b ∷ []) (suc (suc n)) is within some = absurd (omega arith)
first_line (b ∷ c ∷ rest) (suc n) is within some =
    goes_on (b == 10) b (take n (c ∷ rest)) (first_part 10 (c ∷ rest)) (lines (c ∷ rest)) _ is
    (λ same. ap (onto_line b) (first_line (c ∷ rest) n same (omega arith) (omega arith)))

pub all_of : (text : List ℕ) (start : ℕ)
    → take (length text - start) (drop start text) ≡ drop start text
all_of text start =
    ap (λ k. take k (drop start text)) (sym (length-drop start text)) ∙ take-length (drop start text)

-- ---- the next line

joined : (done : List Row) (r : Row) (o : Option (List Row))
    → option_map (λ more. done ++ more) (option_map (λ rows. r ∷ rows) o) ≡ option_map (λ more. (done ++ r ∷ []) ++ more) o
joined done r None = refl
joined done r (Some rows) = ap Some (sym (append_assoc done (r ∷ []) rows))

module _ (text rest : List ℕ) (start n : ℕ) (is : rest ≡ drop start text) (less : start < length text)
    (part : take n rest ≡ first_part 10 rest) (within : n ≤ length rest) where
  long : length rest ≡ length text - start
  long = ap length is ∙ length-drop start text

  further : drop (suc n) (drop start text) ≡ drop (start + n + 1) text
  further =
      let same : start + suc n ≡ start + n + 1 = omega arith in
      drop-drop (suc n) start text ∙ ap (λ k. drop k text) same

  cut : lines (drop start text) ≡ take n rest ∷ lines (drop (start + n + 1) text)
  cut =
      let some : 0 < length rest = omega (arith, long) in
      ap lines (sym is) ∙ first_line rest n part within some
      ∙ ap (λ r. take n rest ∷ lines r) (ap (drop (suc n)) is ∙ further)

  -- one that is a row
  pub one_more : (done more : List NameLine) (line : NameLine) → Reading text start done
      → Some (row_of line) ≡ row_in (take n rest) → more ≡ done ++ line ∷ []
      → Reading text (start + n + 1) more
  one_more done more line so_far row longer = record {
    rows = so_far.rows
        ∙ ap (λ ls. option_map (λ rows. map row_of done ++ rows) (rows_of ls)) cut
        ∙ ap (λ o. option_map (λ rows. map row_of done ++ rows) (option_and_then (λ r. option_map (λ rows. r ∷ rows) (rows_of (lines (drop (start + n + 1) text)))) o)) (sym row)
        ∙ joined (map row_of done) (row_of line) (rows_of (lines (drop (start + n + 1) text)))
        ∙ ap (λ rs. option_map (λ rows. rs ++ rows) (rows_of (lines (drop (start + n + 1) text)))) (sym (ap (map row_of) longer ∙ map-append row_of done (line ∷ [])));
    fault = so_far.fault ∙ ap (fault_from start) cut
        ∙ ap (λ o. cond (is_some o) (fault_from (start + length (take n rest) + 1) (lines (drop (start + n + 1) text))) (Some (record { start = start; end = start + length (take n rest) }))) (sym row)
        ∙ ap (λ k. fault_from (start + k + 1) (lines (drop (start + n + 1) text))) (length-take-le n rest within);
  }

  -- one that is none
  pub fault_at : (done : List NameLine) → Reading text start done → None ≡ row_in (take n rest)
      → fault text ≡ Some (record { start = start; end = start + n })
  fault_at done so_far none = so_far.fault ∙ ap (fault_from start) cut
      ∙ ap (λ o. cond (is_some o) (fault_from (start + length (take n rest) + 1) (lines (drop (start + n + 1) text))) (Some (record { start = start; end = start + length (take n rest) }))) (sym none)
      ∙ ap (λ k. Some (record { start = start; end = start + k })) (length-take-le n rest within)
