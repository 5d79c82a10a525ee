-- Paths of the form that the compiler writes, segment by segment.
use Rattle.std.proofs.Common.{◌≡◌, ◌<◌, ◌≤◌, ◌+◌, ◌==◌, ◌⊎◌, inl, inr, ℕ, suc, Bool, true, false, not, ◌&&◌, cond, List, [], ◌∷◌, ◌++◌, length, take, drop, Option, None, Some, option_map, append_assoc, append-nil, length-append, refl, sym, ap, subst, ◌∙◌, arith}
use Rattle.std.specs.List.{list_all, prefix_len}
use Rattle.std.specs.Option.{option_and_then}
use Rattle.std.proofs.lemmas.Bool.Decides.{nat_tests}
use Rattle.std.proofs.lemmas.List.{drop_at, length-take-le, take-append-drop, take_at}
use Rattle.std.proofs.lemmas.Option.{none-some}
use Rattle.fz_places.specs.Lines.{parted}
use Rattle.fz_places.specs.Paths.{AreSegmentsOf, BeginsWith, HasForm, IsNumber, IsSegment, barred, is_digit, segment_text}
use Rattle.fz_places.specs.Segments.{behind_bar, behind_segment, number}
use Rattle.fz_places.specs.declared.path.Segment.{Segment}

-- ---- reading what is written

run_next : (e : Bool) (n m : ℕ) (rest : Bool) → (e && rest) ≡ true → (rest ≡ true → n ≡ m)
    → cond e (1 + n) 0 ≡ suc m
run_next true n m rest all step = let same = step all in omega arith
run_next false n m rest all step = cc

run : (d rest : List ℕ) → list_all is_digit d ≡ true
    → prefix_len is_digit (d ++ 124 ∷ rest) ≡ length d
run [] rest all = refl
run (b ∷ d) rest all = run_next (is_digit b) (prefix_len is_digit (d ++ 124 ∷ rest)) (length d)
    (list_all is_digit d) all (run d rest)

digits_next : (e : Bool) (b n : ℕ) (text : List ℕ) → is_digit b ≡ e
    → list_all is_digit (take n text) ≡ true
    → list_all is_digit (take (cond e (1 + n) 0) (b ∷ text)) ≡ true
digits_next true b n text is all =
    let same : 1 + n ≡ suc n = omega arith in
    ap (λ k. list_all is_digit (take k (b ∷ text))) same ∙ ap (λ t. t && list_all is_digit (take n text)) is ∙ all
digits_next false b n text is all = refl

digits : (text : List ℕ) → list_all is_digit (take (prefix_len is_digit text) text) ≡ true
digits [] = refl
digits (b ∷ text) = digits_next (is_digit b) b (prefix_len is_digit text) text refl (digits text)

pub number_in : (text : List ℕ) (n : ℕ) → n ≡ prefix_len is_digit text → n ≤ length text
    → (n ≡ 0 → ⊥) → IsNumber (take n text)
number_in text n is within some =
    let long : length (take n text) ≡ n = length-take-le n text within in
    (omega (arith, long, some), ap (λ k. list_all is_digit (take k text)) is ∙ digits text)

picked : (k : ℕ) (rest : List ℕ) → 0 < k → ◌≡◌ {A = Option (List ℕ × List ℕ)}
    (cond (k == 0) None (Some (take k rest, drop k rest))) (Some (take k rest, drop k rest))
picked k rest some = grind (arith, nat_tests)

read_number : (d rest : List ℕ) → IsNumber d
    → number (124 ∷ d ++ 124 ∷ rest) ≡ Some (d, 124 ∷ rest)
read_number d rest is =
    ap (λ k. cond (k == 0) None (Some (take k (d ++ 124 ∷ rest), drop k (d ++ 124 ∷ rest)))) (run d rest is.1)
    ∙ picked (length d) (d ++ 124 ∷ rest) is.0
    ∙ (λ i. Some (take_at d (124 ∷ rest) (length d) refl i, drop_at d (124 ∷ rest) (length d) refl i))

ended : (e : Bool) (b : ℕ) (w more : List ℕ) (part : Option (List ℕ × List ℕ)) (rest : Bool)
    → (not e && rest) ≡ true → (rest ≡ true → part ≡ Some (w, more))
    → ◌≡◌ {A = Option (List ℕ × List ℕ)} (cond e (Some ([], w ++ 59 ∷ more)) (option_map (λ p. (b ∷ p.0, p.1)) part)) (Some (b ∷ w, more))
ended true b w more part rest all step = cc
ended false b w more part rest all step = ap (option_map (λ p. (b ∷ p.0, p.1))) (step all)

abbrev is_inside : ℕ → Bool
is_inside b = not (b == 59)

read_what : (w more : List ℕ) → list_all is_inside w ≡ true
    → parted 59 (w ++ 59 ∷ more) ≡ Some (w, more)
read_what [] more all = refl
read_what (b ∷ w) more all =
    ended (b == 59) b w more (parted 59 (w ++ 59 ∷ more)) (list_all is_inside w) all (read_what w more)

abbrev after0 : List ℕ → Option (List ℕ)
after0 text = option_and_then (λ w. option_map (λ p. p.1) (parted 59 w)) (behind_bar text)

abbrev after1 : List ℕ → Option (List ℕ)
after1 text = option_and_then (λ d. after0 d.1) (number text)

abbrev after2 : List ℕ → Option (List ℕ)
after2 text = option_and_then (λ e. after1 e.1) (number text)

abbrev after3 : List ℕ → Option (List ℕ)
after3 text = option_and_then (λ c. after2 c.1) (number text)

step : (d rest : List ℕ) (after : List ℕ → Option (List ℕ)) → IsNumber d
    → option_and_then (λ l. after l.1) (number (124 ∷ d ++ 124 ∷ rest)) ≡ after (124 ∷ rest)
step d rest after is = ap (λ o. option_and_then (λ l. after l.1) o) (read_number d rest is)

-- what comes behind the file
abbrev tail_of : Segment → List ℕ → List ℕ
tail_of s more = 124 ∷ barred s.line.now (barred s.column.now (barred s.end_line.now
    (barred s.end_column.now (s.what.now ++ 59 ∷ more))))

read_tail : (s : Segment) (more : List ℕ) → IsSegment s
    → behind_segment (tail_of s more) ≡ Some more
read_tail s more is =
    let from_what = s.what.now ++ 59 ∷ more in
    let from_column = barred s.end_column.now from_what in
    let from_line = barred s.end_line.now from_column in
    step s.line.now (barred s.column.now from_line) after3 is.line
    ∙ step s.column.now from_line after2 is.column
    ∙ step s.end_line.now from_column after1 is.end_line
    ∙ step s.end_column.now from_what after0 is.end_column
    ∙ ap (option_map (λ p. p.1)) (read_what s.what.now more is.what)

on : (part text rest whole : List ℕ) → text ++ rest ≡ whole
    → barred part text ++ rest ≡ barred part whole
on part text rest whole is = append_assoc part (124 ∷ text) rest ∙ ap (λ t. barred part t) is

opened : (s : Segment) (more : List ℕ) → segment_text s ++ more ≡ s.file.now ++ tail_of s more
opened s more =
    on s.file.now _ more _ (on s.line.now _ more _ (on s.column.now _ more _ (on s.end_line.now _ more _ (on s.end_column.now _ more _ (append_assoc s.what.now (59 ∷ []) more)))))

file_is_within : (s : Segment) (text rest : List ℕ) → segment_text s ++ rest ≡ text
    → length s.file.now < length text
file_is_within s text rest is =
    let long : length text ≡ length s.file.now + length (tail_of s rest) = ap length (sym is ∙ opened s rest) ∙ length-append s.file.now (tail_of s rest) in
    omega (arith, long)

-- what follows a segment is read behind its file
read_at : (s : Segment) (text rest : List ℕ) → IsSegment s → segment_text s ++ rest ≡ text
    → behind_segment (drop (length s.file.now) text) ≡ Some rest
read_at s text rest form is =
    ap (λ t. behind_segment (drop (length s.file.now) t)) (sym is ∙ opened s rest)
    ∙ ap behind_segment (drop_at s.file.now (tail_of s rest) (length s.file.now) refl)
    ∙ read_tail s rest form

-- where none is read before a place, the file of a segment isn't shorter
pub none_before : (text : List ℕ) (n : ℕ)
    → ((k : ℕ) → k < n → behind_segment (drop k text) ≡ None)
    → (s : Segment) (rest : List ℕ) → IsSegment s → segment_text s ++ rest ≡ text
    → n ≤ length s.file.now
none_before text n none s rest form is =
    let no : length s.file.now < n → ⊥ = λ less. none-some rest (sym (none (length s.file.now) less) ∙ read_at s text rest form is) in
    omega (arith, no)

pub first_at : (whole file text : List ℕ) (n : ℕ) (s : Segment) (rest : List ℕ)
    → file ≡ take n whole → text ≡ drop n whole → n < length whole
    → ((k : ℕ) → k < n → behind_segment (drop k whole) ≡ None)
    → segment_text s ++ rest ≡ file ++ text → IsSegment s → s.file.now ≡ file
    → BeginsWith whole s rest
first_at whole file text n s rest front back within none is form same = record {
  form = form;
  text = is ∙ (λ i. front i ++ back i) ∙ take-append-drop n whole;
  shortest = λ other more formed at.
      let long : length s.file.now ≡ n = ap length (same ∙ front) ∙ length-take-le n whole (omega (arith, within)) in
      let least : n ≤ length other.file.now = none_before whole n none other more formed at in
      omega (arith, long, least);
}

pub no_form : (text : List ℕ)
    → ((n : ℕ) → n < length text → behind_segment (drop n text) ≡ None) → HasForm text → ⊥
no_form text none f =
    let is : segment_text f.segment ++ [] ≡ text = append-nil (segment_text f.segment) ∙ f.text in
    let within : length f.segment.file.now < length text = file_is_within f.segment text [] is in
    let beyond : length text ≤ length f.segment.file.now = none_before text (length text) none f.segment [] f.form is in
    absurd (omega (arith, within, beyond))

-- ---- what follows a semicolon

last_next : (b : ℕ) (rest : Bool) → (is_inside b && rest) ≡ true → b ≡ 59 → ⊥
last_next b rest all same = let wrong : false ≡ true = subst (λ k. (is_inside k && rest) ≡ true) same all in cc

all_next : (e rest : Bool) → (e && rest) ≡ true → rest ≡ true
all_next true rest all = all
all_next false rest all = cc

last : (t xs rest : List ℕ) → t ++ 59 ∷ [] ≡ xs ++ 59 ∷ rest → list_all is_inside t ≡ true → rest ≡ []
last [] [] rest is all = cc
last [] (x ∷ []) rest is all = cc
last [] (x ∷ y ∷ xs) rest is all = cc
last (b ∷ t) [] rest is all = absurd (last_next b (list_all is_inside t) all (cc))
last (b ∷ t) (x ∷ xs) rest is all =
    last t xs rest (cc) (all_next (is_inside b) (list_all is_inside t) all)

cut : (file t xs rest : List ℕ) → file ++ (t ++ 59 ∷ []) ≡ xs ++ 59 ∷ rest → list_all is_inside t ≡ true
    → (rest ≡ []) ⊎ ((g : List ℕ) × (rest ≡ g ++ (t ++ 59 ∷ [])))
cut [] t xs rest is all = inl (last t xs rest is all)
cut (b ∷ file) t [] rest is all = inr (file, cc)
cut (b ∷ file) t (x ∷ xs) rest is all = cut file t xs rest (cc) all

both : (e rest more : Bool) → (e && rest) ≡ true → (rest ≡ true → more ≡ true) → (e && more) ≡ true
both true rest more all step = step all
both false rest more all step = cc

together : (xs ys : List ℕ) → list_all is_inside xs ≡ true → list_all is_inside ys ≡ true
    → list_all is_inside (xs ++ ys) ≡ true
together [] ys a b = b
together (x ∷ xs) ys a b =
    both (is_inside x) (list_all is_inside xs) (list_all is_inside (xs ++ ys)) a (λ rest. together xs ys rest b)

digit_inside : (b : ℕ) → is_digit b ≡ true → is_inside b ≡ true
digit_inside b is = grind (arith, nat_tests)

one_more : (e rest : Bool) → e ≡ true → rest ≡ true → (e && rest) ≡ true
one_more true rest is all = all
one_more false rest is all = cc

first_of_both : (e rest : Bool) → (e && rest) ≡ true → e ≡ true
first_of_both true rest all = refl
first_of_both false rest all = cc

digits_inside : (d : List ℕ) → list_all is_digit d ≡ true → list_all is_inside d ≡ true
digits_inside [] all = refl
digits_inside (b ∷ d) all = one_more (is_inside b) (list_all is_inside d)
    (digit_inside b (first_of_both (is_digit b) (list_all is_digit d) all))
    (digits_inside d (all_next (is_digit b) (list_all is_digit d) all))

-- what is behind the file, without the last semicolon
abbrev inner : Segment → List ℕ
inner s = 124 ∷ barred s.line.now (barred s.column.now (barred s.end_line.now
    (barred s.end_column.now s.what.now)))

with_last : (s : Segment) (more : List ℕ) → inner s ++ 59 ∷ more ≡ tail_of s more
with_last s more = ap (◌∷◌ 124) (on s.line.now _ (59 ∷ more) _ (on s.column.now _ (59 ∷ more) _ (on s.end_line.now _ (59 ∷ more) _ (on s.end_column.now s.what.now (59 ∷ more) _ refl))))

numbers_inside : (d rest : List ℕ) → IsNumber d → list_all is_inside rest ≡ true
    → list_all is_inside (barred d rest) ≡ true
numbers_inside d rest is all = together d (124 ∷ rest) (digits_inside d is.1) all

inner_inside : (s : Segment) → IsSegment s → list_all is_inside (inner s) ≡ true
inner_inside s is = numbers_inside s.line.now _ is.line (numbers_inside s.column.now _ is.column (numbers_inside s.end_line.now _ is.end_line (numbers_inside s.end_column.now s.what.now is.end_column is.what)))

-- a text of that form ends with a semicolon
pub ended_form : (text : List ℕ) → HasForm text → (front : List ℕ) × (text ≡ front ++ 59 ∷ [])
ended_form text f =
    let last = f.segment in
    (last.file.now ++ inner last, sym f.text ∙ sym (append-nil (segment_text last)) ∙ opened last [] ∙ ap (λ u. last.file.now ++ u) (sym (with_last last [])) ∙ sym (append_assoc last.file.now (inner last) (59 ∷ [])))

pub next_form : (s : Segment) (behind rest : List ℕ) → segment_text s ++ behind ≡ rest → HasForm rest
    → (behind ≡ [] → ⊥) → HasForm behind
next_form s behind rest is f some =
    let last = f.segment in
    let whole : rest ≡ last.file.now ++ (inner last ++ 59 ∷ []) = sym f.text ∙ sym (append-nil (segment_text last)) ∙ opened last [] ∙ ap (λ u. last.file.now ++ u) (sym (with_last last [])) in
    let front : rest ≡ (s.file.now ++ inner s) ++ 59 ∷ behind = sym is ∙ opened s behind ∙ ap (λ u. s.file.now ++ u) (sym (with_last s behind)) ∙ sym (append_assoc s.file.now (inner s) (59 ∷ behind)) in
    elim (cut last.file.now (inner last) (s.file.now ++ inner s) behind (sym whole ∙ front) (inner_inside last f.form)) [
      | inl none ↦ absurd (some none)
      | inr found ↦ record {
        segment = record last { file = record last.file { now = found.0 } };
        form = record {
          line = f.form.line;
          column = f.form.column;
          end_line = f.form.end_line;
          end_column = f.form.end_column;
          what = f.form.what;
        };
        text = ap (λ u. found.0 ++ u) (sym (with_last last [])) ∙ sym found.1;
      }
    ]

-- ---- the segments so far

pub record Reading (path : List ℕ) (done : List Segment) (rest : List ℕ) (count : ℕ) : Type 0 where
  pub segments : (more : List Segment) → AreSegmentsOf rest more → AreSegmentsOf path (done ++ more)
  pub form : HasForm path → HasForm rest
  pub short : length rest + count ≤ length path

-- one more
pub onward : (path : List ℕ) (done longer : List Segment) (s : Segment) (rest behind : List ℕ)
    → ((more : List Segment) → AreSegmentsOf rest more → AreSegmentsOf path (done ++ more))
    → BeginsWith rest s behind → longer ≡ done ++ s ∷ []
    → (more : List Segment) → AreSegmentsOf behind more → AreSegmentsOf path (longer ++ more)
onward path done longer s rest behind so_far next is more h =
    subst (AreSegmentsOf path) (sym (ap (λ ss. ss ++ more) is ∙ append_assoc done (s ∷ []) more))
    (so_far (s ∷ more) (behind, next, h))

pub shorter : (s : Segment) (behind rest : List ℕ) → segment_text s ++ behind ≡ rest
    → length behind < length rest
shorter s behind rest is =
    let inside = barred s.line.now (barred s.column.now (barred s.end_line.now (barred s.end_column.now (s.what.now ++ 59 ∷ [])))) in
    let long : length (segment_text s) ≡ length s.file.now + length (124 ∷ inside) = length-append s.file.now (124 ∷ inside) in
    let whole : length rest ≡ length (segment_text s) + length behind = sym (ap length is) ∙ length-append (segment_text s) behind in
    omega (arith, long, whole)
