-- The table of names by number, and the hash table beside it: how each name is found stays the same
-- where one more name is declared.
use Rattle.std.proofs.Common.{◌≡◌, ◌≢◌, ◌≤◌, ◌<◌, ℕ, zero, suc, ◌+◌, ◌-◌, ◌^◌, ◌==◌, List, [], ◌∷◌, ◌++◌, map, length, take, bytes_eq, Option, None, Some, option_map, is_some, slice_get, slice_set, get_or, drop, replicate, if◌then◌else◌, Bool, true, false, refl, sym, ap, ◌∙◌, subst, arith, take-append-drop, length-drop}
use Rattle.std.specs.List.{AllByRecursion, find, fold, list_any}
use Rattle.std.specs.Option.{option_or}
use Rattle.std.specs.Map.{lookup}
use Rattle.std.proofs.lemmas.List.{take_all}
use Rattle.std.proofs.lemmas.List.Folds.{find-append}
use Rattle.std.proofs.lemmas.List.Sums.{fold_more}
use Rattle.std.proofs.lemmas.Option.{slice_get-get_or, slice_get_within}
use Rattle.std.proofs.lemmas.Bool.{eqb-true, eqb-false}
use Rattle.std.proofs.lemmas.Bool.Decides.{nat_tests}
use Rattle.std.proofs.lemmas.Grind.{pow_more}
use Rattle.std.proofs.lemmas.Slice.Eq.{bytes_eq-Decides}
use Rattle.std.proofs.Math.Nat.{pow-le-pow_right}
use Rattle.fz_meaning.proofs.Points.{slice_get_at}
use Rattle.fz_meaning.specs.declared.term.Term.{Term}
use Rattle.fz_store.specs.declared.names.Citation.{Citation}
use Rattle.fz_store.specs.declared.names.Kept.{Kept}
use Rattle.fz_store.specs.declared.numbered.Place.{Place}
use Rattle.fz_store.specs.declared.numbered.Place.TheVariants.{Free, Taken, Crowded}
use Rattle.fz_store.specs.declared.numbered.Numbered.{Numbered}
use Rattle.fz_store.specs.declared.numbered.Shape.{Shape}
use Rattle.fz_store.specs.Naming.{has_text, stands_for, IsAmongTerms}
use Rattle.fz_store.specs.Names.{citation_stands, is_among_terms, is_key}
use Rattle.fz_store.specs.Numbered.{citation_as, citation_at, citation_of, citation_there, end_of, head_of, is_free, is_free_there, is_of, mark_of, marks_from, marks_of, number_of, place_at, seat_if, seat_there, unpacked, with_byte, AreKept, IsAmongOthers, IsLeft, IsListed, IsNumbered, IsTakenBy, StandsAt}
use Rattle.fz_store.proofs.NameTable.{found_among, get_front, looked_up, got}

-- equal texts, by their test
same_text : (x y : List ℕ) → bytes_eq x y ≡ true → x ≡ y
same_text x y = (bytes_eq-Decides x y).0

-- ---- names of one shape are told apart by their numbers

-- a number of few digits doesn't wrap with one more byte, which the mark and the new number tell
one_byte : (x y n m : ℕ) → n ≤ 100000000 → m ≤ 100000000 → mark_of x ≡ mark_of y
    → with_byte n x ≡ with_byte m y → (n ≡ m) × (x ≡ y)
one_byte x y n m ln lm marks numbers = grind (arith, nat_tests)

one_digit_more : (n b k : ℕ) → n < 10 ^ k → k ≤ 7
    → (n ≤ 100000000) × (with_byte n b < 10 ^ (k + 1))
one_digit_more n b k lt le =
    let top : 10 ^ k ≤ 10 ^ 7 = pow-le-pow_right (omega arith) le in
    let more = pow_more 10 k in
    grind (arith, nat_tests)

same_ends : (j k : ℕ) (xs ys : List ℕ) (n m : ℕ) → j + k ≤ 8 → length xs ≤ j → length xs ≡ length ys
    → n < 10 ^ k → m < 10 ^ k → marks_from j xs ≡ marks_from j ys
    → fold with_byte n xs ≡ fold with_byte m ys → (n ≡ m) × (xs ≡ ys)
same_ends j k [] [] n m le fit long ln lm marks numbers = (numbers, refl)
same_ends (suc j) k (x ∷ xs) (y ∷ ys) n m le fit long ln lm marks numbers =
    let first : mark_of x ≡ mark_of y = cc in
    let rest : marks_from j xs ≡ marks_from j ys = cc in
    let nx = one_digit_more n x k ln (omega arith) in
    let my = one_digit_more m y k lm (omega arith) in
    let later = same_ends j (k + 1) xs ys (with_byte n x) (with_byte m y) (omega arith) (omega arith) (omega arith) nx.1 my.1 rest numbers in
    let here = one_byte x y n m nx.0 my.0 first later.0 in
    (here.0, λ i. here.1 i ∷ later.1 i)
same_ends _ k xs ys n m le fit long ln lm marks numbers = absurd (omega arith)

end_short : (x : List ℕ) → length (end_of x) ≤ 8
end_short x = omega (arith, length-drop (length x - 8) x)

-- one more mark
marks_more : (n p b : ℕ) (bs : List ℕ) → p < n → slice_get bs p ≡ Some b
    → slice_set (marks_from n (take p bs)) p (mark_of b) ≡ marks_from n (take (suc p) bs)
marks_more zero p b bs lt at = absurd (omega (arith, lt))
marks_more (suc n) p b [] lt at = cc
marks_more (suc n) zero b (c ∷ bs) lt at = let same : b ≡ c = cc in ap (λ d. mark_of d ∷ marks_from n []) same
marks_more (suc n) (suc p) b (c ∷ bs) lt at = ap (λ ms. mark_of c ∷ ms) (marks_more n p b bs (omega (arith, lt)) at)

-- a name of a shape has its length, marks and head
fitting : (s : Shape) (x : List ℕ) → is_of s x ≡ true
    → (s.len ≡ length x) × (s.marks ≡ marks_of x) × (s.head.now ≡ head_of x)
fitting s x is =
    let marks = same_text s.marks (marks_of x) in
    let head = same_text s.head.now (head_of x) in
    grind (arith, nat_tests)

pub same_names : (s : Shape) (x y : List ℕ) → is_of s x ≡ true → is_of s y ≡ true
    → number_of x ≡ number_of y → x ≡ y
same_names s x y isx isy number =
    let ofx = fitting s x isx in
    let ofy = fitting s y isy in
    let heads : head_of x ≡ head_of y = cc in
    let marks : marks_of x ≡ marks_of y = cc in
    let long : length (end_of x) ≡ length (end_of y) = omega (arith, ofx.0, ofy.0, length-drop (length x - 8) x, length-drop (length y - 8) y) in
    let ends = same_ends 8 0 (end_of x) (end_of y) 0 0 (omega arith) (end_short x) long (omega arith) (omega arith) marks number in
    sym (take-append-drop (length x - 8) x) ∙ (λ i. heads i ++ ends.1 i) ∙ take-append-drop (length y - 8) y

-- one more byte of the end is read
pub one_read : (x : List ℕ) (s : ℕ) → s ≡ length x - 8 → (p n r m : ℕ) (ms : List ℕ)
    → p < length (take (length x - s) (drop s x))
    → n ≡ fold with_byte 0 (take p (end_of x)) → ms ≡ marks_from 8 (take p (end_of x))
    → r ≡ with_byte n (get_or (take (length x - s) (drop s x)) p 0)
    → m ≡ mark_of (get_or (take (length x - s) (drop s x)) p 0)
    → (r ≡ fold with_byte 0 (take (p + 1) (end_of x)))
    × (slice_set ms p m ≡ marks_from 8 (take (p + 1) (end_of x)))
one_read x s before p n r m ms lt number marks took mark =
    let end : take (length x - s) (drop s x) ≡ end_of x =
    take_all (length x - s) (drop s x) (omega (arith, length-drop s x)) ∙ ap (λ i. drop i x) before in
    let within : p < length (end_of x) = subst (λ bs. p < length bs) end lt in
    let byte = ap (λ bs. get_or bs p 0) end in
    let next : p + 1 ≡ suc p = omega arith in
    let folded = fold_more with_byte 0 (end_of x) p 0 within in
    let marked = marks_more 8 p (get_or (end_of x) p 0) (end_of x) (omega (arith, end_short x)) (slice_get-get_or (end_of x) p 0 within) in
    (cc, cc)

-- ---- no names yet

free_all : (n i : ℕ) (p : Place) → place_at (replicate n 0) i ≡ Some p → p ≡ Free
free_all (suc n) (suc i) p at = free_all n i p at
free_all _ i p at = cc

pub none_numbered : (ks os : List Kept) (n : Numbered) (count : ℕ) → ks ≡ [] → os ≡ []
    → n.places.items ≡ replicate count 0 → IsNumbered ks os n
none_numbered ks os n count empty none all x = by_place (place_at n.places.items (number_of x)) refl
  where
    same : IsAmongOthers ks os x
    same = ap (find (is_key x)) (none ∙ sym empty)

    by_place : (o : Option Place) → place_at n.places.items (number_of x) ≡ o
        → StandsAt ks os n x o
    by_place None at = same
    by_place (Some p) at =
        let free : p ≡ Free = free_all count (number_of x) p (ap (λ qs. place_at qs (number_of x)) (sym all) ∙ at) in
        subst (λ q. StandsAt ks os n x (Some q)) (sym free) (same, ap (find (is_key x)) empty)

-- ---- one more name

pub any_found : (x : List ℕ) (ks : List Kept)
    → list_any (is_key x) ks ≡ is_some (find (is_key x) ks)
any_found x [] = refl
any_found x (k ∷ ks) = grind (arith, any_found x ks)

pub not_found : (x : List ℕ) (ks : List Kept) → list_any (is_key x) ks ≡ false
    → find (is_key x) ks ≡ None
not_found x ks absent = grind (arith, any_found x ks)

-- where a name stands stays so, in longer lists, where its seat does
stands_more : (ks ls os ps : List Kept) (n m : Numbered) (x : List ℕ) (o : Option Place)
    → AreKept n.shapes.items m.shapes.items → (IsAmongOthers ks os x → IsAmongOthers ls ps x)
    → (o ≡ Some Free → find (is_key x) ks ≡ None → find (is_key x) ls ≡ None)
    → ((e : Citation) → IsListed ks n.seats.items x e → IsListed ls m.seats.items x e)
    → StandsAt ks os n x o → StandsAt ls ps m x o
stands_more ks ls os ps n m x (Some Free) keep same free listed h = (same h.0, free refl h.1)
stands_more ks ls os ps n m x (Some (Taken s k i)) keep same free listed h =
    (h.0, keep k h.0 h.1, λ yes. listed (citation_of s i) (h.2 yes), λ no. same (h.3 no))
stands_more ks ls os ps n m x _ keep same free listed h = same h

-- a list with one more name at its end
module _ (k : Kept) where
  -- a text that isn't that name's is found as before
  as_before : (x : List ℕ) (ks : List Kept) → is_key x k ≡ false
      → find (is_key x) (ks ++ k ∷ []) ≡ find (is_key x) ks
  as_before x ks other = grind (arith, find-append (is_key x) ks (k ∷ []))

  both : (x : List ℕ) (ks os : List Kept) → IsAmongOthers ks os x
      → IsAmongOthers (ks ++ k ∷ []) (os ++ k ∷ []) x
  both x ks os same = grind (arith, find-append (is_key x) os (k ∷ []), find-append (is_key x) ks (k ∷ []))

  still_listed : (x : List ℕ) (ks : List Kept) (js : List ℕ) (e : Citation) → IsListed ks js x e
      → IsListed (ks ++ k ∷ []) js x e
  still_listed x ks js e h = (
    h.0,
    h.1,
    find-append (is_key x) ks (k ∷ []) ∙ ap (λ o. option_or o (find (is_key x) (k ∷ []))) h.2,
    h.3,
    h.4,
    get_front ks (k ∷ []) h.1 (slice_get_within ks h.1 h.0 h.5) ∙ h.5,
  )

-- the name is noted: no other number has a new cell
module _ (ks os : List Kept) (n m : Numbered) (k : Kept) (keep : AreKept n.shapes.items m.shapes.items)
    (others : (i : ℕ) → (i ≢ number_of k.bytes.now) → slice_get m.places.items i ≡ slice_get n.places.items i) (was : IsNumbered ks os n) where
  number_apart : (x : List ℕ) → (number_of x ≢ number_of k.bytes.now) → is_key x k ≡ false
  number_apart x apart = by_key (is_key x k) refl
    where
      by_key : (b : Bool) → is_key x k ≡ b → b ≡ false
      by_key false e = refl
      by_key true e = absurd (apart (ap number_of (same_text x k.bytes.now e)))

  -- where a name of another number stands
  stands_apart : (ls ps : List Kept) (x : List ℕ) → (number_of x ≢ number_of k.bytes.now)
      → (IsAmongOthers ks os x → IsAmongOthers ls ps x)
      → (find (is_key x) ks ≡ None → find (is_key x) ls ≡ None)
      → ((e : Citation) → IsListed ks n.seats.items x e → IsListed ls m.seats.items x e)
      → StandsAt ls ps m x (place_at m.places.items (number_of x))
  stands_apart ls ps x apart same free listed =
      stands_more ks ls os ps n m x (place_at m.places.items (number_of x)) keep same (λ _. free) listed
      (subst (StandsAt ks os n x) (ap (option_map unpacked) (sym (others (number_of x) apart))) (was x))

  module _ (seats : m.seats.items ≡ n.seats.items) (left : IsLeft (place_at n.places.items (number_of k.bytes.now)) (place_at m.places.items (number_of k.bytes.now))) where
    -- what stays the same where the name doesn't get its cell
    pub left_stands : IsNumbered ks os m
    left_stands x = by_number (number_of x == number_of k.bytes.now) refl
      where
        listed : (e : Citation) → IsListed ks n.seats.items x e → IsListed ks m.seats.items x e
        listed e h = (h.0, h.1, h.2, h.3, ap (λ zs. slice_get zs (number_of x)) seats ∙ h.4, h.5)

        by_left : (o q : Option Place) → IsLeft o q → StandsAt ks os n x o → StandsAt ks os n x q
        by_left (Some Free) q l h = subst (StandsAt ks os n x) (sym l) h.0
        by_left None q l h = subst (StandsAt ks os n x) (sym l) h
        by_left (Some (Taken s r i)) q l h = subst (StandsAt ks os n x) (sym l) h
        by_left (Some Crowded) q l h = subst (StandsAt ks os n x) (sym l) h

        by_number : (b : Bool) → (number_of x == number_of k.bytes.now) ≡ b
            → StandsAt ks os m x (place_at m.places.items (number_of x))
        by_number true e =
            let number : number_of x ≡ number_of k.bytes.now = eqb-true (number_of x) (number_of k.bytes.now) e in
            stands_more ks ks os os n m x (place_at m.places.items (number_of x)) keep (λ h. h) (λ _ h. h) listed
            (by_left (place_at n.places.items (number_of x)) (place_at m.places.items (number_of x)) (subst (λ i. IsLeft (place_at n.places.items i) (place_at m.places.items i)) (sym number) left) (was x))
        by_number false e = stands_apart ks os x (eqb-false (number_of x) (number_of k.bytes.now) e) (λ h. h) (λ h. h) listed

    -- a name that doesn't get its cell is put among the others
    pub among_others : IsNumbered (ks ++ k ∷ []) (os ++ k ∷ []) m
    among_others x =
        stands_more ks (ks ++ k ∷ []) os (os ++ k ∷ []) m m x (place_at m.places.items (number_of x)) (λ i s h. h) (both k x ks os)
        (λ free absent. as_before k x ks (apart (is_key x k) refl free) ∙ absent) (still_listed k x ks m.seats.items) (left_stands x)
      where
        not_free : (o q : Option Place) → IsLeft o q → q ≢ Some Free
        not_free None q l e = cc
        not_free (Some Free) q l e = cc
        not_free (Some (Taken s r i)) q l e = cc
        not_free (Some Crowded) q l e = cc

        apart : (b : Bool) → is_key x k ≡ b → place_at m.places.items (number_of x) ≡ Some Free → b ≡ false
        apart false e free = refl
        apart true e free = absurd (not_free _ _ left (ap (λ y. place_at m.places.items (number_of y)) (sym (same_text x k.bytes.now e)) ∙ free))

  -- a name in its cell
  pub in_its_place :
      ((i : ℕ) → (i ≢ number_of k.bytes.now) → slice_get m.seats.items i ≡ slice_get n.seats.items i)
      → place_at n.places.items (number_of k.bytes.now) ≡ Some Free
      → find (is_key k.bytes.now) ks ≡ None
      → slice_get m.seats.items (number_of k.bytes.now) ≡ Some (length ks)
      → IsTakenBy m.shapes.items k.bytes.now k.citation (place_at m.places.items (number_of k.bytes.now))
      → IsNumbered (ks ++ k ∷ []) os m
  in_its_place seats free absent seat taken x = by_number (number_of x == number_of k.bytes.now) refl
    where
      here : number_of x ≡ number_of k.bytes.now → (o : Option Place)
          → IsTakenBy m.shapes.items k.bytes.now k.citation o
          → StandsAt ks os n x (Some Free) → StandsAt (ks ++ k ∷ []) os m x o
      here number (Some (Taken s r i)) t none = (t.0.0, t.0.1, own, elsewhere)
        where
          own : is_of t.0.0 x ≡ true → IsListed (ks ++ k ∷ []) m.seats.items x (citation_of s i)
          own of_shape =
              let same : x ≡ k.bytes.now = same_names t.0.0 x k.bytes.now of_shape t.0.2 number in
              let yes : is_key x k ≡ true = (bytes_eq-Decides x k.bytes.now).1 same in
              (k, length ks, grind (arith, find-append (is_key x) ks (k ∷ [])), sym t.1, ap (slice_get m.seats.items) number ∙ seat, slice_get_at ks [] k)

          other : (b : Bool) → is_key x k ≡ b → is_of t.0.0 x ≡ false → b ≡ false
          other false e apart = refl
          other true e apart = let same = same_text x k.bytes.now e in cc

          elsewhere : is_of t.0.0 x ≡ false → IsAmongOthers (ks ++ k ∷ []) os x
          elsewhere apart = none.0 ∙ sym (as_before k x ks (other (is_key x k) refl apart))
      here number _ t none = absurd t

      by_number : (b : Bool) → (number_of x == number_of k.bytes.now) ≡ b
          → StandsAt (ks ++ k ∷ []) os m x (place_at m.places.items (number_of x))
      by_number true e =
          let number : number_of x ≡ number_of k.bytes.now = eqb-true (number_of x) (number_of k.bytes.now) e in
          here number (place_at m.places.items (number_of x)) (subst (λ i. IsTakenBy m.shapes.items k.bytes.now k.citation (place_at m.places.items i)) (sym number) taken)
          (subst (StandsAt ks os n x) (ap (place_at n.places.items) number ∙ free) (was x))
      by_number false e =
          let apart = eqb-false (number_of x) (number_of k.bytes.now) e in
          let before = as_before k x ks (number_apart x apart) in
          stands_apart (ks ++ k ∷ []) os x apart (λ h. h ∙ sym before) (λ h. before ∙ h)
          (λ e h. still_listed k x ks m.seats.items e (h.0, h.1, h.2, h.3, seats (number_of x) apart ∙ h.4, h.5))

-- ---- looked up

-- how a name is found, by its cell
module _ (x : List ℕ) (ks os : List Kept) (n : Numbered) (h : IsNumbered ks os n) where
  -- a name in its cell is in the list, and one that isn't is found among the others
  by_cell : (P : Option Citation → Type 0) → ((e : Citation) → IsListed ks n.seats.items x e → P (Some e))
      → (IsAmongOthers ks os x → P None)
      → P (citation_there n.shapes.items n.places.items x)
  by_cell P there none = at_place (place_at n.places.items (number_of x)) (h x)
    where
      by_shape : (t : Shape) (e : Citation) (b : Bool) → is_of t x ≡ b
          → (is_of t x ≡ true → IsListed ks n.seats.items x e)
          → (is_of t x ≡ false → IsAmongOthers ks os x) → P (if b then Some e else None)
      by_shape t e true is listed other = there e (listed is)
      by_shape t e false is listed other = none (other is)

      at_place : (o : Option Place) → StandsAt ks os n x o → P (citation_at n.shapes.items x o)
      at_place (Some Free) s = none s.0
      at_place (Some (Taken r i l)) s = subst (λ o. P (citation_as o x (citation_of r l))) (sym s.1) (by_shape s.0 (citation_of r l) (is_of s.0 x) refl s.2 s.3)
      at_place None s = none s
      at_place (Some Crowded) s = none s

  pub there_found : (e : Citation) → citation_there n.shapes.items n.places.items x ≡ Some e
      → option_map (λ k. k.citation) (find (is_key x) ks) ≡ Some e
  there_found e = by_cell (λ o. o ≡ Some e → option_map (λ k. k.citation) (find (is_key x) ks) ≡ Some e) (λ f l is. ap (option_map (λ k. k.citation)) l.2 ∙ ap Some l.3 ∙ is) (λ same is. cc)

  pub elsewhere : citation_there n.shapes.items n.places.items x ≡ None → IsAmongOthers ks os x
  elsewhere = by_cell (λ o. o ≡ None → IsAmongOthers ks os x) (λ e l no. cc) (λ same no. same)

  pub seated : is_some (citation_there n.shapes.items n.places.items x) ≡ true
      → is_some (find (is_key x) ks) ≡ true
  seated = by_cell (λ o. is_some o ≡ true → is_some (find (is_key x) ks) ≡ true) (λ e l _. ap is_some l.2) (λ same no. cc)

  pub unseated : is_some (citation_there n.shapes.items n.places.items x) ≡ false
      → IsAmongOthers ks os x
  unseated = by_cell (λ o. is_some o ≡ false → IsAmongOthers ks os x) (λ e l no. cc) (λ same no. same)

  -- a name is found at the index that its cell has
  pub seat_found : (j : ℕ) → seat_there n.shapes.items n.places.items n.seats.items x ≡ Some j
      → slice_get ks j ≡ find (is_key x) ks
  seat_found j = by_cell (λ o. seat_if o (slice_get n.seats.items (number_of x)) ≡ Some j → slice_get ks j ≡ find (is_key x) ks) (λ e l is. let same : l.1 ≡ j = cc in ap (slice_get ks) (sym same) ∙ l.5 ∙ sym l.2) (λ same no. cc)

  -- a name without such an index isn't in its cell
  pub no_seat : seat_there n.shapes.items n.places.items n.seats.items x ≡ None
      → IsAmongOthers ks os x
  no_seat = by_cell (λ o. seat_if o (slice_get n.seats.items (number_of x)) ≡ None → IsAmongOthers ks os x) (λ e l no. cc) (λ same no. same)

  -- a name that isn't listed isn't among the others
  pub absent_there : find (is_key x) ks ≡ None → find (is_key x) os ≡ None
  absent_there absent = by_cell (λ o. find (is_key x) os ≡ None) (λ e l. cc) (λ same. same ∙ absent)

  -- no declared name has a number whose cell is free
  pub free_absent : is_free_there n.places.items x ≡ true → find (is_key x) ks ≡ None
  free_absent = at_place (place_at n.places.items (number_of x)) (h x)
    where
      at_place : (o : Option Place) → StandsAt ks os n x o → is_free o ≡ true → find (is_key x) ks ≡ None
      at_place (Some Free) s free = s.1
      at_place None s free = cc
      at_place (Some (Taken r i l)) s free = cc
      at_place (Some Crowded) s free = cc

-- a name is declared where it is listed
pub declared_as : (ts : List Term) (x : List ℕ) (ks : List Kept)
    → is_some (lookup (has_text x) (map (citation_stands ts) ks)) ≡ is_some (find (is_key x) ks)
declared_as ts x ks = grind (arith, looked_up ts x ks)

pub none_stands : (ts : List Term) (x : List ℕ) (ks : List Kept)
    → option_map (λ k. k.citation) (find (is_key x) ks) ≡ None
    → lookup (has_text x) (map (citation_stands ts) ks) ≡ None
none_stands ts x ks none = grind (arith, looked_up ts x ks)

module _ (ts : List Term) (x : List ℕ) (ks : List Kept) (e : Citation) (found : option_map (λ k. k.citation) (find (is_key x) ks) ≡ Some e) where
  -- it is what the name stands for
  pub there_stands : lookup (has_text x) (map (citation_stands ts) ks) ≡ Some (stands_for ts e)
  there_stands = grind (arith, looked_up ts x ks)

  pub there_among : AllByRecursion (is_among_terms ts) ks → IsAmongTerms ts e
  there_among h = among (find (is_key x) ks) refl found
    where
      among : (o : Option Kept) → o ≡ find (is_key x) ks → option_map (λ k. k.citation) o ≡ Some e
          → IsAmongTerms ts e
      among None at is = cc
      among (Some k) at is = let same : k.citation ≡ e = cc in subst (IsAmongTerms ts) same (found_among ts x ks k h at)

-- what follows where a name is found
pub ruleset of_found = (got, seat_found, no_seat)

-- what tells whether a name is contained
pub ruleset of_contained = (free_absent, declared_as, seated)
