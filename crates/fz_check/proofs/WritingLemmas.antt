-- What was written of some bytes while a writer takes them.
use Rattle.std.proofs.Common.{◌≡◌, ℕ, List, [], ◌∷◌, ◌++◌, take, drop, Option, refl, sym, ap, ◌∙◌, subst, append_assoc, append-nil, take-append-drop}
use Rattle.std.proofs.KnownBytes.{Appends-nil, Appends-trans}
use Rattle.std.specs.Io.KnownBytes.{Appends}
use Rattle.fz_check.specs.Writing.{WritesFront, Wrote}

pub wrote_none : (a : Option (List ℕ)) (bytes : List ℕ) → Wrote a a bytes bytes
wrote_none a bytes = record { front = []; whole = refl; appends = Appends-nil a }

pub wrote_more : (a b c : Option (List ℕ)) (bytes rest left : List ℕ) (n : ℕ) → Wrote a b bytes rest
    → Appends b c (take n rest) → left ≡ drop n rest → Wrote a c bytes left
wrote_more a b c bytes rest left n w h e = record {
  front = w.front ++ take n rest;
  whole = w.whole ∙ ap (λ l. w.front ++ l) (sym (take-append-drop n rest) ∙ ap (λ l. take n rest ++ l) (sym e)) ∙ sym (append_assoc w.front (take n rest) left);
  appends = Appends-trans a b c w.front (take n rest) w.appends h;
}

-- ---- bytes that wait and are written later

-- all of them were written
pub wrote_whole : (a b : Option (List ℕ)) (bytes rest : List ℕ) → Appends a b bytes → rest ≡ []
    → Wrote a b bytes rest
wrote_whole a b bytes rest h none = record { front = bytes; whole = sym (ap (λ l. bytes ++ l) none ∙ append-nil bytes); appends = h }

pub wrote_on : (a b c : Option (List ℕ)) (bytes rest left : List ℕ) → Wrote a b bytes rest
    → Wrote b c rest left → Wrote a c bytes left
wrote_on a b c bytes rest left v w = record {
  front = v.front ++ w.front;
  whole = v.whole ∙ ap (λ l. v.front ++ l) w.whole ∙ sym (append_assoc v.front w.front left);
  appends = Appends-trans a b c v.front w.front v.appends w.appends;
}

-- there are more of them, and these wait
pub wrote_longer : (a b : Option (List ℕ)) (bytes rest bytes' rest' more : List ℕ)
    → Wrote a b bytes rest → bytes' ≡ bytes ++ more → rest' ≡ rest ++ more → Wrote a b bytes' rest'
wrote_longer a b bytes rest bytes' rest' more w longer waits = record {
  front = w.front;
  whole = longer ∙ ap (λ l. l ++ more) w.whole ∙ append_assoc w.front rest more ∙ ap (λ l. w.front ++ l) (sym waits);
  appends = w.appends;
}

-- those that wait are written, or a front of them
pub wrote_all : (a b c : Option (List ℕ)) (bytes rest : List ℕ) → Wrote a b bytes rest
    → Appends b c rest → Appends a c bytes
wrote_all a b c bytes rest w h = subst (Appends a c) (sym w.whole) (Appends-trans a b c w.front rest w.appends h)

pub wrote_part : (a b c : Option (List ℕ)) (bytes rest : List ℕ) → Wrote a b bytes rest
    → WritesFront b c rest → WritesFront a c bytes
wrote_part a b c bytes rest w f = record {
  front = w.front ++ f.front;
  rest = f.rest;
  whole = w.whole ∙ ap (λ l. w.front ++ l) f.whole ∙ sym (append_assoc w.front f.front f.rest);
  appends = Appends-trans a b c w.front f.front w.appends f.appends;
}

pub all_is_front : (a b : Option (List ℕ)) (bytes : List ℕ) → Appends a b bytes
    → WritesFront a b bytes
all_is_front a b bytes h = record { front = bytes; rest = []; whole = sym (append-nil bytes); appends = h }

no_front : (xs ys : List ℕ) → [] ≡ xs ++ ys → xs ≡ []
no_front [] ys e = refl
no_front (x ∷ xs) ys e = absurd (let no : [] ≡ x ∷ (xs ++ ys) = e in cc)

-- of more of them it is one too
pub front_longer : (a b : Option (List ℕ)) (bytes more : List ℕ) → WritesFront a b bytes
    → WritesFront a b (bytes ++ more)
front_longer a b bytes more f = record { front = f.front; rest = f.rest ++ more; whole = ap (λ l. l ++ more) f.whole ∙ append_assoc f.front f.rest more; appends = f.appends }

-- a write failed, and none waits
pub front_and_none : (a b c : Option (List ℕ)) (bytes rest : List ℕ) → WritesFront a b bytes
    → rest ≡ [] → WritesFront b c rest → WritesFront a c bytes
front_and_none a b c bytes rest f none g =
    let empty = no_front g.front g.rest (sym none ∙ g.whole) in
    record {
      front = f.front;
      rest = f.rest;
      whole = f.whole;
      appends = subst (Appends a c) (ap (λ l. f.front ++ l) empty ∙ append-nil f.front) (Appends-trans a b c f.front g.front f.appends g.appends);
    }
