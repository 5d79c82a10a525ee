-- The lines of a report's claims in their order among its verdicts, and bytes of events.
use Rattle.std.proofs.Common.{◌≡◌, ℕ, ◌+◌, ◌≤◌, ◌<◌, true, false, cond, List, [], ◌∷◌, ◌++◌, length, map, drop, get_or, Option, IsSome, Some, None, refl, sym, ap, subst, ◌∙◌, append_assoc, append-nil, arith}
use Rattle.std.proofs.lemmas.Bool.{le-leb, lt-leb}
use Rattle.std.proofs.lemmas.Grind.{flat_map-append}
use Rattle.std.proofs.lemmas.List.{drop_all, drop_more}
use Rattle.fz_filling.specs.View.{verdict_view}
use Rattle.fz_filling.specs.declared.verdict.Verdict as the_verdict
use Rattle.fz_filling.specs.of_stream.declared.reading.Claim.{Claim}
use Rattle.fz_check.specs.Report.{AreOf, Event, claimed, claims_by, claims_past, event_line, in_order, text_of}
use Rattle.fz_check.specs.Report.Event.{Judged}

module _ (n : ℕ) (c : Claim) (cs : List Claim) where
  pub comes_by : c.after ≤ n → (claims_by n (c ∷ cs) ≡ claimed c ∷ claims_by n cs)
      × (claims_past n (c ∷ cs) ≡ claims_past n cs)
  comes_by le = (
    ap (λ b. cond b (claimed c ∷ claims_by n cs) []) (le-leb c.after n le),
    ap (λ b. cond b (claims_past n cs) (c ∷ cs)) (le-leb c.after n le),
  )

  pub comes_later : n < c.after
      → (claims_by n (c ∷ cs) ≡ []) × (claims_past n (c ∷ cs) ≡ c ∷ cs)
  comes_later lt = (
    ap (λ b. cond b (claimed c ∷ claims_by n cs) []) (lt-leb c.after n lt),
    ap (λ b. cond b (claims_past n cs) (c ∷ cs)) (lt-leb c.after n lt),
  )

-- where there is no first one, there is none
pub none_first : {A : Type 0} (rest : List Claim) (r : Option A) → ((x : A) → r ≡ Some x → ⊥)
    → (0 < length rest → IsSome r) → rest ≡ []
none_first [] r none some = refl
none_first (c ∷ rest) None none some = absurd (let never : false ≡ true = some (omega arith) in cc)
none_first (c ∷ rest) (Some x) none some = absurd (none x refl)

-- the line of one more claim is added
pub claims_next : (n : ℕ) (c : Claim) (rest others : List Claim) (text new whole : List ℕ)
    → rest ≡ c ∷ others → c.after ≤ n → new ≡ text ++ event_line (claimed c)
    → text ++ text_of event_line (claims_by n rest) ≡ whole
    → new ++ text_of event_line (claims_by n others) ≡ whole
claims_next n c rest others text new whole are le pushed is =
    ap (λ t. t ++ text_of event_line (claims_by n others)) pushed
    ∙ append_assoc text (event_line (claimed c)) (text_of event_line (claims_by n others))
    ∙ sym (ap (λ es. text ++ text_of event_line es) (ap (claims_by n) are ∙ (comes_by n c others le).0)) ∙ is

-- the lines of the next block, and of the claims before it, are added
pub block_next : (i : ℕ) (vs : List the_verdict.Verdict) (d : the_verdict.Verdict)
    (claims rest : List Claim) (text mid new whole : List ℕ) → i < length vs
    → mid ≡ text ++ text_of event_line (claims_by i claims) → rest ≡ claims_past i claims
    → new ≡ mid ++ event_line (Judged (i + 1) (verdict_view (get_or vs i d)))
    → text ++ text_of event_line (in_order i (map verdict_view (drop i vs)) claims) ≡ whole
    → new ++ text_of event_line (in_order (i + 1) (map verdict_view (drop (i + 1) vs)) rest) ≡ whole
block_next i vs d claims rest text mid new whole lt added past pushed is =
    let this = Judged (i + 1) (verdict_view (get_or vs i d)) in
    let before = claims_by i claims in
    let behind = in_order (i + 1) (map verdict_view (drop (i + 1) vs)) rest in
    let all : in_order i (map verdict_view (drop i vs)) claims ≡ before ++ this ∷ behind =
    ap (λ l. in_order i (map verdict_view l) claims) (drop_more vs i d lt)
    ∙ ap (λ cs. before ++ this ∷ in_order (i + 1) (map verdict_view (drop (i + 1) vs)) cs) (sym past) in
    ap (λ t. t ++ text_of event_line behind) (pushed ∙ ap (λ t. t ++ event_line this) added)
    ∙ append_assoc (text ++ text_of event_line before) (event_line this) (text_of event_line behind)
    ∙ append_assoc text (text_of event_line before) (event_line this ++ text_of event_line behind)
    ∙ ap (λ t. text ++ t) (sym (ap (text_of event_line) all ∙ flat_map-append event_line before (this ∷ behind))) ∙ is

-- those of the claims that are left are added
pub rest_end : (i : ℕ) (vs : List the_verdict.Verdict) (claims : List Claim)
    (text new whole : List ℕ) → length vs ≤ i
    → new ≡ text ++ text_of event_line (map claimed claims)
    → text ++ text_of event_line (in_order i (map verdict_view (drop i vs)) claims) ≡ whole
    → new ≡ whole
rest_end i vs claims text new whole end added is =
    added ∙ ap (λ l. text ++ text_of event_line (in_order i (map verdict_view l) claims)) (sym (drop_all i vs end)) ∙ is

-- the answer's line is added behind those of events
pub answer_last : (events : List Event) (answer : Event) (text new : List ℕ)
    → text ≡ text_of event_line events → new ≡ text ++ event_line answer
    → new ≡ text_of event_line (events ++ answer ∷ [])
answer_last events answer text new before pushed =
    pushed ∙ ap (λ t. t ++ event_line answer) before
    ∙ ap (λ t. text_of event_line events ++ t) (sym (append-nil (event_line answer)))
    ∙ sym (flat_map-append event_line events (answer ∷ []))

-- the bytes of events, and of those behind them
pub more_of : (text : Event → List ℕ → Type 0) (es fs : List Event) (a b : List ℕ)
    → AreOf text es a → AreOf text fs b → AreOf text (es ++ fs) (a ++ b)
more_of text [] fs a b none are = subst (λ l. AreOf text fs (l ++ b)) (sym none) are
more_of text (e ∷ es) fs a b (front, rest, is, own, others) are =
    (front, rest ++ b, ap (λ l. l ++ b) is ∙ append_assoc front rest b, own, more_of text es fs rest b others are)
