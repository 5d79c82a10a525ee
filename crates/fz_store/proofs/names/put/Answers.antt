use Rattle.std.proofs.Common.{◌≡◌, ◌++◌, ◌∷◌, [], ℕ, Bor, List, Some, length, false, is_some, ap, arith, refl, ◌∙◌}
use Rattle.std.specs.List.{list_any}
use Rattle.fz_store.specs.declared.names.Citation.{Citation}
use Rattle.fz_store.specs.declared.names.Kept.{Kept}
use Rattle.fz_store.specs.Names.{same_key}
use Rattle.fz_store.proofs.NameTable.{distinct_pushed, goes_last}
use Rattle.fz_store.proofs.Noted.{absent_there, among_others, any_found, in_its_place, left_stands, not_found}
use Rattle.fz_store.proofs.names.put.Goals as goal
use Rattle.fz_store.proofs.names.put.Goals.{then-not-note+in_ok-insert, else-not-note}

-- the name with its citation
abbrev kept_as : Bor (List ℕ) → Citation → Kept
kept_as name citation = record { bytes = name; citation = citation }

pub returns-in_err-insert-clause-numbered : goal.returns-in_err-insert-clause-numbered
returns-in_err-insert-clause-numbered c =
    rw (c.reserve.ensures.items, c.in_err-insert.ensures.err) (
    left_stands c.args.listed.now.items c.args.others.now.keys c.args.numbered.now c.note.new.self (kept_as c.args.name c.args.citation)
    c.note.ensures.kept c.note.ensures.others c.requires.numbered (c.if-not-note.ensures.no_seat refl) (c.if-not-note.ensures.left refl))

pub returns : goal.returns
returns c =
    let ks = c.args.listed.now.items in
    let os = c.args.others.now.keys in
    let n = c.args.numbered.now in
    let m = c.note.new.self in
    let k = kept_as c.args.name c.args.citation in
    let counted : c.len.result ≡ length ks = omega arith in
    let grew : c.push_reserved.new.self.items ≡ ks ++ k ∷ [] = c.push_reserved.ensures.items ∙ ap (λ zs. zs ++ k ∷ []) c.reserve.ensures.items in
    let absent = not_found c.args.name.now ks c.requires.new in
    let apart : list_any (same_key k) os ≡ false = any_found c.args.name.now os ∙ ap is_some (absent_there c.args.name.now ks os n c.requires.numbered absent) in
    record {
      pushed = grew;
      unchanged = tt;
      distinct = rw grew (distinct_pushed ks k c.requires.distinct c.requires.new);
      numbered = rw grew (elim c.if-not-note.branch [
        | then-not-note+in_ok-insert w ↦
            rw (w.others-is, w.in_ok-insert.ensures.keys, goes_last os k apart) (
            among_others ks os n m k c.note.ensures.kept c.note.ensures.others c.requires.numbered (w.if-not-note.ensures.no_seat refl) (w.if-not-note.ensures.left refl))
        | else-not-note w ↦
            rw w.others-is (
            in_its_place ks os n m k c.note.ensures.kept c.note.ensures.others c.requires.numbered c.note.ensures.other_seats (w.if-not-note.ensures.free refl) absent
            (w.if-not-note.ensures.seat refl ∙ ap Some counted) (w.if-not-note.ensures.taken refl))
      ]);
    }
