use Rattle.std.proofs.Common.{◌≡◌, take}
use Rattle.std.specs.List.{fold}
use Rattle.fz_store.specs.Numbered.{end_of, marks_from, with_byte}
use Rattle.fz_store.proofs.numbered.ending_of.Given as goal

-- the number that the bytes so far come to, and their marks
abbrev pub invariant-loop-place : goal.invariant-loop-place
invariant-loop-place l = (l.number ≡ fold with_byte 0 (take l.place (end_of l.name))) × (l.marks ≡ marks_from 8 (take l.place (end_of l.name)))
