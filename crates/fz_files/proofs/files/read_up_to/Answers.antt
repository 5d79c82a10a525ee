use Rattle.std.proofs.Common.{suc, take, subst, arith}
use Rattle.std.proofs.lemmas.List.{length-take}
use Rattle.std.specs.Io.KnownBytes.{Consumes}
use Rattle.fz_files.proofs.Reading.{given_up_to, given_to_end, given_none}
use Rattle.fz_files.proofs.files.read_up_to.Goals as goal
use Rattle.fz_files.proofs.files.read_up_to.Goals.{else-loop-piece-test, then-loop-piece-test+in-Ok+then-count-eq0}

pub returns-clause-bytes : goal.returns-clause-bytes
returns-clause-bytes g c =
    elim c.loop-piece-test.branch [
      | else-loop-piece-test w ↦
          given_up_to (g.R.Read.remaining c.args.reader.now) (g.R.Read.remaining c.loop-piece.reader) (suc c.args.most) c.loop-piece.bytes.items
          (omega (arith, w.loop-piece-test.false, c.loop-piece.invariant.limited)) c.loop-piece.invariant.given
      | then-loop-piece-test+in-Ok+then-count-eq0 w ↦
          let none = subst (λ n. Consumes (g.R.Read.remaining c.loop-piece.reader) (g.R.Read.remaining w.read.new.self) (take n w.read.new.buf)) w.if-count-eq0.true w.in-Ok.ensures.bytes.0 in
          given_to_end (g.R.Read.remaining c.args.reader.now) (g.R.Read.remaining c.loop-piece.reader) (g.R.Read.remaining w.read.new.self) (suc c.args.most) c.loop-piece.bytes.items
          (omega (arith, c.loop-piece.invariant.limited)) c.loop-piece.invariant.given none (w.in-Ok.ensures.bytes.1 w.if-count-eq0.true (omega (arith, w.read.auto.buf, length-take w.min-room.result c.loop-piece.piece, c.loop-piece.invariant.room, w.min-room.ensures, w.len-in-loop-piece.ensures, w.loop-piece-test.true)))
    ]

pub returns-clause-no_more : goal.returns-clause-no_more
returns-clause-no_more g c =
    elim c.loop-piece-test.branch [
      | else-loop-piece-test w ↦ rw w.reader-is c.loop-piece.invariant.given
      | then-loop-piece-test+in-Ok+then-count-eq0 w ↦
          let none = subst (λ n. Consumes (g.R.Read.remaining c.loop-piece.reader) (g.R.Read.remaining w.read.new.self) (take n w.read.new.buf)) w.if-count-eq0.true w.in-Ok.ensures.bytes.0 in
          rw w.reader-is (given_none (g.R.Read.remaining c.args.reader.now) (g.R.Read.remaining c.loop-piece.reader) (g.R.Read.remaining w.read.new.self) c.loop-piece.bytes.items c.loop-piece.invariant.given none)
    ]
