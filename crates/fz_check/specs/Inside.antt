-- What contracts see of what is read, `pieces_of`, and of a reader of parts, `state_of`. The
-- invariants serve private functions alone: a reader of the public contracts need not believe them.
use Rattle.std.specs.Prelude.{◌≡◌, ◌-◌, ◌≤◌, [], take, drop, true, ◌↔◌}
use Rattle.fz_filling.specs.of_stream.declared.splitter.Stage.TheVariants.{Finished}
use Rattle.fz_check.specs.declared.pieces.Pieces.TheInside as the_pieces
use Rattle.fz_check.specs.declared.reader.PartReader.TheInside.{Inside}
use Rattle.fz_check.specs.Reading.{PiecesState, ReaderState, piece_size}

abbrev pub pieces_of : the_pieces.Inside → PiecesState
pieces_of s = record {
  pending = take (s.end - s.next) (drop s.next s.buffer);
  reads = s.reads;
  at_end = s.at_end;
}

pub record ArePieces (s : the_pieces.Inside) : Type 0 where
  pub next_in : s.next ≤ s.end
  pub end_in : s.end ≤ piece_size

abbrev pub state_of : Inside → ReaderState
state_of s = record { splitter = s.splitter; pieces = s.pieces }

pub record IsReader (s : Inside) : Type 0 where
  pub ended : (s.has_ended ≡ true) ↔ (s.splitter.stage ≡ Finished)
  pub at_end : s.has_ended ≡ true → s.pieces.at_end ≡ true
  pub none : s.pieces.at_end ≡ true → s.pieces.pending ≡ []
