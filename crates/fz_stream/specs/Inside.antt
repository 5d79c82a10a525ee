-- `state_of`, the view of a splitter by which contracts speak of it. The invariant below it serves
-- only private functions: a reader of the public contracts need not believe it.
use Rattle.std.specs.Prelude.{◌≡◌, ℕ, ◌+◌, ◌≤◌, List, length, take, Option, Some, None}
use Rattle.fz_stream.specs.declared.held.Ended.{Ended}
use Rattle.fz_stream.specs.declared.splitter.Stage.TheVariants.{Failed}
use Rattle.fz_stream.specs.declared.splitter.Splitter.TheInside.{Inside}
use Rattle.fz_stream.specs.Parts.{Frame}
use Rattle.fz_stream.specs.Splitting.{SplitterState, most_taken}
use Rattle.fz_stream.specs.Keeping.{frame_at, held_while, line_while}

abbrev pub waiting_of : Option Ended → ℕ → List ℕ → Option Frame
waiting_of None offset text = None
waiting_of (Some ended) offset text = Some (frame_at ended offset text)

abbrev pub state_of : Inside → SplitterState
state_of s = record {
  held = held_while s.ended s.held.buffer.items;
  line = line_while s.ended s.held.line;
  taken = s.held.before + length s.held.buffer.items;
  waits = waiting_of s.ended s.held.before (take s.held.line s.held.buffer.items);
  stage = s.stage;
  limits = s.limits;
}

pub record IsSplitter (s : Inside) : Type 0 where
  pub line : s.held.line ≤ length s.held.buffer.items
  pub most : length s.held.buffer.items ≤ s.limits.bytes
  pub taken : s.held.before + length s.held.buffer.items ≤ most_taken
  pub failed : s.stage ≡ Failed → s.ended ≡ None
