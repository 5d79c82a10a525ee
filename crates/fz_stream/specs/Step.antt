-- How one line opens, continues or ends a block. Only private functions use this file: a reader of
-- the public contracts need not believe it.
use Rattle.std.specs.Prelude.{ℕ, Option, Some, None, if◌then◌else◌, ◌==◌}
use Rattle.fz_stream.specs.declared.line.LineKind.{LineKind}
use Rattle.fz_stream.specs.declared.line.LineKind.TheVariants.{Blank, Comment, Marker, Claim, Item}
use Rattle.fz_stream.specs.declared.error.StreamError.{StreamError}
use Rattle.fz_stream.specs.declared.error.StreamError.TheVariants.{TooLong}
use Rattle.fz_stream.specs.declared.step.Step.{Step}
use Rattle.fz_stream.specs.declared.step.Step.TheVariants.{GoesOn, EndsBlock, Claims, Breaks}
use Rattle.fz_stream.specs.Faults.{IsStreamFault}

-- `begun` is the byte offset of the open block's text, if one is open, and `at` that of the line
abbrev pub step_of : Option ℕ → ℕ → LineKind → Step
step_of begun at Blank = GoesOn begun
step_of begun at Comment = GoesOn begun
step_of None at Item = GoesOn (Some at)
step_of (Some start) at Item = GoesOn (Some start)
step_of None at Marker = EndsBlock at
step_of (Some start) at Marker = EndsBlock start
step_of None at (Claim kind) = Claims kind
step_of (Some start) at (Claim kind) = Breaks start

-- neither a limit nor an earlier failure
abbrev pub IsLineFault : StreamError → Type 0
IsLineFault TooLong = ⊥
IsLineFault e = IsStreamFault e

-- the offset where the open block begins, if one is open: its whole lines have the first length,
-- and so many bytes come before it
abbrev pub begun_of : ℕ → ℕ → Option ℕ
begun_of line before = if line == 0 then None else Some before
