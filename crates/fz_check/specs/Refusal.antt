-- The line and the byte range of a refusal, and the program's exit status (this project's profile).
use Rattle.std.specs.Prelude.{ℕ, List, ◌++◌, Option, Some, None, Result, Ok, Err, codes, decimal}
use Rattle.fz_filling.specs.of_syntax.Span.{Span}
use Rattle.fz_filling.specs.of_syntax.SyntaxError.{SyntaxError}
use Rattle.fz_filling.specs.of_syntax.SyntaxError.TheVariants as syntax
use Rattle.fz_search.specs.of_model.declared.ModelError.{ModelError}
use Rattle.fz_search.specs.of_model.declared.ModelError.TheVariants as model
use Rattle.fz_filling.specs.of_stream.declared.error.StreamError.{StreamError}
use Rattle.fz_filling.specs.of_stream.declared.error.StreamError.TheVariants as stream
use Rattle.fz_filling.specs.declared.error.BlockError.{BlockError}
use Rattle.fz_filling.specs.declared.error.BlockError.TheVariants as block
use Rattle.fz_check.specs.declared.error.CheckError.{CheckError}
use Rattle.fz_check.specs.declared.error.CheckError.TheVariants as errors
use Rattle.fz_check.specs.declared.refusal.Told.{Told}
use Rattle.fz_check.specs.declared.account.Answer.{Answer}
use Rattle.fz_check.specs.declared.account.Answer.TheVariants as answers

-- the name of a fault, and its byte range where it has one
pub record Named : Type 0 where
  pub name : List ℕ
  pub place : Option Span

abbrev at : List ℕ → Span → Named
at name span = record { name = name; place = Some span }

abbrev nowhere : List ℕ → Named
nowhere name = record { name = name; place = None }

abbrev pub syntax_fault : SyntaxError → Named
syntax_fault syntax.TooLong = nowhere (codes "TooLong")
syntax_fault (syntax.BadByte s) = at (codes "BadByte") s
syntax_fault (syntax.TooLarge s) = at (codes "TooLarge") s
syntax_fault (syntax.Float s) = at (codes "Float") s
syntax_fault (syntax.Syntax s) = at (codes "Syntax") s
syntax_fault (syntax.TooDeep s) = at (codes "TooDeep") s
syntax_fault (syntax.TooMany s) = at (codes "TooMany") s
syntax_fault syntax.Memory = nowhere (codes "Memory")

abbrev pub model_fault : ModelError → Named
model_fault (model.DuplicateName s) = at (codes "DuplicateName") s
model_fault (model.UnknownName s) = at (codes "UnknownName") s
model_fault (model.Kind s) = at (codes "Kind") s
model_fault (model.Length s) = at (codes "Length") s
model_fault model.Memory = nowhere (codes "Memory")

abbrev pub stream_fault : StreamError → Named
stream_fault stream.TooLong = nowhere (codes "TooLong")
stream_fault (stream.Item e) = syntax_fault e
stream_fault (stream.DuplicateName s) = at (codes "DuplicateName") s
stream_fault (stream.Unfinished s) = at (codes "Unfinished") s
stream_fault stream.Memory = nowhere (codes "Memory")
stream_fault stream.Failed = nowhere (codes "Failed")

abbrev pub block_fault : BlockError → Named
block_fault (block.UnknownName s) = at (codes "UnknownName") s
block_fault (block.Kind s) = at (codes "Kind") s
block_fault (block.Length s) = at (codes "Length") s
block_fault block.Memory = nowhere (codes "Memory")

abbrev place_text : Option Span → List ℕ
place_text None = codes ""
place_text (Some s) = codes " at " ++ decimal s.start ++ codes ".." ++ decimal s.end

abbrev pub named_text : Named → List ℕ
named_text n = n.name ++ place_text n.place

abbrev refusal : CheckError → List ℕ
refusal (errors.Model e) = codes "model: " ++ named_text (syntax_fault e)
refusal (errors.Names e) = codes "model: " ++ named_text (model_fault e)
refusal (errors.Stream e) = codes "stream: " ++ named_text (stream_fault e)
refusal (errors.Block number e) =
    codes "block " ++ decimal number ++ codes ": " ++ named_text (block_fault e)
refusal errors.Memory = codes "memory"
refusal errors.Read = codes "read"
refusal errors.Write = codes "write"

-- the line, with its LF
abbrev pub refusal_line : CheckError → List ℕ
refusal_line e = codes "refused: " ++ refusal e ++ codes "\n"

-- the fault, where it has one, with its byte range in the model's text or in the whole stream
abbrev pub refusal_fault : CheckError → Option Named
refusal_fault (errors.Model e) = Some (syntax_fault e)
refusal_fault (errors.Names e) = Some (model_fault e)
refusal_fault (errors.Stream e) = Some (stream_fault e)
refusal_fault (errors.Block number e) = Some (block_fault e)
refusal_fault errors.Memory = None
refusal_fault errors.Read = None
refusal_fault errors.Write = None

-- the program's exit status
abbrev pub status_of : Result Answer CheckError → ℕ
status_of (Ok (answers.Accepted n)) = 0
status_of (Ok (answers.Rejected n)) = 1
status_of (Ok (answers.Undecided n)) = 2
status_of (Ok answers.NoBlocks) = 3
status_of (Ok (answers.ClaimRejected n)) = 1
status_of (Err errors.Read) = 6
status_of (Err errors.Write) = 6
status_of (Err errors.Memory) = 7
status_of (Err _) = 4

-- the name and the byte range of a fault, as the code has them
abbrev pub named : Told → Named
named t = record { name = t.name.now; place = t.place }
