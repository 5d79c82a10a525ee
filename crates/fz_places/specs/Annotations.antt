-- What annotations say (this project's profile).
use Rattle.std.specs.Prelude.{ℕ, cond, List, Option, Some, None, bytes_eq}
use Rattle.fz_tree.specs.Tree.{Note, NoteArg}
use Rattle.fz_tree.specs.Tree.Note.{Called}
use Rattle.fz_tree.specs.Tree.NoteArgs.{NoMoreArgs, MoreArgs}
use Rattle.fz_tree.specs.Tree.NoteArg.{OneBasic}
use Rattle.fz_tree.specs.Tree.NoteBasic.{NoteString}

-- the argument of an annotation of this name, where it has exactly one
abbrev pub argument_of : List ℕ → Note → Option NoteArg
argument_of name (Called x (MoreArgs a NoMoreArgs)) = cond (bytes_eq x name) (Some a) None
argument_of name n = None

abbrev pub text : NoteArg → Option (List ℕ)
text (OneBasic (NoteString t)) = Some t
text a = None
