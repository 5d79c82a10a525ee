-- The placed tokens of an annotation and of a list among its arguments.
use Rattle.std.proofs.Common.{◌≡◌, ◌∙◌, Vec, Global, List, ◌++◌, map, sym, ap}
use Rattle.fz_tree.specs.declared.tree.Name.{Name}
use Rattle.fz_tree.specs.declared.tree.NoteArg.{NoteArg}
use Rattle.fz_tree.specs.declared.tree.NoteBasic.{NoteBasic}
use Rattle.fz_tree.specs.declared.tree.NoteArg.TheViews.{roll-Note}
use Rattle.fz_tree.specs.declared.tree.NoteArg.TheViews as views
use Rattle.fz_tree.specs.declared.tree.NoteArg.TheVariants as variants
use Rattle.fz_tree.specs.declared.tree.NoteArg.TheOpen.{NoteArg-F}
use Rattle.fz_tree.specs.declared.tree.NoteArg.TheFolds.{fold-roll-Note, fold-roll-NoteArg}
use Rattle.fz_tree.specs.declared.token.Mark.TheVariants.{OpenBracket, CloseBracket}
use Rattle.fz_syntax.specs.Placed.{PlacedToken, placed_name, placed_between, placed_parts, placed_args, placed_note, placed_arg, placed_note_basic, placed_arg_layer, placed_note_basic_layer, placed_note_layer}

pub note_unfolds : (n : Name) (args : Vec NoteArg Global) → placed_note (roll-Note (record { name = n; args = args })) ≡ placed_name n ++ placed_args (map placed_arg args.items)
note_unfolds n args = fold-roll-Note (List PlacedToken) (List PlacedToken) (List PlacedToken) placed_arg_layer placed_note_basic_layer placed_note_layer (record { name = n; args = args })

pub list_unfolds : (bs : Vec NoteBasic Global) → placed_arg (views.List bs)
    ≡ placed_between OpenBracket CloseBracket (placed_parts (map placed_note_basic bs.items))
list_unfolds bs = ap placed_arg (sym (variants.rolls-List bs)) ∙ fold-roll-NoteArg (List PlacedToken) (List PlacedToken) (List PlacedToken) placed_arg_layer placed_note_basic_layer placed_note_layer (NoteArg-F.List bs)
