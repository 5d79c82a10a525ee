use Rattle.std.proofs.Common.{◌≢◌, rules}
use Rattle.fz_search.specs.of_model.declared.ModelError.TheVariants as names
use Rattle.fz_filling.specs.of_syntax.View.{items_of_tree}
use Rattle.fz_check.proofs.checking.read_sound_tree.Goals as goal

pub returns-in-Err-load : goal.returns-in-Err-load
returns-in-Err-load c =
    let other : c.in-Err-load.error ≢ names.Memory = search rules in
    record {
      text = tt;
      no_fault = tt;
      refused = record {
        fault = record {
          all = items_of_tree c.in-Ok.ast;
          text = c.in-Ok.ensures.text;
          tells = c.in-Err-load.ensures.first;
        };
        not_memory = other;
      };
    }
