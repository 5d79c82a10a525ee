-- Spans that have nothing in common (private functions only).
use Rattle.std.specs.Prelude.{Bool, ◌&&◌, ◌||◌}
use Rattle.fz_model.specs.Relations.{Box, Span, are_apart, has_no_area, is_empty_span, lie_apart}

-- where empty ones are spared, it is enough that one is empty
abbrev pub keep_apart : Bool → Span → Span → Bool
keep_apart spare a b = (spare && (is_empty_span a || is_empty_span b)) || are_apart a b

-- the same of boxes, of which those without an area may be spared
abbrev pub boxes_apart : Bool → Box → Box → Bool
boxes_apart spare a b = (spare && (has_no_area a || has_no_area b)) || lie_apart a b
