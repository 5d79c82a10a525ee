-- Used only by private functions: a reader of the contracts need not believe this file. How a word
-- that is no name can begin.
use Rattle.std.specs.Prelude.{ℕ, Bool, false, ◌==◌, ◌||◌, if◌then◌else◌, List, length, slice_index}

-- whether a reserved word has this length and this first byte
abbrev pub begins_reserved : ℕ → ℕ → Bool
begins_reserved len first =
    if len == 2 then first == 111
    else (if len == 3 then first == 118 || first == 105 || first == 115
    else (if len == 4 then first == 98 || first == 116
    else (if len == 5 then first == 97 || first == 102 || first == 115
    else (if len == 7 then first == 115
    else (if len == 8 then first == 109
    else (if len == 9 then first == 112
    else (if len == 10 then first == 99
    else false)))))))

abbrev pub may_be_reserved : List ℕ → Bool
may_be_reserved word = begins_reserved (length word) (slice_index word 0)
