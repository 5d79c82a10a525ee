-- A segment that is read off a text. Only private functions use these.
use Rattle.std.specs.Prelude.{ℕ, ◌==◌, cond, List, [], ◌∷◌, take, drop, Option, Some, None, option_map}
use Rattle.std.specs.List.{prefix_len}
use Rattle.std.specs.Option.{option_and_then}
use Rattle.fz_places.specs.Lines.{parted}
use Rattle.fz_places.specs.Paths.{is_digit}

abbrev pub behind_bar : List ℕ → Option (List ℕ)
behind_bar [] = None
behind_bar (b ∷ text) = cond (b == 124) (Some text) None

-- the number behind a bar, and what follows
abbrev pub number : List ℕ → Option (List ℕ × List ℕ)
number text = option_and_then (λ rest. cond (prefix_len is_digit rest == 0) None
    (Some (take (prefix_len is_digit rest) rest, drop (prefix_len is_digit rest) rest)))
    (behind_bar text)

-- what follows a segment, of which this comes behind the file
abbrev pub behind_segment : List ℕ → Option (List ℕ)
behind_segment text = option_and_then (λ l. option_and_then (λ c. option_and_then (λ e.
    option_and_then (λ d. option_and_then (λ w. option_map (λ p. p.1) (parted 59 w))
    (behind_bar d.1)) (number e.1)) (number c.1)) (number l.1)) (number text)
