-- Places of a text, as lines and columns.
use Rattle.std.specs.Prelude.{ℕ, ◌+◌, ◌==◌, Bool, not, List, take, count_by}
use Rattle.std.specs.List.{suffix_len}
use Rattle.chyp_session.specs.declared.place.Place.{Place}

-- a line ends with the byte LF
abbrev pub is_line_end : ℕ → Bool
is_line_end byte = byte == 10

-- The line is one more than the number of line ends in front of the byte. The column is one more than the
-- number of bytes between the last of these (or the start of the text) and the byte.
abbrev pub place_of : List ℕ → ℕ → Place
place_of text at = record {
  line = count_by is_line_end (take at text) + 1;
  col = suffix_len (λ byte. not (is_line_end byte)) (take at text) + 1;
}
