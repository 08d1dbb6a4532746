-- The pieces of a line, as they are gathered from gap to gap. No public clause cites this.
use Rattle.std.specs.Prelude.{ℕ, ◌+◌, ◌-◌, List, length, min}
use Rattle.chyp_picture.specs.Crossings.{end_after}
use Rattle.chyp_picture.specs.Picture.{column_of}
use Rattle.chyp_picture.specs.declared.line.Line.{Line}
use Rattle.chyp_picture.specs.declared.picture.Picture.{Picture}
use Rattle.chyp_picture.specs.declared.piece.Piece.{Piece}
use Rattle.chyp_layout.specs.Order.{AreExtended}

-- the piece of the line between the column c and the next
abbrev pub piece_from : Picture → Line → ℕ → Piece
piece_from p l c = record { left = end_after p l (c - column_of p l.from); right = end_after p l (c - column_of p l.from + 1) }

-- each of the gaps that the line passes has the line's piece at its end, and the others stay
abbrev pub ArePassed : Picture → Line → List (List Piece) → List (List Piece) → Type 0
ArePassed p l before after = AreExtended (piece_from p l) (column_of p l.from) (min (column_of p l.to) (length before)) before after
