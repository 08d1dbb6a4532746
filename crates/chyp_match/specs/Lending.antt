-- The type of a matcher that is lent.
use Rattle.std.specs.Prelude.{[]}
use Rattle.std.specs.Borrow.{RattleType}
use mir.Syntax.{named}
use Rattle.chyp_match.specs.contracts.occurrences.Occurrences.{the_row}

-- the type of a matcher at the lifetime of its pattern
abbrev pub the_matcher : RattleType
the_matcher = the_row (record { mir = named 1; lft = [] })
