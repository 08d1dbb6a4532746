-- The text of a statement's line in a report.
use Rattle.std.specs.Prelude.{ℕ, List, [], ◌∷◌, ◌++◌, Option, None, Some, codes, decimal}
use Rattle.std.specs.Option.{option_copied}
use Rattle.chyp_base.specs.declared.verdict.Verdict.{Verdict}
use Rattle.chyp_base.specs.declared.verdict.Verdict.TheVariants.{Accepted, Proved, Unfinished, Syntax, Declared, NoModule, Cycle, Clash, Unknown, Broken, Kind, TooBig, Mistyped, Unproved, Differs, NoRewrite, TooWide, SimpDiffers, SimpLimit}
use Rattle.chyp_session.specs.declared.line.Line.{Line}
use Rattle.chyp_session.specs.declared.place.Place.{Place}

-- `LINE:COLUMN`
abbrev pub place_text : Place → List ℕ
place_text place = decimal place.line ++ codes ":" ++ decimal place.col

-- the words of a verdict, with the place of the token that it names
abbrev pub verdict_text : Verdict → Place → List ℕ
verdict_text Accepted at = codes "ok"
verdict_text Proved at = codes "proved"
verdict_text Unfinished at = codes "open"
verdict_text (Syntax token) at = codes "syntax at " ++ place_text at
verdict_text (Declared token) at = codes "declared at " ++ place_text at
verdict_text (NoModule token) at = codes "no-module at " ++ place_text at
verdict_text (Cycle token) at = codes "cycle at " ++ place_text at
verdict_text (Clash name) at = codes "clash " ++ name
verdict_text (Unknown token) at = codes "unknown at " ++ place_text at
verdict_text (Broken token) at = codes "broken at " ++ place_text at
verdict_text (Kind token) at = codes "kind at " ++ place_text at
verdict_text TooBig at = codes "too-big"
verdict_text (Mistyped token) at = codes "type at " ++ place_text at
verdict_text (Unproved token) at = codes "unproved at " ++ place_text at
verdict_text (Differs step) at = codes "step " ++ decimal step ++ codes " differs"
verdict_text (NoRewrite step occurrences) at = codes "step " ++ decimal step ++ codes " no-rewrite " ++ decimal occurrences
verdict_text (TooWide step placements) at = codes "step " ++ decimal step ++ codes " too-wide " ++ decimal placements
verdict_text (SimpDiffers step) at = codes "step " ++ decimal step ++ codes " simp-differs"
verdict_text (SimpLimit step) at = codes "step " ++ decimal step ++ codes " simp-limit"

-- the words of a verdict, or `pending` where there is none
abbrev pub verdict_or_pending : Option Verdict → Place → List ℕ
verdict_or_pending None at = codes "pending"
verdict_or_pending (Some verdict) at = verdict_text verdict at

-- the name, or `-` where there is none
abbrev pub name_or_dash : Option (List ℕ) → List ℕ
name_or_dash None = codes "-"
name_or_dash (Some name) = name

-- `LINE:COLUMN KIND NAME` and a blank
abbrev pub heading_text : Place → List ℕ → Option (List ℕ) → List ℕ
heading_text start kind name = place_text start ++ (codes " " ++ (kind ++ (codes " " ++ (name_or_dash name ++ codes " "))))

-- `LINE:COLUMN KIND NAME VERDICT`, of a statement that begins at `start` and whose verdict names the token at `at`
abbrev pub report_line : Place → List ℕ → Option (List ℕ) → Option Verdict → Place → List ℕ
report_line start kind name verdict at = heading_text start kind name ++ (verdict_or_pending verdict at ++ 10 ∷ [])

-- the text of a line
abbrev pub line_text : Line → List ℕ
line_text line = report_line line.start line.kind.now (option_copied line.name) (option_copied line.verdict) line.at
