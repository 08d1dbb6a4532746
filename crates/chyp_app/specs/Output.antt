-- What a run is to give.
use Rattle.std.specs.Prelude.{◌≡◌, ℕ, List, [], length, ◌==◌, count_by, if◌then◌else◌}
use Rattle.chyp_base.specs.Library.{Texts}
use Rattle.chyp_base.specs.declared.status.Status.{Status}
use Rattle.chyp_base.specs.declared.status.Status.TheVariants.{Done, SomeNotGood, BadWords, TooLong}
use Rattle.chyp_base.specs.declared.verdict.Verdict.{Verdict}
use Rattle.chyp_base.specs.Verdict.{is_good}
use Rattle.chyp_lex.specs.Tokens.{AreTokens}
use Rattle.chyp_lex.specs.declared.token.Token.{Token}
use Rattle.chyp_syntax.specs.Chunk.{AreChunks}
use Rattle.chyp_syntax.specs.declared.chunk.Chunk.{Chunk}
use Rattle.chyp_modules.specs.Checking.{Gives as Results, too_long as too_long', checked as checked'}
use Rattle.chyp_modules.specs.Explained.{AreExplained}
use Rattle.chyp_modules.specs.Library.{with_main}
use Rattle.chyp_modules.specs.Modules.{AreVerdicts}
use Rattle.chyp_app.specs.Report.{report_of}
use Rattle.chyp_app.specs.Words.{Accepts}

-- the text that is written, the status that the run ends with, and how many statements are checked
pub record Output : Type 0 where
  pub text : List ℕ
  pub status : Status
  pub checks : ℕ

-- nothing is written or checked
abbrev pub nothing_but : Status → Output
nothing_but status = record { text = []; status = status; checks = 0 }

-- `Done` where as many statements are good as there are
abbrev pub status_of : List Verdict → Status
status_of verdicts = if count_by is_good verdicts == length verdicts then Done else SomeNotGood

-- the output that the verdicts of a text's statements make
abbrev pub output_of : List ℕ → List Token → List Chunk → List Verdict → ℕ → Output
output_of text tokens chunks verdicts checks = record {
  text = report_of text tokens chunks verdicts;
  status = status_of verdicts;
  checks = checks;
}

-- What `check` is to give for a text, over the texts of a library. Where the text or a module that it reaches is too long, or too
-- many modules are there, nothing is written. Else the report of the verdicts of its statements is written; the checks are the
-- statements of the text and of those modules.
pub data IsCheck (texts : Texts) (text : List ℕ) : Output → Type 0 where
  too_long : Results texts text too_long' → IsCheck texts text (nothing_but TooLong)
  checked : {tokens : List Token} {chunks : List Chunk} {verdicts : List Verdict} {checks : ℕ} → AreTokens text tokens
      → AreChunks tokens chunks → Results texts text (checked' verdicts checks)
      → IsCheck texts text (output_of text tokens chunks verdicts checks)

-- What a run is to give for its words, the bytes of its source and the texts of its library: what the command that the
-- words name gives, and nothing where they name none.
pub data IsOutput (words : List (List ℕ)) (bytes : List ℕ) (texts : Texts) : Output → Type 0 where
  of_check : {output : Output} → Accepts words → IsCheck texts bytes output → IsOutput words bytes texts output
  of_bad_words : ¬ Accepts words → IsOutput words bytes texts (nothing_but BadWords)

-- What the text of an output says of a text: nothing; or it is the report of the verdicts of the text's statements, and what each
-- of these says is so. Where a rewrite is proved, its equation has a derivation from `rule` statements that stand before it, in the
-- text or in modules that it reaches; where a step is refused, the laws don't derive it, no context rewrites its term to its goal, or
-- it has too many placements.
pub data IsExplained (texts : Texts) (text : List ℕ) (output : Output) : Type 0 where
  says_nothing : output.text ≡ [] → IsExplained texts text output
  says : {tokens : List Token} {chunks : List Chunk} {verdicts : List Verdict} → AreTokens text tokens → AreChunks tokens chunks
      → AreVerdicts (with_main texts text) [] verdicts → output.text ≡ report_of text tokens chunks verdicts
      → AreExplained (with_main texts text) [] verdicts → IsExplained texts text output

-- the output is to be given, and what it says is so
pub record IsTrueOutput (words : List (List ℕ)) (bytes : List ℕ) (texts : Texts) (output : Output) : Type 0 where
  pub is_output : IsOutput words bytes texts output
  pub explained : IsExplained texts bytes output

-- there is exactly one output that is to be given
pub record HasOneOutput (words : List (List ℕ)) (bytes : List ℕ) (texts : Texts) : Type 0 where
  pub output : Output
  pub is_output : IsOutput words bytes texts output
  pub only : (other : Output) → IsOutput words bytes texts other → other ≡ output

-- so it is for all words, all bytes and all texts
abbrev pub EachRunHasOneOutput : Type 0
EachRunHasOneOutput = (words : List (List ℕ)) (bytes : List ℕ) (texts : Texts) → HasOneOutput words bytes texts

-- `check` gives something for each text over each library
abbrev pub EachTextIsChecked : Type 0
EachTextIsChecked = (texts : Texts) (text : List ℕ) → (output : Output) × IsCheck texts text output

-- what the output of `check` says is so
abbrev pub EachOutputIsExplained : Type 0
EachOutputIsExplained = (texts : Texts) (text : List ℕ) (output : Output) → IsCheck texts text output → IsExplained texts text output

-- where so many statements are checked for a text and its modules, there is an output of `check` with so many checks
abbrev pub CountsStatements : Type 0
CountsStatements = (texts : Texts) (text : List ℕ) (verdicts : List Verdict) (checks : ℕ) → Results texts text (checked' verdicts checks)
    → (output : Output) × IsCheck texts text output × (output.checks ≡ checks)
