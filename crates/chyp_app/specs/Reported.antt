-- A report and a status, by the verdicts of a text's statements. No public clause cites this.
use Rattle.std.specs.Prelude.{◌≡◌, ℕ, List, []}
use Rattle.chyp_base.specs.Library.{Texts}
use Rattle.chyp_base.specs.declared.status.Status.{Status}
use Rattle.chyp_base.specs.declared.verdict.Verdict.{Verdict}
use Rattle.chyp_lex.specs.Tokens.{AreTokens}
use Rattle.chyp_lex.specs.declared.token.Token.{Token}
use Rattle.chyp_syntax.specs.Chunk.{AreChunks}
use Rattle.chyp_syntax.specs.declared.chunk.Chunk.{Chunk}
use Rattle.chyp_modules.specs.Library.{with_main}
use Rattle.chyp_modules.specs.Modules.{AreVerdicts}
use Rattle.chyp_app.specs.Output.{status_of}
use Rattle.chyp_app.specs.Report.{report_of}

-- the report and the status are those of the verdicts that the statements of the text get
pub record IsReport (texts : Texts) (text report : List ℕ) (status : Status) : Type 0 where
  pub tokens : List Token
  pub chunks : List Chunk
  pub verdicts : List Verdict
  pub are_tokens : AreTokens text tokens
  pub are_chunks : AreChunks tokens chunks
  pub are_verdicts : AreVerdicts (with_main texts text) [] verdicts
  pub says : report ≡ report_of text tokens chunks verdicts
  pub ends : status ≡ status_of verdicts
