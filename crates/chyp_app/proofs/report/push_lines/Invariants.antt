use Rattle.std.proofs.Common.{◌≡◌, ◌≤◌, ◌++◌, ℕ, drop, slice_get, Some}
use Rattle.chyp_syntax.specs.declared.chunk.Chunk.{Chunk}
use Rattle.chyp_session.specs.Place.{place_of}
use Rattle.chyp_syntax.specs.Heading.{chunk_tokens, token_start}
use Rattle.chyp_app.specs.Report.{lines_of}
use Rattle.chyp_app.proofs.report.push_lines.Given as goal

abbrev pub invariant-loop-index : goal.invariant-loop-index
invariant-loop-index l = record {
  written : l.page.bytes ++ lines_of l.text l.tokens (drop l.index l.chunks) (drop l.index l.verdicts) ≡ l.initial.page.bytes ++ lines_of l.text l.tokens l.chunks l.verdicts;
  faultless : l.page.faults ≡ 0;
  reached : l.place ≡ place_of l.text l.at;
  ahead : (k : ℕ) (chunk : Chunk) → l.index ≤ k → slice_get l.chunks k ≡ Some chunk → l.at ≤ token_start (chunk_tokens l.tokens chunk) 0;
}
