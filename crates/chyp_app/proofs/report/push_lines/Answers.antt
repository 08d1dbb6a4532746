use Rattle.std.proofs.Common.{◌<◌, ◌+◌, ◌++◌, length, drop, refl, rules, arith, ap, ◌∙◌}
use Rattle.std.proofs.lemmas.Option.{slice_get_read}
use Rattle.chyp_syntax.specs.Heading.{token_start}
use Rattle.chyp_app.specs.Report.{line_of, lines_of}
use Rattle.chyp_syntax.proofs.Spans.{here, is_here, statement_spans, starts_within, statements_in_order, tile_within}
use Rattle.chyp_app.proofs.ReportLemmas.{lines-turn}
use Rattle.chyp_app.proofs.report.push_lines.Goals as goal

pub chunk_tokens-statement-requires : goal.chunk_tokens-statement-requires
chunk_tokens-statement-requires c =
    (tile_within 0 (length c.args.tokens.now) c.loop-index.index _ c.args.chunks.now c.requires.chunks.tile (is_here c.args.chunks.now c.loop-index.index c.loop-index-test.true)).2

pub moved_on-place-requires-clause-order : goal.moved_on-place-requires-clause-order
moved_on-place-requires-clause-order c =
    let ahead = c.loop-index.invariant.ahead c.loop-index.index _ (omega arith) (is_here c.args.chunks.now c.loop-index.index c.loop-index-test.true) in
    let e = c.token_start-start.ensures in
    let f = ap (λ s. token_start s 0) c.chunk_tokens-statement.ensures in
    omega arith

pub moved_on-place-requires-clause-within : goal.moved_on-place-requires-clause-within
moved_on-place-requires-clause-within c =
    let size = length c.args.text.now in
    let within = starts_within size 0 _ (statement_spans size c.args.tokens.now (here c.args.chunks.now c.loop-index.index) c.requires.spans) in
    let e = c.token_start-start.ensures in
    let f = ap (λ s. token_start s 0) c.chunk_tokens-statement.ensures in
    omega arith

pub push_line-requires-clause-order : goal.push_line-requires-clause-order
push_line-requires-clause-order c =
    rw c.chunk_tokens-statement.ensures (statement_spans (length c.args.text.now) c.args.tokens.now (here c.args.chunks.now c.loop-index.index) c.requires.spans)

pub loop-index-preserved : goal.loop-index-preserved
loop-index-preserved c =
    let chunks = c.args.chunks.now in
    let i = c.loop-index.index in
    let chunk = is_here chunks i c.loop-index-test.true in
    let inside : i < length c.args.verdicts.now = omega (arith, c.requires.count) in
    let verdict = slice_get_read c.args.verdicts.now (length c.args.verdicts.now) i c.index-verdicts-index.result refl inside c.index-verdicts-index.is in
    record {
      written =
          ap (λ r. r ++ lines_of c.args.text.now c.args.tokens.now (drop (i + 1) chunks) (drop (i + 1) c.args.verdicts.now))
          (c.in_ok-push_line.ensures.line ∙ ap (λ s. c.loop-index.page.bytes ++ line_of c.args.text.now s c.index-verdicts-index.result) c.chunk_tokens-statement.ensures)
          ∙ lines-turn c.args.text.now c.args.tokens.now i (here chunks i) c.index-verdicts-index.result chunks c.args.verdicts.now c.loop-index.page.bytes chunk verdict
          ∙ c.loop-index.invariant.written;
      faultless = search rules;
      reached = search rules;
      ahead = λ k other le e.
          let order = statements_in_order (length c.args.text.now) i k (here chunks i) other c.args.tokens.now chunks c.requires.spans c.requires.chunks (omega arith) chunk e in
          let s = c.token_start-start.ensures in
          let f = ap (λ s. token_start s 0) c.chunk_tokens-statement.ensures in
          omega arith;
    }
