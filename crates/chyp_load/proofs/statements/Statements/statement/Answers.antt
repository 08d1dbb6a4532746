use Rattle.std.proofs.Common.{◌≡◌, ◌<◌, List, [], length, slice_get, Some, refl, sym, subst, ap, ◌∙◌, arith, append-nil}
use Rattle.std.specs.Option.{option_map}
use Rattle.chyp_lex.specs.declared.token.Token.{Token}
use Rattle.chyp_syntax.proofs.Spans.{statement_spans, tile_within}
use Rattle.chyp_syntax.specs.Heading.{chunk_tokens}
use Rattle.chyp_syntax.specs.Words.{words_of}
use Rattle.chyp_term.proofs.Permuted.{get-map}
use Rattle.chyp_env.specs.ChunkView.{IsLent}
use Rattle.chyp_verdicts.specs.Texts.{statement_of, statements_of}
use Rattle.chyp_load.specs.Statements.{CutText}
use Rattle.chyp_load.proofs.Reading.{at-place}
use Rattle.chyp_load.proofs.Texts.{spelled}
use Rattle.chyp_load.proofs.statements.Statements.statement.Goals as goal

pub chunk_tokens-requires : goal.chunk_tokens-requires
chunk_tokens-requires c =
    let chunks = c.self.inside.chunks.items in
    let tokens = c.self.inside.tokens.items in
    let within = subst (λ (cut : CutText). c.args.number < length cut.chunks) (sym c.self.view_is) c.requires in
    let at = at-place chunks c.args.number c.index.result.now c.index.result.now within c.index.ensures refl in
    let inside = (tile_within 0 (length tokens) c.args.number c.index.result.now chunks c.self.invariant.chunks.tile at).2 in
    let same = ap length c.deref.ensures.value in
    omega arith

pub new-requires : goal.new-requires
new-requires c =
    let text = c.self.inside.text.now in
    let tokens = c.self.inside.tokens.items in
    let chunk = c.index.result.now in
    let same = c.chunk_tokens.ensures ∙ ap (λ (ts : List Token). chunk_tokens ts chunk) c.deref.ensures.value in
    subst (λ (ts : List Token). IsLent ts text []) (sym same) (record {
      spans = statement_spans (length text) tokens chunk c.self.invariant.spans;
      one_piece = refl;
      short = c.self.invariant.short;
      spelled = spelled text tokens chunk c.self.invariant.names;
    })

pub returns : goal.returns
returns c =
    let text = c.self.inside.text.now in
    let tokens = c.self.inside.tokens.items in
    let chunks = c.self.inside.chunks.items in
    let chunk = c.index.result.now in
    let within = subst (λ (cut : CutText). c.args.number < length cut.chunks) (sym c.self.view_is) c.requires in
    let at = at-place chunks c.args.number chunk chunk within c.index.ensures refl in
    let same = c.chunk_tokens.ensures ∙ ap (λ (ts : List Token). chunk_tokens ts chunk) c.deref.ensures.value in
    let words = c.new.ensures ∙ ap (λ t. words_of t c.chunk_tokens.result.now) (append-nil text) ∙ ap (words_of text) same in
    subst (λ (cut : CutText). slice_get (statements_of cut.text cut.tokens cut.chunks) c.args.number ≡ Some c.new.result) c.self.view_is
    (get-map (statement_of text tokens) chunks c.args.number ∙ ap (option_map (statement_of text tokens)) at ∙ ap Some (sym words))
