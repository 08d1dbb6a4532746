use Rattle.std.proofs.Common.{List, ℕ, length, ap, subst, arith, append-nil}
use Rattle.chyp_lex.specs.Tokens.{AreSpans, AreTokens}
use Rattle.chyp_syntax.specs.Chunk.{AreChunks}
use Rattle.chyp_syntax.proofs.Spans.{spans_few}
use Rattle.chyp_load.proofs.statements.Statements.new.Goals as goal

pub chunks-requires : goal.chunks-requires
chunks-requires c =
    let few = spans_few 0 _ _ c.in_ok-tokens.ensures.spans in
    let whole = ap length (append-nil c.args.text.now) in
    let short = c.requires in
    let same = ap length c.deref.ensures.value in
    omega arith

pub invariant_of-result : goal.invariant_of-result
invariant_of-result c =
    let text = c.args.text.now in
    let tokens = c.in_ok-tokens.tokens.items in
    let are : AreTokens text tokens = subst (λ t. AreTokens t tokens) (append-nil text) c.in_ok-tokens.ensures.tokens in
    record {
      short = c.requires;
      tokens = are;
      spans = subst (λ (t : List ℕ). AreSpans (length t) tokens) (append-nil text) c.in_ok-tokens.ensures.spans;
      names = c.each_name_is_text.ensures text tokens are;
      chunks = subst (λ ts. AreChunks ts c.in_ok-chunks.chunks.items) c.deref.ensures.value c.in_ok-chunks.ensures.chunks;
    }
