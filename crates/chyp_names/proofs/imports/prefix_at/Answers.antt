use Rattle.std.proofs.Common.{sym, subst}
use Rattle.std.specs.Str.{IsUtf8}
use Rattle.chyp_syntax.specs.Sentence.{IsSentence}
use Rattle.chyp_syntax.specs.Statement.{inclusion}
use Rattle.chyp_names.proofs.Made.{prefix_spelled}
use Rattle.chyp_names.proofs.imports.prefix_at.Goals as goal

pub unreachable-requires : goal.unreachable-requires
unreachable-requires c =
    c.in-Err.ensures.cases.0 (subst IsUtf8 (sym c.bytes_at.ensures) (prefix_spelled c.args.chunk.now c.requires.0 c.in_ok-token.token c.spelled.ensures
    (subst (λ t. IsSentence c.args.chunk.now (inclusion c.requires.0 t)) c.in_ok-token.was c.requires.1)))
