use Rattle.std.proofs.Common.{◌≡◌}
use Rattle.std.proofs.lemmas.Bool.{both_ways}
use Rattle.chyp_syntax.specs.Expected.{next, token}
use Rattle.chyp_syntax.specs.Beginning.{tokens_from}
use Rattle.chyp_syntax.proofs.Numbered.{token_there}
use Rattle.chyp_syntax.proofs.Verdicts.{token_stops, stops_here}
use Rattle.chyp_syntax.proofs.tokens.expect.Goals as goal

pub returns-then-is_kind-clause-within : goal.returns-then-is_kind-clause-within
returns-then-is_kind-clause-within c = (token_there c.args.tokens.now c.args.at c.args.kind (c.is_kind.ensures.0 c.if-is_kind.true)).1

pub returns-else-is_kind-clause-stops : goal.returns-else-is_kind-clause-stops
returns-else-is_kind-clause-stops c k is =
    let same : c.args.at ≡ k = cc in
    stops_here c.args.tokens.now c.args.at k (next (token c.args.kind)) c.requires.within same (
    λ e. token_stops c.args.kind e (tokens_from c.args.tokens.now c.args.at) (λ begins. both_ways c.is_kind.result c.if-is_kind.false (c.is_kind.ensures.1 begins))
    )
