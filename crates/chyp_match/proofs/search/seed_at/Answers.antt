use Rattle.std.proofs.Common.{subst, sym}
use Rattle.chyp_pattern.specs.Placements.{IsThere}
use Rattle.chyp_match.proofs.Counting.{anchor-there}
use Rattle.chyp_match.proofs.search.seed_at.Goals as goal

pub seed_of-requires : goal.seed_of-requires
seed_of-requires c = subst (λ g. IsThere g c.anchor.result) (sym c.graph.ensures.graph)
    (anchor-there c.args.pattern.now.graph c.args.pattern.now.anchors c.graph.ensures.anchors c.args.k c.anchor.result c.anchor.ensures)
