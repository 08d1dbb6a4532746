use Rattle.chyp_iso.proofs.Searching.{followed-start, part-answer, part-leads}
use Rattle.chyp_iso.proofs.Steps.{when-true}
use Rattle.chyp_iso.proofs.search.pair_part.Goals as goal

pub follow_all-requires-clause-followed : goal.follow_all-requires-clause-followed
follow_all-requires-clause-followed c =
    followed-start c.args.a.now c.args.b.now _ c.args.pairing.now c.pair_edges.new.pairing c.len-count.result c.len-count.ensures.count c.requires.whole.complete c.pair_edges.ensures.leads

pub returns-then-pair_edges-clause-leads : goal.returns-then-pair_edges-clause-leads
returns-then-pair_edges-clause-leads c =
    part-leads c.args.a.now c.args.b.now _ c.args.pairing.now c.pair_edges.new.pairing c.follow_all.new.pairing c.pair_edges.ensures.leads c.follow_all.ensures.leads

pub returns-then-pair_edges-clause-outcome : goal.returns-then-pair_edges-clause-outcome
returns-then-pair_edges-clause-outcome c =
    part-answer c.args.a.now c.args.b.now c.args.e c.args.f c.args.pairing.now c.pair_edges.new.pairing c.follow_all.new.pairing c.follow_all.result c.requires.whole c.pair_edges.ensures.leads
    (when-true c.pair_edges.result _ _ c.pair_edges.ensures.outcome c.if-pair_edges.true) c.follow_all.ensures.leads c.follow_all.ensures.outcome
