use Rattle.std.proofs.Common.{◌∙◌, Some, ap}
use Rattle.chyp_iso.proofs.Followed.{Leads-has, Leads-trans}
use Rattle.chyp_match.proofs.Rows.{at-place, ends-answer}
use Rattle.chyp_pairs.proofs.PairLists.{get-has}
use Rattle.chyp_iso.proofs.Steps.{when-true}
use Rattle.chyp_match.proofs.follow.follow_pair.Goals as goal

pub follow_producers-requires-clause-paired : goal.follow_producers-requires-clause-paired
follow_producers-requires-clause-paired c = get-has c.args.pairing.now.pairs c.args.at _ (c.pair.ensures ∙ ap (λ x. Some x) c.in-Wires.is)

pub follow_consumers-requires-clause-paired : goal.follow_consumers-requires-clause-paired
follow_consumers-requires-clause-paired c =
    let k = get-has c.args.pairing.now.pairs c.args.at _ (c.pair.ensures ∙ ap (λ x. Some x) c.in-Wires.is) in
    Leads-has c.args.pattern.now c.args.graph.now _ c.args.pairing.now c.follow_producers.new.pairing c.follow_producers.ensures.leads _ k

pub follow_ports-requires-clause-paired : goal.follow_ports-requires-clause-paired
follow_ports-requires-clause-paired c = get-has c.args.pairing.now.pairs c.args.at _ (c.pair.ensures ∙ ap (λ x. Some x) c.in-Edges.is)

pub returns-then-follow_producers-clause-leads : goal.returns-then-follow_producers-clause-leads
returns-then-follow_producers-clause-leads c = Leads-trans c.args.pattern.now c.args.graph.now _ c.args.pairing.now c.follow_producers.new.pairing c.follow_consumers.new.pairing
    c.follow_producers.ensures.leads c.follow_consumers.ensures.leads

pub returns-then-follow_producers-clause-outcome : goal.returns-then-follow_producers-clause-outcome
returns-then-follow_producers-clause-outcome c =
    at-place c.args.pattern.now c.args.graph.now c.args.pairing.now c.follow_consumers.new.pairing c.args.at c.pair.result _ c.follow_consumers.result c.pair.ensures c.in-Wires.is
    (ends-answer c.args.pattern.now c.args.graph.now c.args.pairing.now c.follow_producers.new.pairing c.follow_consumers.new.pairing c.in-Wires.v c.in-Wires.w c.follow_consumers.result
    c.requires.fits.second_valid
    c.follow_producers.ensures.leads (when-true c.follow_producers.result _ _ c.follow_producers.ensures.outcome c.if-follow_producers.true) c.follow_consumers.ensures.leads
    c.follow_consumers.ensures.outcome)
