use Rattle.std.proofs.Common.{arith}
use Rattle.chyp_term.proofs.Closure.{get-item}
use Rattle.chyp_iso.proofs.Lists.{lists-all, lists-paired, lists-step}
use Rattle.chyp_match.proofs.Rows.{lists-refute}
use Rattle.chyp_iso.proofs.Steps.{when-false, when-true}
use Rattle.chyp_match.proofs.follow.pair_lists.Goals as goal

pub returns-then-not-pair_wires-clause-leads : goal.returns-then-not-pair_wires-clause-leads
returns-then-not-pair_wires-clause-leads c =
    let t = c.loop-i-test.true in
    let n = c.requires.same in
    let v = get-item c.args.vs.now c.loop-i.i c.index-vs-i.result t c.index-vs-i.is in
    let w = get-item c.args.ws.now c.loop-i.i c.index-ws-i.result (omega arith) c.index-ws-i.is in
    lists-step c.args.pattern.now c.args.graph.now c.args.vs.now c.args.ws.now c.args.pairing.now c.loop-i.pairing c.pair_wires.new.pairing c.loop-i.i c.index-vs-i.result c.index-ws-i.result v w
    c.loop-i.invariant.leads c.pair_wires.ensures.leads

pub returns-then-not-pair_wires-clause-outcome : goal.returns-then-not-pair_wires-clause-outcome
returns-then-not-pair_wires-clause-outcome c =
    let t = c.loop-i-test.true in
    let n = c.requires.same in
    let v = get-item c.args.vs.now c.loop-i.i c.index-vs-i.result t c.index-vs-i.is in
    let w = get-item c.args.ws.now c.loop-i.i c.index-ws-i.result (omega arith) c.index-ws-i.is in
    lists-refute c.args.pattern.now c.args.graph.now c.args.vs.now c.args.ws.now c.args.pairing.now c.loop-i.pairing c.loop-i.i c.index-vs-i.result c.index-ws-i.result
    c.requires.fits.second_valid v w c.loop-i.invariant.leads
    (when-false c.pair_wires.result _ _ c.pair_wires.ensures.outcome c.if-not-pair_wires.true)

pub loop-i-preserved : goal.loop-i-preserved
loop-i-preserved c =
    let t = c.loop-i-test.true in
    let n = c.requires.same in
    let v = get-item c.args.vs.now c.loop-i.i c.index-vs-i.result t c.index-vs-i.is in
    let w = get-item c.args.ws.now c.loop-i.i c.index-ws-i.result (omega arith) c.index-ws-i.is in
    record {
      leads = lists-step c.args.pattern.now c.args.graph.now c.args.vs.now c.args.ws.now c.args.pairing.now c.loop-i.pairing c.pair_wires.new.pairing c.loop-i.i c.index-vs-i.result
          c.index-ws-i.result v w c.loop-i.invariant.leads c.pair_wires.ensures.leads;
      paired = lists-paired c.args.pattern.now c.args.graph.now c.args.vs.now c.args.ws.now c.loop-i.pairing c.pair_wires.new.pairing _ c.loop-i.i c.index-vs-i.result c.index-ws-i.result v w
          c.pair_wires.ensures.leads c.loop-i.invariant.paired
          (when-true c.pair_wires.result _ _ c.pair_wires.ensures.outcome c.if-not-pair_wires.false);
    }

pub returns-clause-outcome : goal.returns-clause-outcome
returns-clause-outcome c = lists-all c.args.vs.now c.args.ws.now c.loop-i.pairing.pairs c.loop-i.i c.loop-i-test.false c.loop-i.invariant.paired
