use Rattle.chyp_pattern.specs.Component.{AreAnchors}
use Rattle.chyp_pattern.proofs.Anchoring.{anchors-all, anchors-few}
use Rattle.chyp_pattern.proofs.components.anchors_of.Goals as goal

pub returns-clause-anchors : goal.returns-clause-anchors
returns-clause-anchors c = anchors-all c.args.graph.now c.in_ok-anchors.anchors.items c.push_bare.new.anchors.items c.in_ok-anchors.ensures c.in_ok-push_bare.ensures

pub returns-clause-few : goal.returns-clause-few
returns-clause-few c =
    let all : AreAnchors c.args.graph.now c.push_bare.new.anchors.items =
    anchors-all c.args.graph.now c.in_ok-anchors.anchors.items c.push_bare.new.anchors.items c.in_ok-anchors.ensures c.in_ok-push_bare.ensures in
    anchors-few c.args.graph.now c.push_bare.new.anchors.items c.valid.ensures.few_edges c.valid.ensures.few_wires all
