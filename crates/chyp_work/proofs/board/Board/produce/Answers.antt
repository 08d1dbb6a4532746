use Rattle.std.proofs.Common.{◌∙◌, ◌≡◌, ap, slice_set}
use Rattle.chyp_work.specs.Board.{edges_of, wires_of}
use Rattle.chyp_work.specs.Net.{with_target}
use Rattle.chyp_work.proofs.Boards.{produced-sorts}
use Rattle.chyp_work.proofs.board.Board.produce.Goals as goal

pub returns-in-Outside-clause-graph : goal.returns-in-Outside-clause-graph
returns-in-Outside-clause-graph c =
    let e : wires_of c.note_producer.new.wires.items ≡ wires_of c.args.self.now.wires.items = ap wires_of c.note_producer.ensures.items ∙ produced-sorts _ _ _ c.apart.ensures in
    rw c.in-Outside.is (λ j. record {
      edges = edges_of c.args.self.now.edges.items;
      wires = e j;
      inputs = slice_set c.args.self.now.inputs.items c.in-Outside.i c.args.w;
      outputs = c.args.self.now.outputs.items;
    })

pub returns-in-Outside-clause-filed : goal.returns-in-Outside-clause-filed
returns-in-Outside-clause-filed c =
    let e : wires_of c.note_producer.new.wires.items ≡ wires_of c.args.self.now.wires.items = ap wires_of c.note_producer.ensures.items ∙ produced-sorts _ _ _ c.apart.ensures in
    λ f. record { named = f.named; sorted = λ n. rw e (f.sorted n) }

pub returns-in-Port-clause-graph : goal.returns-in-Port-clause-graph
returns-in-Port-clause-graph c =
    let e : wires_of c.note_producer-in-Port.new.wires.items ≡ wires_of c.args.self.now.wires.items = ap wires_of c.note_producer-in-Port.ensures.items ∙ produced-sorts _ _ _ c.apart.ensures in
    c.set_target.ensures.graph ∙ rw c.in-Port.is
    (λ j. with_target (record { edges = edges_of c.args.self.now.edges.items; wires = e j; inputs = c.args.self.now.inputs.items; outputs = c.args.self.now.outputs.items }) c.in-Port.k
    c.in-Port.i c.args.w)

pub returns-in-Port-clause-filed : goal.returns-in-Port-clause-filed
returns-in-Port-clause-filed c =
    let e : wires_of c.note_producer-in-Port.new.wires.items ≡ wires_of c.args.self.now.wires.items = ap wires_of c.note_producer-in-Port.ensures.items ∙ produced-sorts _ _ _ c.apart.ensures in
    λ f. c.set_target.ensures.filed (record { named = f.named; sorted = λ n. rw e (f.sorted n) })
