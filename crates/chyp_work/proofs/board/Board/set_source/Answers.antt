use Rattle.std.proofs.Common.{sym, ◌∙◌, ap}
use Rattle.chyp_work.specs.Board.{edges_of, wires_of}
use Rattle.chyp_work.proofs.Boards.{sourced-edges, sourced-named}
use Rattle.chyp_work.proofs.board.Board.set_source.Goals as goal

pub returns-clause-graph : goal.returns-clause-graph
returns-clause-graph c =
    let a = ap edges_of c.set_source_in.ensures.items ∙ sourced-edges c.args.k c.args.i c.args.w c.args.self.now.edges.items in
    λ i. record { edges = a i; wires = wires_of c.args.self.now.wires.items; inputs = c.args.self.now.inputs.items; outputs = c.args.self.now.outputs.items }

pub returns-clause-filed : goal.returns-clause-filed
returns-clause-filed c = λ f. record {
  named = λ n. f.named n
      ∙ sym (rw c.set_source_in.ensures.items (sourced-named c.args.k c.args.i c.args.w c.args.self.now.edges.items c.apart.ensures n));
  sorted = f.sorted;
}
