use Rattle.std.proofs.Common.{◌≤◌, length, arith}
use Rattle.chyp_iso.proofs.Ends.{found-answer}
use Rattle.chyp_iso.proofs.find.find.Goals as goal

pub returns-clause-outcome : goal.returns-clause-outcome
returns-clause-outcome c =
    let i : length c.args.a.now.edges ≤ length c.write_edges.new.edges = let e = c.write_edges.auto.edges in let f = c.requires.first.few_edges in let k = c.requires.edges in omega arith in
    let j : length c.args.a.now.wires ≤ length c.write_wires.new.wires = let e = c.write_wires.auto.wires in let f = c.requires.first.few_wires in let k = c.requires.wires in omega arith in
    found-answer c.args.a.now c.args.b.now c.pair_all-fits.new.pairing c.write_edges.new.edges c.write_wires.new.wires _ _ c.pair_all-fits.result c.pair_all-fits.ensures.outcome
    c.edge_count.ensures.count c.wire_count.ensures.count i j c.write_edges.ensures c.write_wires.ensures
