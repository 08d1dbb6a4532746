use Rattle.std.proofs.Common.{arith}
use Rattle.chyp_iso.proofs.Searching.{none-left}
use Rattle.chyp_iso.proofs.search.pair_somehow.Goals as goal

pub returns-clause-outcome : goal.returns-clause-outcome
returns-clause-outcome c =
    let t = c.loop-f-test.false in
    let n = c.edge_count-f-end.ensures.count in
    none-left c.args.a.now c.args.b.now c.args.pairing.now.pairs c.args.e c.loop-f.f c.requires.there (omega arith) c.loop-f.invariant.refuted
