use Rattle.std.proofs.Common.{◌≤◌, ◌+◌, subst, arith}
use Rattle.chyp_pairs.proofs.Tables.{kept-bound}
use Rattle.chyp_pairs.proofs.pairing.Pairing.len.Goals as goal

pub returns-clause-bound : goal.returns-clause-bound
returns-clause-bound c =
    let s = c.self.inside in
    let b = kept-bound s.trail.items s.wires.items s.wires_back.items s.edges.items s.edges_back.items _ c.self.invariant in
    let e = c.len.ensures in
    let l = s.trail.ok.0 in
    subst (λ p. c.len.result ≤ p.edges + p.wires) c.self.view_is (omega arith)
