use Rattle.std.proofs.Common.{refl, subst, sym}
use Rattle.chyp_pattern.specs.Placements.{IsCount, MayBegin}
use Rattle.chyp_match.proofs.Counting.{named-count, sort-count}
use Rattle.chyp_match.proofs.placement.choices.Goals as goal

pub returns-in-Edge : goal.returns-in-Edge
returns-in-Edge c =
    subst (λ a. IsCount (MayBegin c.args.pattern.now c.args.graph.now a) c.edges_named.result) (sym c.in-Edge.is)
    (named-count c.args.pattern.now c.args.graph.now c.in-Edge.k _ c.edge.result.name.now c.edges_named.result c.edge.ensures refl c.edges_named.ensures)

pub returns-in-Wire : goal.returns-in-Wire
returns-in-Wire c =
    subst (λ a. IsCount (MayBegin c.args.pattern.now c.args.graph.now a) c.wires_of.result) (sym c.in-Wire.is)
    (sort-count c.args.pattern.now c.args.graph.now c.in-Wire.w c.wire_sort.result.now c.wires_of.result c.wire_sort.ensures c.wires_of.ensures)
