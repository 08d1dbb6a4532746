use Rattle.std.proofs.Common.{◌<◌, length, subst}
use Rattle.chyp_graph.specs.Validity.{IsValid}
use Rattle.chyp_graph.proofs.graph.Graph.valid.Goals as goal

pub returns-clause-valid : goal.returns-clause-valid
returns-clause-valid c = subst IsValid c.self.view_is c.self.invariant.valid

pub returns-clause-few_edges : goal.returns-clause-few_edges
returns-clause-few_edges c = subst (λ g. length g.edges < 2147483648) c.self.view_is c.self.invariant.few_edges

pub returns-clause-few_wires : goal.returns-clause-few_wires
returns-clause-few_wires c = subst (λ g. length g.wires < 2147483648) c.self.view_is c.self.invariant.few_wires
