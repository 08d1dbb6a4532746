use Rattle.std.proofs.Common.{◌∙◌, ◌<◌, sym, ap, subst, length, All}
use Rattle.chyp_graph.specs.Graph.{IsTable}
use Rattle.chyp_graph.proofs.Ports.{ports-within}
use Rattle.chyp_graph.proofs.graph.Graph.of_parts.Goals as goal

pub table_of-requires-clause-ports : goal.table_of-requires-clause-ports
table_of-requires-clause-ports c =
    let edges = sym (c.deref.ensures.value ∙ c.into_vec-edges.ensures) in
    let size = sym (c.len.ensures ∙ c.in_ok-wires.wires.ok.0 ∙ ap length c.in_ok-wires.ensures) in
    subst (λ n. All (λ e. (length e.targets < 4294967296) × All (λ w. w < n) e.targets) c.deref.result.now) size
    (subst (All (λ e. (length e.targets < 4294967296) × All (λ w. w < length c.args.wires) e.targets)) edges
    (ports-within (λ e. e.targets) c.args.edges (length c.args.wires) c.args.inputs c.requires.valid.producers c.requires.few_wires))

pub table_of-requires-2-clause-ports : goal.table_of-requires-2-clause-ports
table_of-requires-2-clause-ports c =
    let edges = sym (c.deref-2.ensures.value ∙ c.into_vec-edges.ensures) in
    let size = sym (c.len-2.ensures ∙ c.in_ok-wires.wires.ok.0 ∙ ap length c.in_ok-wires.ensures) in
    subst (λ n. All (λ e. (length e.sources < 4294967296) × All (λ w. w < n) e.sources) c.deref-2.result.now) size
    (subst (All (λ e. (length e.sources < 4294967296) × All (λ w. w < length c.args.wires) e.sources)) edges
    (ports-within (λ e. e.sources) c.args.edges (length c.args.wires) c.args.outputs c.requires.valid.consumers c.requires.few_wires))

pub invariant_of-result : goal.invariant_of-result
invariant_of-result c =
    let size = c.in_ok-wires.wires.ok.0 ∙ ap length c.in_ok-wires.ensures in
    let made : IsTable (λ e. e.targets) c.args.edges (length c.args.wires) c.in_ok-producers.producers.items =
    subst (λ n. IsTable (λ e. e.targets) c.args.edges n c.in_ok-producers.producers.items) (c.len.ensures ∙ size)
    (subst (λ es. IsTable (λ e. e.targets) es c.len.result c.in_ok-producers.producers.items) (c.deref.ensures.value ∙ c.into_vec-edges.ensures) c.in_ok-producers.ensures) in
    let used : IsTable (λ e. e.sources) c.args.edges (length c.args.wires) c.in_ok-consumers.consumers.items =
    subst (λ n. IsTable (λ e. e.sources) c.args.edges n c.in_ok-consumers.consumers.items) (c.len-2.ensures ∙ size)
    (subst (λ es. IsTable (λ e. e.sources) es c.len-2.result c.in_ok-consumers.consumers.items) (c.deref-2.ensures.value ∙ c.into_vec-edges.ensures) c.in_ok-consumers.ensures) in
    rw (c.in_ok-wires.ensures, c.into_vec-edges.ensures, c.into_vec-2.ensures, c.into_vec-3.ensures)
    (record { valid = c.requires.valid; few_wires = c.requires.few_wires; few_edges = c.requires.few_edges; made = made; used = used })
