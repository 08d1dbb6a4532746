use Rattle.std.proofs.Common.{◌≡◌, ◌∙◌, ◌<◌, ◌++◌, ◌∷◌, [], Bool, true, false, not, ap, ap₂, arith, length}
use Rattle.chyp_term.specs.Positions.{is_apart}
use Rattle.chyp_graph.specs.PlainGraph.{Edge}
use Rattle.chyp_replace.specs.Renumbered.{renumbered_edge}
use Rattle.chyp_replace.proofs.Keeping.{mapped-push, mapped-skip, mark-apart, ports-in}
use Rattle.chyp_replace.proofs.renumbered.kept_edges.Goals as goal
use Rattle.chyp_replace.proofs.renumbered.kept_edges.Goals.{then-not-index+in_ok-renumbered_edge+in_ok-push, else-not-index}

pub renumbered_edge-requires-clause-sources : goal.renumbered_edge-requires-clause-sources
renumbered_edge-requires-clause-sources c =
    (ports-in c.args.graph.now c.requires.valid c.loop-k.k _ c.edge-edge.ensures (length c.deref.result.now) (ap length c.deref.ensures.value ∙ c.requires.users)).0

pub renumbered_edge-requires-clause-targets : goal.renumbered_edge-requires-clause-targets
renumbered_edge-requires-clause-targets c =
    (ports-in c.args.graph.now c.requires.valid c.loop-k.k _ c.edge-edge.ensures (length c.deref-then-not-index.result.now) (ap length c.deref-then-not-index.ensures.value ∙ c.requires.makers)).1

pub loop-k-preserved : goal.loop-k-preserved
loop-k-preserved c =
    let edges = c.args.graph.now.edges in
    let images = c.args.images.now in
    let users = c.args.numbers.now.users.items in
    let makers = c.args.numbers.now.makers.items in
    let k = c.loop-k.k in
    let n = c.edge_count-k-end.ensures.count in
    let m = c.edge_count.ensures.count in
    let t = c.loop-k-test.true in
    let h : k < c.edge_count.result = omega arith in
    let mark = c.index.result.now in
    let apart : (b : Bool) → mark ≡ b → is_apart images k ≡ not b = λ b e. mark-apart images c.edge_count.result c.in_ok-marks.marks.items k mark b c.in_ok-marks.ensures h c.index.ensures e in
    elim c.if-not-index.branch [
      | then-not-index+in_ok-renumbered_edge+in_ok-push x ↦
          let e : Edge = record { name = x.edge-edge.result.name.now; sources = x.edge-edge.result.sources.now; targets = x.edge-edge.result.targets.now } in
          mapped-push (renumbered_edge users makers) edges images k c.loop-k.edges.items c.loop-k.invariant e c.if-not-index.edges.items (apart false x.if-not-index.true) x.edge-edge.ensures
          (ap (λ v. v.items) x.edges-is ∙ x.in_ok-push.ensures.items
          ∙ ap (λ p. c.loop-k.edges.items ++ p ∷ []) (x.in_ok-renumbered_edge.ensures ∙ ap₂ (λ u m. renumbered_edge u m e) x.deref.ensures.value x.deref-then-not-index.ensures.value))
      | else-not-index x ↦ ap (λ v. v.items) x.edges-is ∙ mapped-skip (renumbered_edge users makers) edges images k c.loop-k.edges.items c.loop-k.invariant (apart true x.if-not-index.false)
    ]
