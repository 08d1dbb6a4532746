use Rattle.std.proofs.Common.{◌+◌, ◌∙◌, sym, ap, subst}
use Rattle.chyp_graph.specs.PlainGraph.{Edge}
use Rattle.chyp_graph.specs.Removal.{IsSourceless}
use Rattle.chyp_term.proofs.Slices.{empty-none, full-some}
use Rattle.chyp_graph.proofs.Removing.{source-at, sourceless-push, sourceless-skip}
use Rattle.chyp_graph.proofs.removal.without_sources.Goals as goal
use Rattle.chyp_graph.proofs.removal.without_sources.Goals.{then-is_empty+in_ok-push, else-is_empty}

pub loop-k-preserved : goal.loop-k-preserved
loop-k-preserved c =
    let g = c.args.graph.now in
    let e : Edge = record { name = c.edge.result.name.now; sources = c.edge.result.sources.now; targets = c.edge.result.targets.now } in
    elim c.if-is_empty.branch [
      | then-is_empty+in_ok-push w ↦
          subst (IsSourceless g (c.loop-k.k + 1)) (sym (ap (λ v. v.items) w.order-is ∙ w.in_ok-push.ensures.items))
          (sourceless-push g c.loop-k.k c.loop-k.order.items c.loop-k.invariant
          (source-at g c.loop-k.k 0 e c.edge.ensures ∙ empty-none e.sources c.is_empty.result c.is_empty.ensures w.if-is_empty.true))
      | else-is_empty w ↦
          let f = full-some e.sources c.is_empty.result c.is_empty.ensures w.if-is_empty.false in
          subst (IsSourceless g (c.loop-k.k + 1)) (sym (ap (λ v. v.items) w.order-is))
          (sourceless-skip g c.loop-k.k f.0 c.loop-k.order.items c.loop-k.invariant (source-at g c.loop-k.k 0 e c.edge.ensures ∙ f.1))
    ]
