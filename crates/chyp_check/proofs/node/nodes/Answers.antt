use Rattle.std.proofs.Common.{List, ◌∷◌, ◌++◌, [], sym, ap, ◌∙◌}
use Rattle.chyp_check.specs.Project.{Node, node_of}
use Rattle.chyp_check.proofs.Nodes.{made_more, made_same}
use Rattle.chyp_check.proofs.node.nodes.Goals as goal
use Rattle.chyp_check.proofs.node.nodes.Goals.{in-Some+in_ok-push-2, in_default}

pub loop-entry-preserved : goal.loop-entry-preserved
loop-entry-preserved c =
    let here = c.loop-entry-test.true in
    let items = c.as_slice-entry-items.result.now in
    let entry = c.entry-item.result in
    let main : Node = (c.args.home.now, c.args.main.now.text) in
    elim c.match-node_of.branch [
      | in-Some+in_ok-push-2 w ↦
          let node = w.in-Some.node in
          ap (λ v. v.items) w.nodes-is ∙ w.in_ok-push-2.ensures.items ∙ ap (λ (xs : List Node). xs ++ node ∷ []) c.loop-entry.invariant
          ∙ ap (λ (xs : List Node). main ∷ xs) (sym (made_more node_of items c.loop-entry.entry-index entry node here c.entry-item.is (sym w.in-Some.ensures)))
      | in_default w ↦
          ap (λ v. v.items) w.nodes-is ∙ c.loop-entry.invariant
          ∙ ap (λ (xs : List Node). main ∷ xs) (sym (made_same node_of items c.loop-entry.entry-index entry here c.entry-item.is (sym w.in_default.ensures)))
    ]
