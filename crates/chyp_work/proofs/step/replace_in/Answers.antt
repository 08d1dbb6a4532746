use Rattle.std.proofs.Common.{◌∙◌, ap, subst, sym}
use Rattle.chyp_match.specs.View.{IsIn}
use Rattle.chyp_work.specs.declared.board.Board.{Board}
use Rattle.chyp_work.proofs.Leaving.{edge-there, step-left, wire-there, work-left}
use Rattle.chyp_work.proofs.Occurring.{edges-distinct, wires-distinct}
use Rattle.chyp_work.proofs.Stepping.{edge-images, wire-images}
use Rattle.chyp_store.specs.Items.{without_all}
use Rattle.chyp_work.specs.Board.{net}
use Rattle.chyp_work.proofs.step.replace_in.Goals as goal

pub remove_edges-requires-clause-there : goal.remove_edges-requires-clause-there
remove_edges-requires-clause-there c =
    let site = c.args.site.now in
    rw c.as_slice.ensures
    (edge-there c.args.board.now c.join_in.new.board site.left.now site.right.now site.at.now.edges site.at.now.wires c.requires.work c.requires.step c.join_in.ensures)

pub remove_edges-requires-clause-apart : goal.remove_edges-requires-clause-apart
remove_edges-requires-clause-apart c =
    let site = c.args.site.now in
    let n = net c.args.board.now in
    let s = c.requires.step in
    let w = c.requires.work.sound in
    rw c.as_slice.ensures
    (edges-distinct n site.left.now site.at.now.edges site.at.now.wires w s.rule.left s.occurrence
    (edge-images n site.left.now site.right.now site.at.now.edges site.at.now.wires w s) (wire-images n site.left.now site.right.now site.at.now.edges site.at.now.wires w s))

pub remove_wires-requires-clause-there : goal.remove_wires-requires-clause-there
remove_wires-requires-clause-there c =
    let site = c.args.site.now in
    rw c.as_slice-2.ensures
    (λ w m. subst (λ (b : Board). IsIn w b.wires.items) (sym c.remove_edges.ensures.rest)
    (wire-there c.args.board.now c.join_in.new.board site.left.now site.right.now site.at.now.edges site.at.now.wires c.requires.work c.requires.step c.join_in.ensures w m))

pub remove_wires-requires-clause-apart : goal.remove_wires-requires-clause-apart
remove_wires-requires-clause-apart c =
    let site = c.args.site.now in
    let n = net c.args.board.now in
    let s = c.requires.step in
    let w = c.requires.work.sound in
    rw c.as_slice-2.ensures
    (wires-distinct n site.left.now site.at.now.edges site.at.now.wires w s.rule.left s.occurrence
    (edge-images n site.left.now site.right.now site.at.now.edges site.at.now.wires w s) (wire-images n site.left.now site.right.now site.at.now.edges site.at.now.wires w s))

pub returns-clause-work : goal.returns-clause-work
returns-clause-work c =
    let site = c.args.site.now in
    let e = c.remove_edges.ensures in
    let w = c.remove_wires.ensures in
    work-left c.args.board.now c.join_in.new.board site.left.now site.right.now site.at.now.edges site.at.now.wires c.requires.work c.requires.step c.join_in.ensures c.remove_wires.new.board
    (ap (λ (b : Board). b.edges.items) w.rest ∙ rw c.as_slice.ensures at e.edges) (rw c.as_slice-2.ensures at w.wires ∙ ap (λ (b : Board). without_all site.at.now.wires b.wires.items) e.rest)
    (ap (λ (b : Board). b.inputs.items) w.rest ∙ ap (λ (b : Board). b.inputs.items) e.rest) (ap (λ (b : Board). b.outputs.items) w.rest ∙ ap (λ (b : Board). b.outputs.items) e.rest)
    w.filed c.apart.ensures c.apart-2.ensures

pub returns-clause-step : goal.returns-clause-step
returns-clause-step c =
    let site = c.args.site.now in
    let e = c.remove_edges.ensures in
    let w = c.remove_wires.ensures in
    step-left c.args.board.now c.join_in.new.board site.left.now site.right.now site.at.now.edges site.at.now.wires c.requires.work c.requires.step c.join_in.ensures c.remove_wires.new.board
    (ap (λ (b : Board). b.edges.items) w.rest ∙ rw c.as_slice.ensures at e.edges) (rw c.as_slice-2.ensures at w.wires ∙ ap (λ (b : Board). without_all site.at.now.wires b.wires.items) e.rest)
    (ap (λ (b : Board). b.inputs.items) w.rest ∙ ap (λ (b : Board). b.inputs.items) e.rest) (ap (λ (b : Board). b.outputs.items) w.rest ∙ ap (λ (b : Board). b.outputs.items) e.rest)
