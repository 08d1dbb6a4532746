use Rattle.std.proofs.Common.{◌≡◌, ◌∙◌, ℕ, Some, slice_get, ap, sym}
use Rattle.chyp_term.proofs.Closure.{get-item}
use Rattle.chyp_term.proofs.Members.{Member, get-member}
use Rattle.chyp_store.specs.Items.{item_at}
use Rattle.chyp_work.specs.Filling.{KnowsMaker, KnowsUser}
use Rattle.chyp_work.specs.declared.board.Board.{Board}
use Rattle.chyp_work.specs.declared.board.EdgeItem.{EdgeItem}
use Rattle.chyp_work.proofs.Noting.{each-more, keeps-both}
use Rattle.chyp_work.proofs.ends.note_edges.Goals as goal

pub note_edge-requires : goal.note_edge-requires
note_edge-requires c =
    let k = c.k-item.result in
    let g : slice_get c.args.ks.now c.loop-k.k-index ≡ Some k = get-item _ _ _ c.loop-k-test.true c.k-item.is in
    λ e h. c.requires k e (get-member c.args.ks.now c.loop-k.k-index k g) (sym (ap (λ (b : Board). item_at k b.edges.items) c.loop-k.invariant.kept.rest) ∙ h)

pub loop-k-preserved : goal.loop-k-preserved
loop-k-preserved c =
    let k = c.k-item.result in
    let i = c.loop-k.invariant in
    let n = c.note_edge.ensures in
    let g : slice_get c.args.ks.now c.loop-k.k-index ≡ Some k = get-item _ _ _ c.loop-k-test.true c.k-item.is in
    let same = λ (e : EdgeItem) (h : item_at k c.args.board.now.edges.items ≡ Some e). ap (λ (b : Board). item_at k b.edges.items) i.kept.rest ∙ h in
    record {
      kept = keeps-both c.args.board.now c.loop-k.board c.note_edge.new.board i.kept n.kept;
      makers = λ j w e m h t. each-more (λ j. (w : ℕ) (e : EdgeItem) → item_at j c.args.board.now.edges.items ≡ Some e → Member w e.targets.items → KnowsMaker c.note_edge.new.board w)
          c.args.ks.now c.loop-k.k-index k g (λ j m w e h t. n.kept.makers w (i.makers j w e m h t)) (λ w e h t. n.makers w e (same e h) t) j m w e h t;
      users = λ j w e m h t. each-more (λ j. (w : ℕ) (e : EdgeItem) → item_at j c.args.board.now.edges.items ≡ Some e → Member w e.sources.items → KnowsUser c.note_edge.new.board w)
          c.args.ks.now c.loop-k.k-index k g (λ j m w e h t. n.kept.users w (i.users j w e m h t)) (λ w e h t. n.users w e (same e h) t) j m w e h t;
    }
