use Rattle.std.proofs.Common.{refl, sym, ◌∙◌, ◌≡◌, ap, take, slice_get, Some}
use Rattle.chyp_term.proofs.Members.{get-member}
use Rattle.chyp_term.proofs.Closure.{get-item}
use Rattle.chyp_term.proofs.Slices.{take-suc}
use Rattle.chyp_store.specs.Items.{without, without_all}
use Rattle.chyp_work.specs.declared.board.Board.{Board}
use Rattle.chyp_work.proofs.Taking.{apart-before, there-still, without-more, without-none}
use Rattle.chyp_work.proofs.board.remove_edges.Goals as goal

pub loop-k-init : goal.loop-k-init
loop-k-init c = record { edges = sym (without-none c.args.board.now.edges.items); rest = refl; filed = c.requires.filed }

pub remove_edge-requires-clause-there : goal.remove_edge-requires-clause-there
remove_edge-requires-clause-there c =
    let g : slice_get c.args.images.now c.loop-k.k-index ≡ Some c.k-item.result = get-item _ _ _ c.loop-k-test.true c.k-item.is in
    rw c.loop-k.invariant.edges (there-still (take c.loop-k.k-index c.args.images.now) c.k-item.result c.args.board.now.edges.items
    (apart-before c.args.images.now c.loop-k.k-index c.k-item.result c.requires.apart g) (c.requires.there c.k-item.result (get-member c.args.images.now c.loop-k.k-index c.k-item.result g)))

pub loop-k-preserved : goal.loop-k-preserved
loop-k-preserved c =
    let g : slice_get c.args.images.now c.loop-k.k-index ≡ Some c.k-item.result = get-item _ _ _ c.loop-k-test.true c.k-item.is in
    let e = c.remove_edge.ensures in
    let i = c.loop-k.invariant in
    record {
      edges = e.edges ∙ ap (without c.k-item.result) i.edges ∙ without-more (take c.loop-k.k-index c.args.images.now) c.k-item.result c.args.board.now.edges.items
          ∙ ap (λ ks. without_all ks c.args.board.now.edges.items) (sym (take-suc c.args.images.now c.loop-k.k-index c.k-item.result g));
      rest = e.rest ∙ ap (λ (b : Board). record b { edges = c.remove_edge.new.self.edges; named = c.remove_edge.new.self.named }) i.rest;
      filed = e.filed;
    }
