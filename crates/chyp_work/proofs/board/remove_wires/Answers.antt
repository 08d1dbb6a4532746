use Rattle.std.proofs.Common.{refl, sym, ◌∙◌, ◌≡◌, ap, take, slice_get, Some}
use Rattle.chyp_term.proofs.Members.{get-member}
use Rattle.chyp_term.proofs.Closure.{get-item}
use Rattle.chyp_term.proofs.Slices.{take-suc}
use Rattle.chyp_store.specs.Items.{without, without_all}
use Rattle.chyp_work.specs.declared.board.Board.{Board}
use Rattle.chyp_work.proofs.Taking.{apart-before, there-still, without-more, without-none}
use Rattle.chyp_work.proofs.board.remove_wires.Goals as goal

pub loop-w-init : goal.loop-w-init
loop-w-init c = record { wires = sym (without-none c.args.board.now.wires.items); rest = refl; filed = c.requires.filed }

pub remove_wire-requires-clause-there : goal.remove_wire-requires-clause-there
remove_wire-requires-clause-there c =
    let g : slice_get c.args.images.now c.loop-w.w-index ≡ Some c.w-item.result = get-item _ _ _ c.loop-w-test.true c.w-item.is in
    rw c.loop-w.invariant.wires (there-still (take c.loop-w.w-index c.args.images.now) c.w-item.result c.args.board.now.wires.items
    (apart-before c.args.images.now c.loop-w.w-index c.w-item.result c.requires.apart g) (c.requires.there c.w-item.result (get-member c.args.images.now c.loop-w.w-index c.w-item.result g)))

pub loop-w-preserved : goal.loop-w-preserved
loop-w-preserved c =
    let g : slice_get c.args.images.now c.loop-w.w-index ≡ Some c.w-item.result = get-item _ _ _ c.loop-w-test.true c.w-item.is in
    let e = c.remove_wire.ensures in
    let i = c.loop-w.invariant in
    record {
      wires = e.wires ∙ ap (without c.w-item.result) i.wires ∙ without-more (take c.loop-w.w-index c.args.images.now) c.w-item.result c.args.board.now.wires.items
          ∙ ap (λ ks. without_all ks c.args.board.now.wires.items) (sym (take-suc c.args.images.now c.loop-w.w-index c.w-item.result g));
      rest = e.rest ∙ ap (λ (b : Board). record b { wires = c.remove_wire.new.self.wires; sorted = c.remove_wire.new.self.sorted }) i.rest;
      filed = e.filed;
    }
