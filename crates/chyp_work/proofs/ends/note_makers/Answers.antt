use Rattle.std.proofs.Common.{◌≡◌, ◌∙◌, refl, ap}
use Rattle.chyp_term.proofs.Closure.{get-item}
use Rattle.chyp_store.specs.Store.{Store}
use Rattle.chyp_work.specs.Board.{produced, wires_of}
use Rattle.chyp_work.specs.Filling.{end_of}
use Rattle.chyp_work.specs.declared.board.WireItem.{WireItem}
use Rattle.chyp_work.proofs.Boards.{produced-sorts}
use Rattle.chyp_work.proofs.Noting.{none-noted, noted-more}
use Rattle.chyp_work.proofs.ends.note_makers.Goals as goal

pub loop-i-init : goal.loop-i-init
loop-i-init c = record { items = none-noted (λ (item : WireItem). item.producer) (λ (item : WireItem). item.consumer) (end_of c.args.edge) c.args.wires.now.items; rest = refl }

pub loop-i-preserved : goal.loop-i-preserved
loop-i-preserved c =
    let w = c.index-ports-i.result in
    let i = c.loop-i.i in
    let e : c.note_producer.new.wires.items ≡ produced w (end_of c.args.edge i) c.loop-i.wires.items = rw (← c.end_at.ensures) c.note_producer.ensures.items in
    record {
      items = noted-more (λ (item : WireItem). item.producer) (λ (item : WireItem). item.consumer) (λ end (item : WireItem). record item { producer = end }) (λ _ _. refl) (λ _ _. refl)
          (end_of c.args.edge) c.args.ports.now i w c.args.wires.now.items c.loop-i.wires.items c.note_producer.new.wires.items
          (get-item c.args.ports.now i w c.loop-i-test.true c.index-ports-i.is) c.loop-i.invariant.items e (ap wires_of e ∙ produced-sorts w
          (end_of c.args.edge i) c.loop-i.wires.items c.apart.ensures);
      rest = c.note_producer.ensures.rest ∙ ap (λ (s : Store WireItem). record s { items = c.note_producer.new.wires.items }) c.loop-i.invariant.rest;
    }
