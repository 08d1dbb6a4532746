use Rattle.std.proofs.Common.{ℕ, [], ◌∷◌, ◌∙◌, ◌≡◌}
use Rattle.std.proofs.lemmas.List.{map-append}
use Rattle.chyp_base.specs.declared.sort.Sort.{Sort}
use Rattle.chyp_work.specs.declared.board.WireItem.{WireItem}
use Rattle.chyp_work.proofs.Items.{item-added, shown-item, some-result}
use Rattle.chyp_work.proofs.Boards.{filed-added, rooms-pushed}
use Rattle.chyp_work.specs.declared.end.End.TheVariants.{Outside}
use Rattle.chyp_work.proofs.board.Board.add_wire.Goals as goal

pub unwrap-item-requires : goal.unwrap-item-requires
unwrap-item-requires c = some-result c.get.result (record { sort = c.args.sort; producer = Outside 0; consumer = Outside 0 })
    (c.get.ensures ∙ rw c.add-w.ensures.items (item-added c.add-w.result (record { sort = c.args.sort; producer = Outside 0; consumer = Outside 0 }) c.args.self.now.wires.items c.add-w.ensures.fresh))

pub push-requires : goal.push-requires
push-requires c =
    let same : c.unwrap-item.result.now ≡ (record { sort = c.args.sort; producer = Outside 0; consumer = Outside 0 }) = shown-item c.get.result c.unwrap-item.result
    (record { sort = c.args.sort; producer = Outside 0; consumer = Outside 0 }) c.unwrap-item.ensures
    (c.get.ensures ∙ rw c.add-w.ensures.items
    (item-added c.add-w.result (record { sort = c.args.sort; producer = Outside 0; consumer = Outside 0 }) c.args.self.now.wires.items c.add-w.ensures.fresh)) in
    rw same c.requires.list

pub returns-clause-filed : goal.returns-clause-filed
returns-clause-filed c =
    let same : c.unwrap-item.result.now ≡ (record { sort = c.args.sort; producer = Outside 0; consumer = Outside 0 }) = shown-item c.get.result c.unwrap-item.result
    (record { sort = c.args.sort; producer = Outside 0; consumer = Outside 0 }) c.unwrap-item.ensures
    (c.get.ensures ∙ rw c.add-w.ensures.items
    (item-added c.add-w.result (record { sort = c.args.sort; producer = Outside 0; consumer = Outside 0 }) c.args.self.now.wires.items c.add-w.ensures.fresh)) in
    record {
      sorted = λ n. rw (
        c.add-w.ensures.items,
        map-append {A = ℕ × WireItem} {B = ℕ × Sort} (λ (e : ℕ × WireItem). (e.0, (λ (i : WireItem). i.sort) e.1)) c.args.self.now.wires.items
            ((c.add-w.result, (record { sort = c.args.sort; producer = Outside 0; consumer = Outside 0 })) ∷ []),
      )
          (filed-added (λ (s : Sort). s.name) c.args.self.now.sorted c.push.new.self _ _ c.args.sort c.requires.filed.sorted (rw same at c.push.ensures.pushed) (rw same at c.push.ensures.others) n);
      named = c.requires.filed.named;
    }

pub returns-clause-rooms : goal.returns-clause-rooms
returns-clause-rooms c =
    let same : c.unwrap-item.result.now ≡ (record { sort = c.args.sort; producer = Outside 0; consumer = Outside 0 }) = shown-item c.get.result c.unwrap-item.result
    (record { sort = c.args.sort; producer = Outside 0; consumer = Outside 0 }) c.unwrap-item.ensures
    (c.get.ensures ∙ rw c.add-w.ensures.items
    (item-added c.add-w.result (record { sort = c.args.sort; producer = Outside 0; consumer = Outside 0 }) c.args.self.now.wires.items c.add-w.ensures.fresh)) in
    rooms-pushed c.args.sort.name c.args.self.now.sorted c.push.new.self (rw same at c.push.ensures.room) (rw same at c.push.ensures.other_rooms)
