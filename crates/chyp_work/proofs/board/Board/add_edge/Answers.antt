use Rattle.std.proofs.Common.{ℕ, [], ◌∷◌, ◌∙◌, ◌≡◌}
use Rattle.std.proofs.lemmas.List.{map-append}
use Rattle.chyp_graph.specs.PlainGraph.{Edge}
use Rattle.chyp_work.specs.Board.{edge_of}
use Rattle.chyp_work.specs.declared.board.EdgeItem.{EdgeItem}
use Rattle.chyp_work.proofs.Items.{item-added, shown-item, some-result}
use Rattle.chyp_work.proofs.Boards.{filed-added, rooms-pushed}
use Rattle.chyp_work.proofs.board.Board.add_edge.Goals as goal

pub unwrap-item-requires : goal.unwrap-item-requires
unwrap-item-requires c = some-result c.get.result c.args.item (c.get.ensures ∙ rw c.add-k.ensures.items (item-added c.add-k.result c.args.item c.args.self.now.edges.items c.add-k.ensures.fresh))

pub push-requires : goal.push-requires
push-requires c =
    let same : c.unwrap-item.result.now ≡ c.args.item = shown-item c.get.result c.unwrap-item.result c.args.item c.unwrap-item.ensures
    (c.get.ensures ∙ rw c.add-k.ensures.items (item-added c.add-k.result c.args.item c.args.self.now.edges.items c.add-k.ensures.fresh)) in
    rw same c.requires.list

pub returns-clause-filed : goal.returns-clause-filed
returns-clause-filed c =
    let same : c.unwrap-item.result.now ≡ c.args.item = shown-item c.get.result c.unwrap-item.result c.args.item c.unwrap-item.ensures
    (c.get.ensures ∙ rw c.add-k.ensures.items (item-added c.add-k.result c.args.item c.args.self.now.edges.items c.add-k.ensures.fresh)) in
    record {
      named = λ n. rw (
        c.add-k.ensures.items,
        map-append {A = ℕ × EdgeItem} {B = ℕ × Edge} (λ (e : ℕ × EdgeItem). (e.0, edge_of e.1)) c.args.self.now.edges.items
            ((c.add-k.result, c.args.item) ∷ []),
      ) (filed-added (λ (e : Edge). e.name) c.args.self.now.named c.push.new.self _ _ (edge_of c.args.item) c.requires.filed.named
          (rw same at c.push.ensures.pushed) (rw same at c.push.ensures.others) n);
      sorted = c.requires.filed.sorted;
    }

pub returns-clause-rooms : goal.returns-clause-rooms
returns-clause-rooms c =
    let same : c.unwrap-item.result.now ≡ c.args.item = shown-item c.get.result c.unwrap-item.result c.args.item c.unwrap-item.ensures
    (c.get.ensures ∙ rw c.add-k.ensures.items (item-added c.add-k.result c.args.item c.args.self.now.edges.items c.add-k.ensures.fresh)) in
    rooms-pushed c.args.item.name c.args.self.now.named c.push.new.self (rw same at c.push.ensures.room) (rw same at c.push.ensures.other_rooms)
