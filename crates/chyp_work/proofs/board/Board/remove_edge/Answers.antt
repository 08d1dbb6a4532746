use Rattle.std.proofs.Common.{sym, ◌∙◌, ◌≡◌, ap, Some}
use Rattle.std.specs.Prelude.{option_map}
use Rattle.std.specs.Str.{bytes_eq}
use Rattle.chyp_graph.specs.PlainGraph.{Edge}
use Rattle.chyp_term.specs.Positions.{place_of}
use Rattle.chyp_term.proofs.Inverses.{place-found}
use Rattle.chyp_term.proofs.Positions.{slice_get-length}
use Rattle.chyp_term.proofs.Members.{member-among}
use Rattle.chyp_work.specs.Board.{edge_of, edges_of}
use Rattle.chyp_store.specs.Items.{AreDistinct, ids, item_at}
use Rattle.chyp_store.specs.Lists.{list_of}
use Rattle.chyp_work.proofs.Boards.{filed-removed, ids-map, map-without, member-where}
use Rattle.chyp_work.proofs.Nets.{item-map}
use Rattle.chyp_store.proofs.Rows.{same-bytes}
use Rattle.chyp_work.proofs.board.Board.remove_edge.Goals as goal

pub place_of_edge-place-requires : goal.place_of_edge-place-requires
place_of_edge-place-requires c =
    let there : item_at c.args.k c.args.self.now.edges.items ≡ Some c.unwrap-item.result = rw (← c.k.view_is) (sym c.remove.ensures.item ∙ c.unwrap-item.ensures) in
    let m = member-where (λ (e : Edge). bytes_eq c.unwrap-item.result.name e.name) c.args.k (edge_of c.unwrap-item.result) (edges_of c.args.self.now.edges.items)
    (item-map edge_of c.args.k c.args.self.now.edges.items ∙ ap (option_map edge_of) there) (same-bytes c.unwrap-item.result.name) in
    rw (c.get.ensures, c.requires.filed.named c.unwrap-item.result.name) (member-among _ _ m)

pub remove-requires-2 : goal.remove-requires-2
remove-requires-2 c =
    let p : place_of c.args.k (list_of c.unwrap-item.result.name c.args.self.now.named) ≡ Some c.place_of_edge-place.result = rw (← c.get.ensures) c.place_of_edge-place.ensures in
    slice_get-length _ _ _ (place-found _ _ _ p)

pub returns-clause-filed : goal.returns-clause-filed
returns-clause-filed c =
    let there : item_at c.args.k c.args.self.now.edges.items ≡ Some c.unwrap-item.result = rw (← c.k.view_is) (sym c.remove.ensures.item ∙ c.unwrap-item.ensures) in
    let p : place_of c.args.k (list_of c.unwrap-item.result.name c.args.self.now.named) ≡ Some c.place_of_edge-place.result = rw (← c.get.ensures) c.place_of_edge-place.ensures in
    let d : AreDistinct (ids (edges_of c.args.self.now.edges.items)) = rw (ids-map edge_of c.args.self.now.edges.items) c.apart.ensures in
    let r = filed-removed (λ (e : Edge). e.name) c.args.self.now.named c.remove-2.new.self (edges_of c.args.self.now.edges.items) c.args.k c.place_of_edge-place.result
    (edge_of c.unwrap-item.result) d (item-map edge_of c.args.k c.args.self.now.edges.items ∙ ap (option_map edge_of) there) c.requires.filed.named p c.remove-2.ensures.removed
    c.remove-2.ensures.others in
    record { named = λ n. rw (c.remove.ensures.items, c.k.view_is, map-without edge_of c.args.k c.args.self.now.edges.items) (r n); sorted = c.requires.filed.sorted }
