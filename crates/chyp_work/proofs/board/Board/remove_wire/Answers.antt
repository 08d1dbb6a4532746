use Rattle.std.proofs.Common.{sym, ◌∙◌, ◌≡◌, ap, Some}
use Rattle.std.specs.Prelude.{option_map}
use Rattle.std.specs.Str.{bytes_eq}
use Rattle.chyp_base.specs.declared.sort.Sort.{Sort}
use Rattle.chyp_term.specs.Positions.{place_of}
use Rattle.chyp_term.proofs.Inverses.{place-found}
use Rattle.chyp_term.proofs.Positions.{slice_get-length}
use Rattle.chyp_term.proofs.Members.{member-among}
use Rattle.chyp_work.specs.Board.{wires_of}
use Rattle.chyp_store.specs.Items.{AreDistinct, ids, item_at}
use Rattle.chyp_store.specs.Lists.{list_of}
use Rattle.chyp_work.specs.declared.board.WireItem.{WireItem}
use Rattle.chyp_work.proofs.Boards.{filed-removed, ids-map, map-without, member-where}
use Rattle.chyp_work.proofs.Nets.{item-map}
use Rattle.chyp_store.proofs.Rows.{same-bytes}
use Rattle.chyp_work.proofs.board.Board.remove_wire.Goals as goal

pub place_of_wire-place-requires : goal.place_of_wire-place-requires
place_of_wire-place-requires c =
    let there : item_at c.args.w c.args.self.now.wires.items ≡ Some c.unwrap-item.result = rw (← c.w.view_is) (sym c.remove.ensures.item ∙ c.unwrap-item.ensures) in
    let m = member-where (λ (s : Sort). bytes_eq c.unwrap-item.result.sort.name s.name) c.args.w ((λ (i : WireItem). i.sort) c.unwrap-item.result) (wires_of c.args.self.now.wires.items)
    (item-map (λ (i : WireItem). i.sort) c.args.w c.args.self.now.wires.items ∙ ap (option_map (λ (i : WireItem). i.sort)) there) (same-bytes c.unwrap-item.result.sort.name) in
    rw (c.get.ensures, c.requires.filed.sorted c.unwrap-item.result.sort.name) (member-among _ _ m)

pub remove-requires-2 : goal.remove-requires-2
remove-requires-2 c =
    let p : place_of c.args.w (list_of c.unwrap-item.result.sort.name c.args.self.now.sorted) ≡ Some c.place_of_wire-place.result = rw (← c.get.ensures) c.place_of_wire-place.ensures in
    slice_get-length _ _ _ (place-found _ _ _ p)

pub returns-clause-filed : goal.returns-clause-filed
returns-clause-filed c =
    let there : item_at c.args.w c.args.self.now.wires.items ≡ Some c.unwrap-item.result = rw (← c.w.view_is) (sym c.remove.ensures.item ∙ c.unwrap-item.ensures) in
    let p : place_of c.args.w (list_of c.unwrap-item.result.sort.name c.args.self.now.sorted) ≡ Some c.place_of_wire-place.result = rw (← c.get.ensures) c.place_of_wire-place.ensures in
    let d : AreDistinct (ids (wires_of c.args.self.now.wires.items)) = rw (ids-map (λ (i : WireItem). i.sort) c.args.self.now.wires.items) c.apart.ensures in
    let r = filed-removed (λ (s : Sort). s.name) c.args.self.now.sorted c.remove-2.new.self (wires_of c.args.self.now.wires.items) c.args.w c.place_of_wire-place.result
    ((λ (i : WireItem). i.sort) c.unwrap-item.result) d
    (item-map (λ (i : WireItem). i.sort) c.args.w c.args.self.now.wires.items ∙ ap (option_map (λ (i : WireItem). i.sort)) there) c.requires.filed.sorted p c.remove-2.ensures.removed
    c.remove-2.ensures.others in
    record { sorted = λ n. rw (c.remove.ensures.items, c.w.view_is, map-without (λ (i : WireItem). i.sort) c.args.w c.args.self.now.wires.items) (r n); named = c.requires.filed.named }
