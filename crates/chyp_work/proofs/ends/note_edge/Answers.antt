use Rattle.std.proofs.Common.{◌≡◌, Some, sym, ◌∙◌, refl, subst}
use Rattle.chyp_term.proofs.Members.{Member}
use Rattle.chyp_term.proofs.Positions.{some-same}
use Rattle.chyp_work.specs.declared.board.EdgeItem.{EdgeItem}
use Rattle.chyp_store.specs.Items.{item_at}
use Rattle.chyp_work.proofs.Noting.{edge-kept, edge-makers, edge-users}
use Rattle.chyp_work.proofs.ends.note_edge.Goals as goal

pub returns-in-Some-clause-kept : goal.returns-in-Some-clause-kept
returns-in-Some-clause-kept c =
    let h : item_at c.args.k c.args.board.now.edges.items ≡ Some c.in-Some.item.now = rw (← c.k.view_is, ← c.get.ensures, c.in-Some.is) refl in
    edge-kept c.args.board.now c.args.k c.in-Some.item.now h c.note_makers.new.wires c.note_users.new.wires (rw c.as_slice.ensures at c.note_makers.ensures.items)
    (rw c.as_slice-in-Some.ensures at c.note_users.ensures.items)

pub returns-in-Some-clause-makers : goal.returns-in-Some-clause-makers
returns-in-Some-clause-makers c =
    let h : item_at c.args.k c.args.board.now.edges.items ≡ Some c.in-Some.item.now = rw (← c.k.view_is, ← c.get.ensures, c.in-Some.is) refl in
    λ w e g t. edge-makers c.args.board.now c.args.k c.in-Some.item.now h c.note_makers.new.wires c.note_users.new.wires (rw c.as_slice.ensures at c.note_makers.ensures.items)
    (rw c.as_slice-in-Some.ensures at c.note_users.ensures.items) w (let q : e ≡ c.in-Some.item.now = some-same e c.in-Some.item.now (sym g ∙ h) in subst (λ
    (x : EdgeItem). Member w x.targets.items) q t)

pub returns-in-Some-clause-users : goal.returns-in-Some-clause-users
returns-in-Some-clause-users c =
    let h : item_at c.args.k c.args.board.now.edges.items ≡ Some c.in-Some.item.now = rw (← c.k.view_is, ← c.get.ensures, c.in-Some.is) refl in
    λ w e g t. edge-users c.args.board.now c.args.k c.in-Some.item.now h c.note_makers.new.wires c.note_users.new.wires (rw c.as_slice.ensures at c.note_makers.ensures.items)
    (rw c.as_slice-in-Some.ensures at c.note_users.ensures.items) w (let q : e ≡ c.in-Some.item.now = some-same e c.in-Some.item.now (sym g ∙ h) in subst (λ
    (x : EdgeItem). Member w x.sources.items) q t)
