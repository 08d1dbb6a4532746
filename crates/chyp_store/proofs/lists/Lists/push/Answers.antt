use Rattle.std.proofs.Common.{arith, refl, sym, ◌∙◌, ◌≡◌, ◌-◌, ◌++◌, [], ◌∷◌, length, ap, Some}
use Rattle.std.specs.Prelude.{vec_capacity}
use Rattle.std.specs.Map.{lookup}
use Rattle.std.specs.Str.{bytes_eq}
use Rattle.chyp_store.specs.Lists.{room_of}
use Rattle.chyp_store.proofs.Rows.{new-list, new-room, old-list, other-list, other-room, row-room}
use Rattle.chyp_store.proofs.lists.Lists.push.Goals as goal

pub push_reserved-requires : goal.push_reserved-requires
push_reserved-requires g c =
    let e : room_of c.args.name.now c.args.self.now
    ≡ vec_capacity c.in-Some.list.now - length c.in-Some.list.now.items = rw (← c.self.view_is) (row-room c.args.name.now c.self.inside.lists.entries ∙ rw (← c.in-Some.ensures.value) refl) in
    omega (arith, e, c.requires, c.in-Some.list.now.ok.0)

pub returns-in-Some-clause-pushed : goal.returns-in-Some-clause-pushed
returns-in-Some-clause-pushed g c =
    let was : lookup (bytes_eq c.args.name.now) c.self.inside.lists.entries ≡ Some c.in-Some.list.now = sym c.in-Some.ensures.value in
    let wrote = (c.get_mut.follows.holds c.push_reserved.new.self).0 in
    rw (← c.self.view_is) (new-list c.args.name.now c.self.inside.lists.entries (c.get_mut.follows.lender c.push_reserved.new.self).entries c.in-Some.list.now c.push_reserved.new.self was wrote
    ∙ c.push_reserved.ensures.items ∙ ap (λ l. l ++ c.args.item ∷ [])
    (sym (old-list c.args.name.now c.self.inside.lists.entries (c.get_mut.follows.lender c.push_reserved.new.self).entries c.in-Some.list.now c.push_reserved.new.self was wrote)))

pub returns-in-Some-clause-others : goal.returns-in-Some-clause-others
returns-in-Some-clause-others g c =
    let was : lookup (bytes_eq c.args.name.now) c.self.inside.lists.entries ≡ Some c.in-Some.list.now = sym c.in-Some.ensures.value in
    let wrote = (c.get_mut.follows.holds c.push_reserved.new.self).0 in
    rw (← c.self.view_is) (other-list c.args.name.now c.self.inside.lists.entries (c.get_mut.follows.lender c.push_reserved.new.self).entries c.in-Some.list.now c.push_reserved.new.self was wrote)

pub returns-in-Some-clause-room : goal.returns-in-Some-clause-room
returns-in-Some-clause-room g c =
    let was : lookup (bytes_eq c.args.name.now) c.self.inside.lists.entries ≡ Some c.in-Some.list.now = sym c.in-Some.ensures.value in
    let wrote = (c.get_mut.follows.holds c.push_reserved.new.self).0 in
    let e : room_of c.args.name.now c.args.self.now
    ≡ vec_capacity c.in-Some.list.now - length c.in-Some.list.now.items = rw (← c.self.view_is) (row-room c.args.name.now c.self.inside.lists.entries ∙ rw (← c.in-Some.ensures.value) refl) in
    let n = new-room c.args.name.now c.self.inside.lists.entries (c.get_mut.follows.lender c.push_reserved.new.self).entries c.in-Some.list.now c.push_reserved.new.self was wrote in
    let q = c.requires in
    let p = c.push_reserved.ensures in
    rw (n) (omega (arith, e, q, c.in-Some.list.now.ok.0, c.push_reserved.new.self.ok.0, p.len, p.capacity))

pub returns-in-Some-clause-other_rooms : goal.returns-in-Some-clause-other_rooms
returns-in-Some-clause-other_rooms g c =
    let was : lookup (bytes_eq c.args.name.now) c.self.inside.lists.entries ≡ Some c.in-Some.list.now = sym c.in-Some.ensures.value in
    let wrote = (c.get_mut.follows.holds c.push_reserved.new.self).0 in
    rw (← c.self.view_is) (other-room c.args.name.now c.self.inside.lists.entries (c.get_mut.follows.lender c.push_reserved.new.self).entries c.in-Some.list.now c.push_reserved.new.self was wrote)

pub returns-in-None-clause-pushed : goal.returns-in-None-clause-pushed
returns-in-None-clause-pushed g c =
    let e : room_of c.args.name.now c.args.self.now ≡ 0 = rw (← c.self.view_is) (row-room c.args.name.now c.self.inside.lists.entries ∙ rw (← c.in-None.ensures.value) refl) in
    let q = c.requires in
    absurd (omega (arith, e, q))

pub returns-in-None-clause-room : goal.returns-in-None-clause-room
returns-in-None-clause-room g c =
    let e : room_of c.args.name.now c.args.self.now ≡ 0 = rw (← c.self.view_is) (row-room c.args.name.now c.self.inside.lists.entries ∙ rw (← c.in-None.ensures.value) refl) in
    let q = c.requires in
    absurd (omega (arith, e, q))
