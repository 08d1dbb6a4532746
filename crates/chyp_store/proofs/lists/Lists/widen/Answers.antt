use Rattle.std.proofs.Common.{arith, sym, ◌≡◌, length, ap, Some}
use Rattle.std.specs.Map.{lookup}
use Rattle.std.specs.Str.{bytes_eq}
use Rattle.chyp_store.specs.Lists.{row_of}
use Rattle.chyp_store.proofs.Rows.{all-lists, all-rooms, new-room}
use Rattle.std.proofs.lemmas.Map.Made.{lookup-map_values}
use Rattle.chyp_store.proofs.lists.Lists.widen.Goals as goal

pub returns-in-Ok-clause-kept : goal.returns-in-Ok-clause-kept
returns-in-Ok-clause-kept g c =
    let was : lookup (bytes_eq c.args.name.now) c.self.inside.lists.entries ≡ Some c.in-Some.list.now = sym c.in-Some.ensures.value in
    let wrote = (c.get_mut.follows.holds c.reserve.new.self).0 in
    rw (← c.self.view_is) (all-lists c.args.name.now c.self.inside.lists.entries
    (c.get_mut.follows.lender c.reserve.new.self).entries c.in-Some.list.now c.reserve.new.self was wrote c.reserve.ensures.items)

pub returns-in-Ok-clause-rooms : goal.returns-in-Ok-clause-rooms
returns-in-Ok-clause-rooms g c =
    let was : lookup (bytes_eq c.args.name.now) c.self.inside.lists.entries ≡ Some c.in-Some.list.now = sym c.in-Some.ensures.value in
    let wrote = (c.get_mut.follows.holds c.reserve.new.self).0 in
    rw (← c.self.view_is) (all-rooms c.args.name.now c.self.inside.lists.entries (c.get_mut.follows.lender c.reserve.new.self).entries c.in-Some.list.now c.reserve.new.self was wrote
    (omega (arith, ap length c.reserve.ensures.items, c.reserve.ensures.capacity)))

pub returns-in-Err-clause-kept : goal.returns-in-Err-clause-kept
returns-in-Err-clause-kept g c =
    let was : lookup (bytes_eq c.args.name.now) c.self.inside.lists.entries ≡ Some c.in-Some.list.now = sym c.in-Some.ensures.value in
    let wrote = (c.get_mut.follows.holds c.reserve.new.self).0 in
    rw (← c.self.view_is) (all-lists c.args.name.now c.self.inside.lists.entries
    (c.get_mut.follows.lender c.reserve.new.self).entries c.in-Some.list.now c.reserve.new.self was wrote c.reserve.ensures.items)

pub returns-in-Err-clause-rooms : goal.returns-in-Err-clause-rooms
returns-in-Err-clause-rooms g c =
    let was : lookup (bytes_eq c.args.name.now) c.self.inside.lists.entries ≡ Some c.in-Some.list.now = sym c.in-Some.ensures.value in
    let wrote = (c.get_mut.follows.holds c.reserve.new.self).0 in
    rw (← c.self.view_is) (all-rooms c.args.name.now c.self.inside.lists.entries (c.get_mut.follows.lender c.reserve.new.self).entries c.in-Some.list.now c.reserve.new.self was wrote
    (omega (arith, ap length c.reserve.ensures.items, c.reserve.ensures.capacity)))

pub returns-in-Ok-clause-room : goal.returns-in-Ok-clause-room
returns-in-Ok-clause-room g c =
    let was : lookup (bytes_eq c.args.name.now) c.self.inside.lists.entries ≡ Some c.in-Some.list.now = sym c.in-Some.ensures.value in
    let wrote = (c.get_mut.follows.holds c.reserve.new.self).0 in
    let n = new-room c.args.name.now c.self.inside.lists.entries (c.get_mut.follows.lender c.reserve.new.self).entries c.in-Some.list.now c.reserve.new.self was wrote in
    rw n (omega (arith, c.in-Ok.ensures.ok, c.reserve.new.self.ok.0))

pub returns-in-None-clause-room : goal.returns-in-None-clause-room
returns-in-None-clause-room g c =
    let x = rw (← c.self.view_is, lookup-map_values row_of (bytes_eq c.args.name.now) c.self.inside.lists.entries, ← c.in-None.ensures.value) at c.requires in
    absurd (cc)
