use Rattle.std.proofs.Common.{arith, refl, sym, ◌∙◌, ◌≡◌, [], ap, Some}
use Rattle.std.specs.Prelude.{remove}
use Rattle.std.specs.Map.{lookup}
use Rattle.std.specs.Str.{bytes_eq}
use Rattle.chyp_store.specs.Lists.{list_of}
use Rattle.chyp_store.proofs.Rows.{all-rooms, new-list, old-list, other-list, row-list}
use Rattle.chyp_store.proofs.lists.Lists.remove.Goals as goal

pub remove-requires : goal.remove-requires
remove-requires g c =
    let e : list_of c.args.name.now c.args.self.now ≡ c.in-Some.list.now.items = rw (← c.self.view_is) (row-list c.args.name.now c.self.inside.lists.entries ∙ rw (← c.in-Some.ensures.value) refl) in
    let q = rw e at c.requires in
    omega (arith, q, c.in-Some.list.now.ok.0)

pub returns-in-Some-clause-removed : goal.returns-in-Some-clause-removed
returns-in-Some-clause-removed g c =
    let was : lookup (bytes_eq c.args.name.now) c.self.inside.lists.entries ≡ Some c.in-Some.list.now = sym c.in-Some.ensures.value in
    let wrote = (c.get_mut.follows.holds c.remove.new.self).0 in
    rw (← c.self.view_is) (new-list c.args.name.now c.self.inside.lists.entries (c.get_mut.follows.lender c.remove.new.self).entries c.in-Some.list.now c.remove.new.self was wrote
    ∙ c.remove.ensures.items ∙ ap (λ l. remove l c.args.place)
    (sym (old-list c.args.name.now c.self.inside.lists.entries (c.get_mut.follows.lender c.remove.new.self).entries c.in-Some.list.now c.remove.new.self was wrote)))

pub returns-in-Some-clause-others : goal.returns-in-Some-clause-others
returns-in-Some-clause-others g c =
    let was : lookup (bytes_eq c.args.name.now) c.self.inside.lists.entries ≡ Some c.in-Some.list.now = sym c.in-Some.ensures.value in
    let wrote = (c.get_mut.follows.holds c.remove.new.self).0 in
    rw (← c.self.view_is) (other-list c.args.name.now c.self.inside.lists.entries (c.get_mut.follows.lender c.remove.new.self).entries c.in-Some.list.now c.remove.new.self was wrote)

pub returns-in-Some-clause-rooms : goal.returns-in-Some-clause-rooms
returns-in-Some-clause-rooms g c =
    let was : lookup (bytes_eq c.args.name.now) c.self.inside.lists.entries ≡ Some c.in-Some.list.now = sym c.in-Some.ensures.value in
    let wrote = (c.get_mut.follows.holds c.remove.new.self).0 in
    rw (← c.self.view_is) (all-rooms c.args.name.now c.self.inside.lists.entries (c.get_mut.follows.lender c.remove.new.self).entries c.in-Some.list.now c.remove.new.self was wrote
    (omega (arith, c.in-Some.list.now.ok.0, c.remove.new.self.ok.0, c.remove.ensures.len, c.remove.ensures.capacity)))

pub returns-in-None-clause-removed : goal.returns-in-None-clause-removed
returns-in-None-clause-removed g c =
    let e : list_of c.args.name.now c.args.self.now ≡ [] = rw (← c.self.view_is) (row-list c.args.name.now c.self.inside.lists.entries ∙ rw (← c.in-None.ensures.value) refl) in
    let q = rw e at c.requires in
    absurd (omega (arith, q))
