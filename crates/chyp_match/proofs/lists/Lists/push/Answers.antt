use Rattle.std.proofs.Common.{sym, ◌∙◌, ◌≡◌, ◌++◌, [], ◌∷◌, ap, Some, Vec, Global}
use Rattle.std.specs.Map.{lookup}
use Rattle.std.specs.Str.{bytes_eq}
use Rattle.std.proofs.lemmas.Map.Made.{lookup-map_values}
use Rattle.chyp_match.proofs.Named.{new-list, old-list, other-list}
use Rattle.chyp_match.proofs.lists.Lists.push.Goals as goal

pub returns-in-Ok-clause-added : goal.returns-in-Ok-clause-added
returns-in-Ok-clause-added g c =
    let was : lookup (bytes_eq c.args.name.now) c.self.inside.lists.entries ≡ Some c.in-Some.list.now = sym c.in-Some.ensures.value in
    let wrote = (c.get_mut.follows.holds c.push.new.self).0 in
    rw (← c.self.view_is) (new-list c.args.name.now c.self.inside.lists.entries (c.get_mut.follows.lender c.push.new.self).entries c.in-Some.list.now c.push.new.self was wrote
    ∙ c.in-Ok.ensures.items ∙ ap (λ l. l ++ c.args.item ∷ [])
    (sym (old-list c.args.name.now c.self.inside.lists.entries (c.get_mut.follows.lender c.push.new.self).entries c.in-Some.list.now c.push.new.self was wrote)))

pub returns-in-Ok-clause-others : goal.returns-in-Ok-clause-others
returns-in-Ok-clause-others g c =
    let was : lookup (bytes_eq c.args.name.now) c.self.inside.lists.entries ≡ Some c.in-Some.list.now = sym c.in-Some.ensures.value in
    let wrote = (c.get_mut.follows.holds c.push.new.self).0 in
    rw (← c.self.view_is) (other-list c.args.name.now c.self.inside.lists.entries (c.get_mut.follows.lender c.push.new.self).entries c.in-Some.list.now c.push.new.self was wrote)

pub returns-in-None-clause-added : goal.returns-in-None-clause-added
returns-in-None-clause-added g c =
    let x = rw (← c.self.view_is, lookup-map_values (λ (v : Vec _ Global). v.items) (bytes_eq c.args.name.now) c.self.inside.lists.entries, ← c.in-None.ensures.value) at c.requires in
    absurd (cc)
