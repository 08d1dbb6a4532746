use Rattle.chyp_store.proofs.Rows.{none-row, put-lists, put-rooms, put-there}
use Rattle.chyp_store.proofs.lists.Lists.put.Goals as goal

pub returns-in-Ok-clause-kept : goal.returns-in-Ok-clause-kept
returns-in-Ok-clause-kept g c =
    let none = none-row c.args.name c.self.inside.lists.entries (rw (← c.self.view_is) at c.requires) in
    rw (← c.self.view_is) (put-lists c.args.name c.self.inside.lists.entries c.insert.new.self.entries c.new.result none c.in-Ok.ensures.updates.0 c.new.ensures.items)

pub returns-in-Ok-clause-rooms : goal.returns-in-Ok-clause-rooms
returns-in-Ok-clause-rooms g c =
    let none = none-row c.args.name c.self.inside.lists.entries (rw (← c.self.view_is) at c.requires) in
    rw (← c.self.view_is) (put-rooms c.args.name c.self.inside.lists.entries c.insert.new.self.entries c.new.result none c.in-Ok.ensures.updates.0 c.new.ensures.items)

pub returns-in-Ok-clause-there : goal.returns-in-Ok-clause-there
returns-in-Ok-clause-there g c =
    let none = none-row c.args.name c.self.inside.lists.entries (rw (← c.self.view_is) at c.requires) in
    (put-there c.args.name c.self.inside.lists.entries c.insert.new.self.entries c.new.result none c.in-Ok.ensures.updates.0 c.new.ensures.items)
