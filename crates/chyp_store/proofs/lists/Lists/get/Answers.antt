use Rattle.std.proofs.Common.{refl, sym, ◌∙◌}
use Rattle.chyp_store.proofs.Rows.{row-list}
use Rattle.chyp_store.proofs.lists.Lists.get.Goals as goal

pub returns-in-Some : goal.returns-in-Some
returns-in-Some g c = rw (← c.self.view_is) (c.deref.ensures.value ∙ sym (row-list c.args.name.now c.self.inside.lists.entries ∙ rw (← c.in-Some.ensures.value) refl))

pub returns-in-None : goal.returns-in-None
returns-in-None g c = rw (← c.self.view_is) (sym (row-list c.args.name.now c.self.inside.lists.entries ∙ rw (← c.in-None.ensures.value) refl))
