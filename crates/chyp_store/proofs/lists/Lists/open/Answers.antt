use Rattle.std.proofs.Common.{refl}
use Rattle.std.specs.Str.{bytes_eq}
use Rattle.chyp_store.specs.Lists.{row_of}
use Rattle.std.proofs.lemmas.Map.Made.{lookup-map_values}
use Rattle.chyp_store.proofs.lists.Lists.open.Goals as goal

pub put-requires : goal.put-requires
put-requires g c = rw (c.in_ok-share-in-None.ensures, ← c.self.view_is, lookup-map_values row_of (bytes_eq c.args.name.now) c.self.inside.lists.entries, ← c.in-None.ensures.value) refl

pub returns-in-Some-clause-there : goal.returns-in-Some-clause-there
returns-in-Some-clause-there g c = rw (← c.self.view_is, lookup-map_values row_of (bytes_eq c.args.name.now) c.self.inside.lists.entries, ← c.in-Some.ensures.value) refl
