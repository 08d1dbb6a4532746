use Rattle.std.proofs.Common.{refl, Vec, Global}
use Rattle.std.specs.Str.{bytes_eq}
use Rattle.std.proofs.lemmas.Map.Made.{lookup-map_values}
use Rattle.chyp_match.proofs.lists.Lists.open.Goals as goal

pub put-requires : goal.put-requires
put-requires g c = rw (
  c.in_ok-share-in-None.ensures,
  ← c.self.view_is,
  lookup-map_values (λ (v : Vec _ Global). v.items) (bytes_eq c.args.name.now) c.self.inside.lists.entries,
  ←
      c.in-None.ensures.value,
) refl

pub returns-in-Some-clause-there : goal.returns-in-Some-clause-there
returns-in-Some-clause-there g c = rw (← c.self.view_is, lookup-map_values (λ (v : Vec _ Global). v.items) (bytes_eq c.args.name.now) c.self.inside.lists.entries, ← c.in-Some.ensures.value) refl
