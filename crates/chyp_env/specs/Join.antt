-- The ways to join two terms. No public clause cites this.
use Rattle.chyp_term.specs.Morphism.{Morphism, then, beside}
use Rattle.chyp_env.specs.declared.expansion.Join.{Join}
use Rattle.chyp_env.specs.declared.expansion.Join.TheVariants.{Then, Beside}

-- the two terms, joined in this way
abbrev pub join_of : Join → Morphism → Morphism → Morphism
join_of Then = then
join_of Beside = beside
