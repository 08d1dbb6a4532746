-- How the parts of a row are joined. No public clause cites this.
use Rattle.chyp_term.specs.Morphism.{Morphism, then, beside}
use Rattle.chyp_extractor.specs.declared.join.Join.{Join}
use Rattle.chyp_extractor.specs.declared.join.Join.TheVariants.{Then, Beside}

-- the term of two terms so joined
abbrev pub join_of : Join → Morphism → Morphism → Morphism
join_of Then s t = then s t
join_of Beside s t = beside s t
