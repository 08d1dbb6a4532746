-- What contracts see of a term.
use Rattle.std.specs.Prelude.{List, map}
use Rattle.chyp_term.specs.declared.term.Term.{Term}
use Rattle.chyp_term.specs.declared.term.Term.TheVariants.{Gen, Perm, Seq', Par'}
use Rattle.chyp_term.specs.Morphism.{Morphism, generator, permutation, then, beside}

-- the term, however its parts are shared
abbrev pub morphism_of : Term → Morphism
morphism_of (Gen name a b) = generator name a b
morphism_of (Perm a p) = permutation a p.value
morphism_of (Seq' _ s _ t) = then (morphism_of s) (morphism_of t)
morphism_of (Par' _ s _ t) = beside (morphism_of s) (morphism_of t)

-- each of the terms so
abbrev pub morphisms_of : List Term → List Morphism
morphisms_of terms = map morphism_of terms
