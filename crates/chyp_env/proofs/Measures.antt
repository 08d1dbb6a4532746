-- The measures of rows.
use Rattle.std.proofs.Common.{◌≡◌, ℕ, ◌<◌, List, [], ◌∷◌, length, map, subst, arith}
use Rattle.chyp_term.specs.Morphism.{Morphism}
use Rattle.chyp_term.specs.Derivation.{empty}
use Rattle.chyp_syntax.specs.declared.term.TermAst.{TermAst}
use Rattle.chyp_env.specs.declared.expansion.Join.{Join}
use Rattle.chyp_env.specs.declared.sizes.Sizes.{Sizes}
use Rattle.chyp_env.specs.Join.{join_of}
use Rattle.chyp_term.specs.Halving.{halved}
use Rattle.chyp_env.specs.Sizes.{AreSizes}
use Rattle.chyp_env.proofs.Halves.{part_in}

-- measures are those of an equal term
pub sizes_is : (sizes : Sizes) (a b : Morphism) → a ≡ b → AreSizes sizes a → AreSizes sizes b
sizes_is sizes a b e h = subst (λ (m : Morphism). AreSizes sizes m) e h

-- a row without parts is empty
pub empty_measured : (meaning : ℕ → Morphism) (sizes : Sizes) (join : Join) (parts : List TermAst) → length parts < 1
    → AreSizes sizes empty → AreSizes sizes (halved (join_of join) (map (part_in meaning) parts))
empty_measured meaning sizes join [] none h = h
empty_measured meaning sizes join (part ∷ parts) none h = absurd (omega arith)
