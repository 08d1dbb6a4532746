use Rattle.chyp_theory.proofs.Wires.{wired, wires_permutation, wires_decided}
use Rattle.chyp_theory.proofs.wires_are_permutations.Goals as goal

pub returns-clause-permute : goal.returns-clause-permute
returns-clause-permute c = λ t w ty. let h = wired t w ty in (h.perm, h.cods)

pub returns-clause-equal : goal.returns-clause-equal
returns-clause-equal c = wires_permutation

pub returns-clause-decided : goal.returns-clause-decided
returns-clause-decided c = wires_decided
