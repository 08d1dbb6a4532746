use Rattle.std.proofs.Common.{[], refl, arith}
use Rattle.chyp_term.specs.Perm.{IsPermutation}
use Rattle.chyp_term.specs.Derivation.{same}
use Rattle.chyp_graph_tests.proofs.laws.laws_are_called_for_two_terms.Goals as goal

nothing_is : IsPermutation 0 []
nothing_is = record { size = refl; within = λ i h. absurd (omega arith); apart = λ i j h l e. absurd (omega arith) }

-- both are the diagram without wires
pub derivation_gives_same-requires : goal.derivation_gives_same-requires
derivation_gives_same-requires c = rw (c.in_ok-left.ensures, c.in_ok-right.ensures) (same nothing_is)

pub wires_are_decided-requires-clause-left_wires : goal.wires_are_decided-requires-clause-left_wires
wires_are_decided-requires-clause-left_wires c = rw (c.in_ok-left.ensures) tt

pub wires_are_decided-requires-clause-right_wires : goal.wires_are_decided-requires-clause-right_wires
wires_are_decided-requires-clause-right_wires c = rw (c.in_ok-right.ensures) tt

pub wires_are_decided-requires-clause-left_typed : goal.wires_are_decided-requires-clause-left_typed
wires_are_decided-requires-clause-left_typed c = rw (c.in_ok-left.ensures) nothing_is

pub wires_are_decided-requires-clause-right_typed : goal.wires_are_decided-requires-clause-right_typed
wires_are_decided-requires-clause-right_typed c = rw (c.in_ok-right.ensures) nothing_is
