use Rattle.chyp_theory.proofs.Wires.{wires_decided}
use Rattle.chyp_theory.proofs.wires_are_decided.Goals as goal

pub returns : goal.returns
returns c = wires_decided _ _ c.requires.left_wires c.requires.right_wires c.requires.left_typed c.requires.right_typed
