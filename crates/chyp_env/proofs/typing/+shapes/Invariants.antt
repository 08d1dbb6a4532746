use Rattle.std.proofs.Common.{◌≡◌, ◌+◌, ◌*◌, ◌<◌, [], length, take, get_or}
use Rattle.std.specs.List.{All, flat_map}
use Rattle.chyp_term.specs.Derivation.{empty}
use Rattle.chyp_term.specs.Morphism.{dom, cod, IsTyped}
use Rattle.chyp_syntax.specs.Term.{tree_of}
use Rattle.chyp_env.specs.Scope.{term_at}
use Rattle.chyp_env.proofs.Failing.{Reaches}
use Rattle.chyp_env.proofs.Nodes.{nodes, nodes_in}
use Rattle.chyp_env.proofs.Rows.{terms_in, chain_tests, behind, tensor_tests, beyond}
use Rattle.chyp_env.proofs.typing.+shapes.Given as goal

abbrev pub decreases-shape_of_tree : goal.decreases-shape_of_tree
decreases-shape_of_tree l = 2 * nodes (tree_of l.tree.now)

abbrev pub decreases-shape_of_chain : goal.decreases-shape_of_chain
decreases-shape_of_chain l = 2 * nodes_in l.parts.now + 1

abbrev pub decreases-shape_of_tensor : goal.decreases-shape_of_tensor
decreases-shape_of_tensor l = 2 * nodes_in l.parts.now + 1

abbrev pub invariant-shape_of_chain-loop-i : goal.invariant-shape_of_chain-loop-i
invariant-shape_of_chain-loop-i l =
    let meaning = term_at l.scope in
    let terms = terms_in meaning l.parts in
    record {
      within : l.i < length l.parts;
      reaches : Reaches (chain_tests meaning l.parts l.semis) (behind meaning l.parts l.semis l.i);
      dom : l.shape.dom ≡ dom (get_or terms 0 empty);
      cod : l.shape.cod ≡ cod (get_or terms l.i empty);
      typed : All IsTyped (take (l.i + 1) terms);
    }

abbrev pub invariant-shape_of_tensor-loop-part : goal.invariant-shape_of_tensor-loop-part
invariant-shape_of_tensor-loop-part l =
    let meaning = term_at l.scope in
    let terms = terms_in meaning l.parts in
    record {
      reaches : Reaches (tensor_tests meaning l.parts) (beyond meaning l.parts l.part-index);
      dom : l.dom ≡ flat_map dom (take l.part-index terms);
      cod : l.cod ≡ flat_map cod (take l.part-index terms);
      typed : All IsTyped (take l.part-index terms);
    }
