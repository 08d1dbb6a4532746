use Rattle.std.proofs.Common.{◌≡◌, ◌-◌, ◌/◌, ◌<◌, ◌≤◌, ◌∷◌, [], List, length, take, drop, map, refl, sym, ap, ◌∙◌, arith, length-take, length-drop}
use Rattle.std.proofs.lemmas.List.{take_rest}
use Rattle.chyp_term.specs.Morphism.{then, beside}
use Rattle.chyp_syntax.specs.declared.term.TermAst.{TermAst}
use Rattle.chyp_syntax.specs.declared.term.TermAst.TheVariants.{Swap}
use Rattle.chyp_syntax.proofs.Trees.{tree_of-Wire, tree_of-Empty, tree_of-Swap}
use Rattle.chyp_env.specs.declared.expansion.Join.TheVariants.{Then, Beside}
use Rattle.chyp_env.specs.Expansion.{expansion_in, plain_permutation, plain_wires}
use Rattle.chyp_env.specs.Join.{join_of}
use Rattle.chyp_term.specs.Halving.{halved}
use Rattle.chyp_env.specs.Scope.{term_at}
use Rattle.chyp_env.proofs.Halves.{expansion-Chain, expansion-Beside, halved-map, part_in}
use Rattle.chyp_env.proofs.Measures.{sizes_is, empty_measured}
use Rattle.chyp_env.proofs.Nodes.{nodes_in, part_nodes, halves_nodes, enough_nodes}
use Rattle.chyp_env.proofs.sizes.+sizes.Goals as goal

pub sizes_of-returns-in-Wire : goal.sizes_of-returns-in-Wire
sizes_of-returns-in-Wire t c =
    let meaning = term_at c.args.scope.now in
    sizes_is c.sizes_of_permutation.result (plain_permutation (0 ∷ [])) (part_in meaning c.args.tree.now)
    (sym (ap (part_in meaning) c.in-Wire.is ∙ ap (expansion_in meaning) tree_of-Wire)) (c.sizes_of_permutation.ensures (plain_wires 1) (0 ∷ []) refl)

pub sizes_of-returns-in-Empty : goal.sizes_of-returns-in-Empty
sizes_of-returns-in-Empty t c =
    let meaning = term_at c.args.scope.now in
    sizes_is c.sizes_of_permutation-in-Empty.result (plain_permutation []) (part_in meaning c.args.tree.now)
    (sym (ap (part_in meaning) c.in-Empty.is ∙ ap (expansion_in meaning) tree_of-Empty)) (c.sizes_of_permutation-in-Empty.ensures [] [] refl)

pub sizes_of-returns-in-Some : goal.sizes_of-returns-in-Some
sizes_of-returns-in-Some t c =
    let meaning = term_at c.args.scope.now in
    let places = c.in-Some.places in
    sizes_is c.sizes_of_permutation-in-Some.result (plain_permutation places) (part_in meaning c.args.tree.now)
    (sym (ap (part_in meaning) (c.in-Swap.is ∙ ap (Swap c.in-Swap.token) c.in-Some.is) ∙ ap (expansion_in meaning) (tree_of-Swap c.in-Swap.token _)))
    (c.sizes_of_permutation-in-Some.ensures (plain_wires (length places)) places (sym c.len.ensures))

pub sizes_of-returns-in-None : goal.sizes_of-returns-in-None
sizes_of-returns-in-None t c =
    let meaning = term_at c.args.scope.now in
    sizes_is c.sizes_of_permutation-in-None.result (plain_permutation (1 ∷ 0 ∷ [])) (part_in meaning c.args.tree.now)
    (sym (ap (part_in meaning) (c.in-Swap.is ∙ ap (Swap c.in-Swap.token) c.in-None.is) ∙ ap (expansion_in meaning) (tree_of-Swap c.in-Swap.token _)))
    (c.sizes_of_permutation-in-None.ensures (plain_wires 2) (1 ∷ 0 ∷ []) refl)

pub sizes_of-returns-in-Chain : goal.sizes_of-returns-in-Chain
sizes_of-returns-in-Chain t c =
    let meaning = term_at c.args.scope.now in
    let parts = c.in-Chain.parts in
    let same = ap (λ (xs : List TermAst). halved then (map (part_in meaning) xs)) c.as_slice.ensures
    ∙ sym (ap (part_in meaning) c.in-Chain.is ∙ expansion-Chain meaning parts c.in-Chain.semis) in
    sizes_is c.sizes_of_row.result _ _ same (c.sizes_of_row.ensures Then)

pub sizes_of-returns-in-Beside : goal.sizes_of-returns-in-Beside
sizes_of-returns-in-Beside t c =
    let meaning = term_at c.args.scope.now in
    let parts = c.in-Beside.parts in
    let same = ap (λ (xs : List TermAst). halved beside (map (part_in meaning) xs)) c.as_slice-in-Beside.ensures
    ∙ sym (ap (part_in meaning) c.in-Beside.is ∙ expansion-Beside meaning parts) in
    sizes_is c.sizes_of_row-in-Beside.result _ _ same (c.sizes_of_row-in-Beside.ensures Beside)

pub sizes_of_row-sizes_of-requires : goal.sizes_of_row-sizes_of-requires
sizes_of_row-sizes_of-requires t c =
    let items = c.args.parts.now in
    let some : 0 < length items = omega arith in
    let size = part_nodes items 0 c.part-item.result some c.part-item.is in
    let dec = c.decreases in
    omega arith

pub sizes_of_row-sizes_of_row-first-requires : goal.sizes_of_row-sizes_of_row-first-requires
sizes_of_row-sizes_of_row-first-requires t c =
    let items = c.args.parts.now in
    let half = length items / 2 in
    let two : 2 ≤ length items = c.in_default.len_at_least in
    let size = halves_nodes half items in
    let others = enough_nodes (drop half items) in
    let count = length-drop half items in
    let dec = c.decreases in
    omega arith

pub sizes_of_row-sizes_of_row-rest-requires : goal.sizes_of_row-sizes_of_row-rest-requires
sizes_of_row-sizes_of_row-rest-requires t c =
    let items = c.args.parts.now in
    let half = length items / 2 in
    let two : 2 ≤ length items = c.in_default.len_at_least in
    let size = halves_nodes half items in
    let others = enough_nodes (take half items) in
    let count = length-take half items in
    let dec = c.decreases in
    let same : take (length items - half) (drop half items) ≡ drop half items = take_rest items half in
    let rest = ap nodes_in same in
    omega arith

pub sizes_of_row-returns-in-empty : goal.sizes_of_row-returns-in-empty
sizes_of_row-returns-in-empty t c = λ join.
    let meaning = term_at c.args.scope.now in
    empty_measured meaning c.sizes_of_permutation.result join c.args.parts.now c.in-empty.len_below (c.sizes_of_permutation.ensures [] [] refl)

pub sizes_of_row-returns-in_default : goal.sizes_of_row-returns-in_default
sizes_of_row-returns-in_default t c = λ join.
    let meaning = term_at c.args.scope.now in
    let items = c.args.parts.now in
    let half = length items / 2 in
    let two : 2 ≤ length items = c.in_default.len_at_least in
    let same : take (length items - half) (drop half items) ≡ drop half items = take_rest items half in
    let terms = λ (xs : List TermAst). halved (join_of join) (map (part_in meaning) xs) in
    let rest = sizes_is c.sizes_of_row-rest.result _ _ (ap terms same) (c.sizes_of_row-rest.ensures join) in
    sizes_is c.joined_sizes.result _ _ (sym (halved-map (join_of join) (part_in meaning) items two))
    (c.joined_sizes.ensures join (terms (take half items)) (terms (drop half items)) (c.sizes_of_row-first.ensures join) rest)
