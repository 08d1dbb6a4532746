use Rattle.std.proofs.Common.{◌≡◌, ◌-◌, ◌<◌, ◌≤◌, ◌/◌, suc, List, [], length, map, take, drop, arith, subst, ap, ap₂, sym, ◌∙◌, length-take, length-drop}
use Rattle.std.proofs.lemmas.List.{take_rest}
use Rattle.std.proofs.lemmas.List.Elements.{All-same, All-take, All-drop, All-get_or}
use Rattle.std.specs.List.{All}
use Rattle.chyp_term.specs.Morphism.{then, beside}
use Rattle.chyp_syntax.specs.declared.term.TermAst.{TermAst}
use Rattle.chyp_syntax.specs.declared.term.TermAst.TheVariants.{Swap}
use Rattle.chyp_syntax.specs.Term.{tree_of}
use Rattle.chyp_env.specs.Join.{join_of}
use Rattle.chyp_term.specs.Halving.{halved}
use Rattle.chyp_env.specs.Scope.{term_at}
use Rattle.chyp_env.proofs.Halves.{expansion-Chain, expansion-Beside, halved-map, part_in, term_is}
use Rattle.chyp_env.proofs.Nodes.{nodes, nodes_in, nodes-Chain, nodes-Beside, part_nodes, halves_nodes, enough_nodes}
use Rattle.chyp_env.proofs.Holding.{swap_permutes, Chain_parts, Beside_parts, PartHolds}
use Rattle.chyp_env.proofs.expansion.+terms.Goals as goal

pub expand-written-requires : goal.expand-written-requires
expand-written-requires t c =
    let meaning = term_at c.args.scope.now in
    rw c.as_slice.ensures (swap_permutes meaning c.args.tree.now c.in-Swap.token c.in-Some.places (c.in-Swap.is ∙ ap (Swap c.in-Swap.token) c.in-Some.is) c.requires)

pub expand-row-requires : goal.expand-row-requires
expand-row-requires t c =
    let meaning = term_at c.args.scope.now in
    let parts = c.in-Chain.parts in
    let items = c.as_slice-in-Chain.result.now in
    let size : nodes (tree_of c.args.tree.now) ≡ suc (nodes_in items) =
    ap (λ (x : TermAst). nodes (tree_of x)) c.in-Chain.is ∙ nodes-Chain parts c.in-Chain.semis ∙ ap (λ (xs : List TermAst). suc (nodes_in xs)) (sym c.as_slice-in-Chain.ensures) in
    let dec = c.decreases in
    let hold : All (PartHolds meaning) items =
    All-same (PartHolds meaning) items parts c.as_slice-in-Chain.ensures (Chain_parts meaning c.args.tree.now parts c.in-Chain.semis c.in-Chain.is c.requires) in
    (omega arith, hold)

pub expand-row-requires-in-Beside : goal.expand-row-requires-in-Beside
expand-row-requires-in-Beside t c =
    let meaning = term_at c.args.scope.now in
    let parts = c.in-Beside.parts in
    let items = c.as_slice-in-Beside.result.now in
    let size : nodes (tree_of c.args.tree.now) ≡ suc (nodes_in items) =
    ap (λ (x : TermAst). nodes (tree_of x)) c.in-Beside.is ∙ nodes-Beside parts ∙ ap (λ (xs : List TermAst). suc (nodes_in xs)) (sym c.as_slice-in-Beside.ensures) in
    let dec = c.decreases in
    let hold : All (PartHolds meaning) items =
    All-same (PartHolds meaning) items parts c.as_slice-in-Beside.ensures (Beside_parts meaning c.args.tree.now parts c.in-Beside.is c.requires) in
    (omega arith, hold)

pub expand-returns-in-Chain : goal.expand-returns-in-Chain
expand-returns-in-Chain t c =
    let meaning = term_at c.args.scope.now in
    let parts = c.in-Chain.parts in
    let same = ap (λ (xs : List TermAst). halved then (map (part_in meaning) xs)) c.as_slice-in-Chain.ensures
    ∙ sym (ap (part_in meaning) c.in-Chain.is ∙ expansion-Chain meaning parts c.in-Chain.semis) in
    term_is c.row.result _ _ same c.row.ensures

pub expand-returns-in-Beside : goal.expand-returns-in-Beside
expand-returns-in-Beside t c =
    let meaning = term_at c.args.scope.now in
    let parts = c.in-Beside.parts in
    let same = ap (λ (xs : List TermAst). halved beside (map (part_in meaning) xs)) c.as_slice-in-Beside.ensures
    ∙ sym (ap (part_in meaning) c.in-Beside.is ∙ expansion-Beside meaning parts) in
    term_is c.row-in-Beside.result _ _ same c.row-in-Beside.ensures

pub row-expand-requires : goal.row-expand-requires
row-expand-requires t c =
    let meaning = term_at c.args.scope.now in
    let items = c.args.parts.now in
    let part = c.part-item.result in
    let some : 0 < length items = omega arith in
    let size = part_nodes items 0 part some c.part-item.is in
    let dec = c.decreases in
    let hold : PartHolds meaning part = subst (PartHolds meaning) (sym c.part-item.is) (All-get_or (PartHolds meaning) items 0 part some c.requires) in
    (omega arith, hold)

pub row-row-requires : goal.row-row-requires
row-row-requires t c =
    let meaning = term_at c.args.scope.now in
    let items = c.args.parts.now in
    let half = length items / 2 in
    let two : 2 ≤ length items = c.in_default.len_at_least in
    let size = halves_nodes half items in
    let others = enough_nodes (drop half items) in
    let count = length-drop half items in
    let dec = c.decreases in
    (omega arith, All-take (PartHolds meaning) half items c.requires)

pub row-row-requires-in_default : goal.row-row-requires-in_default
row-row-requires-in_default t c =
    let meaning = term_at c.args.scope.now in
    let items = c.args.parts.now in
    let half = length items / 2 in
    let two : 2 ≤ length items = c.in_default.len_at_least in
    let size = halves_nodes half items in
    let others = enough_nodes (take half items) in
    let count = length-take half items in
    let dec = c.decreases in
    let same : take (length items - half) (drop half items) ≡ drop half items = take_rest items half in
    let rest = ap nodes_in same in
    (omega arith, All-same (PartHolds meaning) _ _ same (All-drop (PartHolds meaning) half items c.requires))

pub row-returns-in_ok-rest-in_default : goal.row-returns-in_ok-rest-in_default
row-returns-in_ok-rest-in_default t c =
    let meaning = term_at c.args.scope.now in
    let items = c.args.parts.now in
    let half = length items / 2 in
    let join = join_of c.args.join in
    let two : 2 ≤ length items = c.in_default.len_at_least in
    let same : take (length items - half) (drop half items) ≡ drop half items = take_rest items half in
    let whole = halved-map join (part_in meaning) items two in
    let rest = ap (λ (xs : List TermAst). halved join (map (part_in meaning) xs)) same in
    term_is c.joined.result _ _ (ap₂ join c.in_ok-first-in_default.ensures (c.in_ok-rest-in_default.ensures ∙ rest) ∙ sym whole) c.joined.ensures
