use Rattle.std.proofs.Common.{◌≡◌, ◌∷◌, None, ◌+◌, ◌<◌, ◌≤◌, ℕ, List, [], length, get_or, slice_index_or, refl, sym, subst, ap, ◌∙◌, arith}
use Rattle.std.proofs.lemmas.Result.{err_from_is_err_and}
use Rattle.std.proofs.lemmas.List.Elements.{All-nil}
use Rattle.std.specs.Prelude.{slice_index}
use Rattle.chyp_term.specs.Derivation.{empty}
use Rattle.chyp_term.specs.Morphism.{Morphism, dom, cod, IsTyped}
use Rattle.chyp_term.specs.Perm.{IsPermutation}
use Rattle.chyp_syntax.specs.declared.term.TermAst.TheVariants.{Swap}
use Rattle.chyp_syntax.proofs.Trees.{tree_of-Wire, tree_of-Swap}
use Rattle.chyp_env.specs.Expansion.{expansion_in}
use Rattle.chyp_env.specs.Shape.{IsShape}
use Rattle.chyp_env.specs.Scope.{term_at}
use Rattle.chyp_env.specs.Typing.{FailsFirst}
use Rattle.chyp_env.proofs.Failing.{swap_fails}
use Rattle.chyp_env.proofs.Halves.{part_in}
use Rattle.chyp_env.proofs.Nodes.{part_nodes}
use Rattle.chyp_env.proofs.Typed.{one_place, two_places}
use Rattle.chyp_env.proofs.Rows.{terms_in, chain_tests, part_at, chain-first, chain-first-fails, chain-next, chain-next-fails, chain-apart, chain-last, tensor-next, tensor-next-fails, tensor-last, typed_more, chain_shape, wires_more, tensor_shape}
use Rattle.chyp_env.proofs.typing.+shapes.Goals as goal

pub shape_of_chain-returns-in_err-shape-clause-fails : goal.shape_of_chain-returns-in_err-shape-clause-fails
shape_of_chain-returns-in_err-shape-clause-fails t c = λ token e.
    let meaning = term_at c.args.scope.now in
    let p = err_from_is_err_and c.from_residual.result c.from_residual.ensures.1 in
    let item = c.in-Some.ensures.item in
    let f = c.in_err-shape.ensures.fails token (cc) in
    chain-first-fails meaning c.args.parts.now c.args.semis.now c.in-Some.first.now token item.3.0 item.1 f

pub shape_of_chain-loop-i-init : goal.shape_of_chain-loop-i-init
shape_of_chain-loop-i-init t c =
    let meaning = term_at c.args.scope.now in
    let parts = c.args.parts.now in
    let part = c.in-Some.first.now in
    let item = c.in-Some.ensures.item in
    let within : 0 < length parts = item.3.0 in
    let is : part ≡ slice_index_or parts 0 part = item.1 in
    let place = part_at meaning parts 0 part within is in
    let shape = c.in_ok-shape.ensures.shape in
    record {
      within = within;
      reaches = chain-first meaning parts c.args.semis.now part within is (c.in_ok-shape.ensures.holds refl);
      dom = shape.dom ∙ sym (ap dom place);
      cod = shape.cod ∙ sym (ap cod place);
      typed = typed_more meaning parts 0 part within is (All-nil IsTyped) shape.typed;
    }

pub shape_of_chain-shape_of_tree-requires-in-loop-i : goal.shape_of_chain-shape_of_tree-requires-in-loop-i
shape_of_chain-shape_of_tree-requires-in-loop-i t c =
    let items = c.args.parts.now in
    let within : c.loop-i.i + 1 < length items = omega arith in
    let part = part_nodes items (c.loop-i.i + 1) c.index-parts-i.result within c.index-parts-i.is in
    let dec = c.decreases in
    omega arith

pub shape_of_chain-returns-in_err-next-clause-fails : goal.shape_of_chain-returns-in_err-next-clause-fails
shape_of_chain-returns-in_err-next-clause-fails t c = λ token e.
    let meaning = term_at c.args.scope.now in
    let p = err_from_is_err_and c.from_residual-in_err-next.result c.from_residual-in_err-next.ensures.1 in
    let i = c.loop-i.i in
    let within : i + 1 < length c.args.parts.now = omega arith in
    chain-next-fails meaning c.args.parts.now c.args.semis.now i c.index-parts-i.result token within c.index-parts-i.is c.loop-i.invariant.reaches (c.in_err-next.ensures.fails token (cc))

pub shape_of_chain-returns-in_err-shape-2-clause-fails : goal.shape_of_chain-returns-in_err-shape-2-clause-fails
shape_of_chain-returns-in_err-shape-2-clause-fails t c = λ token e.
    let meaning = term_at c.args.scope.now in
    let p = err_from_is_err_and c.from_residual-in_err-shape-2.result c.from_residual-in_err-shape-2.ensures.1 in
    let i = c.loop-i.i in
    let parts = c.args.parts.now in
    let part = c.index-parts-i.result in
    let within : i + 1 < length parts = omega arith in
    let fault = c.in_err-shape-2.ensures.fails in
    let at : slice_index c.args.semis.now i ≡ token = cc (c.token_at-token.ensures, fault.0) in
    let apart = λ (meet : cod (get_or (terms_in meaning parts) i empty) ≡ dom (part_in meaning part)).
    fault.1 (c.loop-i.invariant.cod ∙ meet ∙ sym c.in_ok-next.ensures.shape.dom) in
    subst (λ (n : ℕ). FailsFirst (chain_tests meaning parts c.args.semis.now) n) at
    (chain-apart meaning parts c.args.semis.now i part within c.index-parts-i.is c.loop-i.invariant.reaches (c.in_ok-next.ensures.holds refl) apart)

pub shape_of_chain-loop-i-preserved : goal.shape_of_chain-loop-i-preserved
shape_of_chain-loop-i-preserved t c =
    let meaning = term_at c.args.scope.now in
    let parts = c.args.parts.now in
    let i = c.loop-i.i in
    let part = c.index-parts-i.result in
    let within : i + 1 < length parts = omega arith in
    let before = c.loop-i.invariant in
    let next = c.in_ok-next.ensures.shape in
    let place = part_at meaning parts (i + 1) part within c.index-parts-i.is in
    let meet = sym before.cod ∙ c.in_ok-shape-2.ensures.meets refl ∙ next.dom in
    record {
      within = within;
      reaches = chain-next meaning parts c.args.semis.now i part within c.index-parts-i.is before.reaches (c.in_ok-next.ensures.holds refl) meet;
      dom = c.in_ok-shape-2.ensures.dom ∙ before.dom;
      cod = c.in_ok-shape-2.ensures.cod ∙ next.cod ∙ sym (ap cod place);
      typed = typed_more meaning parts (i + 1) part within c.index-parts-i.is before.typed next.typed;
    }

pub shape_of_chain-returns-clause-shape : goal.shape_of_chain-returns-clause-shape
shape_of_chain-returns-clause-shape t c =
    let meaning = term_at c.args.scope.now in
    let parts = c.args.parts.now in
    let i = c.loop-i.i in
    let now = c.loop-i.invariant in
    let past : length parts ≤ i + 1 = omega arith in
    let hold = chain-last meaning parts c.args.semis.now i past now.reaches in
    chain_shape meaning parts c.args.semis.now i c.loop-i.shape (omega arith) now.dom now.cod now.typed hold

pub shape_of_tensor-shape_of_tree-requires : goal.shape_of_tensor-shape_of_tree-requires
shape_of_tensor-shape_of_tree-requires t c =
    let items = c.args.parts.now in
    let part = part_nodes items c.loop-part.part-index c.part-item.result c.loop-part-test.true c.part-item.is in
    let dec = c.decreases in
    omega arith

pub shape_of_tensor-returns-in_err-shape-clause-fails : goal.shape_of_tensor-returns-in_err-shape-clause-fails
shape_of_tensor-returns-in_err-shape-clause-fails t c = λ token e.
    let meaning = term_at c.args.scope.now in
    let p = err_from_is_err_and c.from_residual.result c.from_residual.ensures.1 in
    tensor-next-fails meaning c.args.parts.now c.loop-part.part-index c.part-item.result token c.loop-part-test.true c.part-item.is c.loop-part.invariant.reaches
    (c.in_err-shape.ensures.fails token (cc))

pub shape_of_tensor-loop-part-preserved : goal.shape_of_tensor-loop-part-preserved
shape_of_tensor-loop-part-preserved t c =
    let meaning = term_at c.args.scope.now in
    let parts = c.args.parts.now in
    let i = c.loop-part.part-index in
    let part = c.part-item.result in
    let within = c.loop-part-test.true in
    let before = c.loop-part.invariant in
    let next = c.in_ok-shape.ensures.shape in
    record {
      reaches = tensor-next meaning parts i part within c.part-item.is before.reaches (c.in_ok-shape.ensures.holds refl);
      dom = c.in_ok-dom.ensures ∙ wires_more dom meaning parts i part c.loop-part.dom c.in_ok-shape.shape.dom within c.part-item.is before.dom next.dom;
      cod = c.in_ok-cod.ensures ∙ wires_more cod meaning parts i part c.loop-part.cod c.in_ok-shape.shape.cod within c.part-item.is before.cod next.cod;
      typed = typed_more meaning parts i part within c.part-item.is before.typed next.typed;
    }

pub shape_of_tensor-returns-clause-shape : goal.shape_of_tensor-returns-clause-shape
shape_of_tensor-returns-clause-shape t c =
    let meaning = term_at c.args.scope.now in
    let now = c.loop-part.invariant in
    tensor_shape meaning c.args.parts.now c.loop-part.part-index (record { dom = c.loop-part.dom; cod = c.loop-part.cod }) c.loop-part-test.false now.dom now.cod now.typed

pub shape_of_tree-returns-in_ok-plain_shape-in-Wire-clause-shape : goal.shape_of_tree-returns-in_ok-plain_shape-in-Wire-clause-shape
shape_of_tree-returns-in_ok-plain_shape-in-Wire-clause-shape t c =
    let meaning = term_at c.args.scope.now in
    subst (λ (m : Morphism). IsShape c.in_ok-plain_shape-in-Wire.field-0 m) (sym (ap (part_in meaning) c.in-Wire.is ∙ ap (expansion_in meaning) tree_of-Wire))
    (c.in_ok-plain_shape-in-Wire.ensures (0 ∷ []) refl one_place)

pub shape_of_tree-returns-in-Some-clause-fails : goal.shape_of_tree-returns-in-Some-clause-fails
shape_of_tree-returns-in-Some-clause-fails t c = λ token e.
    let meaning = term_at c.args.scope.now in
    let places = c.in-Some.places in
    let fault = c.shape_of_swap.ensures.fails token e in
    let wrong = λ (permutes : IsPermutation (length places) places). fault.1 (subst (λ (ps : List ℕ). IsPermutation (length ps) ps) (sym c.as_slice.ensures) permutes) in
    swap_fails meaning c.args.tree.now c.in-Swap.token token places (c.in-Swap.is ∙ ap (Swap c.in-Swap.token) c.in-Some.is) fault.0 wrong

pub shape_of_tree-returns-in_ok-plain_shape-in-None-clause-shape : goal.shape_of_tree-returns-in_ok-plain_shape-in-None-clause-shape
shape_of_tree-returns-in_ok-plain_shape-in-None-clause-shape t c =
    let meaning = term_at c.args.scope.now in
    subst (λ (m : Morphism). IsShape c.in_ok-plain_shape-in-None.field-0 m)
    (sym (ap (part_in meaning) (c.in-Swap.is ∙ ap (Swap c.in-Swap.token) c.in-None.is) ∙ ap (expansion_in meaning) (tree_of-Swap c.in-Swap.token None)))
    (c.in_ok-plain_shape-in-None.ensures (1 ∷ 0 ∷ []) refl two_places)

pub shape_of_chain-returns-clause-holds : goal.shape_of_chain-returns-clause-holds
shape_of_chain-returns-clause-holds t c = λ ok.
    let meaning = term_at c.args.scope.now in
    let past : length c.args.parts.now ≤ c.loop-i.i + 1 = omega arith in
    chain-last meaning c.args.parts.now c.args.semis.now c.loop-i.i past c.loop-i.invariant.reaches

pub shape_of_tensor-returns-clause-holds : goal.shape_of_tensor-returns-clause-holds
shape_of_tensor-returns-clause-holds t c = λ ok.
    tensor-last (term_at c.args.scope.now) c.args.parts.now c.loop-part.part-index c.loop-part-test.false c.loop-part.invariant.reaches
