-- The tests of a row, part after part.
use Rattle.std.proofs.Common.{◌≡◌, ℕ, zero, suc, ◌+◌, ◌-◌, ◌<◌, ◌≤◌, List, [], ◌∷◌, ◌++◌, length, take, drop, map, get_or, slice_index_or, refl, sym, ◌∙◌, ap, ap₂, subst, arith}
use Rattle.std.specs.Prelude.{slice_index}
use Rattle.std.specs.List.{All, flat_map}
use Rattle.std.proofs.lemmas.List.{append-nil, drop_more, drop_all, drop-drop, get_or-drop, length-map, take_all, take_more}
use Rattle.std.proofs.lemmas.Grind.{flat_map-append}
use Rattle.std.proofs.lemmas.List.Elements.{All-nil, All-cons, All-more}
use Rattle.chyp_base.specs.declared.sort.Sort.{Sort}
use Rattle.chyp_term.specs.declared.shape.Shape.{Shape}
use Rattle.chyp_term.specs.Derivation.{empty}
use Rattle.chyp_term.specs.Morphism.{Morphism, then, beside as beside_terms, dom, cod, IsTyped}
use Rattle.chyp_syntax.specs.declared.term.TermAst.{TermAst}
use Rattle.chyp_syntax.specs.Term.{TermTrees, no_terms, term, chain, beside, terms_of, tree_of}
use Rattle.chyp_env.specs.Expansion.{expansion_in, expansions_in}
use Rattle.chyp_term.specs.Halving.{halved}
use Rattle.chyp_env.specs.Shape.{IsShape}
use Rattle.chyp_env.specs.Typing.{Test, meets, Holds, AllHold, FailsFirst, tests_of, tests_behind, tests_of_all}
use Rattle.chyp_env.proofs.Failing.{Reaches, reaches-start, reaches-more, reaches-end, reaches-fails, fails-front, fails-here, fails-behind}
use Rattle.chyp_env.proofs.Halves.{part_in, expansions-parts}
use Rattle.chyp_env.proofs.Holding.{hold-behind, hold-head, hold-tail}
use Rattle.chyp_env.proofs.Typed.{AreLinked, dom-then, cod-then, typed-then, dom-beside, cod-beside, typed-beside}

-- the terms of the parts
abbrev pub terms_in : (ℕ → Morphism) → List TermAst → List Morphism
terms_in meaning parts = map (part_in meaning) parts

-- the tests of a chain
abbrev pub chain_tests : (ℕ → Morphism) → List TermAst → List ℕ → List Test
chain_tests meaning parts semis = tests_of meaning (chain (terms_of (map tree_of parts)) semis)

-- the tests behind the part of this number
abbrev pub behind : (ℕ → Morphism) → List TermAst → List ℕ → ℕ → List Test
behind meaning parts semis i = tests_behind meaning (get_or (terms_in meaning parts) i empty) (terms_of (map tree_of (drop (i + 1) parts))) (drop i semis)

-- the term at a place
pub part_at : (meaning : ℕ → Morphism) (parts : List TermAst) (i : ℕ) (part : TermAst) → i < length parts → part ≡ slice_index_or parts i part
    → get_or (terms_in meaning parts) i empty ≡ part_in meaning part
part_at meaning parts i part within e = at parts i within ∙ sym (ap (part_in meaning) e)
  where
    at : (parts : List TermAst) (i : ℕ) → i < length parts → get_or (terms_in meaning parts) i empty ≡ part_in meaning (slice_index_or parts i part)
    at [] i h = absurd (omega arith)
    at (p ∷ parts) zero h = refl
    at (p ∷ parts) (suc i) h = at parts i (omega arith)

-- the tests of a part come in front of the one at its `;`, and of those behind the part
behind-more : (meaning : ℕ → Morphism) (parts : List TermAst) (semis : List ℕ) (i : ℕ) (part : TermAst) → i + 1 < length parts → part ≡ slice_index_or parts (i + 1) part
    → behind meaning parts semis i
    ≡ tests_of meaning (tree_of part) ++ (slice_index semis i, meets (get_or (terms_in meaning parts) i empty) (part_in meaning part)) ∷ behind meaning parts semis (i + 1)
behind-more meaning parts semis i part within e =
    let before : Morphism = get_or (terms_in meaning parts) i empty in
    let own : List Test = tests_of meaning (tree_of part) in
    let others : List TermAst = drop (i + 1 + 1) parts in
    let rest : drop (i + 1) parts ≡ part ∷ others = drop_more parts (i + 1) part within ∙ ap (λ p. p ∷ others) (sym e) in
    let semi : slice_index (drop i semis) 0 ≡ slice_index semis i = get_or-drop i semis 0 0 ∙ ap (slice_index semis) (let z : i + 0 ≡ i = omega arith in z) in
    let later : drop 1 (drop i semis) ≡ drop (i + 1) semis = drop-drop 1 i semis in
    let here : part_in meaning part ≡ get_or (terms_in meaning parts) (i + 1) empty = sym (part_at meaning parts (i + 1) part within e) in
    ap (λ xs. tests_behind meaning before (terms_of (map tree_of xs)) (drop i semis)) rest
    ∙ ap (λ n. own ++ (n, meets before (part_in meaning part)) ∷ tests_behind meaning (part_in meaning part) (terms_of (map tree_of others)) (drop 1 (drop i semis))) semi
    ∙ ap₂ (λ m ss. own ++ (slice_index semis i, meets before (part_in meaning part)) ∷ tests_behind meaning m (terms_of (map tree_of others)) ss) here later

-- behind the first part
pub chain-first : (meaning : ℕ → Morphism) (parts : List TermAst) (semis : List ℕ) (part : TermAst) → 0 < length parts → part ≡ slice_index_or parts 0 part
    → AllHold (tests_of meaning (tree_of part)) → Reaches (chain_tests meaning parts semis) (behind meaning parts semis 0)
chain-first meaning [] semis part within e h = absurd (omega arith)
chain-first meaning (p ∷ parts) semis part within e h =
    reaches-more (chain_tests meaning (p ∷ parts) semis) (tests_of meaning (tree_of p)) (behind meaning (p ∷ parts) semis 0)
    (reaches-start _ _ refl) (subst (λ (x : TermAst). AllHold (tests_of meaning (tree_of x))) e h)

pub chain-first-fails : (meaning : ℕ → Morphism) (parts : List TermAst) (semis : List ℕ) (part : TermAst) (token : ℕ) → 0 < length parts → part ≡ slice_index_or parts 0 part
    → FailsFirst (tests_of meaning (tree_of part)) token → FailsFirst (chain_tests meaning parts semis) token
chain-first-fails meaning [] semis part token within e h = absurd (omega arith)
chain-first-fails meaning (p ∷ parts) semis part token within e h =
    fails-front (tests_of meaning (tree_of p)) (behind meaning (p ∷ parts) semis 0) token (subst (λ (x : TermAst). FailsFirst (tests_of meaning (tree_of x)) token) e h)

-- behind the next part
pub chain-next : (meaning : ℕ → Morphism) (parts : List TermAst) (semis : List ℕ) (i : ℕ) (part : TermAst) → i + 1 < length parts → part ≡ slice_index_or parts (i + 1) part
    → Reaches (chain_tests meaning parts semis) (behind meaning parts semis i) → AllHold (tests_of meaning (tree_of part))
    → cod (get_or (terms_in meaning parts) i empty) ≡ dom (part_in meaning part) → Reaches (chain_tests meaning parts semis) (behind meaning parts semis (i + 1))
chain-next meaning parts semis i part within e r h meet =
    let tests : List Test = chain_tests meaning parts semis in
    let own : List Test = tests_of meaning (tree_of part) in
    let test : Test = (slice_index semis i, meets (get_or (terms_in meaning parts) i empty) (part_in meaning part)) in
    let rest : List Test = behind meaning parts semis (i + 1) in
    reaches-more tests (test ∷ []) rest
    (reaches-more tests own (test ∷ rest) (subst (λ (ts : List Test). Reaches tests ts) (behind-more meaning parts semis i part within e) r) h)
    (All-cons (λ test. Holds test.1) test [] meet (All-nil (λ test. Holds test.1)))

pub chain-next-fails : (meaning : ℕ → Morphism) (parts : List TermAst) (semis : List ℕ) (i : ℕ) (part : TermAst) (token : ℕ) → i + 1 < length parts → part ≡ slice_index_or parts (i + 1) part
    → Reaches (chain_tests meaning parts semis) (behind meaning parts semis i) → FailsFirst (tests_of meaning (tree_of part)) token
    → FailsFirst (chain_tests meaning parts semis) token
chain-next-fails meaning parts semis i part token within e r f =
    reaches-fails (chain_tests meaning parts semis) (behind meaning parts semis i) token r
    (subst (λ (ts : List Test). FailsFirst ts token) (sym (behind-more meaning parts semis i part within e)) (fails-front (tests_of meaning (tree_of part)) _ token f))

pub chain-apart : (meaning : ℕ → Morphism) (parts : List TermAst) (semis : List ℕ) (i : ℕ) (part : TermAst) → i + 1 < length parts → part ≡ slice_index_or parts (i + 1) part
    → Reaches (chain_tests meaning parts semis) (behind meaning parts semis i) → AllHold (tests_of meaning (tree_of part))
    → ¬ (cod (get_or (terms_in meaning parts) i empty) ≡ dom (part_in meaning part)) → FailsFirst (chain_tests meaning parts semis) (slice_index semis i)
chain-apart meaning parts semis i part within e r h wrong =
    let token : ℕ = slice_index semis i in
    let condition = meets (get_or (terms_in meaning parts) i empty) (part_in meaning part) in
    reaches-fails (chain_tests meaning parts semis) (behind meaning parts semis i) token r
    (subst (λ (ts : List Test). FailsFirst ts token) (sym (behind-more meaning parts semis i part within e))
    (fails-behind (tests_of meaning (tree_of part)) _ token h (fails-here token condition (behind meaning parts semis (i + 1)) wrong)))

-- behind the last part
pub chain-last : (meaning : ℕ → Morphism) (parts : List TermAst) (semis : List ℕ) (i : ℕ) → length parts ≤ i + 1
    → Reaches (chain_tests meaning parts semis) (behind meaning parts semis i) → AllHold (chain_tests meaning parts semis)
chain-last meaning parts semis i past r =
    let none : drop (i + 1) parts ≡ [] = drop_all (i + 1) parts past in
    reaches-end (chain_tests meaning parts semis) (subst (λ (ts : List Test). Reaches (chain_tests meaning parts semis) ts)
    (ap (λ (xs : List TermAst). tests_behind meaning (get_or (terms_in meaning parts) i empty) (terms_of (map tree_of xs)) (drop i semis)) none) r)

-- ---- tensors

-- the tests of a tensor
abbrev pub tensor_tests : (ℕ → Morphism) → List TermAst → List Test
tensor_tests meaning parts = tests_of_all meaning (terms_of (map tree_of parts))

-- the tests of the parts from this number on
abbrev pub beyond : (ℕ → Morphism) → List TermAst → ℕ → List Test
beyond meaning parts i = tests_of_all meaning (terms_of (map tree_of (drop i parts)))

beyond-more : (meaning : ℕ → Morphism) (parts : List TermAst) (i : ℕ) (part : TermAst) → i < length parts → part ≡ slice_index_or parts i part
    → beyond meaning parts i ≡ tests_of meaning (tree_of part) ++ beyond meaning parts (i + 1)
beyond-more meaning parts i part within e =
    ap (λ xs. tests_of_all meaning (terms_of (map tree_of xs))) (drop_more parts i part within ∙ ap (λ p. p ∷ drop (i + 1) parts) (sym e))

pub tensor-next : (meaning : ℕ → Morphism) (parts : List TermAst) (i : ℕ) (part : TermAst) → i < length parts → part ≡ slice_index_or parts i part
    → Reaches (tensor_tests meaning parts) (beyond meaning parts i) → AllHold (tests_of meaning (tree_of part)) → Reaches (tensor_tests meaning parts) (beyond meaning parts (i + 1))
tensor-next meaning parts i part within e r h =
    reaches-more (tensor_tests meaning parts) (tests_of meaning (tree_of part)) (beyond meaning parts (i + 1))
    (subst (λ (ts : List Test). Reaches (tensor_tests meaning parts) ts) (beyond-more meaning parts i part within e) r) h

pub tensor-next-fails : (meaning : ℕ → Morphism) (parts : List TermAst) (i : ℕ) (part : TermAst) (token : ℕ) → i < length parts → part ≡ slice_index_or parts i part
    → Reaches (tensor_tests meaning parts) (beyond meaning parts i) → FailsFirst (tests_of meaning (tree_of part)) token → FailsFirst (tensor_tests meaning parts) token
tensor-next-fails meaning parts i part token within e r f =
    reaches-fails (tensor_tests meaning parts) (beyond meaning parts i) token r
    (subst (λ (ts : List Test). FailsFirst ts token) (sym (beyond-more meaning parts i part within e)) (fails-front (tests_of meaning (tree_of part)) _ token f))

pub tensor-last : (meaning : ℕ → Morphism) (parts : List TermAst) (i : ℕ) → length parts ≤ i → Reaches (tensor_tests meaning parts) (beyond meaning parts i) → AllHold (tensor_tests meaning parts)
tensor-last meaning parts i past r =
    reaches-end (tensor_tests meaning parts) (subst (λ (ts : List Test). Reaches (tensor_tests meaning parts) ts)
    (ap (λ (xs : List TermAst). tests_of_all meaning (terms_of (map tree_of xs))) (drop_all i parts past)) r)

-- ---- parts that meet

-- a part that meets the first of others
cons_linked : (before next : Morphism) (ms : List Morphism) → cod before ≡ dom next → AreLinked (next ∷ ms) → AreLinked (before ∷ next ∷ ms)
cons_linked before next ms e h zero within = e
cons_linked before next ms e h (suc k) within = h k (omega arith)

-- where the tests behind a part hold, it and the parts behind it meet one another
pub behind-linked : (meaning : ℕ → Morphism) (before : Morphism) (rest : TermTrees) (semis : List ℕ) → AllHold (tests_behind meaning before rest semis)
    → AreLinked (before ∷ expansions_in meaning rest)
behind-linked meaning before no_terms semis h = λ k within. absurd (omega arith)
behind-linked meaning before (term next rest) semis h =
    let test : Test = (slice_index semis 0, meets before (expansion_in meaning next)) in
    let following : List Test = tests_behind meaning (expansion_in meaning next) rest (drop 1 semis) in
    let later = hold-behind (tests_of meaning next) (test ∷ following) h in
    cons_linked before (expansion_in meaning next) (expansions_in meaning rest) (hold-head test following later)
    (behind-linked meaning (expansion_in meaning next) rest (drop 1 semis) (hold-tail test following later))

-- the parts of a chain meet one another
pub chain_linked : (meaning : ℕ → Morphism) (parts : List TermAst) (semis : List ℕ) → AllHold (chain_tests meaning parts semis) → AreLinked (terms_in meaning parts)
chain_linked meaning [] semis h = λ k within. absurd (omega arith)
chain_linked meaning (p ∷ parts) semis h =
    subst AreLinked (expansions-parts meaning (p ∷ parts))
    (behind-linked meaning (part_in meaning p) (terms_of (map tree_of parts)) semis
    (hold-behind (tests_of meaning (tree_of p)) (tests_behind meaning (part_in meaning p) (terms_of (map tree_of parts)) semis) h))

-- ---- the types of rows

-- one more part is typed
pub typed_more : (meaning : ℕ → Morphism) (parts : List TermAst) (i : ℕ) (part : TermAst) → i < length parts → part ≡ slice_index_or parts i part
    → All IsTyped (take i (terms_in meaning parts)) → IsTyped (part_in meaning part) → All IsTyped (take (i + 1) (terms_in meaning parts))
typed_more meaning parts i part within e h k =
    let count : length (terms_in meaning parts) ≡ length parts = length-map parts (part_in meaning) in
    All-more IsTyped (terms_in meaning parts) i empty (omega arith) h (subst IsTyped (sym (part_at meaning parts i part within e)) k)

-- the type of a chain
pub chain_shape : (meaning : ℕ → Morphism) (parts : List TermAst) (semis : List ℕ) (i : ℕ) (shape : Shape) → i + 1 ≡ length parts
    → shape.dom ≡ dom (get_or (terms_in meaning parts) 0 empty) → shape.cod ≡ cod (get_or (terms_in meaning parts) i empty) → All IsTyped (take (i + 1) (terms_in meaning parts))
    → AllHold (chain_tests meaning parts semis) → IsShape shape (expansion_in meaning (chain (terms_of (map tree_of parts)) semis))
chain_shape meaning parts semis i shape end d c typed h =
    let terms : List Morphism = terms_in meaning parts in
    let count : length terms ≡ length parts = length-map parts (part_in meaning) in
    let last : i ≡ length terms - 1 = omega arith in
    let whole : All IsTyped terms = subst (λ (ms : List Morphism). All IsTyped ms) (take_all (i + 1) terms (omega arith)) typed in
    subst (λ (ms : List Morphism). IsShape shape (halved then ms)) (sym (expansions-parts meaning parts)) (record {
      dom = d ∙ sym (dom-then terms);
      cod = c ∙ ap (λ k. cod (get_or terms k empty)) last ∙ sym (cod-then terms);
      typed = typed-then terms whole (chain_linked meaning parts semis h);
    })

-- the wires of one more part
pub wires_more : (f : Morphism → List Sort) (meaning : ℕ → Morphism) (parts : List TermAst) (i : ℕ) (part : TermAst) (xs ys : List Sort) → i < length parts → part ≡ slice_index_or parts i part
    → xs ≡ flat_map f (take i (terms_in meaning parts)) → ys ≡ f (part_in meaning part) → xs ++ ys ≡ flat_map f (take (i + 1) (terms_in meaning parts))
wires_more f meaning parts i part xs ys within e h k =
    let terms : List Morphism = terms_in meaning parts in
    let count : length terms ≡ length parts = length-map parts (part_in meaning) in
    let m : Morphism = get_or terms i empty in
    ap₂ (λ (as' bs : List Sort). as' ++ bs) h (k ∙ sym (ap f (part_at meaning parts i part within e)) ∙ sym (append-nil (f m)))
    ∙ sym (flat_map-append f (take i terms) (m ∷ [])) ∙ sym (ap (flat_map f) (take_more terms i empty (omega arith)))

-- the type of a tensor
pub tensor_shape : (meaning : ℕ → Morphism) (parts : List TermAst) (i : ℕ) (shape : Shape) → length parts ≤ i
    → shape.dom ≡ flat_map dom (take i (terms_in meaning parts)) → shape.cod ≡ flat_map cod (take i (terms_in meaning parts)) → All IsTyped (take i (terms_in meaning parts))
    → IsShape shape (expansion_in meaning (beside (terms_of (map tree_of parts))))
tensor_shape meaning parts i shape end d c typed =
    let terms : List Morphism = terms_in meaning parts in
    let count : length terms ≡ length parts = length-map parts (part_in meaning) in
    let all : take i terms ≡ terms = take_all i terms (omega arith) in
    subst (λ (ms : List Morphism). IsShape shape (halved beside_terms ms)) (sym (expansions-parts meaning parts)) (record {
      dom = d ∙ ap (flat_map dom) all ∙ sym (dom-beside terms);
      cod = c ∙ ap (flat_map cod) all ∙ sym (cod-beside terms);
      typed = typed-beside terms (subst (λ (ms : List Morphism). All IsTyped ms) all typed);
    })
