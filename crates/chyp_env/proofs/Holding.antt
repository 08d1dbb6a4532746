-- The tests of a tree that hold, part by part.
use Rattle.std.proofs.Common.{◌≡◌, ℕ, List, [], ◌∷◌, ◌++◌, length, drop, map, Some, refl, ◌∙◌, ap, subst}
use Rattle.std.specs.List.{All}
use Rattle.std.specs.Prelude.{slice_index}
use Rattle.std.proofs.lemmas.List.{take_at, drop_at}
use Rattle.std.proofs.lemmas.List.Elements.{All-nil, All-cons, All-head, All-tail, All-take, All-drop, All-append}
use Rattle.chyp_term.specs.Morphism.{Morphism}
use Rattle.chyp_term.specs.Perm.{IsPermutation}
use Rattle.chyp_syntax.specs.declared.term.TermAst.{TermAst}
use Rattle.chyp_syntax.specs.declared.term.TermAst.TheVariants.{Swap, Chain, Beside}
use Rattle.chyp_syntax.specs.Term.{TermTree, chain, terms_of, tree_of}
use Rattle.chyp_syntax.proofs.Trees.{tree_of-Swap, tree_of-Chain, tree_of-Beside}
use Rattle.chyp_env.specs.Expansion.{expansion_in}
use Rattle.chyp_env.specs.Typing.{Test, permutes, meets, Holds, AllHold, tests_of, tests_behind, tests_of_all}

-- what holds of all tests holds of the first ones
pub hold-front : (xs ys : List Test) → AllHold (xs ++ ys) → AllHold xs
hold-front xs ys h = subst AllHold (take_at xs ys (length xs) refl) (All-take (λ test. Holds test.1) (length xs) (xs ++ ys) h)

-- and of the others
pub hold-behind : (xs ys : List Test) → AllHold (xs ++ ys) → AllHold ys
hold-behind xs ys h = subst AllHold (drop_at xs ys (length xs) refl) (All-drop (λ test. Holds test.1) (length xs) (xs ++ ys) h)

pub hold-both : (xs ys : List Test) → AllHold xs → AllHold ys → AllHold (xs ++ ys)
hold-both xs ys h k = All-append (λ test. Holds test.1) xs ys h k

pub hold-head : (test : Test) (rest : List Test) → AllHold (test ∷ rest) → Holds test.1
hold-head test rest h = All-head (λ test. Holds test.1) test rest h

pub hold-tail : (test : Test) (rest : List Test) → AllHold (test ∷ rest) → AllHold rest
hold-tail test rest h = All-tail (λ test. Holds test.1) test rest h

-- the tests of a part hold
abbrev pub PartHolds : (ℕ → Morphism) → TermAst → Type 0
PartHolds meaning part = AllHold (tests_of meaning (tree_of part))

behind_parts : (meaning : ℕ → Morphism) (before : Morphism) (parts : List TermAst) (semis : List ℕ)
    → AllHold (tests_behind meaning before (terms_of (map tree_of parts)) semis) → All (PartHolds meaning) parts
behind_parts meaning before [] semis h = All-nil (PartHolds meaning)
behind_parts meaning before (part ∷ parts) semis h =
    let next : Morphism = expansion_in meaning (tree_of part) in
    let rest : List Test = tests_behind meaning next (terms_of (map tree_of parts)) (drop 1 semis) in
    let test : Test = (slice_index semis 0, meets before next) in
    let own : List Test = tests_of meaning (tree_of part) in
    All-cons (PartHolds meaning) part parts (hold-front own (test ∷ rest) h)
    (behind_parts meaning next parts (drop 1 semis) (hold-tail test rest (hold-behind own (test ∷ rest) h)))

-- the tests of each part of a chain hold
pub chain_parts : (meaning : ℕ → Morphism) (parts : List TermAst) (semis : List ℕ)
    → AllHold (tests_of meaning (chain (terms_of (map tree_of parts)) semis)) → All (PartHolds meaning) parts
chain_parts meaning [] semis h = All-nil (PartHolds meaning)
chain_parts meaning (part ∷ parts) semis h =
    let own : List Test = tests_of meaning (tree_of part) in
    let rest : List Test = tests_behind meaning (expansion_in meaning (tree_of part)) (terms_of (map tree_of parts)) semis in
    All-cons (PartHolds meaning) part parts (hold-front own rest h) (behind_parts meaning _ parts semis (hold-behind own rest h))

-- the tests of each part of a tensor hold
pub tensor_parts : (meaning : ℕ → Morphism) (parts : List TermAst) → AllHold (tests_of_all meaning (terms_of (map tree_of parts))) → All (PartHolds meaning) parts
tensor_parts meaning [] h = All-nil (PartHolds meaning)
tensor_parts meaning (part ∷ parts) h =
    let own : List Test = tests_of meaning (tree_of part) in
    let rest : List Test = tests_of_all meaning (terms_of (map tree_of parts)) in
    All-cons (PartHolds meaning) part parts (hold-front own rest h) (tensor_parts meaning parts (hold-behind own rest h))

pub swap_permutes : (meaning : ℕ → Morphism) (tree : TermAst) (token : ℕ) (places : List ℕ) → tree ≡ Swap token (Some places)
    → AllHold (tests_of meaning (tree_of tree)) → IsPermutation (length places) places
swap_permutes meaning tree token places e h = hold-head (token, permutes places) [] (subst (λ (x : TermTree). AllHold (tests_of meaning x)) (ap tree_of e ∙ tree_of-Swap token (Some places)) h)

pub Chain_parts : (meaning : ℕ → Morphism) (tree : TermAst) (parts : List TermAst) (semis : List ℕ) → tree ≡ Chain parts semis
    → AllHold (tests_of meaning (tree_of tree)) → All (PartHolds meaning) parts
Chain_parts meaning tree parts semis e h =
    chain_parts meaning parts semis (subst (λ (x : TermTree). AllHold (tests_of meaning x)) (ap tree_of e ∙ tree_of-Chain parts semis) h)

pub Beside_parts : (meaning : ℕ → Morphism) (tree : TermAst) (parts : List TermAst) → tree ≡ Beside parts
    → AllHold (tests_of meaning (tree_of tree)) → All (PartHolds meaning) parts
Beside_parts meaning tree parts e h = tensor_parts meaning parts (subst (λ (x : TermTree). AllHold (tests_of meaning x)) (ap tree_of e ∙ tree_of-Beside parts) h)
