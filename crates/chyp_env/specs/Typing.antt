-- What typing asks, token by token: the tests of a term, and the first one that fails.
use Rattle.std.specs.Prelude.{ℕ, ◌≡◌, ◌<◌, List, [], ◌∷◌, ◌++◌, length, None, Some, All, drop, slice_get, slice_index}
use Rattle.chyp_syntax.specs.Term.{TermTree, TermTrees, named, wire, empty, swap, chain, beside, no_terms, term}
use Rattle.chyp_term.specs.Morphism.{Morphism, dom, cod}
use Rattle.chyp_term.specs.Perm.{IsPermutation}
use Rattle.chyp_env.specs.Expansion.{expansion_in}

-- what typing asks at a token: that places are a permutation; that the codomain of what stands before a `;` is the domain
-- of what comes after it; that a term has the type of the first one
pub data Condition : Type 0 where
  permutes : (places : List ℕ) → Condition
  meets : (before after : Morphism) → Condition
  agrees : (first other : Morphism) → Condition

-- the condition holds
abbrev pub Holds : Condition → Type 0
Holds (permutes places) = IsPermutation (length places) places
Holds (meets before after) = cod before ≡ dom after
Holds (agrees first other) = (dom first ≡ dom other) × (cod first ≡ cod other)

-- a condition with the token that is at fault where it doesn't hold
abbrev pub Test : Type 0
Test = ℕ × Condition

abbrev mutual
  -- The tests of a term, in their order: from the left, each part of a chain before the test at the `;` in front of it.
  -- `meaning` is the term that a name stands for, by the number of its token.
  pub tests_of : (ℕ → Morphism) → TermTree → List Test
  tests_of meaning (named token) = []
  tests_of meaning wire = []
  tests_of meaning empty = []
  tests_of meaning (swap token None) = []
  tests_of meaning (swap token (Some places)) = (token, permutes places) ∷ []
  tests_of meaning (chain no_terms semis) = []
  tests_of meaning (chain (term first rest) semis) = tests_of meaning first ++ tests_behind meaning (expansion_in meaning first) rest semis
  tests_of meaning (beside parts) = tests_of_all meaning parts

  -- the tests of the parts of a chain that stand behind a part, with the tokens of their `;`
  pub tests_behind : (ℕ → Morphism) → Morphism → TermTrees → List ℕ → List Test
  tests_behind meaning before no_terms semis = []
  tests_behind meaning before (term next rest) semis =
      tests_of meaning next ++ (slice_index semis 0, meets before (expansion_in meaning next))
      ∷ tests_behind meaning (expansion_in meaning next) rest (drop 1 semis)

  -- the tests of the parts of a tensor
  pub tests_of_all : (ℕ → Morphism) → TermTrees → List Test
  tests_of_all meaning no_terms = []
  tests_of_all meaning (term first rest) = tests_of meaning first ++ tests_of_all meaning rest

-- all tests hold
abbrev pub AllHold : List Test → Type 0
AllHold tests = All (λ test. Holds test.1) tests

-- the first test that doesn't hold is at this token
pub record FailsFirst (tests : List Test) (token : ℕ) : Type 0 where
  pub number : ℕ
  pub condition : Condition
  pub there : slice_get tests number ≡ Some (token, condition)
  pub fails : ¬ Holds condition
  pub before : (earlier : ℕ) (test : Test) → earlier < number → slice_get tests earlier ≡ Some test → Holds test.1
