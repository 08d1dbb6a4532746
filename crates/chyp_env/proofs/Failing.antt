-- The first test that fails.
use Rattle.std.proofs.Common.{◌≡◌, ◌⊎◌, inl, inr, ℕ, zero, suc, ◌<◌, List, [], ◌∷◌, ◌++◌, length, Some, refl, sym, ◌∙◌, ap, subst, arith}
use Rattle.std.specs.Prelude.{slice_get}
use Rattle.std.proofs.lemmas.List.{append_assoc, append-nil}
use Rattle.std.proofs.lemmas.List.Elements.{All-nil, All-cons}
use Rattle.chyp_term.proofs.Permuted.{get-append_left}
use Rattle.chyp_term.proofs.Positions.{slice_get-length}
use Rattle.chyp_term.specs.Morphism.{Morphism}
use Rattle.chyp_term.specs.Perm.{IsPermutation}
use Rattle.chyp_syntax.specs.declared.term.TermAst.{TermAst}
use Rattle.chyp_syntax.specs.declared.term.TermAst.TheVariants.{Swap}
use Rattle.chyp_syntax.specs.Term.{TermTree, tree_of}
use Rattle.chyp_syntax.proofs.Trees.{tree_of-Swap}
use Rattle.chyp_env.specs.Typing.{Test, Condition, permutes, Holds, AllHold, FailsFirst, tests_of}
use Rattle.chyp_env.proofs.Holding.{hold-both, hold-head, hold-tail}

-- the first of the first tests that fails is the first of all
pub fails-front : (xs ys : List Test) (token : ℕ) → FailsFirst xs token → FailsFirst (xs ++ ys) token
fails-front xs ys token f =
    let within : f.number < length xs = slice_get-length xs f.number (token, f.condition) f.there in
    record {
      number = f.number;
      condition = f.condition;
      there = get-append_left xs ys f.number within ∙ f.there;
      fails = f.fails;
      before = λ earlier test h e. f.before earlier test h (sym (get-append_left xs ys earlier (omega arith)) ∙ e);
    }

-- where a first test holds, the first that fails is behind it
fails-later : (test : Test) (tests : List Test) (token : ℕ) → Holds test.1 → FailsFirst tests token → FailsFirst (test ∷ tests) token
fails-later test tests token h f = record { number = suc f.number; condition = f.condition; there = f.there; fails = f.fails; before = earlier }
  where
    earlier : (k : ℕ) (other : Test) → k < suc f.number → slice_get (test ∷ tests) k ≡ Some other → Holds other.1
    earlier zero other k-in e = let same : test ≡ other = cc in subst (λ (x : Test). Holds x.1) same h
    earlier (suc k) other k-in e = f.before k other (omega arith) e

-- where the first tests hold, the first that fails is behind them
pub fails-behind : (xs ys : List Test) (token : ℕ) → AllHold xs → FailsFirst ys token → FailsFirst (xs ++ ys) token
fails-behind [] ys token h f = f
fails-behind (x ∷ xs) ys token h f = fails-later x (xs ++ ys) token (hold-head x xs h) (fails-behind xs ys token (hold-tail x xs h) f)

-- a first test that fails is the first that fails
pub fails-here : (token : ℕ) (condition : Condition) (rest : List Test) → ¬ Holds condition → FailsFirst ((token, condition) ∷ rest) token
fails-here token condition rest wrong = record { number = 0; condition = condition; there = refl; fails = wrong; before = λ k test h e. absurd (omega arith) }

-- these are the last of the tests, and all before them hold
pub record Reaches (tests rest : List Test) : Type 0 where
  pub done : List Test
  pub splits : tests ≡ done ++ rest
  pub hold : AllHold done

pub reaches-start : (tests rest : List Test) → tests ≡ rest → Reaches tests rest
reaches-start tests rest e = record { done = []; splits = e; hold = All-nil (λ test. Holds test.1) }

pub reaches-more : (tests xs rest : List Test) → Reaches tests (xs ++ rest) → AllHold xs → Reaches tests rest
reaches-more tests xs rest r h = record { done = r.done ++ xs; splits = r.splits ∙ sym (append_assoc r.done xs rest); hold = hold-both r.done xs r.hold h }

pub reaches-end : (tests : List Test) → Reaches tests [] → AllHold tests
reaches-end tests r = subst AllHold (sym (r.splits ∙ append-nil r.done)) r.hold

pub reaches-fails : (tests rest : List Test) (token : ℕ) → Reaches tests rest → FailsFirst rest token → FailsFirst tests token
reaches-fails tests rest token r f = subst (λ (ts : List Test). FailsFirst ts token) (sym r.splits) (fails-behind r.done rest token r.hold f)

-- tests hold, or there is a first that fails, where each condition holds or doesn't
pub tests-decided : ((condition : Condition) → Holds condition ⊎ ¬ Holds condition) → (tests : List Test) → AllHold tests ⊎ ((token : ℕ) × FailsFirst tests token)
tests-decided decides [] = inl (All-nil (λ test. Holds test.1))
tests-decided decides (test ∷ tests) = elim (decides test.1) as (λ x. AllHold (test ∷ tests) ⊎ ((token : ℕ) × FailsFirst (test ∷ tests) token)) [
  | inr wrong ↦ inr (test.0, fails-here test.0 test.1 tests wrong)
  | inl right ↦ elim (tests-decided decides tests) as (λ x. AllHold (test ∷ tests) ⊎ ((token : ℕ) × FailsFirst (test ∷ tests) token)) [
    | inl all ↦ inl (All-cons (λ test. Holds test.1) test tests right all)
    | inr f ↦ inr (f.0, fails-later test tests f.0 right f.1)
  ]
]

-- a `sw` whose places are no permutation fails at its own token
pub swap_fails : (meaning : ℕ → Morphism) (tree : TermAst) (token at : ℕ) (places : List ℕ) → tree ≡ Swap token (Some places) → at ≡ token
    → ¬ IsPermutation (length places) places → FailsFirst (tests_of meaning (tree_of tree)) at
swap_fails meaning tree token at places e same wrong =
    subst (λ (x : TermTree). FailsFirst (tests_of meaning x) at) (sym (ap tree_of e ∙ tree_of-Swap token (Some places)))
    (subst (λ (n : ℕ). FailsFirst ((token, permutes places) ∷ []) n) (sym same) (fails-here token (permutes places) [] wrong))
