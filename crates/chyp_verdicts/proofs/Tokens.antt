-- A verdict names a token of its statement, or the place behind its last one.
use Rattle.std.proofs.Common.{◌≡◌, ℕ, ◌+◌, ◌<◌, ◌≤◌, List, [], ◌∷◌, ◌++◌, length, map, flat_map, drop, Option, Some, None, slice_get, refl, ◌∙◌, ap, arith}
use Rattle.std.specs.Prelude.{Bool, option_map, slice_index}
use Rattle.std.specs.List.{AllByRecursion, cons_option, filter_map}
use Rattle.std.specs.Option.{option_map_or}
use Rattle.chyp_base.specs.Verdict.{token_of}
use Rattle.chyp_base.specs.declared.verdict.Verdict.{Verdict}
use Rattle.chyp_base.specs.declared.verdict.Verdict.TheVariants.{Clash}
use Rattle.chyp_syntax.specs.declared.step.ReasonAst.{ReasonAst}
use Rattle.chyp_syntax.specs.Numbered.{numbered}
use Rattle.chyp_syntax.specs.Statement.{StatementTree, generator as a_gen, abbreviation as a_let, rule, rewrite, inclusion, showing}
use Rattle.chyp_syntax.specs.Step.{StepTree}
use Rattle.chyp_syntax.specs.Term.{TermTree, TermTrees, named, wire, empty, swap, chain, beside, no_terms, term}
use Rattle.chyp_syntax.proofs.Numbered.{length-numbered}
use Rattle.chyp_term.specs.Morphism.{Morphism}
use Rattle.chyp_term.proofs.Distinct.{all-append}
use Rattle.chyp_env.specs.Environment.{Sense, generator, abbreviation, equation, unproved as not_proved, broken, Binding}
use Rattle.chyp_env.specs.Expansion.{expansion_in}
use Rattle.chyp_env.specs.Import.{all_passed_on, first_clash}
use Rattle.chyp_env.specs.Scope.{Scope, binding_at, term_at}
use Rattle.chyp_env.specs.Site.{Imported, nothing, absent, on_cycle, there, Site}
use Rattle.chyp_env.specs.Typing.{Test, tests_of, tests_behind, tests_of_all}
use Rattle.chyp_names.specs.Elaboration.{IsRefused, declared, at_import, at_name, too_big, mistyped, unproved, fault_of_module, import_fault, prefix_at, tests_at}
use Rattle.chyp_names.specs.Naming.{Use, in_term, in_reason, in_show, fault_in_reason, fault_in_term, fault_of, fault_or_unknown, names_in, names_in_all, names_of_reason}
use Rattle.chyp_names.specs.Naming.{unproved_token, unproved_use, uses_in, uses_in_goal, uses_in_step, uses_of}
use Rattle.chyp_names.specs.Trees.{first_tree, steps_of}
use Rattle.chyp_names.specs.Typing.{tests_of_other, tests_of_steps}
use Rattle.chyp_judge.specs.declared.judged.Judged.{Judged}
use Rattle.chyp_judge.specs.declared.judged.Judged.TheVariants.{Differs, Good, NoRewrite, SimpDiffers, SimpLimit, TooWide}
use Rattle.chyp_verdicts.specs.Judged.{no_sentence, refused, accepted, by_steps}
use Rattle.chyp_verdicts.specs.Sites.{EachVerdictNamesAToken}
use Rattle.chyp_verdicts.specs.Steps.{IsVerdictOnMoves, Move, refusal_at, stops, unfinished, proved}
use Rattle.chyp_verdicts.proofs.Within.{AreWithin, GoalWithin, StatementWithin, StepWithin, TreeWithin, TreesWithin, all-mapped, all-at, words-within, statement-within, statement-long}

-- ---- uses of names

mutual
  names-within : (n : ℕ) (tree : TermTree) → TreeWithin n tree → AreWithin n (names_in tree)
  names-within n (named token) h = (h, tt)
  names-within n wire h = tt
  names-within n empty h = tt
  names-within n (swap token places) h = tt
  names-within n (chain parts semis) h = all-names-within n parts h.0
  names-within n (beside parts) h = all-names-within n parts h

  all-names-within : (n : ℕ) (parts : TermTrees) → TreesWithin n parts → AreWithin n (names_in_all parts)
  all-names-within n no_terms h = tt
  all-names-within n (term first rest) h =
      all-append (λ (k : ℕ). k ≤ n) (names_in first) (names_in_all rest) (names-within n first h.0) (all-names-within n rest h.1)

-- the token of a use
abbrev token_used : Use → ℕ
token_used (in_term token) = token
token_used (in_reason token) = token
token_used (in_show token) = token

abbrev UsesWithin : ℕ → List Use → Type 0
UsesWithin n uses = AllByRecursion (λ (u : Use). token_used u ≤ n) uses

uses-append : (n : ℕ) (us vs : List Use) → UsesWithin n us → UsesWithin n vs → UsesWithin n (us ++ vs)
uses-append n = all-append (λ (u : Use). token_used u ≤ n)

tree-uses : (n : ℕ) (tree : TermTree) → TreeWithin n tree → UsesWithin n (uses_in tree)
tree-uses n tree h = all-mapped (λ (u : Use). token_used u ≤ n) in_term (names_in tree) (names-within n tree h)

goal-uses : (n : ℕ) (goal : Option TermTree) → GoalWithin n goal → UsesWithin n (uses_in_goal goal)
goal-uses n None h = tt
goal-uses n (Some tree) h = tree-uses n tree h

step-uses : (n : ℕ) (steps : List StepTree) → AllByRecursion (StepWithin n) steps → UsesWithin n (flat_map uses_in_step steps)
step-uses n [] h = tt
step-uses n (step ∷ steps) h =
    let by = all-mapped (λ (u : Use). token_used u ≤ n) in_reason (names_of_reason step.reason) h.0.2 in
    uses-append n (uses_in_step step) (flat_map uses_in_step steps)
    (uses-append n (uses_in_goal step.goal) (map in_reason (names_of_reason step.reason)) (goal-uses n step.goal h.0.1) by) (step-uses n steps h.1)

uses-within : (n : ℕ) (tree : StatementTree) → StatementWithin n tree → UsesWithin n (uses_of tree)
uses-within n (showing name) h = (h, tt)
uses-within n tree h =
    uses-append n (uses_in_goal (first_tree tree)) (flat_map uses_in_step (steps_of tree)) (goal-uses n (first_tree tree) h.0) (step-uses n (steps_of tree) h.1)

-- what the first of some items gives is of one of them
first-of : {A B : Type 0} (P : A → Type 0) (Q : B → Type 0) (f : A → Option B) → ((x : A) (y : B) → P x → f x ≡ Some y → Q y) → (xs : List A) → AllByRecursion P xs
    → (y : B) → slice_get (filter_map f xs) 0 ≡ Some y → Q y
first-of P Q f each [] h y e = absurd cc
first-of P Q f each (x ∷ xs) h y e = go (f x) refl e (first-of P Q f each xs h.1 y)
  where
    go : (o : Option _) → f x ≡ o → slice_get (cons_option o (filter_map f xs)) 0 ≡ Some y → (slice_get (filter_map f xs) 0 ≡ Some y → Q y) → Q y
    go None i e rest = rest e
    go (Some v) i e rest = let same : v ≡ y = cc in each x y h.0 (i ∙ ap Some same)

-- the token that the verdict names, if it names one, stands no later
abbrev NamesWithin : ℕ → Verdict → Type 0
NamesWithin n v = (token : ℕ) → token_of v ≡ Some token → token ≤ n

some-same : (a b n : ℕ) → Some a ≡ Some b → a ≤ n → b ≤ n
some-same a b n e h = let same : a ≡ b = cc in omega arith

sense-fault : (n token : ℕ) (s : Sense) (v : Verdict) → token ≤ n → (fault_in_term s token ≡ Some v) → NamesWithin n v
sense-fault n token (generator name dom cod) v h e k f = absurd cc
sense-fault n token (abbreviation m) v h e k f = absurd cc
sense-fault n token broken v h e k f = let same : Some token ≡ Some k = cc in some-same token k n same h
sense-fault n token (equation first last) v h e k f = let same : Some token ≡ Some k = cc in some-same token k n same h
sense-fault n token not_proved v h e k f = let same : Some token ≡ Some k = cc in some-same token k n same h

reason-fault : (n token : ℕ) (s : Sense) (v : Verdict) → token ≤ n → (fault_in_reason s token ≡ Some v) → NamesWithin n v
reason-fault n token (equation first last) v h e k f = absurd cc
reason-fault n token not_proved v h e k f = absurd cc
reason-fault n token broken v h e k f = let same : Some token ≡ Some k = cc in some-same token k n same h
reason-fault n token (generator name dom cod) v h e k f = let same : Some token ≡ Some k = cc in some-same token k n same h
reason-fault n token (abbreviation m) v h e k f = let same : Some token ≡ Some k = cc in some-same token k n same h

unknown-fault : (n token : ℕ) (fault : Sense → ℕ → Option Verdict) → ((s : Sense) (v : Verdict) → fault s token ≡ Some v → NamesWithin n v) → (o : Option Binding) (v : Verdict)
    → token ≤ n → fault_or_unknown fault o token ≡ Some v → NamesWithin n v
unknown-fault n token fault each None v h e k f = let same : Some token ≡ Some k = cc in some-same token k n same h
unknown-fault n token fault each (Some b) v h e k f = each b.sense v e k f

-- a fault of a name is at its token
use-fault : (scope : Scope) (n : ℕ) (u : Use) (v : Verdict) → token_used u ≤ n → fault_of scope u ≡ Some v → NamesWithin n v
use-fault scope n (in_term token) v h e = unknown-fault n token fault_in_term (λ s w i. sense-fault n token s w h i) (binding_at scope token) v h e
use-fault scope n (in_reason token) v h e = unknown-fault n token fault_in_reason (λ s w i. reason-fault n token s w h i) (binding_at scope token) v h e
use-fault scope n (in_show token) v h e = unknown-fault n token (λ s at. None) (λ s w i. absurd cc) (binding_at scope token) v h e

-- and so is one that rests on a rewrite that is not proved
use-unproved : (scope : Scope) (n : ℕ) (u : Use) (t : ℕ) → token_used u ≤ n → unproved_use scope u ≡ Some t → t ≤ n
use-unproved scope n (in_term token) t h e = absurd cc
use-unproved scope n (in_show token) t h e = absurd cc
use-unproved scope n (in_reason token) t h e = bound (binding_at scope token) e
  where
    sensed : (b : Binding) (s : Sense) → unproved_token (Some (record { name = b.name; origin = b.origin; sense = s })) token ≡ Some t → t ≤ n
    sensed b not_proved i = some-same token t n i h
    sensed b (generator name dom cod) i = absurd cc
    sensed b (abbreviation m) i = absurd cc
    sensed b (equation first last) i = absurd cc
    sensed b broken i = absurd cc

    bound : (o : Option Binding) → unproved_token o token ≡ Some t → t ≤ n
    bound None i = absurd cc
    bound (Some b) i = sensed b b.sense i

-- ---- tests

abbrev TestsWithin : ℕ → List Test → Type 0
TestsWithin n tests = AllByRecursion (λ (t : Test). t.0 ≤ n) tests

tests-append : (n : ℕ) (ts us : List Test) → TestsWithin n ts → TestsWithin n us → TestsWithin n (ts ++ us)
tests-append n = all-append (λ (t : Test). t.0 ≤ n)

first-semi : (n : ℕ) (semis : List ℕ) → AreWithin n semis → slice_index semis 0 ≤ n
first-semi n [] h = omega arith
first-semi n (semi ∷ semis) h = h.0

later-semis : (n : ℕ) (semis : List ℕ) → AreWithin n semis → AreWithin n (drop 1 semis)
later-semis n [] h = tt
later-semis n (semi ∷ semis) h = h.1

mutual
  tree-tests : (n : ℕ) (meaning : ℕ → Morphism) (tree : TermTree) → TreeWithin n tree → TestsWithin n (tests_of meaning tree)
  tree-tests n meaning (named token) h = tt
  tree-tests n meaning wire h = tt
  tree-tests n meaning empty h = tt
  tree-tests n meaning (swap token None) h = tt
  tree-tests n meaning (swap token (Some places)) h = (h, tt)
  tree-tests n meaning (chain no_terms semis) h = tt
  tree-tests n meaning (chain (term first rest) semis) h =
      tests-append n (tests_of meaning first) (tests_behind meaning (expansion_in meaning first) rest semis) (tree-tests n meaning first h.0.0)
      (behind-tests n meaning (expansion_in meaning first) rest semis h.0.1 h.1)
  tree-tests n meaning (beside parts) h = all-tests n meaning parts h

  behind-tests : (n : ℕ) (meaning : ℕ → Morphism) (before : Morphism) (parts : TermTrees) (semis : List ℕ) → TreesWithin n parts → AreWithin n semis
      → TestsWithin n (tests_behind meaning before parts semis)
  behind-tests n meaning before no_terms semis h s = tt
  behind-tests n meaning before (term next rest) semis h s =
      tests-append n (tests_of meaning next) _ (tree-tests n meaning next h.0)
      (first-semi n semis s, behind-tests n meaning (expansion_in meaning next) rest (drop 1 semis) h.1 (later-semis n semis s))

  all-tests : (n : ℕ) (meaning : ℕ → Morphism) (parts : TermTrees) → TreesWithin n parts → TestsWithin n (tests_of_all meaning parts)
  all-tests n meaning no_terms h = tt
  all-tests n meaning (term first rest) h =
      tests-append n (tests_of meaning first) (tests_of_all meaning rest) (tree-tests n meaning first h.0) (all-tests n meaning rest h.1)

other-tests : (n : ℕ) (meaning : ℕ → Morphism) (first : Morphism) (equals : ℕ) (tree : TermTree) → equals ≤ n → TreeWithin n tree
    → TestsWithin n (tests_of_other meaning first equals tree)
other-tests n meaning first equals tree e h = tests-append n (tests_of meaning tree) _ (tree-tests n meaning tree h) (e, tt)

step-tests : (n : ℕ) (meaning : ℕ → Morphism) (first : Morphism) (steps : List StepTree) → AllByRecursion (StepWithin n) steps
    → TestsWithin n (tests_of_steps meaning first steps)
step-tests n meaning first [] h = tt
step-tests n meaning first (step ∷ steps) h = go step.goal step.equals step.reason h.0 (step-tests n meaning first steps h.1)
  where
    go : (goal : Option TermTree) (equals : ℕ) (reason : ReasonAst) → StepWithin n (record { equals = equals; goal = goal; reason = reason })
        → TestsWithin n (tests_of_steps meaning first steps)
        → TestsWithin n (tests_of_steps meaning first (record { equals = equals; goal = goal; reason = reason } ∷ steps))
    go None equals reason own rest = rest
    go (Some tree) equals reason own rest =
        tests-append n (tests_of_other meaning first equals tree) (tests_of_steps meaning first steps) (other-tests n meaning first equals tree own.0 own.1) rest

tests-within : (n : ℕ) (scope : Scope) (tree : StatementTree) → StatementWithin n tree → TestsWithin n (tests_at scope tree)
tests-within n scope (showing name) h = tt
tests-within n scope tree h = go (first_tree tree) h.0 h.1
  where
    go : (first : Option TermTree) → GoalWithin n first → AllByRecursion (StepWithin n) (steps_of tree)
        → TestsWithin n (option_map_or (λ t. tests_of (term_at scope) t ++ tests_of_steps (term_at scope) (expansion_in (term_at scope) t) (steps_of tree)) first [])
    go None f s = tt
    go (Some t) f s =
        tests-append n (tests_of (term_at scope) t) _ (tree-tests n (term_at scope) t f)
        (step-tests n (term_at scope) (expansion_in (term_at scope) t) (steps_of tree) s)

-- ---- verdicts

-- a fault of an import is at its second word
import-within : (site : Site) (n : ℕ) (tree : StatementTree) (v : Verdict) → 1 ≤ n → import_fault site tree ≡ Some v → NamesWithin n v
import-within site n (inclusion imported prefix) v long e k f = go site.imported e k f
  where
    clash : (o : Option (List ℕ)) → option_map Clash o ≡ Some v → NamesWithin n v
    clash None i k f = absurd cc
    clash (Some name) i k f = absurd cc

    go : (i : Imported) → fault_of_module site.scope.env i (prefix_at site.scope prefix) ≡ Some v → NamesWithin n v
    go nothing i k f = absurd cc
    go absent i k f = let same : Some 1 ≡ Some k = cc in some-same 1 k n same long
    go on_cycle i k f = let same : Some 1 ≡ Some k = cc in some-same 1 k n same long
    go (there env) i k f = clash (first_clash site.scope.env (all_passed_on (prefix_at site.scope prefix) env)) i k f
import-within site n (a_gen name dom cod) v long e k f = absurd cc
import-within site n (a_let name tree) v long e k f = absurd cc
import-within site n (rule name left equals right) v long e k f = absurd cc
import-within site n (rewrite name first steps) v long e k f = absurd cc
import-within site n (showing name) v long e k f = absurd cc

refused-within : (site : Site) (n : ℕ) (tree : StatementTree) (v : Verdict) → 1 ≤ n → StatementWithin n tree → IsRefused site tree v → NamesWithin n v
refused-within site n tree v long h (declared d) k f = some-same 1 k n f long
refused-within site n tree v long h (at_import d i) k f = import-within site n tree v long i k f
refused-within site n tree v long h (at_name d i e) k f =
    first-of (λ (u : Use). token_used u ≤ n) (NamesWithin n) (fault_of site.scope) (use-fault site.scope n) (uses_of tree) (uses-within n tree h) v e k f
refused-within site n tree v long h (too_big d i e b) k f = absurd cc
refused-within site n tree v long h (mistyped {token} d i e b fails) k f =
    let at = all-at (λ (t : Test). t.0 ≤ n) (tests_at site.scope tree) fails.number (token, fails.condition) fails.there (tests-within n site.scope tree h) in
    some-same token k n f at
refused-within site n tree v long h (unproved {token} d i e b all u) k f =
    let at = first-of (λ (u : Use). token_used u ≤ n) (λ (t : ℕ). t ≤ n) (unproved_use site.scope) (use-unproved site.scope n) (uses_of tree) (uses-within n tree h) token u in
    some-same token k n f at

-- a verdict on steps names no token
judged-none : (step : ℕ) (judged : Judged) (v : Verdict) → refusal_at step judged ≡ Some v → (k : ℕ) → token_of v ≡ Some k → ⊥
judged-none step Good v e k f = absurd cc
judged-none step Differs v e k f = absurd cc
judged-none step (NoRewrite occurrences) v e k f = absurd cc
judged-none step (TooWide placements) v e k f = absurd cc
judged-none step SimpDiffers v e k f = absurd cc
judged-none step SimpLimit v e k f = absurd cc

steps-none : (moves : List Move) (o : Bool) (v : Verdict) → IsVerdictOnMoves moves o v → (k : ℕ) → token_of v ≡ Some k → ⊥
steps-none moves o v (stops s) k f = judged-none (s.k + 1) s.judged v s.refuses k f
steps-none moves o v (unfinished g p) k f = absurd cc
steps-none moves o v (proved g p) k f = absurd cc

pub token-within : EachVerdictNamesAToken
token-within site v k (no_sentence {k = at} fails) f = some-same at k (length site.scope.words) f fails.within
token-within site v k (refused {tree} s r) f =
    let n = length site.scope.words in
    let long : 1 < length (numbered site.scope.words) = statement-long s.statement in
    let same = length-numbered site.scope.words in
    refused-within site n tree v (omega arith) (statement-within n s.statement (words-within n site.scope.words (omega arith))) r k f
token-within site v k (accepted s p e) f = absurd cc
token-within site v k (by_steps s p x) f = absurd (steps-none _ _ v x k f)
