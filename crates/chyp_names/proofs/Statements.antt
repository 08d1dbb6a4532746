-- The terms of trees and of statements whose tests hold are typed.
use Rattle.std.proofs.Common.{cond, true, false, ◌≡◌, ℕ, List, [], ◌∷◌, ◌++◌, Option, Some, None, refl, sym, ◌∙◌, subst}
use Rattle.std.specs.Prelude.{map, slice_index, slice_get}
use Rattle.std.specs.List.{All}
use Rattle.std.proofs.lemmas.List.Elements.{All-nil, All-cons, All-head, All-tail}
use Rattle.std.specs.Option.{option_map_or}
use Rattle.std.specs.Str.{bytes_eq}
use Rattle.chyp_term.specs.Derivation.{IsEquation, empty as nothing}
use Rattle.chyp_term.specs.Morphism.{Morphism, dom, cod, IsTyped}
use Rattle.chyp_syntax.specs.declared.step.ReasonAst.{ReasonAst}
use Rattle.chyp_syntax.specs.declared.step.ReasonAst.TheVariants.{Plain}
use Rattle.chyp_syntax.specs.Statement.{StatementTree, generator, abbreviation, rule, rewrite, inclusion, showing}
use Rattle.chyp_syntax.specs.Step.{StepTree}
use Rattle.chyp_syntax.specs.Term.{TermTree, TermTrees, named, wire, empty, swap, chain, beside, no_terms, term}
use Rattle.chyp_env.specs.Expansion.{expansion_in, expansions_in}
use Rattle.chyp_env.specs.Environment.{Binding, binding_of}
use Rattle.chyp_env.specs.Scope.{Scope, term_of, term_at}
use Rattle.chyp_env.specs.Site.{Site}
use Rattle.chyp_names.specs.Elaboration.{expansion_at, terms_of, tests_at}
use Rattle.chyp_syntax.specs.Words.{bytes_at}
use Rattle.chyp_env.specs.Typing.{Test, permutes, meets, agrees, AllHold, tests_of, tests_behind, tests_of_all}
use Rattle.chyp_env.proofs.Rows.{behind-linked}
use Rattle.chyp_env.proofs.Holding.{hold-front, hold-behind, hold-head, hold-tail}
use Rattle.chyp_env.proofs.Typed.{no_place, one_place, two_places, plain_typed, typed-beside, typed-then}
use Rattle.chyp_names.specs.Trees.{goals_of}
use Rattle.chyp_names.specs.Typing.{tests_of_other, tests_of_steps}

mutual
  -- a tree whose tests hold has a typed term
  pub typed-of-tests : (meaning : ℕ → Morphism) → ((k : ℕ) → IsTyped (meaning k)) → (tree : TermTree) → AllHold (tests_of meaning tree) → IsTyped (expansion_in meaning tree)
  typed-of-tests meaning typed (named token) h = typed token
  typed-of-tests meaning typed wire h = one_place
  typed-of-tests meaning typed empty h = no_place
  typed-of-tests meaning typed (swap token None) h = two_places
  typed-of-tests meaning typed (swap token (Some places)) h = plain_typed places (hold-head (token, permutes places) [] h)
  typed-of-tests meaning typed (chain no_terms semis) h = no_place
  typed-of-tests meaning typed (chain (term first rest) semis) h =
      let front = hold-front (tests_of meaning first) (tests_behind meaning (expansion_in meaning first) rest semis) h in
      let behind = hold-behind (tests_of meaning first) (tests_behind meaning (expansion_in meaning first) rest semis) h in
      typed-then (expansion_in meaning first ∷ expansions_in meaning rest)
      (All-cons IsTyped (expansion_in meaning first) (expansions_in meaning rest) (typed-of-tests meaning typed first front)
      (typed-behind meaning typed (expansion_in meaning first) rest semis behind))
      (behind-linked meaning (expansion_in meaning first) rest semis behind)
  typed-of-tests meaning typed (beside parts) h = typed-beside (expansions_in meaning parts) (typed-of-all meaning typed parts h)

  -- so do the parts of a chain behind a part
  typed-behind : (meaning : ℕ → Morphism) → ((k : ℕ) → IsTyped (meaning k)) → (before : Morphism) (rest : TermTrees) (semis : List ℕ)
      → AllHold (tests_behind meaning before rest semis) → All IsTyped (expansions_in meaning rest)
  typed-behind meaning typed before no_terms semis h = All-nil IsTyped
  typed-behind meaning typed before (term next rest) semis h =
      All-cons IsTyped (expansion_in meaning next) (expansions_in meaning rest) (typed-of-tests meaning typed next (hold-front (tests_of meaning next) _ h))
      (typed-behind meaning typed (expansion_in meaning next) rest _
      (hold-tail (slice_index semis 0, meets before (expansion_in meaning next)) _ (hold-behind (tests_of meaning next) _ h)))

  -- and the parts of a tensor
  typed-of-all : (meaning : ℕ → Morphism) → ((k : ℕ) → IsTyped (meaning k)) → (parts : TermTrees) → AllHold (tests_of_all meaning parts) → All IsTyped (expansions_in meaning parts)
  typed-of-all meaning typed no_terms h = All-nil IsTyped
  typed-of-all meaning typed (term first rest) h =
      All-cons IsTyped (expansion_in meaning first) (expansions_in meaning rest) (typed-of-tests meaning typed first (hold-front (tests_of meaning first) _ h))
      (typed-of-all meaning typed rest (hold-behind (tests_of meaning first) _ h))

-- ---- statements

pub equation-same : (s : Morphism) → IsTyped s → IsEquation s s
equation-same s typed = record { left = typed; right = typed; doms = refl; cods = refl }

-- a term behind an `=` whose tests hold has the type of the first one
other-alike : (meaning : ℕ → Morphism) → ((k : ℕ) → IsTyped (meaning k)) → (first : Morphism) → IsTyped first → (equals : ℕ) (tree : TermTree)
    → AllHold (tests_of_other meaning first equals tree) → IsEquation first (expansion_in meaning tree)
other-alike meaning typed first first-typed equals tree h =
    let test : Test = (equals, agrees first (expansion_in meaning tree)) in
    let agree = hold-head test [] (hold-behind (tests_of meaning tree) (test ∷ []) h) in
    record { left = first-typed; right = typed-of-tests meaning typed tree (hold-front (tests_of meaning tree) (test ∷ []) h); doms = agree.0; cods = agree.1 }

-- so has each goal of steps whose tests hold
steps-alike : (meaning : ℕ → Morphism) → ((k : ℕ) → IsTyped (meaning k)) → (first : Morphism) → IsTyped first → (steps : List StepTree)
    → AllHold (tests_of_steps meaning first steps) → All (IsEquation first) (map (expansion_in meaning) (goals_of steps))
steps-alike meaning typed first first-typed [] h = All-nil (IsEquation first)
steps-alike meaning typed first first-typed (step ∷ steps) h = at step.goal step.equals step.reason (steps-alike meaning typed first first-typed steps) h
  where
    at : (goal : Option TermTree) (equals : ℕ) (reason : ReasonAst)
        → (AllHold (tests_of_steps meaning first steps) → All (IsEquation first) (map (expansion_in meaning) (goals_of steps)))
        → AllHold (tests_of_steps meaning first (record { equals = equals; goal = goal; reason = reason } ∷ steps))
        → All (IsEquation first) (map (expansion_in meaning) (goals_of (record { equals = equals; goal = goal; reason = reason } ∷ steps)))
    at None equals reason rest h = rest h
    at (Some tree) equals reason rest h =
        let own = tests_of_other meaning first equals tree in
        All-cons (IsEquation first) (expansion_in meaning tree) _ (other-alike meaning typed first first-typed equals tree (hold-front own (tests_of_steps meaning first steps) h))
        (rest (hold-behind own (tests_of_steps meaning first steps) h))

-- the first of some terms is typed, and the others have its type
alike-list : (m : Morphism) (ms : List Morphism) (first : Morphism) → IsTyped m → All (IsEquation m) ms → Some m ≡ Some first → All (IsEquation first) (m ∷ ms)
alike-list m ms first typed others e =
    let same : m ≡ first = cc in
    subst (λ (x : Morphism). All (IsEquation x) (m ∷ ms)) same (All-cons (IsEquation m) m ms (equation-same m typed) others)

-- the terms of trees whose tests hold are typed, and have the type of the first one
trees-alike : (scope : Scope) → ((k : ℕ) → IsTyped (term_at scope k)) → (tree : TermTree) (steps : List StepTree)
    → AllHold (tests_of (term_at scope) tree ++ tests_of_steps (term_at scope) (expansion_at scope tree) steps) → (first : Morphism)
    → Some (expansion_at scope tree) ≡ Some first
    → All (IsEquation first) (expansion_at scope tree ∷ map (expansion_at scope) (goals_of steps))
trees-alike scope typed tree steps h first e =
    let meaning = term_at scope in
    let m = expansion_at scope tree in
    let front = typed-of-tests meaning typed tree (hold-front (tests_of meaning tree) (tests_of_steps meaning m steps) h) in
    alike-list m _ first front (steps-alike meaning typed m front steps (hold-behind (tests_of meaning tree) (tests_of_steps meaning m steps) h)) e

-- so are those of a statement
pub statement-alike : (site : Site) → ((k : ℕ) → IsTyped (term_at site.scope k)) → (tree : StatementTree) → AllHold (tests_at site.scope tree)
    → (first : Morphism) → slice_get (terms_of site tree) 0 ≡ Some first → All (IsEquation first) (terms_of site tree)
statement-alike site typed (generator name dom cod) h first e = alike-list _ [] first tt (All-nil (IsEquation _)) e
statement-alike site typed (abbreviation name tree) h first e = trees-alike site.scope typed tree [] h first e
statement-alike site typed (rule name left equals right) h first e =
    trees-alike site.scope typed left (record { equals = equals; goal = Some right; reason = Plain } ∷ []) h first e
statement-alike site typed (rewrite name tree steps) h first e = trees-alike site.scope typed tree steps h first e
statement-alike site typed (inclusion imported prefix) h first e = All-nil (IsEquation first)
statement-alike site typed (showing name) h first e = All-nil (IsEquation first)

-- terms that all have the type of one of them have one type
pub alike-each : (first : Morphism) (terms : List Morphism) → All (IsEquation first) terms → All (λ s. All (IsEquation s) terms) terms
alike-each first terms h = λ k d k-in j e j-in. record {
  left = (h k d k-in).right;
  right = (h j e j-in).right;
  doms = sym (h k d k-in).doms ∙ (h j e j-in).doms;
  cods = sym (h k d k-in).cods ∙ (h j e j-in).cods;
}

-- a name stands for a typed term, where all that are bound do
pub meaning-typed : (scope : Scope) → All (λ binding. IsTyped (term_of binding.sense)) scope.env → (token : ℕ) → IsTyped (term_at scope token)
meaning-typed scope typed token = go scope.env typed
  where
    go : (env : List Binding) → All (λ binding. IsTyped (term_of binding.sense)) env
        → IsTyped (option_map_or (λ binding. term_of binding.sense) (binding_of env (bytes_at scope.words token)) nothing)
    go [] h = no_place
    go (binding ∷ env) h = elim (bytes_eq (bytes_at scope.words token) binding.name)
        as (λ same. IsTyped (option_map_or (λ binding. term_of binding.sense)
        (cond same (Some binding) (binding_of env (bytes_at scope.words token))) nothing)) [
          | true ↦ All-head (λ binding. IsTyped (term_of binding.sense)) binding env h
          | false ↦ go env (All-tail (λ binding. IsTyped (term_of binding.sense)) binding env h)
        ]
