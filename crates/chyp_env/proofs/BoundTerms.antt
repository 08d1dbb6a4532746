-- The generators of a tree's term have bindings of their own where the environment is closed.
use Rattle.std.proofs.Common.{◌≡◌, ℕ, zero, suc, List, [], ◌∷◌, length, take, drop, Option, Some, None, All, refl, arith}
use Rattle.std.specs.Prelude.{◌/◌}
use Rattle.std.specs.Option.{option_map_or}
use Rattle.std.proofs.lemmas.List.Elements.{All-cons, All-nil, All-contains, All-take, All-drop}
use Rattle.chyp_syntax.specs.Term.{TermTree, TermTrees, named, wire, empty as no_wire, swap, chain, beside as tensor, no_terms, term}
use Rattle.chyp_syntax.specs.Words.{bytes_at}
use Rattle.chyp_term.specs.Derivation.{empty}
use Rattle.chyp_term.specs.Halving.{halved_by}
use Rattle.chyp_term.specs.Morphism.{Morphism, then, beside}
use Rattle.chyp_env.specs.Closed.{HasBoundGenerators, HasBoundSense}
use Rattle.chyp_env.specs.Environment.{Sense, generator, abbreviation, equation, unproved, broken, Binding}
use Rattle.chyp_env.specs.Expansion.{expansion_in, expansions_in}
use Rattle.chyp_env.specs.Scope.{Scope, binding_at, term_at, term_of}
use Rattle.chyp_env.proofs.Bindings.{binding-found}
use Rattle.chyp_env.proofs.Closed.{AreBound}

sense-term : (env : List Binding) (sense : Sense) → HasBoundSense env sense → HasBoundGenerators env (term_of sense)
sense-term env (generator name dom cod) h = h
sense-term env (abbreviation t) h = h
sense-term env (equation first last) h = tt
sense-term env unproved h = tt
sense-term env broken h = tt

meaning-bound : (s : Scope) → AreBound s.env → (token : ℕ) → HasBoundGenerators s.env (term_at s token)
meaning-bound s bound token = go (binding_at s token) refl
  where
    go : (o : Option Binding) → binding_at s token ≡ o → HasBoundGenerators s.env (option_map_or (λ (b : Binding). term_of b.sense) o empty)
    go None e = tt
    go (Some b) e =
        let has = binding-found s.env (bytes_at s.words token) b e in
        sense-term s.env b.sense (All-contains (λ (x : Binding). HasBoundSense s.env x.sense) s.env b bound has.0)

halved-bound : (P : Morphism → Type 0) (join : Morphism → Morphism → Morphism) → P empty → ((s t : Morphism) → P s → P t → P (join s t)) → (most : ℕ) (parts : List Morphism) → All P parts
    → P (halved_by empty most join parts)
halved-bound P join none both zero [] all = none
halved-bound P join none both zero (p ∷ []) all = all 0 p (omega arith)
halved-bound P join none both zero (p ∷ q ∷ rest) all = none
halved-bound P join none both (suc most) [] all = none
halved-bound P join none both (suc most) (p ∷ []) all = all 0 p (omega arith)
halved-bound P join none both (suc most) (p ∷ q ∷ rest) all =
    let parts = p ∷ q ∷ rest in
    both (halved_by empty most join (take (length parts / 2) parts)) (halved_by empty most join (drop (length parts / 2) parts))
    (halved-bound P join none both most (take (length parts / 2) parts) (All-take P (length parts / 2) parts all))
    (halved-bound P join none both most (drop (length parts / 2) parts) (All-drop P (length parts / 2) parts all))

mutual
  tree-bound : (env : List Binding) (meaning : ℕ → Morphism) → ((k : ℕ) → HasBoundGenerators env (meaning k)) → (tree : TermTree) → HasBoundGenerators env (expansion_in meaning tree)
  tree-bound env meaning bound (named token) = bound token
  tree-bound env meaning bound wire = tt
  tree-bound env meaning bound no_wire = tt
  tree-bound env meaning bound (swap token None) = tt
  tree-bound env meaning bound (swap token (Some places)) = tt
  tree-bound env meaning bound (chain parts semis) = halved-bound (HasBoundGenerators env)
      then tt (λ s t a b. (a, b)) (length (expansions_in meaning parts)) (expansions_in meaning parts) (trees-bound env meaning bound parts)
  tree-bound env meaning bound (tensor parts) =
      halved-bound (HasBoundGenerators env) beside tt (λ s t a b. (a, b)) (length (expansions_in meaning parts)) (expansions_in meaning parts) (trees-bound env meaning bound parts)

  trees-bound : (env : List Binding) (meaning : ℕ → Morphism) → ((k : ℕ) → HasBoundGenerators env (meaning k)) → (trees : TermTrees) → All (HasBoundGenerators env) (expansions_in meaning trees)
  trees-bound env meaning bound no_terms = All-nil (HasBoundGenerators env)
  trees-bound env meaning bound (term first rest) =
      All-cons (HasBoundGenerators env) (expansion_in meaning first) (expansions_in meaning rest) (tree-bound env meaning bound first) (trees-bound env meaning bound rest)

-- each generator of an expanded term is bound
pub expansion-bound : (s : Scope) → AreBound s.env → (tree : TermTree) → HasBoundGenerators s.env (expansion_in (term_at s) tree)
expansion-bound s bound tree = tree-bound s.env (term_at s) (meaning-bound s bound) tree
