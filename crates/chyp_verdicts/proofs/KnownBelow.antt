-- What the laws of verdicts take from the crates below, put together.
use Rattle.std.proofs.Common.{◌≡◌, List, [], ◌∷◌, ℕ, length, Some, slice_get, All, ◌⊎◌, inl, inr, refl}
use Rattle.std.proofs.lemmas.List.Elements.{All-nil}
use Rattle.chyp_lex.specs.Tokens.{HasOneTokenList}
use Rattle.chyp_lex.specs.declared.token.Token.{Token}
use Rattle.chyp_syntax.specs.Chunk.{HasOneListOfChunks}
use Rattle.chyp_syntax.specs.Words.{Word}
use Rattle.chyp_syntax.specs.Failing.{ArePrefixesClosed, HasOneTree, IsSentenceOrFails}
use Rattle.chyp_term.specs.Derivation.{IsEquation}
use Rattle.chyp_term.specs.Morphism.{Morphism, cod, dom, IsTyped}
use Rattle.chyp_theory.specs.Laws.{PermutationsAreDecided, SortsAreDecided}
use Rattle.chyp_env.specs.Environment.{Sense, generator, abbreviation, equation, unproved, broken}
use Rattle.chyp_env.specs.Scope.{term_of}
use Rattle.chyp_env.specs.Sound.{IsSoundSense}
use Rattle.chyp_env.specs.Typing.{Condition, Holds, permutes, meets, agrees}
use Rattle.chyp_env.proofs.Envs.{distinct-push}
use Rattle.chyp_env.proofs.Failing.{tests-decided}
use Rattle.chyp_env.proofs.Typed.{no_place}
use Rattle.chyp_names.specs.Elaboration.{terms_of}
use Rattle.chyp_names.specs.Typing.{AreTypedAlike}
use Rattle.chyp_names.proofs.Statements.{alike-each, meaning-typed, statement-alike}
use Rattle.chyp_laws.specs.Laws.{LawsAreDecided}
use Rattle.chyp_laws.specs.Rewriting.{RewritesAreDecided}
use Rattle.chyp_verdicts.proofs.Known.{Known, PassingTermsAreTyped}

-- each condition holds or it doesn't
conditions_decided : SortsAreDecided → PermutationsAreDecided → (c : Condition) → Holds c ⊎ ¬ Holds c
conditions_decided sorts permutations (permutes places) = permutations (length places) places
conditions_decided sorts permutations (meets before after) = sorts (cod before) (dom after)
conditions_decided sorts permutations (agrees first other) = go (sorts (dom first) (dom other)) (sorts (cod first) (cod other))
  where
    go : (dom first ≡ dom other) ⊎ ¬ (dom first ≡ dom other) → (cod first ≡ cod other) ⊎ ¬ (cod first ≡ cod other)
        → Holds (agrees first other) ⊎ ¬ Holds (agrees first other)
    go (inl d) (inl c) = inl (d, c)
    go (inr d) c = inr (λ h. d h.0)
    go (inl d) (inr c) = inr (λ h. c h.1)

-- what a sound name stands for is typed
sense-typed : (sense : Sense) → IsSoundSense sense → IsTyped (term_of sense)
sense-typed (generator name dom cod) h = tt
sense-typed (abbreviation term) h = h.0
sense-typed (equation first last) h = no_place
sense-typed unproved h = no_place
sense-typed broken h = no_place

alike_all : (terms : List Morphism) → ((first : Morphism) → slice_get terms 0 ≡ Some first → All (IsEquation first) terms) → AreTypedAlike terms
alike_all [] alike = All-nil _
alike_all (t ∷ ts) alike = alike-each t (t ∷ ts) (alike t refl)

-- where names stand for sound things, the terms of a statement that nothing refuses are typed alike
passing_typed : PassingTermsAreTyped
passing_typed s sound tree passes =
    alike_all (terms_of s tree) (statement-alike s (meaning-typed s.scope (λ k d h. sense-typed _ (sound.each k d h))) tree passes.typed)

-- all of it
pub known-of : ((text : List ℕ) → HasOneTokenList text) → ((tokens : List Token) → HasOneListOfChunks tokens) → ((words : List Word) → IsSentenceOrFails words)
    → ((words : List Word) → ArePrefixesClosed words) → ((words : List Word) → HasOneTree words) → SortsAreDecided → PermutationsAreDecided → LawsAreDecided
    → RewritesAreDecided → Known
known-of tokens chunks sentences prefixes trees sorts permutations laws contexts = record {
  tokens = tokens;
  chunks = chunks;
  sentences = sentences;
  prefixes = prefixes;
  trees = trees;
  tests = tests-decided (conditions_decided sorts permutations);
  typed = passing_typed;
  names = distinct-push;
  laws = laws;
  contexts = contexts;
}
