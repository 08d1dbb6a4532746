-- What the laws of verdicts take from the crates below.
use Rattle.std.proofs.Common.{◌≡◌, false, List, [], ◌∷◌, ◌++◌, ℕ, ◌⊎◌}
use Rattle.chyp_lex.specs.Tokens.{HasOneTokenList}
use Rattle.chyp_lex.specs.declared.token.Token.{Token}
use Rattle.chyp_syntax.specs.Chunk.{HasOneListOfChunks}
use Rattle.chyp_syntax.specs.Words.{Word}
use Rattle.chyp_syntax.specs.Failing.{ArePrefixesClosed, HasOneTree, IsSentenceOrFails}
use Rattle.chyp_syntax.specs.Statement.{StatementTree}
use Rattle.chyp_env.specs.Environment.{Binding, is_bound}
use Rattle.chyp_env.specs.Site.{Site}
use Rattle.chyp_env.specs.Sound.{HasDistinctNames, IsSound}
use Rattle.chyp_env.specs.Typing.{AllHold, FailsFirst, Test}
use Rattle.chyp_names.specs.Elaboration.{Passes, terms_of}
use Rattle.chyp_names.specs.Typing.{AreTypedAlike}
use Rattle.chyp_laws.specs.Laws.{LawsAreDecided}
use Rattle.chyp_laws.specs.Rewriting.{RewritesAreDecided}

-- tests all hold, or one fails first
abbrev pub TestsAreDecided : Type 0
TestsAreDecided = (tests : List Test) → AllHold tests ⊎ ((token : ℕ) × FailsFirst tests token)

-- a statement that nothing refuses, where names stand for sound things, has terms that are typed alike
abbrev pub PassingTermsAreTyped : Type 0
PassingTermsAreTyped = (s : Site) → IsSound s.scope.env → (tree : StatementTree) → Passes s tree → AreTypedAlike (terms_of s tree)

-- names stay distinct where a new one is bound behind them
abbrev pub NamesStayDistinct : Type 0
NamesStayDistinct = (env : List Binding) (b : Binding) → HasDistinctNames env → is_bound env b.name ≡ false → HasDistinctNames (env ++ b ∷ [])

-- what is known of all texts and of all terms
pub record Known : Type 0 where
  pub tokens : (text : List ℕ) → HasOneTokenList text
  pub chunks : (tokens : List Token) → HasOneListOfChunks tokens
  pub sentences : (words : List Word) → IsSentenceOrFails words
  pub prefixes : (words : List Word) → ArePrefixesClosed words
  pub trees : (words : List Word) → HasOneTree words
  pub tests : TestsAreDecided
  pub typed : PassingTermsAreTyped
  pub names : NamesStayDistinct
  pub laws : LawsAreDecided
  pub contexts : RewritesAreDecided
