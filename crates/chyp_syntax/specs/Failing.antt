-- Where a chunk stops to be the beginning of a sentence.
use Rattle.std.specs.Prelude.{◌≡◌, ℕ, ◌+◌, ◌<◌, ◌≤◌, ◌⊎◌, List, length, take}
use Rattle.chyp_syntax.specs.Sentence.{IsSentence, IsNoSentence, IsPrefix}
use Rattle.chyp_syntax.specs.Statement.{StatementTree}
use Rattle.chyp_syntax.specs.Words.{Word}

-- the words are no sentence; those before the k-th begin one, and with the k-th (if there is one) they begin none
pub record FailsAt (words : List Word) (k : ℕ) : Type 0 where
  pub no_sentence : IsNoSentence words
  pub within : k ≤ length words
  pub before : IsPrefix (take k words)
  pub refused : k < length words → IsPrefix (take (k + 1) words) → ⊥

-- every beginning of a sentence's beginning begins a sentence, so that `FailsAt` names the least such place
abbrev pub ArePrefixesClosed : List Word → Type 0
ArePrefixesClosed words = (k : ℕ) → IsPrefix words → IsPrefix (take k words)

-- two trees of one list of words are one tree
abbrev pub HasOneTree : List Word → Type 0
HasOneTree words = (tree other : StatementTree) → IsSentence words tree → IsSentence words other → tree ≡ other

-- the words have a tree, or fail at some place
abbrev pub IsSentenceOrFails : List Word → Type 0
IsSentenceOrFails words = ((tree : StatementTree) × IsSentence words tree) ⊎ ((k : ℕ) × FailsAt words k)
