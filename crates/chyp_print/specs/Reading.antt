-- What a printed term is read back as.
use Rattle.std.specs.Prelude.{◌≡◌, ℕ, ◌<◌, ◌≤◌, ◌^◌, All, List, length}
use Rattle.chyp_lex.specs.declared.token.Token.{Token}
use Rattle.chyp_lex.specs.Tokens.{AreTokens}
use Rattle.chyp_syntax.specs.Numbered.{numbered}
use Rattle.chyp_syntax.specs.Sentence.{IsTerm, most_nested}
use Rattle.chyp_syntax.specs.Term.{TermTree}
use Rattle.chyp_syntax.specs.Words.{Word, bytes_at, words_of}
use Rattle.chyp_graph.specs.PlainGraph.{PlainGraph}
use Rattle.chyp_term.specs.Measure.{depth_of}
use Rattle.chyp_term.specs.Morphism.{Morphism, generator, permutation, then, beside, IsTyped}
use Rattle.chyp_env.specs.Expansion.{expansion_in, plain_wires}
use Rattle.chyp_extract.specs.Extraction.{extracted}
use Rattle.chyp_extract.specs.Rehalving.{rehalved}
use Rattle.chyp_lex.specs.Names.{IsNameText}
use Rattle.chyp_print.specs.Printing.{Naming, printed_by}

-- some tree of these words stands for t, where names mean these terms
abbrev pub StandFor : (meaning : List ℕ → Morphism) → List Word → (t : Morphism) → Type 0
StandFor meaning words t =
    (tree : TermTree) × IsTerm most_nested (numbered words) tree × (expansion_in (λ token. meaning (bytes_at words token)) tree ≡ t)

-- the words of the text do
abbrev pub ReadsAs : (meaning : List ℕ → Morphism) → (text : List ℕ) → (t : Morphism) → Type 0
ReadsAs meaning text t = (tokens : List Token) → AreTokens text tokens → StandFor meaning (words_of text tokens) t

-- each generator has a name that means it, and wires are plain
abbrev pub IsNamed : Naming → (meaning : List ℕ → Morphism) → Morphism → Type 0
IsNamed naming meaning (generator n a b) = IsNameText (naming n a b) × (meaning (naming n a b) ≡ generator n a b)
IsNamed naming meaning (permutation a p) = a ≡ plain_wires (length a)
IsNamed naming meaning (then s t) = IsNamed naming meaning s × IsNamed naming meaning t
IsNamed naming meaning (beside s t) = IsNamed naming meaning s × IsNamed naming meaning t

-- so it is of a typed term that isn't nested too deep
pub record CanBePrinted (naming : Naming) (meaning : List ℕ → Morphism) (t : Morphism) : Type 0 where
  pub typed : IsTyped t
  pub named : IsNamed naming meaning t
  pub shallow : depth_of t ≤ most_nested

-- the text of a term is read back as that term with its chains halved anew, whatever names mean besides
abbrev pub IsReadBack : Naming → Morphism → (text : List ℕ) → Type 0
IsReadBack naming t text = (meaning : List ℕ → Morphism) → CanBePrinted naming meaning t → ReadsAs meaning text (rehalved t)

-- the text of a term that is read back from a graph is read back as that very term
abbrev pub IsReadBackItself : Naming → Morphism → (text : List ℕ) → Type 0
IsReadBackItself naming t text = (meaning : List ℕ → Morphism) (g : PlainGraph) → t ≡ extracted g → CanBePrinted naming meaning t
    → ReadsAs meaning text t

-- places are numbers that a text may have
abbrev pub AreSmall : List ℕ → Type 0
AreSmall places = All (λ place. place < 2 ^ 64) places

-- so are all places of the term's permutations
abbrev pub HasSmallPlaces : Morphism → Type 0
HasSmallPlaces (generator n a b) = Unit {0}
HasSmallPlaces (permutation a p) = AreSmall p
HasSmallPlaces (then s t) = HasSmallPlaces s × HasSmallPlaces t
HasSmallPlaces (beside s t) = HasSmallPlaces s × HasSmallPlaces t

-- so it is of each term with such places
abbrev pub PrintedReadsBack : Type 0
PrintedReadsBack = (naming : Naming) (t : Morphism) → HasSmallPlaces t →
    IsReadBack naming t (printed_by naming t) × IsReadBackItself naming t (printed_by naming t)
