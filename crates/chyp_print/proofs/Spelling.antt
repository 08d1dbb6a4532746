-- Numbered tokens that spell a term, whatever bytes they are made of.
use Rattle.std.proofs.Common.{◌≡◌, ℕ, zero, suc, Bool, true, false, List, [], ◌∷◌, ◌++◌}
use Rattle.chyp_lex.specs.declared.token.TokenKind.{TokenKind}
use Rattle.chyp_lex.specs.declared.token.TokenKind.TheVariants.{LeftBracket, LeftParenthesis, RightBracket, RightParenthesis, Semicolon, Star, WordId, WordId0, WordSw}
use Rattle.chyp_syntax.specs.Numbered.{IsName, NumberedToken, kind_of}
use Rattle.chyp_syntax.specs.Sentence.{AreNumbers}
use Rattle.chyp_term.specs.Morphism.{Morphism, beside, generator, permutation, then}

-- one token
pub record IsWord (Is : NumberedToken → Type 0) (tokens : List NumberedToken) : Type 0 where
  pub word : NumberedToken
  pub is : Is word
  pub all : tokens ≡ word ∷ []

-- one token of a kind
abbrev pub IsOfKind : TokenKind → List NumberedToken → Type 0
IsOfKind kind tokens = IsWord (λ word. kind_of word ≡ kind) tokens

-- some tokens behind others
pub record Both (First Second : List NumberedToken → Type 0) (tokens : List NumberedToken) : Type 0 where
  pub front : List NumberedToken
  pub rear : List NumberedToken
  pub first : First front
  pub second : Second rear
  pub all : tokens ≡ front ++ rear

-- sw[p0,p1,..]
abbrev pub IsSwapWith : List ℕ → List NumberedToken → Type 0
IsSwapWith places = Both (IsOfKind WordSw) (Both (IsOfKind LeftBracket) (Both (λ numbers. AreNumbers numbers places) (IsOfKind RightBracket)))

abbrev pub SpellPlaces : List ℕ → List NumberedToken → Type 0
SpellPlaces [] tokens = IsOfKind WordId0 tokens
SpellPlaces (zero ∷ []) tokens = IsOfKind WordId tokens
SpellPlaces (suc zero ∷ zero ∷ []) tokens = IsOfKind WordSw tokens
SpellPlaces places tokens = IsSwapWith places tokens

-- two terms with a token between them
abbrev pub AreJoined : TokenKind → (First Second : List NumberedToken → Type 0) → List NumberedToken → Type 0
AreJoined kind First Second = Both First (Both (IsOfKind kind) Second)

-- in parentheses
abbrev pub AreEnclosed : (List NumberedToken → Type 0) → List NumberedToken → Type 0
AreEnclosed Inner = Both (IsOfKind LeftParenthesis) (Both Inner (IsOfKind RightParenthesis))

abbrev pub EnclosedIf : Bool → (List NumberedToken → Type 0) → List NumberedToken → Type 0
EnclosedIf true Inner tokens = AreEnclosed Inner tokens
EnclosedIf false Inner tokens = Inner tokens

-- a name that means the term, by its number
abbrev pub IsNameOf : (ℕ → Morphism) → Morphism → NumberedToken → Type 0
IsNameOf means t word = IsName word × (means word.0 ≡ t)

-- the tokens spell the term, in a tensor or not, where names have these meanings
abbrev pub Spell : (ℕ → Morphism) → (in_tensor : Bool) → Morphism → List NumberedToken → Type 0
Spell means in_tensor (generator n a b) tokens = IsWord (IsNameOf means (generator n a b)) tokens
Spell means in_tensor (permutation a p) tokens = SpellPlaces p tokens
Spell means in_tensor (then s t) tokens = EnclosedIf in_tensor (AreJoined Semicolon (Spell means false s) (Spell means false t)) tokens
Spell means in_tensor (beside s t) tokens = AreJoined Star (Spell means true s) (Spell means true t) tokens
