-- The grammar of statements, a case for each of its lines, with the tree of each sentence: this project's own.
use Rattle.std.specs.Prelude.{◌≡◌, ℕ, suc, true, false, List, [], ◌∷◌, ◌++◌, None, Some}
use Rattle.chyp_lex.specs.declared.token.TokenKind.TheVariants.{Ident, Number, Colon, Arrow, Equals, Semicolon, Star, LeftParenthesis, RightParenthesis, LeftBracket, RightBracket, Comma, Minus, QuestionMark, WordGen, WordLet, WordRule, WordRewrite, WordImport, WordShow, WordId, WordId0, WordSw, WordBy, WordAs, WordSimp}
use Rattle.chyp_syntax.specs.declared.step.ReasonAst.{ReasonAst}
use Rattle.chyp_syntax.specs.declared.step.ReasonAst.TheVariants.{Plain, Rule, Simp}
use Rattle.chyp_syntax.specs.declared.step.SignedAst.{SignedAst}
use Rattle.chyp_syntax.specs.declared.terms.TheConstants.{MOST_NESTED}
use Rattle.chyp_syntax.specs.Numbered.{NumberedToken, numbered, kind_of, value_of, IsName}
use Rattle.chyp_syntax.specs.Statement.{StatementTree, generator, abbreviation, rule, rewrite, inclusion, showing}
use Rattle.chyp_syntax.specs.Step.{StepTree}
use Rattle.chyp_syntax.specs.Term.{TermTree, named, wire, empty, swap, chain_of, tensor_of}
use Rattle.chyp_syntax.specs.Words.{Word}

-- Number { "," Number }, with the values
pub data AreNumbers : List NumberedToken → List ℕ → Type 0 where
  one_number : {number : NumberedToken} → kind_of number ≡ Number → AreNumbers (number ∷ []) (value_of number ∷ [])
  more_numbers : {number comma : NumberedToken} {rest : List NumberedToken} {values : List ℕ} →
      kind_of number ≡ Number → kind_of comma ≡ Comma → AreNumbers rest values
      → AreNumbers (number ∷ comma ∷ rest) (value_of number ∷ values)

-- "sw" [ "[" Number { "," Number } "]" ]
pub data IsSwap : List NumberedToken → TermTree → Type 0 where
  two_places : {word : NumberedToken} → kind_of word ≡ WordSw → IsSwap (word ∷ []) (swap word.0 None)
  these_places : {word open' : NumberedToken} (close : NumberedToken) {places : List NumberedToken} {values : List ℕ} →
      kind_of word ≡ WordSw → kind_of open' ≡ LeftBracket → AreNumbers places values → kind_of close ≡ RightBracket →
      IsSwap (word ∷ open' ∷ (places ++ close ∷ [])) (swap word.0 (Some values))

mutual
  -- atom := name | "id" | "id0" | "sw" .. | "(" term ")", whose parentheses nest at most `depth` deep
  pub data IsAtom : (depth : ℕ) → List NumberedToken → TermTree → Type 0 where
    a_name : {depth : ℕ} {word : NumberedToken} → IsName word → IsAtom depth (word ∷ []) (named word.0)
    an_id : {depth : ℕ} {word : NumberedToken} → kind_of word ≡ WordId → IsAtom depth (word ∷ []) wire
    an_id0 : {depth : ℕ} {word : NumberedToken} → kind_of word ≡ WordId0 → IsAtom depth (word ∷ []) empty
    a_swap : {depth : ℕ} {tokens : List NumberedToken} {tree : TermTree} → IsSwap tokens tree → IsAtom depth tokens tree
    in_parentheses : {depth : ℕ} {open' : NumberedToken} (close : NumberedToken) {inner : List NumberedToken} {tree : TermTree} →
        kind_of open' ≡ LeftParenthesis → IsTerm depth inner tree → kind_of close ≡ RightParenthesis
        → IsAtom (suc depth) (open' ∷ (inner ++ close ∷ [])) tree

  -- atom { "*" atom }, with the trees of its parts
  pub data AreAtoms : (depth : ℕ) → List NumberedToken → List TermTree → Type 0 where
    one_atom : {depth : ℕ} {atom : List NumberedToken} {tree : TermTree} → IsAtom depth atom tree → AreAtoms depth atom (tree ∷ [])
    more_atoms : {depth : ℕ} {atom rest : List NumberedToken} (star : NumberedToken) {tree : TermTree} {trees : List TermTree} →
        IsAtom depth atom tree → kind_of star ≡ Star → AreAtoms depth rest trees → AreAtoms depth (atom ++ star ∷ rest) (tree ∷ trees)

  -- par := atom { "*" atom }
  pub data IsPar : (depth : ℕ) → List NumberedToken → TermTree → Type 0 where
    tensor : {depth : ℕ} {tokens : List NumberedToken} {trees : List TermTree} → AreAtoms depth tokens trees
        → IsPar depth tokens (tensor_of trees)

  -- par { ";" par }, with the trees of its parts and the numbers of the `;`
  pub data ArePars : (depth : ℕ) → List NumberedToken → List TermTree → List ℕ → Type 0 where
    one_par : {depth : ℕ} {par : List NumberedToken} {tree : TermTree} → IsPar depth par tree → ArePars depth par (tree ∷ []) []
    more_pars : {depth : ℕ} {par rest : List NumberedToken} (semi : NumberedToken)
        {tree : TermTree} {trees : List TermTree} {semis : List ℕ} → IsPar depth par tree → kind_of semi ≡ Semicolon
        → ArePars depth rest trees semis → ArePars depth (par ++ semi ∷ rest) (tree ∷ trees) (semi.0 ∷ semis)

  -- term := par { ";" par }
  pub data IsTerm : (depth : ℕ) → List NumberedToken → TermTree → Type 0 where
    composite : {depth : ℕ} {tokens : List NumberedToken} {trees : List TermTree} {semis : List ℕ} → ArePars depth tokens trees semis
        → IsTerm depth tokens (chain_of trees semis)

-- signed := [ "-" ] name
pub data IsSigned : List NumberedToken → SignedAst → Type 0 where
  forwards : {word : NumberedToken} → IsName word → IsSigned (word ∷ []) (record { minus = false; name = word.0 })
  backwards : {minus word : NumberedToken} → kind_of minus ≡ Minus → IsName word
      → IsSigned (minus ∷ word ∷ []) (record { minus = true; name = word.0 })

-- signed { "," signed }
pub data AreSigned : List NumberedToken → List SignedAst → Type 0 where
  one_signed : {tokens : List NumberedToken} {tree : SignedAst} → IsSigned tokens tree → AreSigned tokens (tree ∷ [])
  more_signed : {tokens rest : List NumberedToken} (comma : NumberedToken) {tree : SignedAst} {trees : List SignedAst} →
      IsSigned tokens tree → kind_of comma ≡ Comma → AreSigned rest trees → AreSigned (tokens ++ comma ∷ rest) (tree ∷ trees)

-- [ by ], where by := "by" signed | "by" "simp" "(" signed { "," signed } ")"
pub data IsReason : List NumberedToken → ReasonAst → Type 0 where
  none : IsReason [] Plain
  by_rule : {word : NumberedToken} {tokens : List NumberedToken} {tree : SignedAst} → kind_of word ≡ WordBy → IsSigned tokens tree
      → IsReason (word ∷ tokens) (Rule tree)
  by_simp : {word simp' open' : NumberedToken} (close : NumberedToken) {tokens : List NumberedToken} {trees : List SignedAst} →
      kind_of word ≡ WordBy → kind_of simp' ≡ WordSimp → kind_of open' ≡ LeftParenthesis → AreSigned tokens trees
      → kind_of close ≡ RightParenthesis →
      IsReason (word ∷ simp' ∷ open' ∷ (tokens ++ close ∷ [])) (Simp trees)

-- the parentheses of a sentence's terms nest at most this deep
abbrev pub most_nested : ℕ
most_nested = MOST_NESTED

-- "=" term [by]
pub data IsStep : List NumberedToken → StepTree → Type 0 where
  to_term : {equals : NumberedToken} {term by : List NumberedToken} {tree : TermTree} {reason : ReasonAst} →
      kind_of equals ≡ Equals → IsTerm most_nested term tree → IsReason by reason →
      IsStep (equals ∷ (term ++ by)) (record { equals = equals.0; goal = Some tree; reason = reason })

-- "=" "?" [by]
pub data IsHole : List NumberedToken → StepTree → Type 0 where
  to_hole : {equals mark : NumberedToken} {by : List NumberedToken} {reason : ReasonAst} →
      kind_of equals ≡ Equals → kind_of mark ≡ QuestionMark → IsReason by reason →
      IsHole (equals ∷ mark ∷ by) (record { equals = equals.0; goal = None; reason = reason })

-- { "=" term [by] } [ "=" "?" [by] ]
pub data AreSteps : List NumberedToken → List StepTree → Type 0 where
  no_step : AreSteps [] []
  last_hole : {tokens : List NumberedToken} {tree : StepTree} → IsHole tokens tree → AreSteps tokens (tree ∷ [])
  more_steps : {tokens rest : List NumberedToken} {tree : StepTree} {trees : List StepTree} → IsStep tokens tree → AreSteps rest trees
      → AreSteps (tokens ++ rest) (tree ∷ trees)

-- the lines of the grammar of a chunk
pub data IsStatement : List NumberedToken → StatementTree → Type 0 where
  -- "gen" Ident ":" Number "->" Number
  is_gen : {word name colon dom arrow cod : NumberedToken} →
      kind_of word ≡ WordGen → kind_of name ≡ Ident → kind_of colon ≡ Colon → kind_of dom ≡ Number → kind_of arrow ≡ Arrow
      → kind_of cod ≡ Number →
      IsStatement (word ∷ name ∷ colon ∷ dom ∷ arrow ∷ cod ∷ []) (generator name.0 (value_of dom) (value_of cod))
  -- "let" Ident "=" term
  is_let : {word name equals : NumberedToken} {term : List NumberedToken} {tree : TermTree} →
      kind_of word ≡ WordLet → kind_of name ≡ Ident → kind_of equals ≡ Equals → IsTerm most_nested term tree →
      IsStatement (word ∷ name ∷ equals ∷ term) (abbreviation name.0 tree)
  -- "rule" Ident ":" term "=" term
  is_rule : {word name colon : NumberedToken} (equals : NumberedToken) {left right : List NumberedToken} {first second : TermTree} →
      kind_of word ≡ WordRule → kind_of name ≡ Ident → kind_of colon ≡ Colon → IsTerm most_nested left first → kind_of equals ≡ Equals
      → IsTerm most_nested right second →
      IsStatement (word ∷ name ∷ colon ∷ (left ++ equals ∷ right)) (rule name.0 first equals.0 second)
  -- "rewrite" Ident ":" term { "=" term [by] } [ "=" "?" [by] ]
  is_rewrite : {word name colon : NumberedToken} {term rest : List NumberedToken} {first : TermTree} {steps : List StepTree} →
      kind_of word ≡ WordRewrite → kind_of name ≡ Ident → kind_of colon ≡ Colon → IsTerm most_nested term first → AreSteps rest steps →
      IsStatement (word ∷ name ∷ colon ∷ (term ++ rest)) (rewrite name.0 first steps)
  -- "import" Ident
  is_import : {word name : NumberedToken} → kind_of word ≡ WordImport → kind_of name ≡ Ident
      → IsStatement (word ∷ name ∷ []) (inclusion name.0 None)
  -- "import" Ident "as" Ident
  is_import_as : {word name as' prefix : NumberedToken} →
      kind_of word ≡ WordImport → kind_of name ≡ Ident → kind_of as' ≡ WordAs → kind_of prefix ≡ Ident
      → IsStatement (word ∷ name ∷ as' ∷ prefix ∷ []) (inclusion name.0 (Some prefix.0))
  -- "show" name
  is_show : {word name : NumberedToken} → kind_of word ≡ WordShow → IsName name → IsStatement (word ∷ name ∷ []) (showing name.0)

-- the words are a sentence, and this is its tree
pub record IsSentence (words : List Word) (tree : StatementTree) : Type 0 where
  pub statement : IsStatement (numbered words) tree

-- no tree fits the words
abbrev pub IsNoSentence : List Word → Type 0
IsNoSentence words = (tree : StatementTree) → IsSentence words tree → ⊥

-- the words begin a sentence, or are one
abbrev pub IsPrefix : List Word → Type 0
IsPrefix words = (rest : List Word) × (tree : StatementTree) × IsSentence (words ++ rest) tree
