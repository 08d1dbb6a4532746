-- What may stand next in a chunk: for each beginning of a sentence, what is expected from there to its end.
-- The clauses of the private readers alone speak of it.
use Rattle.std.specs.Prelude.{ℕ, zero, suc, Bool, true, false, if◌then◌else◌, List, [], ◌∷◌, Option, None, Some}
use denote.Enum.Bare.{sameb}
use Rattle.chyp_lex.specs.contracts.token.TokenKind.{the_type}
use Rattle.chyp_lex.specs.declared.token.TokenKind.{TokenKind}
use Rattle.chyp_lex.specs.declared.token.TokenKind.TheVariants.{Ident, Dotted, Number, Colon, Arrow, Equals, Semicolon, Star, LeftParenthesis, RightParenthesis, LeftBracket, RightBracket, Comma, Minus, QuestionMark, WordGen, WordLet, WordRule, WordRewrite, WordImport, WordShow, WordId, WordId0, WordSw, WordBy, WordAs, WordSimp}
use Rattle.chyp_syntax.specs.Numbered.{NumberedToken, kind_of}
use Rattle.chyp_syntax.specs.Sentence.{most_nested}

-- whether two kinds are the same
abbrev pub same_kind : TokenKind → TokenKind → Bool
same_kind a b = sameb the_type a b

-- what may be there or not, or any number of times
pub data Tail : Type 0 where
  signed_left : Tail
  reason_left : Tail
  numbers_left : Tail
  places_left : Tail
  atoms_left : (depth : ℕ) → Tail
  pars_left : (depth : ℕ) → Tail
  prefix_left : Tail

-- what has to be there
pub data Symbol : Type 0 where
  token : (kind : TokenKind) → Symbol
  name : Symbol
  signed : Symbol
  reason : Symbol
  atom : (depth : ℕ) → Symbol
  tail : Tail → Symbol

-- what is expected from here to the end of the chunk: its end, a statement, steps, what stands behind
-- a step's `=`, or a symbol and more
pub data Expected : Type 0 where
  nothing : Expected
  statement : Expected
  steps : Expected
  goal : Expected
  next : Symbol → Expected → Expected

-- the token that a tail begins with
abbrev pub opener : Tail → TokenKind
opener signed_left = Comma
opener reason_left = WordBy
opener numbers_left = Comma
opener places_left = LeftBracket
opener (atoms_left depth) = Star
opener (pars_left depth) = Semicolon
opener prefix_left = WordAs

-- what is expected behind it
abbrev pub behind : Tail → List Symbol
behind signed_left = signed ∷ tail signed_left ∷ []
behind reason_left = reason ∷ []
behind numbers_left = token Number ∷ tail numbers_left ∷ []
behind places_left = token Number ∷ tail numbers_left ∷ token RightBracket ∷ []
behind (atoms_left depth) = atom depth ∷ tail (atoms_left depth) ∷ []
behind (pars_left depth) = atom depth ∷ tail (atoms_left depth) ∷ tail (pars_left depth) ∷ []
behind prefix_left = token Ident ∷ []

-- a symbol and a token: the token is taken, and these follow; the symbol is passed over; or the token may not stand there
pub data Answer : Type 0 where
  takes : List Symbol → Answer
  skips : Answer
  refuses : Answer

-- at a name
abbrev pub name_answer : TokenKind → Answer
name_answer Ident = takes []
name_answer Dotted = takes []
name_answer _ = refuses

-- at a name that a `-` may stand in front of
abbrev pub signed_answer : TokenKind → Answer
signed_answer Ident = takes []
signed_answer Dotted = takes []
signed_answer Minus = takes (name ∷ [])
signed_answer _ = refuses

-- behind a `by`
abbrev pub reason_answer : TokenKind → Answer
reason_answer Ident = takes []
reason_answer Dotted = takes []
reason_answer Minus = takes (name ∷ [])
reason_answer WordSimp = takes (token LeftParenthesis ∷ signed ∷ tail signed_left ∷ token RightParenthesis ∷ [])
reason_answer _ = refuses

-- at a `(` in front of a term that may nest so deep
abbrev pub parenthesis_answer : ℕ → Answer
parenthesis_answer zero = refuses
parenthesis_answer (suc depth) = takes (atom depth ∷ tail (atoms_left depth) ∷ tail (pars_left depth) ∷ token RightParenthesis ∷ [])

-- at an atom
abbrev pub atom_answer : ℕ → TokenKind → Answer
atom_answer depth Ident = takes []
atom_answer depth Dotted = takes []
atom_answer depth WordId = takes []
atom_answer depth WordId0 = takes []
atom_answer depth WordSw = takes (tail places_left ∷ [])
atom_answer depth LeftParenthesis = parenthesis_answer depth
atom_answer depth _ = refuses

-- what a symbol makes of a token
abbrev pub answer : Symbol → TokenKind → Answer
answer (token kind) k = if same_kind k kind then takes [] else refuses
answer name k = name_answer k
answer signed k = signed_answer k
answer reason k = reason_answer k
answer (atom depth) k = atom_answer depth k
answer (tail t) k = if same_kind k (opener t) then takes (behind t) else skips

-- symbols in front of what is expected
abbrev pub onto : List Symbol → Expected → Expected
onto [] e = e
onto (s ∷ ss) e = next s (onto ss e)

-- a term, and what is expected behind it
abbrev pub term_then : ℕ → Expected → Expected
term_then depth e = next (atom depth) (next (tail (atoms_left depth)) (next (tail (pars_left depth)) e))

-- behind the first token of a term that a step leads to
abbrev pub goal_more : Expected
goal_more = next (tail (atoms_left most_nested)) (next (tail (pars_left most_nested)) (next (tail reason_left) steps))

-- what is expected behind the token: what the symbol says, or where it is passed over, what the rest says
abbrev pub proceed : Answer → Option Expected → Expected → Option Expected
proceed (takes ss) else' e = Some (onto ss e)
proceed skips else' e = else'
proceed refuses else' e = None

-- what is expected behind the first word of a statement
abbrev pub start : TokenKind → Option Expected
start WordGen = Some (next (token Ident) (next (token Colon) (next (token Number) (next (token Arrow) (next (token Number) nothing)))))
start WordLet = Some (next (token Ident) (next (token Equals) (term_then most_nested nothing)))
start WordRule = Some (next (token Ident)
    (next (token Colon) (term_then most_nested (next (token Equals) (term_then most_nested nothing)))))
start WordRewrite = Some (next (token Ident) (next (token Colon) (term_then most_nested steps)))
start WordImport = Some (next (token Ident) (next (tail prefix_left) nothing))
start WordShow = Some (next name nothing)
start _ = None

-- what is expected behind a token, if it may stand there
abbrev pub step : Expected → TokenKind → Option Expected
step nothing k = None
step statement k = start k
step steps k = if same_kind k Equals then Some goal else None
step goal k = if same_kind k QuestionMark then Some (next (tail reason_left) nothing)
    else proceed (answer (atom most_nested) k) None goal_more
step (next s e) k = proceed (answer s k) (step e k) e

-- the symbol may be left out
abbrev pub symbol_ends : Symbol → Bool
symbol_ends (tail t) = true
symbol_ends _ = false

-- nothing more has to be there
abbrev pub ends : Expected → Bool
ends nothing = true
ends statement = false
ends steps = true
ends goal = false
ends (next s e) = if symbol_ends s then ends e else false

-- the tokens are what was expected, or they stop to be in front of the rest
pub data Verdict : Type 0 where
  accepted : Verdict
  stopped : List NumberedToken → Verdict

-- the verdict of the rest, where there is a rest
abbrev pub go_on : Option Expected → (Expected → Verdict) → Verdict → Verdict
go_on None more here = here
go_on (Some e) more here = more e

-- what becomes of tokens where this is expected
unfoldable pub verdict : Expected → List NumberedToken → Verdict
verdict e [] = if ends e then accepted else stopped []
verdict e (x ∷ xs) = go_on (step e (kind_of x)) (λ e'. verdict e' xs) (stopped (x ∷ xs))
