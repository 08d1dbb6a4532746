-- Each sentence is what is expected: its tokens are accepted one by one.
use Rattle.std.proofs.Common.{◌≡◌, ℕ, suc, if◌then◌else◌, List, [], ◌∷◌, ◌++◌, None, Some, inl, inr, refl, sym, ◌∙◌, ap, subst, append_assoc, append-nil}
use Rattle.chyp_lex.specs.declared.token.TokenKind.{TokenKind}
use Rattle.chyp_lex.specs.declared.token.TokenKind.TheVariants.{Ident, Dotted, Number, Colon, Arrow, Equals, Semicolon, Star, LeftParenthesis, RightParenthesis, LeftBracket, RightBracket, Comma, Minus, QuestionMark, WordGen, WordLet, WordRule, WordRewrite, WordImport, WordShow, WordId, WordId0, WordSw, WordBy, WordSimp}
use Rattle.chyp_syntax.specs.declared.step.ReasonAst.{ReasonAst}
use Rattle.chyp_syntax.specs.declared.step.SignedAst.{SignedAst}
use Rattle.chyp_syntax.specs.Expected.{signed_left, reason_left, numbers_left, places_left, atoms_left, pars_left, prefix_left, token, name, signed, reason, atom, tail, Expected, nothing, statement, steps, goal, next, takes, answer, proceed, start, goal_more, term_then, accepted, verdict}
use Rattle.chyp_syntax.specs.Numbered.{NumberedToken, kind_of, IsName}
use Rattle.chyp_syntax.specs.Beginning.{BeginsWithKind}
use Rattle.chyp_syntax.specs.Sentence.{most_nested, AreNumbers, one_number, more_numbers, IsSwap, two_places, these_places, IsAtom, a_name, an_id, an_id0, a_swap, in_parentheses, AreAtoms, one_atom, more_atoms, IsPar, tensor, ArePars, one_par, more_pars, IsTerm, composite, IsSigned, forwards, backwards, AreSigned, one_signed, more_signed, IsReason, none, by_rule, by_simp, to_term, to_hole, AreSteps, no_step, last_hole, more_steps, IsStatement, is_gen, is_let, is_rule, is_rewrite, is_import, is_import_as, is_show}
use Rattle.chyp_syntax.specs.Statement.{StatementTree}
use Rattle.chyp_syntax.specs.Step.{StepTree}
use Rattle.chyp_syntax.specs.Term.{TermTree}
use Rattle.chyp_syntax.proofs.Verdicts.{same-self, verdict-step, verdict-done, symbol-takes, token-takes, name-takes, tail-takes, tail_skips, name-answers}
use Rattle.chyp_syntax.proofs.Pieces.{reason_signed, goal_term}

-- the list doesn't begin with the kind
abbrev pub Not : TokenKind → List NumberedToken → Type 0
Not kind xs = BeginsWithKind kind xs → ⊥

-- a token of one kind is none of another
pub other : (a b : TokenKind) (x : NumberedToken) (xs : List NumberedToken) → kind_of x ≡ a → (a ≡ b → ⊥) → Not b (x ∷ xs)
other a b x xs is f k = f (sym is ∙ k)

-- ---- numbers and swaps

numbers-drive : {xs : List NumberedToken} {vs : List ℕ} → AreNumbers xs vs → (rest : List NumberedToken) (e : Expected) → Not Comma rest →
    verdict (next (token Number) (next (tail numbers_left) e)) (xs ++ rest) ≡ verdict e rest
numbers-drive (one_number {number = x} is) rest e ends = token-takes Number (next (tail numbers_left) e) x rest is ∙ tail_skips numbers_left e rest ends
numbers-drive (more_numbers {number = x} {comma = y} {rest = zs} is comma are) rest e ends =
    token-takes Number (next (tail numbers_left) e) x (y ∷ (zs ++ rest)) is ∙ tail-takes numbers_left e y (zs ++ rest) comma ∙ numbers-drive are rest e ends

swap-drive : {xs : List NumberedToken} {t : TermTree} → IsSwap xs t → (depth : ℕ) (rest : List NumberedToken) (e : Expected) → Not LeftBracket rest →
    verdict (next (atom depth) e) (xs ++ rest) ≡ verdict e rest
swap-drive (two_places {word = x} is) depth rest e ends = symbol-takes (atom depth) (tail places_left ∷ []) e x rest (ap (answer (atom depth)) is) ∙ tail_skips places_left e rest ends
swap-drive (these_places {word = x} {open' = y} z {places = ps} is open' are close) depth rest e ends =
    symbol-takes (atom depth) (tail places_left ∷ []) e x (y ∷ ((ps ++ z ∷ []) ++ rest)) (ap (answer (atom depth)) is)
    ∙ tail-takes places_left e y ((ps ++ z ∷ []) ++ rest) open'
    ∙ ap (verdict (next (token Number) (next (tail numbers_left) (next (token RightBracket) e)))) (append_assoc ps (z ∷ []) rest)
    ∙ numbers-drive are (z ∷ rest) (next (token RightBracket) e) (other RightBracket Comma z rest close (λ c. cc))
    ∙ token-takes RightBracket e z rest close

-- ---- terms

mutual
  pub atom-drive : {depth : ℕ} {xs : List NumberedToken} {t : TermTree} → IsAtom depth xs t → (rest : List NumberedToken) (e : Expected) → Not LeftBracket rest →
      verdict (next (atom depth) e) (xs ++ rest) ≡ verdict e rest
  atom-drive (a_name {depth} {word = x} is) rest e ends = symbol-takes (atom depth) [] e x rest (name-answers depth x is)
  atom-drive (an_id {depth} {word = x} is) rest e ends = symbol-takes (atom depth) [] e x rest (ap (answer (atom depth)) is)
  atom-drive (an_id0 {depth} {word = x} is) rest e ends = symbol-takes (atom depth) [] e x rest (ap (answer (atom depth)) is)
  atom-drive (a_swap {depth} is) rest e ends = swap-drive is depth rest e ends
  atom-drive (in_parentheses {depth} {open' = x} y {inner = zs} open' is close) rest e ends =
      symbol-takes (atom (suc depth)) (atom depth ∷ tail (atoms_left depth) ∷ tail (pars_left depth) ∷ token RightParenthesis ∷ []) e x ((zs ++ y ∷ []) ++ rest) (ap (answer (atom (suc depth))) open')
      ∙ ap (verdict (term_then depth (next (token RightParenthesis) e))) (append_assoc zs (y ∷ []) rest)
      ∙ term-drive is (y ∷ rest) (next (token RightParenthesis) e) (other RightParenthesis LeftBracket y rest close (λ c. cc)) (other RightParenthesis Star y rest close (λ c. cc))
      (other RightParenthesis Semicolon y rest close (λ c. cc))
      ∙ token-takes RightParenthesis e y rest close

  pub atoms-drive : {depth : ℕ} {xs : List NumberedToken} {ts : List TermTree} → AreAtoms depth xs ts → (rest : List NumberedToken) (e : Expected) → Not LeftBracket rest → Not Star rest →
      verdict (next (atom depth) (next (tail (atoms_left depth)) e)) (xs ++ rest) ≡ verdict e rest
  atoms-drive (one_atom {depth} is) rest e no_bracket no_star = atom-drive is rest (next (tail (atoms_left depth)) e) no_bracket ∙ tail_skips (atoms_left depth) e rest no_star
  atoms-drive (more_atoms {depth} {atom = a} {rest = b} x is star are) rest e no_bracket no_star =
      ap (verdict (next (atom depth) (next (tail (atoms_left depth)) e))) (append_assoc a (x ∷ b) rest)
      ∙ atom-drive is (x ∷ (b ++ rest)) (next (tail (atoms_left depth)) e) (other Star LeftBracket x (b ++ rest) star (λ c. cc))
      ∙ tail-takes (atoms_left depth) e x (b ++ rest) star ∙ atoms-drive are rest e no_bracket no_star

  pub par-drive : {depth : ℕ} {xs : List NumberedToken} {t : TermTree} → IsPar depth xs t → (rest : List NumberedToken) (e : Expected) → Not LeftBracket rest → Not Star rest →
      verdict (next (atom depth) (next (tail (atoms_left depth)) e)) (xs ++ rest) ≡ verdict e rest
  par-drive (tensor are) rest e no_bracket no_star = atoms-drive are rest e no_bracket no_star

  pub pars-drive : {depth : ℕ} {xs : List NumberedToken} {ts : List TermTree} {ms : List ℕ} → ArePars depth xs ts ms → (rest : List NumberedToken) (e : Expected) → Not LeftBracket rest → Not Star rest
      → Not Semicolon rest →
      verdict (term_then depth e) (xs ++ rest) ≡ verdict e rest
  pars-drive (one_par {depth} is) rest e no_bracket no_star no_semi = par-drive is rest (next (tail (pars_left depth)) e) no_bracket no_star ∙ tail_skips (pars_left depth) e rest no_semi
  pars-drive (more_pars {depth} {par = a} {rest = b} x is semi are) rest e no_bracket no_star no_semi =
      ap (verdict (term_then depth e)) (append_assoc a (x ∷ b) rest)
      ∙ par-drive is (x ∷ (b ++ rest)) (next (tail (pars_left depth)) e) (other Semicolon LeftBracket x (b ++ rest) semi (λ c. cc)) (other Semicolon Star x (b ++ rest) semi (λ c. cc))
      ∙ tail-takes (pars_left depth) e x (b ++ rest) semi ∙ pars-drive are rest e no_bracket no_star no_semi

  pub term-drive : {depth : ℕ} {xs : List NumberedToken} {t : TermTree} → IsTerm depth xs t → (rest : List NumberedToken) (e : Expected) → Not LeftBracket rest → Not Star rest → Not Semicolon rest →
      verdict (term_then depth e) (xs ++ rest) ≡ verdict e rest
  term-drive (composite are) rest e no_bracket no_star no_semi = pars-drive are rest e no_bracket no_star no_semi

pub term-drive-end : {depth : ℕ} {xs : List NumberedToken} {t : TermTree} → IsTerm depth xs t → (e : Expected) → verdict (term_then depth e) xs ≡ verdict e []
term-drive-end {depth} {xs} is e = ap (verdict (term_then depth e)) (sym (append-nil xs)) ∙ term-drive is [] e (λ k. k) (λ k. k) (λ k. k)

-- ---- reasons

signed-answer : (x : NumberedToken) → IsName x → answer signed (kind_of x) ≡ takes []
signed-answer x (inl k) = ap (answer signed) k
signed-answer x (inr k) = ap (answer signed) k

signed-drive : {xs : List NumberedToken} {t : SignedAst} → IsSigned xs t → (rest : List NumberedToken) (e : Expected) → verdict (next signed e) (xs ++ rest) ≡ verdict e rest
signed-drive (forwards {word = x} is) rest e = symbol-takes signed [] e x rest (signed-answer x is)
signed-drive (backwards {minus = x} {word = y} minus is) rest e = symbol-takes signed (name ∷ []) e x (y ∷ rest) (ap (answer signed) minus) ∙ name-takes e y rest is

signeds-drive : {xs : List NumberedToken} {ts : List SignedAst} → AreSigned xs ts → (rest : List NumberedToken) (e : Expected) → Not Comma rest →
    verdict (next signed (next (tail signed_left) e)) (xs ++ rest) ≡ verdict e rest
signeds-drive (one_signed is) rest e ends = signed-drive is rest (next (tail signed_left) e) ∙ tail_skips signed_left e rest ends
signeds-drive (more_signed {tokens = a} {rest = b} x is comma are) rest e ends =
    ap (verdict (next signed (next (tail signed_left) e))) (append_assoc a (x ∷ b) rest) ∙ signed-drive is (x ∷ (b ++ rest)) (next (tail signed_left) e)
    ∙ tail-takes signed_left e x (b ++ rest) comma ∙ signeds-drive are rest e ends

-- a signed name doesn't begin with `simp`
name-no-simp : (x : NumberedToken) (xs : List NumberedToken) → IsName x → Not WordSimp (x ∷ xs)
name-no-simp x xs (inl is) k = let clash : Ident ≡ WordSimp = sym is ∙ k in cc
name-no-simp x xs (inr is) k = cc

pub signed-no-simp : {xs : List NumberedToken} {t : SignedAst} → IsSigned xs t → (rest : List NumberedToken) → Not WordSimp (xs ++ rest)
signed-no-simp (forwards {word = x} is) rest = name-no-simp x rest is
signed-no-simp (backwards {minus = x} {word = y} minus is) rest = other Minus WordSimp x (y ∷ rest) minus (λ c. cc)

reason-drive : {xs : List NumberedToken} {t : ReasonAst} → IsReason xs t → (rest : List NumberedToken) (e : Expected) → Not WordBy rest →
    verdict (next (tail reason_left) e) (xs ++ rest) ≡ verdict e rest
reason-drive none rest e ends = tail_skips reason_left e rest ends
reason-drive (by_rule {word = x} {tokens = zs} is signed') rest e ends =
    tail-takes reason_left e x (zs ++ rest) is ∙ reason_signed e (zs ++ rest) (signed-no-simp signed' rest) ∙ signed-drive signed' rest e
reason-drive (by_simp {word = x} {simp' = y} {open' = z} w {tokens = zs} is simp' open' are close) rest e ends =
    tail-takes reason_left e x (y ∷ z ∷ ((zs ++ w ∷ []) ++ rest)) is
    ∙ symbol-takes reason (token LeftParenthesis ∷ signed ∷ tail signed_left ∷ token RightParenthesis ∷ []) e y (z ∷ ((zs ++ w ∷ []) ++ rest)) (ap (answer reason) simp')
    ∙ token-takes LeftParenthesis (next signed (next (tail signed_left) (next (token RightParenthesis) e))) z ((zs ++ w ∷ []) ++ rest) open'
    ∙ ap (verdict (next signed (next (tail signed_left) (next (token RightParenthesis) e)))) (append_assoc zs (w ∷ []) rest)
    ∙ signeds-drive are (w ∷ rest) (next (token RightParenthesis) e) (other RightParenthesis Comma w rest close (λ c. cc))
    ∙ token-takes RightParenthesis e w rest close

-- ---- steps

-- a term doesn't begin with `?`
atom-no-mark : {depth : ℕ} {xs : List NumberedToken} {t : TermTree} → IsAtom depth xs t → (rest : List NumberedToken) → Not QuestionMark (xs ++ rest)
atom-no-mark (a_name {word = x} (inl is)) rest = other Ident QuestionMark x rest is (λ c. cc)
atom-no-mark (a_name {word = x} (inr is)) rest = λ k. let clash : Dotted ≡ QuestionMark = sym is ∙ k in cc
atom-no-mark (an_id {word = x} is) rest = other WordId QuestionMark x rest is (λ c. cc)
atom-no-mark (an_id0 {word = x} is) rest = other WordId0 QuestionMark x rest is (λ c. cc)
atom-no-mark (a_swap (two_places {word = x} is)) rest = other WordSw QuestionMark x rest is (λ c. cc)
atom-no-mark (a_swap (these_places {word = x} {open' = y} z {places = ps} is open' are close)) rest = other WordSw QuestionMark x (y ∷ ((ps ++ z ∷ []) ++ rest)) is (λ c. cc)
atom-no-mark (in_parentheses {open' = x} y {inner = zs} is term close) rest = other LeftParenthesis QuestionMark x ((zs ++ y ∷ []) ++ rest) is (λ c. cc)

atoms-no-mark : {depth : ℕ} {xs : List NumberedToken} {ts : List TermTree} → AreAtoms depth xs ts → (rest : List NumberedToken) → Not QuestionMark (xs ++ rest)
atoms-no-mark (one_atom is) rest = atom-no-mark is rest
atoms-no-mark (more_atoms {atom = a} {rest = b} x is star are) rest = subst (Not QuestionMark) (sym (append_assoc a (x ∷ b) rest)) (atom-no-mark is (x ∷ (b ++ rest)))

par-no-mark : {depth : ℕ} {xs : List NumberedToken} {t : TermTree} → IsPar depth xs t → (rest : List NumberedToken) → Not QuestionMark (xs ++ rest)
par-no-mark (tensor are) rest = atoms-no-mark are rest

pars-no-mark : {depth : ℕ} {xs : List NumberedToken} {ts : List TermTree} {ms : List ℕ} → ArePars depth xs ts ms → (rest : List NumberedToken) → Not QuestionMark (xs ++ rest)
pars-no-mark (one_par is) rest = par-no-mark is rest
pars-no-mark (more_pars {par = a} {rest = b} x is semi are) rest = subst (Not QuestionMark) (sym (append_assoc a (x ∷ b) rest)) (par-no-mark is (x ∷ (b ++ rest)))

pub term-no-mark : {depth : ℕ} {xs : List NumberedToken} {t : TermTree} → IsTerm depth xs t → (rest : List NumberedToken) → Not QuestionMark (xs ++ rest)
term-no-mark (composite are) rest = pars-no-mark are rest

-- what may stand behind a term in a rewrite: nothing, an `=` or a `by`
abbrev pub Ends : List NumberedToken → Type 0
Ends xs = Not LeftBracket xs × Not Star xs × Not Semicolon xs

pub ends-kind : (k : TokenKind) (x : NumberedToken) (xs : List NumberedToken) → kind_of x ≡ k → (k ≡ LeftBracket → ⊥) → (k ≡ Star → ⊥) → (k ≡ Semicolon → ⊥) → Ends (x ∷ xs)
ends-kind k x xs is a b c = (other k LeftBracket x xs is a, other k Star x xs is b, other k Semicolon x xs is c)

pub steps-begin : {xs : List NumberedToken} {ts : List StepTree} → AreSteps xs ts → Ends xs × Not WordBy xs
steps-begin no_step = ((λ k. k, λ k. k, λ k. k), λ k. k)
steps-begin (last_hole (to_hole {equals = x} {mark = y} {by = zs} is mark why)) =
    (ends-kind Equals x (y ∷ zs) is (λ c. cc) (λ c. cc) (λ c. cc), other Equals WordBy x (y ∷ zs) is (λ c. cc))
steps-begin (more_steps {rest = rest} (to_term {equals = x} {term = a} {by = b} is term why) are) =
    (ends-kind Equals x ((a ++ b) ++ rest) is (λ c. cc) (λ c. cc) (λ c. cc), other Equals WordBy x ((a ++ b) ++ rest) is (λ c. cc))

pub reason-begins : {xs : List NumberedToken} {t : ReasonAst} → IsReason xs t → (rest : List NumberedToken) → Ends rest → Ends (xs ++ rest)
reason-begins none rest ends = ends
reason-begins (by_rule {word = x} {tokens = zs} is signed') rest ends = ends-kind WordBy x (zs ++ rest) is (λ c. cc) (λ c. cc) (λ c. cc)
reason-begins (by_simp {word = x} {simp' = y} {open' = z} w {tokens = zs} is simp' open' are close) rest ends =
    ends-kind WordBy x (y ∷ z ∷ ((zs ++ w ∷ []) ++ rest)) is (λ c. cc) (λ c. cc) (λ c. cc)

steps-to-goal : (x : NumberedToken) (xs : List NumberedToken) → kind_of x ≡ Equals → verdict steps (x ∷ xs) ≡ verdict goal xs
steps-to-goal x xs is = verdict-step steps goal x xs (ap (λ b. if b then Some goal else None) (same-self (kind_of x) Equals is))

goal-to-reason : (x : NumberedToken) (xs : List NumberedToken) → kind_of x ≡ QuestionMark → verdict goal (x ∷ xs) ≡ verdict (next (tail reason_left) nothing) xs
goal-to-reason x xs is =
    verdict-step goal (next (tail reason_left) nothing) x xs
    (ap (λ b. if b then Some (next (tail reason_left) nothing) else proceed (answer (atom most_nested) (kind_of x)) None goal_more) (same-self (kind_of x) QuestionMark is))

reason-drive-end : {xs : List NumberedToken} {t : ReasonAst} → IsReason xs t → verdict (next (tail reason_left) nothing) xs ≡ accepted
reason-drive-end {xs} is = ap (verdict (next (tail reason_left) nothing)) (sym (append-nil xs)) ∙ reason-drive is [] nothing (λ k. k) ∙ verdict-done nothing refl

pub steps-drive : {xs : List NumberedToken} {ts : List StepTree} → AreSteps xs ts → verdict steps xs ≡ accepted
steps-drive no_step = verdict-done steps refl
steps-drive (last_hole (to_hole {equals = x} {mark = y} {by = zs} is mark why)) = steps-to-goal x (y ∷ zs) is ∙ goal-to-reason y zs mark ∙ reason-drive-end why
steps-drive (more_steps {rest = rest} (to_term {equals = x} {term = a} {by = b} is term why) are) =
    let begins = steps-begin are in
    let ends = reason-begins why rest begins.0 in
    steps-to-goal x ((a ++ b) ++ rest) is ∙ ap (verdict goal) (append_assoc a b rest) ∙ goal_term (a ++ (b ++ rest)) (term-no-mark term (b ++ rest))
    ∙ term-drive term (b ++ rest) (next (tail reason_left) steps) ends.0 ends.1 ends.2 ∙ reason-drive why rest steps begins.1 ∙ steps-drive are

-- ---- statements

begins-with : (k : TokenKind) (e : Expected) (x : NumberedToken) (xs : List NumberedToken) → kind_of x ≡ k → start k ≡ Some e → verdict statement (x ∷ xs) ≡ verdict e xs
begins-with k e x xs is to = verdict-step statement e x xs (ap start is ∙ to)

pub statement-drive : {xs : List NumberedToken} {t : StatementTree} → IsStatement xs t → verdict statement xs ≡ accepted
statement-drive (is_gen {word = x0} {name = x1} {colon = x2} {dom = x3} {arrow = x4} {cod = x5} h0 h1 h2 h3 h4 h5) =
    begins-with WordGen (next (token Ident) (next (token Colon) (next (token Number) (next (token Arrow) (next (token Number) nothing))))) x0 (x1 ∷ x2 ∷ x3 ∷ x4 ∷ x5 ∷ []) h0 refl
    ∙ token-takes Ident (next (token Colon) (next (token Number) (next (token Arrow) (next (token Number) nothing)))) x1 (x2 ∷ x3 ∷ x4 ∷ x5 ∷ []) h1
    ∙ token-takes Colon (next (token Number) (next (token Arrow) (next (token Number) nothing))) x2 (x3 ∷ x4 ∷ x5 ∷ []) h2
    ∙ token-takes Number (next (token Arrow) (next (token Number) nothing)) x3 (x4 ∷ x5 ∷ []) h3
    ∙ token-takes Arrow (next (token Number) nothing) x4 (x5 ∷ []) h4 ∙ token-takes Number nothing x5 [] h5 ∙ verdict-done nothing refl
statement-drive (is_let {word = x0} {name = x1} {equals = x2} {term = zs} h0 h1 h2 term) =
    begins-with WordLet (next (token Ident) (next (token Equals) (term_then most_nested nothing))) x0 (x1 ∷ x2 ∷ zs) h0 refl
    ∙ token-takes Ident (next (token Equals) (term_then most_nested nothing)) x1 (x2 ∷ zs) h1 ∙ token-takes Equals (term_then most_nested nothing) x2 zs h2
    ∙ term-drive-end term nothing ∙ verdict-done nothing refl
statement-drive (is_rule {word = x0} {name = x1} {colon = x2} x3 {left = a} {right = b} h0 h1 h2 left h3 right) =
    let e3 = next (token Equals) (term_then most_nested nothing) in
    begins-with WordRule (next (token Ident) (next (token Colon) (term_then most_nested e3))) x0 (x1 ∷ x2 ∷ (a ++ x3 ∷ b)) h0 refl
    ∙ token-takes Ident (next (token Colon) (term_then most_nested e3)) x1 (x2 ∷ (a ++ x3 ∷ b)) h1 ∙ token-takes Colon (term_then most_nested e3) x2 (a ++ x3 ∷ b) h2
    ∙ term-drive left (x3 ∷ b) e3 (other Equals LeftBracket x3 b h3 (λ c. cc)) (other Equals Star x3 b h3 (λ c. cc)) (other Equals Semicolon x3 b h3 (λ c. cc))
    ∙ token-takes Equals (term_then most_nested nothing) x3 b h3 ∙ term-drive-end right nothing ∙ verdict-done nothing refl
statement-drive (is_rewrite {word = x0} {name = x1} {colon = x2} {term = a} {rest = b} h0 h1 h2 term are) =
    let begins = steps-begin are in
    begins-with WordRewrite (next (token Ident) (next (token Colon) (term_then most_nested steps))) x0 (x1 ∷ x2 ∷ (a ++ b)) h0 refl
    ∙ token-takes Ident (next (token Colon) (term_then most_nested steps)) x1 (x2 ∷ (a ++ b)) h1 ∙ token-takes Colon (term_then most_nested steps) x2 (a ++ b) h2
    ∙ term-drive term b steps begins.0.0 begins.0.1 begins.0.2 ∙ steps-drive are
statement-drive (is_import {word = x0} {name = x1} h0 h1) =
    begins-with WordImport (next (token Ident) (next (tail prefix_left) nothing)) x0 (x1 ∷ []) h0 refl
    ∙ token-takes Ident (next (tail prefix_left) nothing) x1 [] h1 ∙ verdict-done (next (tail prefix_left) nothing) refl
statement-drive (is_import_as {word = x0} {name = x1} {as' = x2} {prefix = x3} h0 h1 h2 h3) =
    begins-with WordImport (next (token Ident) (next (tail prefix_left) nothing)) x0 (x1 ∷ x2 ∷ x3 ∷ []) h0 refl
    ∙ token-takes Ident (next (tail prefix_left) nothing) x1 (x2 ∷ x3 ∷ []) h1 ∙ tail-takes prefix_left nothing x2 (x3 ∷ []) h2 ∙ token-takes Ident nothing x3 [] h3 ∙ verdict-done nothing refl
statement-drive (is_show {word = x0} {name = x1} h0 h1) =
    begins-with WordShow (next name nothing) x0 (x1 ∷ []) h0 refl ∙ name-takes nothing x1 [] h1 ∙ verdict-done nothing refl
