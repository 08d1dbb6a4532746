-- The statements, from their first word on.
use Rattle.std.proofs.Common.{◌≡◌, ℕ, ◌+◌, List, [], ◌∷◌, ◌++◌, None, Some, refl, sym, ◌∙◌, ap, subst}
use Rattle.chyp_lex.specs.declared.token.Token.{Token}
use Rattle.chyp_lex.specs.declared.token.TokenKind.{TokenKind}
use Rattle.chyp_lex.specs.declared.token.TokenKind.TheVariants.{Ident, Number, Colon, Arrow, Equals, WordGen, WordLet, WordRule, WordRewrite, WordImport, WordShow, WordAs}
use Rattle.chyp_syntax.specs.Expected.{token, Expected, statement, next, start, stopped, verdict}
use Rattle.chyp_syntax.specs.Numbered.{NumberedToken, kind_of, value_of}
use Rattle.chyp_syntax.specs.Beginning.{tokens_from, BeginsWithKind, BeginsWithName, BeginsWithNumber}
use Rattle.chyp_syntax.specs.Reads.{BeginsWith}
use Rattle.chyp_syntax.specs.Sentence.{most_nested, IsTerm, AreSteps, IsStatement, is_gen, is_let, is_rule, is_rewrite, is_import, is_import_as, is_show}
use Rattle.chyp_syntax.specs.Statement.{generator, abbreviation, rule, rewrite, inclusion, showing}
use Rattle.chyp_syntax.specs.Step.{StepTree}
use Rattle.chyp_syntax.specs.Term.{TermTree}
use Rattle.chyp_syntax.proofs.Numbered.{token_there, number_kind}
use Rattle.chyp_syntax.proofs.Pieces.{name_there, to_end}
use Rattle.chyp_syntax.proofs.Verdicts.{verdict-step, verdict-none, verdict-end, token_passes}

-- ---- what is expected

pub word_expects : (tokens : List Token) (kind : TokenKind) (e : Expected) → start kind ≡ Some e → BeginsWithKind kind (tokens_from tokens 0) →
    verdict statement (tokens_from tokens 0) ≡ verdict e (tokens_from tokens 1)
word_expects tokens kind e is begins =
    let h = token_there tokens 0 kind begins in
    let x : NumberedToken = (0, h.0) in
    ap (verdict statement) h.2 ∙ verdict-step statement e x (tokens_from tokens 1) (ap start h.3 ∙ is)

pub named_expects : (tokens : List Token) (kind sign : TokenKind) (e : Expected) → start kind ≡ Some (next (token Ident) (next (token sign) e)) → BeginsWithKind kind (tokens_from tokens 0) →
    BeginsWithKind Ident (tokens_from tokens 1) → verdict statement (tokens_from tokens 0) ≡ verdict (next (token sign) e) (tokens_from tokens 2)
named_expects tokens kind sign e is word name =
    word_expects tokens kind (next (token Ident) (next (token sign) e)) is word ∙ token_passes tokens 1 Ident (next (token sign) e) name

pub signed_expects : (tokens : List Token) (kind sign : TokenKind) (e : Expected) → start kind ≡ Some (next (token Ident) (next (token sign) e)) → BeginsWithKind kind (tokens_from tokens 0) →
    BeginsWithKind Ident (tokens_from tokens 1) → BeginsWithKind sign (tokens_from tokens 2) → verdict statement (tokens_from tokens 0) ≡ verdict e (tokens_from tokens 3)
signed_expects tokens kind sign e is word name there = named_expects tokens kind sign e is word name ∙ token_passes tokens 2 sign e there

-- ---- what is there

pub gen_there : (tokens : List Token) (dom cod : ℕ) → BeginsWithKind WordGen (tokens_from tokens 0) → BeginsWithKind Ident (tokens_from tokens 1) → BeginsWithKind Colon (tokens_from tokens 2) →
    BeginsWithNumber dom (tokens_from tokens 3) → BeginsWithKind Arrow (tokens_from tokens 4) → BeginsWithNumber cod (tokens_from tokens 5) → tokens_from tokens 6 ≡ [] →
    IsStatement (tokens_from tokens 0) (generator 1 dom cod)
gen_there tokens dom cod word name colon in' arrow out ended =
    let h0 = token_there tokens 0 WordGen word in
    let h1 = token_there tokens 1 Ident name in
    let h2 = token_there tokens 2 Colon colon in
    let h3 = token_there tokens 3 Number (number_kind dom (tokens_from tokens 3) in') in
    let h4 = token_there tokens 4 Arrow arrow in
    let h5 = token_there tokens 5 Number (number_kind cod (tokens_from tokens 5) out) in
    let x0 : NumberedToken = (0, h0.0) in
    let x1 : NumberedToken = (1, h1.0) in
    let x2 : NumberedToken = (2, h2.0) in
    let x3 : NumberedToken = (3, h3.0) in
    let x4 : NumberedToken = (4, h4.0) in
    let x5 : NumberedToken = (5, h5.0) in
    let all : tokens_from tokens 0 ≡ x0 ∷ x1 ∷ x2 ∷ x3 ∷ x4 ∷ x5 ∷ [] =
    h0.2 ∙ ap (λ ys. x0 ∷ ys) (h1.2 ∙ ap (λ ys. x1 ∷ ys) (h2.2 ∙ ap (λ ys. x2 ∷ ys) (h3.2 ∙ ap (λ ys. x3 ∷ ys) (h4.2 ∙ ap (λ ys. x4 ∷ ys) (h5.2 ∙ ap (λ ys. x5 ∷ ys) ended))))) in
    let v3 : (kind_of x3 ≡ Number) × (dom ≡ value_of x3) = subst (BeginsWithNumber dom) h3.2 in' in
    let v5 : (kind_of x5 ≡ Number) × (cod ≡ value_of x5) = subst (BeginsWithNumber cod) h5.2 out in
    let made = is_gen {word = x0} {name = x1} {colon = x2} {dom = x3} {arrow = x4} {cod = x5} h0.3 h1.3 h2.3 h3.3 h4.3 h5.3 in
    subst (λ d. IsStatement (tokens_from tokens 0) (generator 1 d cod)) (sym v3.1) (
    subst (λ d. IsStatement (tokens_from tokens 0) (generator 1 (value_of x3) d)) (sym v5.1) (
    subst (λ ys. IsStatement ys (generator 1 (value_of x3) (value_of x5))) (sym all) made
    )
    )

pub let_there : (tokens : List Token) (end : ℕ) (tree : TermTree) → BeginsWithKind WordLet (tokens_from tokens 0) → BeginsWithKind Ident (tokens_from tokens 1)
    → BeginsWithKind Equals (tokens_from tokens 2) →
    BeginsWith (IsTerm most_nested) (tokens_from tokens 3) (tokens_from tokens end) tree → tokens_from tokens end ≡ [] → IsStatement (tokens_from tokens 0) (abbreviation 1 tree)
let_there tokens end tree word name equals term ended =
    let h0 = token_there tokens 0 WordLet word in
    let h1 = token_there tokens 1 Ident name in
    let h2 = token_there tokens 2 Equals equals in
    let x0 : NumberedToken = (0, h0.0) in
    let x1 : NumberedToken = (1, h1.0) in
    let x2 : NumberedToken = (2, h2.0) in
    let all : tokens_from tokens 0 ≡ x0 ∷ x1 ∷ x2 ∷ tokens_from tokens 3 = h0.2 ∙ ap (λ ys. x0 ∷ ys) (h1.2 ∙ ap (λ ys. x1 ∷ ys) h2.2) in
    subst (λ ys. IsStatement ys (abbreviation 1 tree)) (sym all)
    (is_let {word = x0} {name = x1} {equals = x2} h0.3 h1.3 h2.3 (to_end (IsTerm most_nested) (tokens_from tokens 3) (tokens_from tokens end) tree term ended))

pub rule_there : (tokens : List Token) (middle end : ℕ) (first second : TermTree) → BeginsWithKind WordRule (tokens_from tokens 0) → BeginsWithKind Ident (tokens_from tokens 1)
    → BeginsWithKind Colon (tokens_from tokens 2) →
    BeginsWith (IsTerm most_nested) (tokens_from tokens 3) (tokens_from tokens middle) first → BeginsWithKind Equals (tokens_from tokens middle) →
    BeginsWith (IsTerm most_nested) (tokens_from tokens (middle + 1)) (tokens_from tokens end) second → tokens_from tokens end ≡ [] → IsStatement (tokens_from tokens 0) (rule 1 first middle second)
rule_there tokens middle end first second word name colon left equals right ended =
    let h0 = token_there tokens 0 WordRule word in
    let h1 = token_there tokens 1 Ident name in
    let h2 = token_there tokens 2 Colon colon in
    let h3 = token_there tokens middle Equals equals in
    let x0 : NumberedToken = (0, h0.0) in
    let x1 : NumberedToken = (1, h1.0) in
    let x2 : NumberedToken = (2, h2.0) in
    let x3 : NumberedToken = (middle, h3.0) in
    let all : tokens_from tokens 0 ≡ x0 ∷ x1 ∷ x2 ∷ (left.front ++ x3 ∷ tokens_from tokens (middle + 1)) =
    h0.2 ∙ ap (λ ys. x0 ∷ ys) (h1.2 ∙ ap (λ ys. x1 ∷ ys) (h2.2 ∙ ap (λ ys. x2 ∷ ys) (left.joined ∙ ap (λ ys. left.front ++ ys) h3.2))) in
    subst (λ ys. IsStatement ys (rule 1 first middle second)) (sym all)
    (is_rule {word = x0} {name = x1} {colon = x2} x3 h0.3 h1.3 h2.3 left.is h3.3 (to_end (IsTerm most_nested) (tokens_from tokens (middle + 1)) (tokens_from tokens end) second right ended))

pub rewrite_there : (tokens : List Token) (end : ℕ) (first : TermTree) (trees : List StepTree) → BeginsWithKind WordRewrite (tokens_from tokens 0) → BeginsWithKind Ident (tokens_from tokens 1)
    → BeginsWithKind Colon (tokens_from tokens 2) →
    BeginsWith (IsTerm most_nested) (tokens_from tokens 3) (tokens_from tokens end) first → AreSteps (tokens_from tokens end) trees → IsStatement (tokens_from tokens 0) (rewrite 1 first trees)
rewrite_there tokens end first trees word name colon term are =
    let h0 = token_there tokens 0 WordRewrite word in
    let h1 = token_there tokens 1 Ident name in
    let h2 = token_there tokens 2 Colon colon in
    let x0 : NumberedToken = (0, h0.0) in
    let x1 : NumberedToken = (1, h1.0) in
    let x2 : NumberedToken = (2, h2.0) in
    let all : tokens_from tokens 0 ≡ x0 ∷ x1 ∷ x2 ∷ (term.front ++ tokens_from tokens end) = h0.2 ∙ ap (λ ys. x0 ∷ ys) (h1.2 ∙ ap (λ ys. x1 ∷ ys) (h2.2 ∙ ap (λ ys. x2 ∷ ys) term.joined)) in
    subst (λ ys. IsStatement ys (rewrite 1 first trees)) (sym all) (is_rewrite {word = x0} {name = x1} {colon = x2} h0.3 h1.3 h2.3 term.is are)

pub import_there : (tokens : List Token) → BeginsWithKind WordImport (tokens_from tokens 0) → BeginsWithKind Ident (tokens_from tokens 1) → tokens_from tokens 2 ≡ []
    → IsStatement (tokens_from tokens 0) (inclusion 1 None)
import_there tokens word name ended =
    let h0 = token_there tokens 0 WordImport word in
    let h1 = token_there tokens 1 Ident name in
    let x0 : NumberedToken = (0, h0.0) in
    let x1 : NumberedToken = (1, h1.0) in
    let all : tokens_from tokens 0 ≡ x0 ∷ x1 ∷ [] = h0.2 ∙ ap (λ ys. x0 ∷ ys) (h1.2 ∙ ap (λ ys. x1 ∷ ys) ended) in
    subst (λ ys. IsStatement ys (inclusion 1 None)) (sym all) (is_import {word = x0} {name = x1} h0.3 h1.3)

pub import_as_there : (tokens : List Token) → BeginsWithKind WordImport (tokens_from tokens 0) → BeginsWithKind Ident (tokens_from tokens 1) → BeginsWithKind WordAs (tokens_from tokens 2)
    → BeginsWithKind Ident (tokens_from tokens 3) →
    tokens_from tokens 4 ≡ [] → IsStatement (tokens_from tokens 0) (inclusion 1 (Some 3))
import_as_there tokens word name as' prefix ended =
    let h0 = token_there tokens 0 WordImport word in
    let h1 = token_there tokens 1 Ident name in
    let h2 = token_there tokens 2 WordAs as' in
    let h3 = token_there tokens 3 Ident prefix in
    let x0 : NumberedToken = (0, h0.0) in
    let x1 : NumberedToken = (1, h1.0) in
    let x2 : NumberedToken = (2, h2.0) in
    let x3 : NumberedToken = (3, h3.0) in
    let all : tokens_from tokens 0 ≡ x0 ∷ x1 ∷ x2 ∷ x3 ∷ [] = h0.2 ∙ ap (λ ys. x0 ∷ ys) (h1.2 ∙ ap (λ ys. x1 ∷ ys) (h2.2 ∙ ap (λ ys. x2 ∷ ys) (h3.2 ∙ ap (λ ys. x3 ∷ ys) ended))) in
    subst (λ ys. IsStatement ys (inclusion 1 (Some 3))) (sym all) (is_import_as {word = x0} {name = x1} {as' = x2} {prefix = x3} h0.3 h1.3 h2.3 h3.3)

pub show_there : (tokens : List Token) → BeginsWithKind WordShow (tokens_from tokens 0) → BeginsWithName (tokens_from tokens 1) → tokens_from tokens 2 ≡ []
    → IsStatement (tokens_from tokens 0) (showing 1)
show_there tokens word name ended =
    let h0 = token_there tokens 0 WordShow word in
    let h1 = name_there tokens 1 name in
    let x0 : NumberedToken = (0, h0.0) in
    let x1 : NumberedToken = (1, h1.0) in
    let all : tokens_from tokens 0 ≡ x0 ∷ x1 ∷ [] = h0.2 ∙ ap (λ ys. x0 ∷ ys) (h1.2 ∙ ap (λ ys. x1 ∷ ys) ended) in
    subst (λ ys. IsStatement ys (showing 1)) (sym all) (is_show {word = x0} {name = x1} h0.3 h1.3)

-- ---- no statement

start-refused : (k : TokenKind) → (k ≡ WordGen → ⊥) → (k ≡ WordLet → ⊥) → (k ≡ WordRule → ⊥) → (k ≡ WordRewrite → ⊥) → (k ≡ WordImport → ⊥) → (k ≡ WordShow → ⊥) → start k ≡ None
start-refused WordGen a b c d e f = absurd (a refl)
start-refused WordLet a b c d e f = absurd (b refl)
start-refused WordRule a b c d e f = absurd (c refl)
start-refused WordRewrite a b c d e f = absurd (d refl)
start-refused WordImport a b c d e f = absurd (e refl)
start-refused WordShow a b c d e f = absurd (f refl)
start-refused _ a b c d e f = refl

pub no_statement_there : (xs ys : List NumberedToken) (x : NumberedToken) → xs ≡ x ∷ ys →
    (kind_of x ≡ WordGen → ⊥) → (kind_of x ≡ WordLet → ⊥) → (kind_of x ≡ WordRule → ⊥) → (kind_of x ≡ WordRewrite → ⊥) → (kind_of x ≡ WordImport → ⊥) → (kind_of x ≡ WordShow → ⊥) →
    verdict statement xs ≡ stopped xs
no_statement_there xs ys x here a b c d e f = ap (verdict statement) here ∙ verdict-none statement x ys (start-refused (kind_of x) a b c d e f) ∙ ap stopped (sym here)

pub nothing_there : (xs : List NumberedToken) → xs ≡ [] → verdict statement xs ≡ stopped xs
nothing_there xs ended = ap (verdict statement) ended ∙ verdict-end statement refl ∙ ap stopped (sym ended)
