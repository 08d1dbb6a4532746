-- Atoms at a place, and what is expected behind their first tokens.
use Rattle.std.proofs.Common.{◌≡◌, ℕ, suc, ◌+◌, ◌-◌, ◌<◌, inl, inr, List, [], ◌∷◌, ◌++◌, refl, sym, ◌∙◌, ap, subst, arith}
use Rattle.chyp_lex.specs.declared.token.Token.{Token}
use Rattle.chyp_lex.specs.declared.token.TokenKind.{TokenKind}
use Rattle.chyp_lex.specs.declared.token.TokenKind.TheVariants.{Ident, Dotted, Semicolon, Star, LeftParenthesis, RightParenthesis, WordId, WordId0, WordSw}
use Rattle.chyp_syntax.specs.Expected.{places_left, atoms_left, pars_left, token, atom, tail, Expected, next, takes, refuses, answer, term_then, stopped, verdict}
use Rattle.chyp_syntax.specs.Numbered.{NumberedToken, kind_of, IsName}
use Rattle.chyp_syntax.specs.Beginning.{tokens_from, BeginsWithKind}
use Rattle.chyp_syntax.specs.Reads.{BeginsWith}
use Rattle.chyp_syntax.specs.Sentence.{IsSwap, IsAtom, a_name, an_id, an_id0, a_swap, in_parentheses, AreAtoms, one_atom, more_atoms, IsPar, tensor, ArePars, one_par, more_pars, IsTerm, composite}
use Rattle.chyp_syntax.specs.Term.{TermTree, named, wire, empty, tensor_of, chain_of}
use Rattle.chyp_syntax.proofs.Numbered.{token_there}
use Rattle.chyp_syntax.proofs.Pieces.{single, closed}
use Rattle.chyp_syntax.proofs.Verdicts.{symbol-takes, symbol-stops}

atom-refused : (depth : ℕ) (k : TokenKind) → (k ≡ Ident → ⊥) → (k ≡ Dotted → ⊥) → (k ≡ WordId → ⊥) → (k ≡ WordId0 → ⊥) → (k ≡ WordSw → ⊥) → (k ≡ LeftParenthesis → ⊥) →
    answer (atom depth) k ≡ refuses
atom-refused depth Ident a b c d e f = absurd (a refl)
atom-refused depth Dotted a b c d e f = absurd (b refl)
atom-refused depth WordId a b c d e f = absurd (c refl)
atom-refused depth WordId0 a b c d e f = absurd (d refl)
atom-refused depth WordSw a b c d e f = absurd (e refl)
atom-refused depth LeftParenthesis a b c d e f = absurd (f refl)
atom-refused depth _ a b c d e f = refl

head-is : (x y : NumberedToken) (xs ys : List NumberedToken) → x ∷ xs ≡ y ∷ ys → x ≡ y
head-is x y xs ys e = cc

-- another token stands there
pub atom_stops : (depth : ℕ) (e : Expected) (xs ys : List NumberedToken) (x : NumberedToken) → xs ≡ x ∷ ys →
    (kind_of x ≡ Ident → ⊥) → (kind_of x ≡ Dotted → ⊥) → (kind_of x ≡ WordId → ⊥) → (kind_of x ≡ WordId0 → ⊥) → (kind_of x ≡ WordSw → ⊥) → (kind_of x ≡ LeftParenthesis → ⊥) →
    verdict (next (atom depth) e) xs ≡ stopped xs
atom_stops depth e xs ys x here a b c d f g =
    symbol-stops (atom depth) e xs refl (λ y zs is. ap (λ z. answer (atom depth) (kind_of z)) (sym (head-is x y ys zs (sym here ∙ is))) ∙ atom-refused depth (kind_of x) a b c d f g)

pub atom_past : (depth : ℕ) (e : Expected) (xs : List NumberedToken) → xs ≡ [] → verdict (next (atom depth) e) xs ≡ stopped xs
atom_past depth e xs ended = symbol-stops (atom depth) e xs refl (λ y zs is. absurd (let clash : y ∷ zs ≡ [] = sym is ∙ ended in cc))

-- ---- one token

pub named_there : (tokens : List Token) (at depth : ℕ) (x : NumberedToken) → x.0 ≡ at → tokens_from tokens at ≡ x ∷ tokens_from tokens (at + 1) → IsName x →
    BeginsWith (IsAtom depth) (tokens_from tokens at) (tokens_from tokens (at + 1)) (named at)
named_there tokens at depth x number here is =
    subst (λ n. BeginsWith (IsAtom depth) (tokens_from tokens at) (tokens_from tokens (at + 1)) (named n)) number
    (single (IsAtom depth) (tokens_from tokens at) (tokens_from tokens (at + 1)) x (named x.0) here (a_name {word = x} is))

pub wire_there : (xs ys : List NumberedToken) (depth : ℕ) (x : NumberedToken) → xs ≡ x ∷ ys → kind_of x ≡ WordId → BeginsWith (IsAtom depth) xs ys wire
wire_there xs ys depth x here is = single (IsAtom depth) xs ys x wire here (an_id {word = x} is)

pub empty_there : (xs ys : List NumberedToken) (depth : ℕ) (x : NumberedToken) → xs ≡ x ∷ ys → kind_of x ≡ WordId0 → BeginsWith (IsAtom depth) xs ys empty
empty_there xs ys depth x here is = single (IsAtom depth) xs ys x empty here (an_id0 {word = x} is)

-- ---- swaps

pub swap_atom : (depth : ℕ) (xs ys : List NumberedToken) (t : TermTree) → BeginsWith IsSwap xs ys t → BeginsWith (IsAtom depth) xs ys t
swap_atom depth xs ys t b = record { front = b.front; joined = b.joined; is = a_swap b.is }

pub swap_expects : (tokens : List Token) (at depth : ℕ) (e : Expected) → BeginsWithKind WordSw (tokens_from tokens at) →
    verdict (next (atom depth) e) (tokens_from tokens at) ≡ verdict (next (tail places_left) e) (tokens_from tokens (at + 1))
swap_expects tokens at depth e begins =
    let h = token_there tokens at WordSw begins in
    ap (verdict (next (atom depth) e)) h.2 ∙ symbol-takes (atom depth) (tail places_left ∷ []) e (at, h.0) (tokens_from tokens (at + 1)) (ap (answer (atom depth)) h.3)

-- ---- parentheses

pub deepest_stops : (e : Expected) (tokens : List Token) (at : ℕ) → BeginsWithKind LeftParenthesis (tokens_from tokens at)
    → verdict (next (atom 0) e) (tokens_from tokens at) ≡ stopped (tokens_from tokens at)
deepest_stops e tokens at begins =
    let h = token_there tokens at LeftParenthesis begins in
    let x : NumberedToken = (at, h.0) in
    symbol-stops (atom 0) e (tokens_from tokens at) refl (λ y zs is. ap (λ z. answer (atom 0) (kind_of z)) (sym (head-is x y (tokens_from tokens (at + 1)) zs (sym h.2 ∙ is)))
    ∙ ap (answer (atom 0)) h.3)

inner-expects-suc : (tokens : List Token) (at depth : ℕ) (e : Expected) → BeginsWithKind LeftParenthesis (tokens_from tokens at) →
    verdict (next (atom (suc depth)) e) (tokens_from tokens at) ≡ verdict (term_then depth (next (token RightParenthesis) e)) (tokens_from tokens (at + 1))
inner-expects-suc tokens at depth e begins =
    let h = token_there tokens at LeftParenthesis begins in
    ap (verdict (next (atom (suc depth)) e)) h.2
    ∙ symbol-takes (atom (suc depth)) (atom depth ∷ tail (atoms_left depth) ∷ tail (pars_left depth) ∷ token RightParenthesis ∷ []) e (at, h.0) (tokens_from tokens (at + 1))
    (ap (answer (atom (suc depth))) h.3)

pub inner_expects : (tokens : List Token) (at depth : ℕ) (e : Expected) → 0 < depth → BeginsWithKind LeftParenthesis (tokens_from tokens at) →
    verdict (next (atom depth) e) (tokens_from tokens at) ≡ verdict (term_then (depth - 1) (next (token RightParenthesis) e)) (tokens_from tokens (at + 1))
inner_expects tokens at depth e some begins =
    let same : suc (depth - 1) ≡ depth = omega arith in
    subst (λ d. verdict (next (atom d) e) (tokens_from tokens at) ≡ verdict (term_then (depth - 1) (next (token RightParenthesis) e)) (tokens_from tokens (at + 1))) same
    (inner-expects-suc tokens at (depth - 1) e begins)

pub is_inner : (tokens : List Token) (at end depth : ℕ) (t : TermTree) → 0 < depth → BeginsWithKind LeftParenthesis (tokens_from tokens at) →
    BeginsWith (IsTerm (depth - 1)) (tokens_from tokens (at + 1)) (tokens_from tokens end) t → BeginsWithKind RightParenthesis (tokens_from tokens end) →
    BeginsWith (IsAtom depth) (tokens_from tokens at) (tokens_from tokens (end + 1)) t
is_inner tokens at end depth t some open' is close =
    let o = token_there tokens at LeftParenthesis open' in
    let c = token_there tokens end RightParenthesis close in
    let x : NumberedToken = (at, o.0) in
    let y : NumberedToken = (end, c.0) in
    let same : suc (depth - 1) ≡ depth = omega arith in
    subst (λ d. BeginsWith (IsAtom d) (tokens_from tokens at) (tokens_from tokens (end + 1)) t) same (record {
      front = x ∷ (is.front ++ y ∷ []);
      joined = o.2 ∙ ap (λ ys. x ∷ ys) (closed tokens RightParenthesis is.front (tokens_from tokens (at + 1)) end is.joined close);
      is = in_parentheses {open' = x} y o.3 is.is c.3;
    })

-- ---- pars and terms

pub atoms_one : (depth : ℕ) (a : List NumberedToken) (t : TermTree) → IsAtom depth a t → AreAtoms depth a (t ∷ [])
atoms_one depth a t is = one_atom is

pub atoms_more : (depth : ℕ) (a b : List NumberedToken) (x : NumberedToken) (t : TermTree) (ts : List TermTree) (ms : List ℕ) →
    IsAtom depth a t → kind_of x ≡ Star → AreAtoms depth b ts → AreAtoms depth (a ++ x ∷ b) (t ∷ ts)
atoms_more depth a b x t ts ms is star are = more_atoms x is star are

pub pars_one : (depth : ℕ) (a : List NumberedToken) (t : TermTree) → IsPar depth a t → ArePars depth a (t ∷ []) []
pars_one depth a t is = one_par is

pub pars_more : (depth : ℕ) (a b : List NumberedToken) (x : NumberedToken) (t : TermTree) (ts : List TermTree) (ms : List ℕ) →
    IsPar depth a t → kind_of x ≡ Semicolon → ArePars depth b ts ms → ArePars depth (a ++ x ∷ b) (t ∷ ts) (x.0 ∷ ms)
pars_more depth a b x t ts ms is semi are = more_pars x is semi are

pub is_tensor : (depth : ℕ) (xs ys : List NumberedToken) (ts : List TermTree) → BeginsWith (AreAtoms depth) xs ys ts → BeginsWith (IsPar depth) xs ys (tensor_of ts)
is_tensor depth xs ys ts b = record { front = b.front; joined = b.joined; is = tensor b.is }

pub is_chain : (depth : ℕ) (xs ys : List NumberedToken) (ts : List TermTree) (ms : List ℕ) → BeginsWith (λ zs us. ArePars depth zs us ms) xs ys ts → BeginsWith (IsTerm depth) xs ys (chain_of ts ms)
is_chain depth xs ys ts ms b = record { front = b.front; joined = b.joined; is = composite b.is }
