-- How the tokens at a place meet what is expected there.
use Rattle.std.proofs.Common.{◌≡◌, ℕ, ◌+◌, ◌≤◌, true, false, if◌then◌else◌, List, [], ◌∷◌, length, None, Some, inl, inr, refl, sym, ◌∙◌, ap, subst}
use denote.Enum.Bare.{same_true, true_same, false_same}
use Rattle.chyp_lex.specs.contracts.token.TokenKind.{the_type}
use Rattle.chyp_lex.specs.declared.token.Token.{Token}
use Rattle.chyp_lex.specs.declared.token.TokenKind.{TokenKind}
use Rattle.chyp_lex.specs.declared.token.TokenKind.TheVariants.{Ident, Dotted}
use Rattle.chyp_syntax.specs.Expected.{same_kind, Tail, opener, behind, Symbol, token, name, atom, tail, Expected, next, takes, skips, refuses, answer, proceed, onto, step, symbol_ends, ends, accepted, stopped, go_on, verdict}
use Rattle.chyp_syntax.specs.Numbered.{NumberedToken, kind_of, IsName}
use Rattle.chyp_syntax.specs.Beginning.{tokens_from, BeginsWithKind, BeginsWithName}
use Rattle.chyp_syntax.specs.Reads.{Stops}
use Rattle.chyp_syntax.proofs.Numbered.{token_there}

pub same-self : (a b : TokenKind) → a ≡ b → same_kind a b ≡ true
same-self a b e = true_same the_type a b e

pub same-other : (a b : TokenKind) → (a ≡ b → ⊥) → same_kind a b ≡ false
same-other a b f = false_same the_type tt a b f

pub same-kinds : (a b : TokenKind) → same_kind a b ≡ true → a ≡ b
same-kinds a b e = same_true the_type tt a b e

-- ---- one token

pub verdict-step : (e e' : Expected) (x : NumberedToken) (xs : List NumberedToken) → step e (kind_of x) ≡ Some e' → verdict e (x ∷ xs) ≡ verdict e' xs
unfolding verdict
verdict-step e e' x xs is = ap (λ o. go_on o (λ e'. verdict e' xs) (stopped (x ∷ xs))) is

pub verdict-none : (e : Expected) (x : NumberedToken) (xs : List NumberedToken) → step e (kind_of x) ≡ None → verdict e (x ∷ xs) ≡ stopped (x ∷ xs)
unfolding verdict
verdict-none e x xs is = ap (λ o. go_on o (λ e'. verdict e' xs) (stopped (x ∷ xs))) is

pub verdict-end : (e : Expected) → ends e ≡ false → verdict e [] ≡ stopped []
unfolding verdict
verdict-end e is = ap (λ b. if b then accepted else stopped []) is

pub verdict-done : (e : Expected) → ends e ≡ true → verdict e [] ≡ accepted
unfolding verdict
verdict-done e is = ap (λ b. if b then accepted else stopped []) is

-- ---- a symbol

pub symbol-takes : (s : Symbol) (ss : List Symbol) (e : Expected) (x : NumberedToken) (xs : List NumberedToken) → answer s (kind_of x) ≡ takes ss →
    verdict (next s e) (x ∷ xs) ≡ verdict (onto ss e) xs
symbol-takes s ss e x xs is = verdict-step (next s e) (onto ss e) x xs (ap (λ a. proceed a (step e (kind_of x)) e) is)

pub symbol-stops : (s : Symbol) (e : Expected) (xs : List NumberedToken) → symbol_ends s ≡ false →
    ((x : NumberedToken) (ys : List NumberedToken) → xs ≡ x ∷ ys → answer s (kind_of x) ≡ refuses) → verdict (next s e) xs ≡ stopped xs
symbol-stops s e [] needed h = verdict-end (next s e) (ap (λ b. if b then ends e else false) needed)
symbol-stops s e (x ∷ xs) needed h = verdict-none (next s e) x xs (ap (λ a. proceed a (step e (kind_of x)) e) (h x xs refl))

pub token-takes : (kind : TokenKind) (e : Expected) (x : NumberedToken) (xs : List NumberedToken) → kind_of x ≡ kind → verdict (next (token kind) e) (x ∷ xs) ≡ verdict e xs
token-takes kind e x xs is = symbol-takes (token kind) [] e x xs (ap (λ b. if b then takes [] else refuses) (same-self (kind_of x) kind is))

pub token_stops : (kind : TokenKind) (e : Expected) (xs : List NumberedToken) → (BeginsWithKind kind xs → ⊥) → verdict (next (token kind) e) xs ≡ stopped xs
token_stops kind e xs not =
    symbol-stops (token kind) e xs refl (λ x ys is. ap (λ b. if b then takes [] else refuses) (same-other (kind_of x) kind (λ k. not (subst (BeginsWithKind kind) (sym is) k))))

-- a token that is no name
name-refused : (k : TokenKind) → (k ≡ Ident → ⊥) → (k ≡ Dotted → ⊥) → answer name k ≡ refuses
name-refused Ident i d = absurd (i refl)
name-refused Dotted i d = absurd (d refl)
name-refused _ i d = refl

pub name_stops : (e : Expected) (xs : List NumberedToken) → (BeginsWithName xs → ⊥) → verdict (next name e) xs ≡ stopped xs
name_stops e xs not = symbol-stops name e xs refl (λ x ys is. name-refused (kind_of x) (λ k. not (subst BeginsWithName (sym is) (inl k))) (λ k. not (subst BeginsWithName (sym is) (inr k))))

pub name-answer : (x : NumberedToken) → IsName x → answer name (kind_of x) ≡ takes []
name-answer x (inl k) = ap (answer name) k
name-answer x (inr k) = ap (answer name) k

pub name-takes : (e : Expected) (x : NumberedToken) (xs : List NumberedToken) → IsName x → verdict (next name e) (x ∷ xs) ≡ verdict e xs
name-takes e x xs is = symbol-takes name [] e x xs (name-answer x is)

-- ---- a tail

pub tail-takes : (t : Tail) (e : Expected) (x : NumberedToken) (xs : List NumberedToken) → kind_of x ≡ opener t →
    verdict (next (tail t) e) (x ∷ xs) ≡ verdict (onto (behind t) e) xs
tail-takes t e x xs is = symbol-takes (tail t) (behind t) e x xs (ap (λ b. if b then takes (behind t) else skips) (same-self (kind_of x) (opener t) is))

pub tail_skips : (t : Tail) (e : Expected) (xs : List NumberedToken) → (BeginsWithKind (opener t) xs → ⊥) → verdict (next (tail t) e) xs ≡ verdict e xs
unfolding verdict
tail_skips t e [] not = refl
tail_skips t e (x ∷ xs) not =
    ap (λ b. go_on (proceed (if b then takes (behind t) else skips) (step e (kind_of x)) e) (λ e'. verdict e' xs) (stopped (x ∷ xs))) (same-other (kind_of x) (opener t) not)

-- ---- at a place

pub token_passes : (tokens : List Token) (at : ℕ) (kind : TokenKind) (e : Expected) → BeginsWithKind kind (tokens_from tokens at) →
    verdict (next (token kind) e) (tokens_from tokens at) ≡ verdict e (tokens_from tokens (at + 1))
token_passes tokens at kind e begins =
    let h = token_there tokens at kind begins in
    ap (verdict (next (token kind) e)) h.2 ∙ token-takes kind e (at, h.0) (tokens_from tokens (at + 1)) h.3

pub tail_passes : (tokens : List Token) (at : ℕ) (t : Tail) (e : Expected) → BeginsWithKind (opener t) (tokens_from tokens at) →
    verdict (next (tail t) e) (tokens_from tokens at) ≡ verdict (onto (behind t) e) (tokens_from tokens (at + 1))
tail_passes tokens at t e begins =
    let h = token_there tokens at (opener t) begins in
    ap (verdict (next (tail t) e)) h.2 ∙ tail-takes t e (at, h.0) (tokens_from tokens (at + 1)) h.3

pub stops_here : (tokens : List Token) (at k : ℕ) (symbols : Expected → Expected) → at ≤ length tokens → at ≡ k →
    ((e : Expected) → verdict (symbols e) (tokens_from tokens at) ≡ stopped (tokens_from tokens at)) → Stops symbols tokens at k
stops_here tokens at k symbols within same stops = subst (λ n. Stops symbols tokens at n) same (within, stops)

-- a name stands for an atom
pub name-answers : (depth : ℕ) (x : NumberedToken) → IsName x → answer (atom depth) (kind_of x) ≡ takes []
name-answers depth x (inl k) = ap (answer (atom depth)) k
name-answers depth x (inr k) = ap (answer (atom depth)) k
