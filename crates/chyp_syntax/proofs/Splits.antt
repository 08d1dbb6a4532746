-- Tokens that are accepted for symbols and what follows them fall into two parts.
use Rattle.std.proofs.Common.{◌≡◌, ℕ, zero, suc, Bool, true, false, if◌then◌else◌, ◌⊎◌, inl, inr, List, [], ◌∷◌, ◌++◌, refl, sym, ◌∙◌, ap}
use Rattle.chyp_lex.specs.declared.token.TokenKind.{TokenKind}
use Rattle.chyp_lex.specs.declared.token.TokenKind.TheVariants.{Ident, Dotted, Minus, LeftParenthesis, WordId, WordId0, WordSw, WordSimp}
use Rattle.chyp_syntax.specs.Expected.{same_kind, Tail, opener, behind, Symbol, token, name, signed, reason, atom, tail, name_answer, signed_answer, reason_answer, atom_answer, Expected, nothing, next, Answer, takes, skips, refuses, answer, proceed, onto, step, ends, symbol_ends, accepted, stopped, go_on, verdict}
use Rattle.chyp_syntax.specs.Numbered.{NumberedToken, kind_of, IsName}
use Rattle.chyp_syntax.proofs.Verdicts.{same-kinds, verdict-done}

pub record Split (ss : List Symbol) (e : Expected) (xs : List NumberedToken) : Type 0 where
  pub front : List NumberedToken
  pub back : List NumberedToken
  pub joined : xs ≡ front ++ back
  pub front_is : verdict (onto ss nothing) front ≡ accepted
  pub back_is : verdict e back ≡ accepted

pub onto-append : (ss rs : List Symbol) (e : Expected) → onto (ss ++ rs) e ≡ onto ss (onto rs e)
onto-append [] rs e = refl
onto-append (s ∷ ss) rs e = ap (next s) (onto-append ss rs e)

pub not-both : (xs : List NumberedToken) → stopped xs ≡ accepted → ⊥
not-both xs e = cc

end-accepts : (b : Bool) → (if b then accepted else stopped []) ≡ accepted → b ≡ true
end-accepts true is = refl
end-accepts false is = absurd (not-both [] is)

pub ends-accepted : (e : Expected) → verdict e [] ≡ accepted → ends e ≡ true
unfolding verdict
ends-accepted e is = end-accepts (ends e) is

both-end : (s : Symbol) (b : Bool) → (if symbol_ends s then b else false) ≡ true → (symbol_ends s ≡ true) × (b ≡ true)
both-end s b is = go (symbol_ends s) refl is
  where
    go : (c : Bool) → symbol_ends s ≡ c → (if c then b else false) ≡ true → (symbol_ends s ≡ true) × (b ≡ true)
    go true e at = (e, at)
    go false e at = absurd (let clash : false ≡ true = at in cc)

pub ends-onto : (ss : List Symbol) (e : Expected) → ends (onto ss e) ≡ true → (ends (onto ss nothing) ≡ true) × (ends e ≡ true)
ends-onto [] e is = (refl, is)
ends-onto (s ∷ ss) e is =
    let both = both-end s (ends (onto ss e)) is in
    let rest = ends-onto ss e both.1 in
    (ap (λ b. if b then ends (onto ss nothing) else false) both.0 ∙ rest.0, rest.1)

-- only a tail is passed over
never-name : (k : TokenKind) → name_answer k ≡ skips → ⊥
never-name Ident is = cc
never-name Dotted is = cc
never-name _ is = cc

never-signed : (k : TokenKind) → signed_answer k ≡ skips → ⊥
never-signed Ident is = cc
never-signed Dotted is = cc
never-signed Minus is = cc
never-signed _ is = cc

never-reason : (k : TokenKind) → reason_answer k ≡ skips → ⊥
never-reason Ident is = cc
never-reason Dotted is = cc
never-reason Minus is = cc
never-reason WordSimp is = cc
never-reason _ is = cc

never-atom : (depth : ℕ) (k : TokenKind) → atom_answer depth k ≡ skips → ⊥
never-atom depth Ident is = cc
never-atom depth Dotted is = cc
never-atom depth WordId is = cc
never-atom depth WordId0 is = cc
never-atom depth WordSw is = cc
never-atom zero LeftParenthesis is = cc
never-atom (suc depth) LeftParenthesis is = cc
never-atom depth _ is = cc

never-token : (b : Bool) → (if b then takes [] else refuses) ≡ skips → ⊥
never-token true is = cc
never-token false is = cc

skip-ends : (s : Symbol) (k : TokenKind) → answer s k ≡ skips → symbol_ends s ≡ true
skip-ends (tail t) k is = refl
skip-ends (token kind) k is = absurd (never-token (same_kind k kind) is)
skip-ends name k is = absurd (never-name k is)
skip-ends signed k is = absurd (never-signed k is)
skip-ends reason k is = absurd (never-reason k is)
skip-ends (atom depth) k is = absurd (never-atom depth k is)

-- a symbol that is passed over in front of the tokens of the rest
pub skip-front : (s : Symbol) (ss : List Symbol) (x : NumberedToken) (xs front back : List NumberedToken) → answer s (kind_of x) ≡ skips → x ∷ xs ≡ front ++ back →
    verdict (onto ss nothing) front ≡ accepted → verdict (onto (s ∷ ss) nothing) front ≡ accepted
unfolding verdict
skip-front s ss x xs [] back is joined accepts =
    verdict-done (onto (s ∷ ss) nothing) (ap (λ b. if b then ends (onto ss nothing) else false) (skip-ends s (kind_of x) is) ∙ ends-accepted (onto ss nothing) accepts)
skip-front s ss x xs (y ∷ front) back is joined accepts =
    let same : x ≡ y = cc in
    let skip : answer s (kind_of y) ≡ skips = ap (λ z. answer s (kind_of z)) (sym same) ∙ is in
    ap (λ a. go_on (proceed a (step (onto ss nothing) (kind_of y)) (onto ss nothing)) (λ e'. verdict e' front) (stopped (y ∷ front))) skip ∙ accepts

split-step : (x : NumberedToken) (xs : List NumberedToken) → ((ss : List Symbol) (e : Expected) → verdict (onto ss e) xs ≡ accepted → Split ss e xs) →
    (ss : List Symbol) (e : Expected) → verdict (onto ss e) (x ∷ xs) ≡ accepted → Split ss e (x ∷ xs)
unfolding verdict
split-step x xs before [] e is = record { front = []; back = x ∷ xs; joined = refl; front_is = verdict-done nothing refl; back_is = is }
split-step x xs before (s ∷ ss) e is = go (λ at. split-step x xs before ss e at) (answer s (kind_of x)) refl is
  where
    go : (verdict (onto ss e) (x ∷ xs) ≡ accepted → Split ss e (x ∷ xs)) → (a : Answer) → answer s (kind_of x) ≡ a
        → go_on (proceed a (step (onto ss e) (kind_of x)) (onto ss e)) (λ e'. verdict e' xs) (stopped (x ∷ xs)) ≡ accepted → Split (s ∷ ss) e (x ∷ xs)
    go passed (takes rs) here at =
        let h = before (rs ++ ss) e (ap (λ e'. verdict e' xs) (onto-append rs ss e) ∙ at) in
        record {
          front = x ∷ h.front;
          back = h.back;
          joined = ap (λ zs. x ∷ zs) h.joined;
          front_is = ap (λ a. go_on (proceed a (step (onto ss nothing) (kind_of x)) (onto ss nothing)) (λ e'. verdict e' h.front) (stopped (x ∷ h.front))) here
              ∙ ap (λ e'. verdict e' h.front) (sym (onto-append rs ss nothing)) ∙ h.front_is;
          back_is = h.back_is;
        }
    go passed skips here at =
        let h = passed at in
        record {
          front = h.front;
          back = h.back;
          joined = h.joined;
          front_is = skip-front s ss x xs h.front h.back here h.joined h.front_is;
          back_is = h.back_is;
        }
    go passed refuses here at = absurd (not-both (x ∷ xs) at)

pub split : (xs : List NumberedToken) (ss : List Symbol) (e : Expected) → verdict (onto ss e) xs ≡ accepted → Split ss e xs
split [] ss e is =
    let both = ends-onto ss e (ends-accepted (onto ss e) is) in
    record { front = []; back = []; joined = refl; front_is = verdict-done (onto ss nothing) both.0; back_is = verdict-done e both.1 }
split (x ∷ xs) ss e is = split-step x xs (λ rs e' at. split xs rs e' at) ss e is

-- ---- one token

pub one_token : (kind : TokenKind) (e : Expected) (xs : List NumberedToken) → verdict (next (token kind) e) xs ≡ accepted →
    (x : NumberedToken) × (ys : List NumberedToken) × (xs ≡ x ∷ ys) × (kind_of x ≡ kind) × (verdict e ys ≡ accepted)
unfolding verdict
one_token kind e [] is = absurd (not-both [] is)
one_token kind e (x ∷ xs) is = go (same_kind (kind_of x) kind) refl is
  where
    go : (b : Bool) → same_kind (kind_of x) kind ≡ b → go_on (proceed (if b then takes [] else refuses) (step e (kind_of x)) e) (λ e'. verdict e' xs) (stopped (x ∷ xs)) ≡ accepted →
        (y : NumberedToken) × (ys : List NumberedToken) × (x ∷ xs ≡ y ∷ ys) × (kind_of y ≡ kind) × (verdict e ys ≡ accepted)
    go true here at = (x, xs, refl, same-kinds (kind_of x) kind here, at)
    go false here at = absurd (not-both (x ∷ xs) at)

-- what a symbol that has to be there makes of the tokens
pub one_symbol : (s : Symbol) (e : Expected) (xs : List NumberedToken) → symbol_ends s ≡ false → verdict (next s e) xs ≡ accepted →
    (x : NumberedToken) × (ys : List NumberedToken) × (rs : List Symbol) × (xs ≡ x ∷ ys) × (answer s (kind_of x) ≡ takes rs) × (verdict (onto rs e) ys ≡ accepted)
unfolding verdict
one_symbol s e [] needed is = absurd (not-both [] (sym (ap (λ b. if (if b then ends e else false) then accepted else stopped []) needed) ∙ is))
one_symbol s e (x ∷ xs) needed is = go (answer s (kind_of x)) refl is
  where
    go : (a : Answer) → answer s (kind_of x) ≡ a → go_on (proceed a (step e (kind_of x)) e) (λ e'. verdict e' xs) (stopped (x ∷ xs)) ≡ accepted →
        (y : NumberedToken) × (ys : List NumberedToken) × (rs : List Symbol) × (x ∷ xs ≡ y ∷ ys) × (answer s (kind_of y) ≡ takes rs) × (verdict (onto rs e) ys ≡ accepted)
    go (takes rs) here at = (x, xs, rs, refl, here, at)
    go skips here at = absurd (let clash : true ≡ false = sym (skip-ends s (kind_of x) here) ∙ needed in cc)
    go refuses here at = absurd (not-both (x ∷ xs) at)

-- a tail is there, or it is not
pub one_tail : (t : Tail) (e : Expected) (xs : List NumberedToken) → verdict (next (tail t) e) xs ≡ accepted →
    (verdict e xs ≡ accepted) ⊎ ((x : NumberedToken) × (ys : List NumberedToken) × (xs ≡ x ∷ ys) × (kind_of x ≡ opener t) × (verdict (onto (behind t) e) ys ≡ accepted))
unfolding verdict
one_tail t e [] is = inl is
one_tail t e (x ∷ xs) is = go (same_kind (kind_of x) (opener t)) refl is
  where
    go : (b : Bool) → same_kind (kind_of x) (opener t) ≡ b → go_on (proceed (if b then takes (behind t) else skips) (step e (kind_of x)) e) (λ e'. verdict e' xs) (stopped (x ∷ xs)) ≡ accepted →
        (verdict e (x ∷ xs) ≡ accepted) ⊎ ((y : NumberedToken) × (ys : List NumberedToken) × (x ∷ xs ≡ y ∷ ys) × (kind_of y ≡ opener t) × (verdict (onto (behind t) e) ys ≡ accepted))
    go true here at = inr (x, xs, refl, same-kinds (kind_of x) (opener t) here, at)
    go false here at = inl at

pub no_token : (xs : List NumberedToken) → verdict nothing xs ≡ accepted → xs ≡ []
unfolding verdict
no_token [] is = refl
no_token (x ∷ xs) is = absurd (not-both (x ∷ xs) is)

is-name : (k : TokenKind) (x : NumberedToken) (rs : List Symbol) → kind_of x ≡ k → name_answer k ≡ takes rs → IsName x × (rs ≡ [])
is-name Ident x rs e is = (inl e, cc)
is-name Dotted x rs e is = (inr e, cc)
is-name _ x rs e is = absurd (let clash : refuses ≡ takes rs = is in cc)

pub one_name : (e : Expected) (xs : List NumberedToken) → verdict (next name e) xs ≡ accepted →
    (x : NumberedToken) × (ys : List NumberedToken) × (xs ≡ x ∷ ys) × IsName x × (verdict e ys ≡ accepted)
one_name e xs is =
    let w = one_symbol name e xs refl is in
    let named = is-name (kind_of w.0) w.0 w.2 refl w.4 in
    (w.0, w.1, w.3, named.0, ap (λ ss. verdict (onto ss e) w.1) (sym named.1) ∙ w.5)
