-- Names, signed names, reasons and goals: what stands at a place, and what is expected behind it.
use Rattle.std.proofs.Common.{◌≡◌, ℕ, zero, suc, ◌+◌, ◌<◌, ◌≤◌, true, false, if◌then◌else◌, List, [], ◌∷◌, ◌++◌, length, Option, None, Some, inl, inr, refl, sym, ◌∙◌, ap, subst, append_assoc, append-nil, get_or, arith}
use Rattle.chyp_lex.specs.declared.token.Token.{Token}
use Rattle.chyp_lex.specs.declared.token.TokenKind.{TokenKind}
use Rattle.chyp_lex.specs.declared.token.TokenKind.TheVariants.{Ident, Dotted, Minus, LeftParenthesis, RightParenthesis, QuestionMark, Equals, WordId, WordId0, WordSw, WordBy, WordSimp}
use Rattle.chyp_syntax.specs.declared.step.ReasonAst.{ReasonAst}
use Rattle.chyp_syntax.specs.declared.step.ReasonAst.TheVariants.{Plain, Rule, Simp}
use Rattle.chyp_syntax.specs.declared.step.SignedAst.{SignedAst}
use Rattle.chyp_syntax.specs.Expected.{reason_left, signed_left, Symbol, token, name, signed, reason, atom, tail, Expected, nothing, steps, goal, next, takes, answer, proceed, step, symbol_ends, ends, goal_more, term_then, stopped, go_on, verdict}
use Rattle.chyp_syntax.specs.Numbered.{Terminal, NumberedToken, kind_of, IsName}
use Rattle.chyp_syntax.specs.Beginning.{tokens_from, BeginsWithKind, BeginsWithName}
use Rattle.chyp_syntax.specs.Reads.{BeginsWith, Passes, StopsAt}
use Rattle.chyp_syntax.specs.Sentence.{IsSigned, forwards, backwards, AreSigned, IsReason, none, by_rule, by_simp, most_nested, IsHole, to_hole}
use Rattle.chyp_syntax.proofs.Numbered.{terminal, token_there, tokens_from-at, from-two, from-three}
use Rattle.chyp_syntax.proofs.Verdicts.{same-other, verdict-none, verdict-end, symbol-takes, name-takes, tail_passes, token_passes}

-- one token is the whole thing
pub single : {A : Type 0} (Is : List NumberedToken → A → Type 0) (xs ys : List NumberedToken) (x : NumberedToken) (t : A) → xs ≡ x ∷ ys → Is (x ∷ []) t → BeginsWith Is xs ys t
single Is xs ys x t e is = record { front = x ∷ []; joined = e; is = is }

pub name_there : (tokens : List Token) (at : ℕ) → BeginsWithName (tokens_from tokens at) →
    (token : Terminal) × (at < length tokens) × (tokens_from tokens at ≡ (at, token) ∷ tokens_from tokens (at + 1)) × IsName (at, token)
name_there tokens at begins = go (tokens_from tokens at) refl begins
  where
    from_kind : (kind : TokenKind) → (kind ≡ Ident) → BeginsWithKind kind (tokens_from tokens at) → (token : Terminal) × (at < length tokens)
        × (tokens_from tokens at ≡ (at, token) ∷ tokens_from tokens (at + 1)) × IsName (at, token)
    from_kind kind e is = let h = token_there tokens at kind is in (h.0, h.1, h.2, inl (h.3 ∙ e))

    from_kind' : (kind : TokenKind) → (kind ≡ Dotted) → BeginsWithKind kind (tokens_from tokens at) → (token : Terminal) × (at < length tokens)
        × (tokens_from tokens at ≡ (at, token) ∷ tokens_from tokens (at + 1)) × IsName (at, token)
    from_kind' kind e is = let h = token_there tokens at kind is in (h.0, h.1, h.2, inr (h.3 ∙ e))

    go : (xs : List NumberedToken) → tokens_from tokens at ≡ xs → BeginsWithName xs → (token : Terminal) × (at < length tokens) × (tokens_from tokens at ≡ (at, token) ∷ tokens_from tokens (at + 1))
        × IsName (at, token)
    go [] e is = elim is [ ]
    go (x ∷ xs) e (inl is) = from_kind Ident refl (subst (BeginsWithKind Ident) (sym e) is)
    go (x ∷ xs) e (inr is) = from_kind' Dotted refl (subst (BeginsWithKind Dotted) (sym e) is)

pub name_passes : (tokens : List Token) (at : ℕ) (e : Expected) → BeginsWithName (tokens_from tokens at) → verdict (next name e) (tokens_from tokens at) ≡ verdict e (tokens_from tokens (at + 1))
name_passes tokens at e begins =
    let h = name_there tokens at begins in
    ap (verdict (next name e)) h.2 ∙ name-takes e (at, h.0) (tokens_from tokens (at + 1)) h.3

-- two symbols that answer alike
pub symbol_same : (s s' : Symbol) (e : Expected) (xs : List NumberedToken) → symbol_ends s ≡ false → symbol_ends s' ≡ false →
    ((x : NumberedToken) (ys : List NumberedToken) → xs ≡ x ∷ ys → answer s (kind_of x) ≡ answer s' (kind_of x)) → verdict (next s e) xs ≡ verdict (next s' e) xs
unfolding verdict
symbol_same s s' e [] n n' h = verdict-end (next s e) (ap (λ b. if b then ends e else false) n) ∙ sym (verdict-end (next s' e) (ap (λ b. if b then ends e else false) n'))
symbol_same s s' e (x ∷ xs) n n' h = ap (λ a. go_on (proceed a (step e (kind_of x)) e) (λ e'. verdict e' xs) (stopped (x ∷ xs))) (h x xs refl)

-- ---- signed names

signed-as-name : (k : TokenKind) → (k ≡ Minus → ⊥) → answer signed k ≡ answer name k
signed-as-name Minus f = absurd (f refl)
signed-as-name _ f = refl

pub signed_unsigned : (e : Expected) (xs : List NumberedToken) → (BeginsWithKind Minus xs → ⊥) → verdict (next signed e) xs ≡ verdict (next name e) xs
signed_unsigned e xs f = symbol_same signed name e xs refl refl (λ x ys is. signed-as-name (kind_of x) (λ k. f (subst (BeginsWithKind Minus) (sym is) k)))

pub signed_minus : (tokens : List Token) (at : ℕ) (e : Expected) → BeginsWithKind Minus (tokens_from tokens at) →
    verdict (next signed e) (tokens_from tokens at) ≡ verdict (next name e) (tokens_from tokens (at + 1))
signed_minus tokens at e begins =
    let h = token_there tokens at Minus begins in
    ap (verdict (next signed e)) h.2 ∙ symbol-takes signed (name ∷ []) e (at, h.0) (tokens_from tokens (at + 1)) (ap (answer signed) h.3)

pub is_forwards : (tokens : List Token) (at : ℕ) → BeginsWithName (tokens_from tokens at) →
    BeginsWith IsSigned (tokens_from tokens at) (tokens_from tokens (at + 1)) (record { minus = false; name = at })
is_forwards tokens at begins =
    let h = name_there tokens at begins in
    let x : NumberedToken = (at, h.0) in
    single IsSigned (tokens_from tokens at) (tokens_from tokens (at + 1)) x (record { minus = false; name = at }) h.2 (forwards {word = x} h.3)

pub is_backwards : (tokens : List Token) (at : ℕ) → BeginsWithKind Minus (tokens_from tokens at) → BeginsWithName (tokens_from tokens (at + 1)) →
    BeginsWith IsSigned (tokens_from tokens at) (tokens_from tokens (at + 1 + 1)) (record { minus = true; name = at + 1 })
is_backwards tokens at minus begins =
    let m = token_there tokens at Minus minus in
    let h = name_there tokens (at + 1) begins in
    let x : NumberedToken = (at, m.0) in
    let y : NumberedToken = (at + 1, h.0) in
    record { front = x ∷ y ∷ []; joined = m.2 ∙ ap (λ ys. x ∷ ys) h.2; is = backwards {minus = x} {word = y} m.3 h.3 }

-- ---- reasons

reason-as-signed : (k : TokenKind) → (k ≡ WordSimp → ⊥) → answer reason k ≡ answer signed k
reason-as-signed WordSimp f = absurd (f refl)
reason-as-signed _ f = refl

pub reason_signed : (e : Expected) (xs : List NumberedToken) → (BeginsWithKind WordSimp xs → ⊥) → verdict (next reason e) xs ≡ verdict (next signed e) xs
reason_signed e xs f = symbol_same reason signed e xs refl refl (λ x ys is. reason-as-signed (kind_of x) (λ k. f (subst (BeginsWithKind WordSimp) (sym is) k)))

pub reason_simp : (tokens : List Token) (at : ℕ) (e : Expected) → BeginsWithKind WordSimp (tokens_from tokens at) →
    verdict (next reason e) (tokens_from tokens at) ≡ verdict (next (token LeftParenthesis) (next signed (next (tail signed_left) (next (token RightParenthesis) e)))) (tokens_from tokens (at + 1))
reason_simp tokens at e begins =
    let h = token_there tokens at WordSimp begins in
    ap (verdict (next reason e)) h.2
    ∙ symbol-takes reason (token LeftParenthesis ∷ signed ∷ tail signed_left ∷ token RightParenthesis ∷ []) e (at, h.0) (tokens_from tokens (at + 1)) (ap (answer reason) h.3)

pub is_plain : (xs : List NumberedToken) → BeginsWith IsReason xs xs Plain
is_plain xs = record { front = []; joined = refl; is = none }

pub is_rule_reason : (tokens : List Token) (at end : ℕ) (tree : SignedAst) → BeginsWithKind WordBy (tokens_from tokens at)
    → BeginsWith IsSigned (tokens_from tokens (at + 1)) (tokens_from tokens end) tree →
    BeginsWith IsReason (tokens_from tokens at) (tokens_from tokens end) (Rule tree)
is_rule_reason tokens at end tree begins is =
    let h = token_there tokens at WordBy begins in
    let x : NumberedToken = (at, h.0) in
    record { front = x ∷ is.front; joined = h.2 ∙ ap (λ ys. x ∷ ys) is.joined; is = by_rule {word = x} h.3 is.is }

-- what stands between a token in front and a closing token
pub closed : (tokens : List Token) (kind : TokenKind) (front xs : List NumberedToken) (end : ℕ) → xs ≡ front ++ tokens_from tokens end → (begins : BeginsWithKind kind (tokens_from tokens end)) →
    xs ≡ (front ++ (end, (token_there tokens end kind begins).0) ∷ []) ++ tokens_from tokens (end + 1)
closed tokens kind front xs end joined begins =
    let h = token_there tokens end kind begins in
    let x : NumberedToken = (end, h.0) in
    joined ∙ ap (λ ys. front ++ ys) h.2 ∙ sym (append_assoc front (x ∷ []) (tokens_from tokens (end + 1)))

pub is_simp_reason : (tokens : List Token) (at end : ℕ) (trees : List SignedAst) → BeginsWithKind WordBy (tokens_from tokens at) → BeginsWithKind WordSimp (tokens_from tokens (at + 1)) →
    BeginsWithKind LeftParenthesis (tokens_from tokens (at + 2)) → BeginsWith AreSigned (tokens_from tokens (at + 3)) (tokens_from tokens end) trees →
    BeginsWithKind RightParenthesis (tokens_from tokens end) → BeginsWith IsReason (tokens_from tokens at) (tokens_from tokens (end + 1)) (Simp trees)
is_simp_reason tokens at end trees by simp' open' are close =
    let b = token_there tokens at WordBy by in
    let s = token_there tokens (at + 1) WordSimp simp' in
    let o = token_there tokens (at + 1 + 1) LeftParenthesis (subst (BeginsWithKind LeftParenthesis) (sym (from-two tokens at)) open') in
    let c = token_there tokens end RightParenthesis close in
    let x : NumberedToken = (at, b.0) in
    let y : NumberedToken = (at + 1, s.0) in
    let z : NumberedToken = (at + 1 + 1, o.0) in
    let w : NumberedToken = (end, c.0) in
    let shut = closed tokens RightParenthesis are.front (tokens_from tokens (at + 3)) end are.joined close in
    record {
      front = x ∷ y ∷ z ∷ (are.front ++ w ∷ []);
      joined = b.2 ∙ ap (λ ys. x ∷ ys) (s.2 ∙ ap (λ ys. y ∷ ys) (o.2 ∙ ap (λ ys. z ∷ ys) (from-three tokens at ∙ shut)));
      is = by_simp {word = x} {simp' = y} {open' = z} w b.3 s.3 o.3 are.is c.3;
    }

-- what is expected behind `by simp`
pub simp_expects : (tokens : List Token) (at : ℕ) (e : Expected) → BeginsWithKind WordBy (tokens_from tokens at) → BeginsWithKind WordSimp (tokens_from tokens (at + 1)) →
    verdict (next (tail reason_left) e) (tokens_from tokens at)
    ≡ verdict (next (token LeftParenthesis) (next signed (next (tail signed_left) (next (token RightParenthesis) e)))) (tokens_from tokens (at + 2))
simp_expects tokens at e by simp' =
    tail_passes tokens at reason_left e by ∙ reason_simp tokens (at + 1) e simp'
    ∙ ap (verdict (next (token LeftParenthesis) (next signed (next (tail signed_left) (next (token RightParenthesis) e))))) (from-two tokens at)

pub simp_opened : (tokens : List Token) (at : ℕ) (e : Expected) → BeginsWithKind WordBy (tokens_from tokens at) → BeginsWithKind WordSimp (tokens_from tokens (at + 1)) →
    BeginsWithKind LeftParenthesis (tokens_from tokens (at + 2)) →
    verdict (next (tail reason_left) e) (tokens_from tokens at) ≡ verdict (next signed (next (tail signed_left) (next (token RightParenthesis) e))) (tokens_from tokens (at + 3))
simp_opened tokens at e by simp' open' =
    let three : at + 2 + 1 ≡ at + 3 = omega arith in
    let rest = next signed (next (tail signed_left) (next (token RightParenthesis) e)) in
    simp_expects tokens at e by simp' ∙ token_passes tokens (at + 2) LeftParenthesis rest open' ∙ ap (λ n. verdict rest (tokens_from tokens n)) three

-- ---- atoms

pub atom_one : (tokens : List Token) (at depth : ℕ) (x : NumberedToken) → tokens_from tokens at ≡ x ∷ tokens_from tokens (at + 1) → answer (atom depth) (kind_of x) ≡ takes []
    → Passes (next (atom depth)) tokens at (at + 1)
atom_one tokens at depth x here is e = ap (verdict (next (atom depth) e)) here ∙ symbol-takes (atom depth) [] e x (tokens_from tokens (at + 1)) is

-- ---- goals

atom-decides : (depth : ℕ) (k : TokenKind) (o : Option Expected) (e : Expected) → proceed (answer (atom depth) k) None e ≡ proceed (answer (atom depth) k) o e
atom-decides depth Ident o e = refl
atom-decides depth Dotted o e = refl
atom-decides depth WordId o e = refl
atom-decides depth WordId0 o e = refl
atom-decides depth WordSw o e = refl
atom-decides zero LeftParenthesis o e = refl
atom-decides (suc depth) LeftParenthesis o e = refl
atom-decides depth _ o e = refl

pub goal_term : (xs : List NumberedToken) → (BeginsWithKind QuestionMark xs → ⊥) → verdict goal xs ≡ verdict (term_then most_nested (next (tail reason_left) steps)) xs
unfolding verdict
goal_term [] f = refl
goal_term (x ∷ xs) f =
    ap (λ b. go_on (if b then Some (next (tail reason_left) nothing) else proceed (answer (atom most_nested) (kind_of x)) None goal_more) (λ e'. verdict e' xs) (stopped (x ∷ xs)))
    (same-other (kind_of x) QuestionMark f)
    ∙ ap (λ o. go_on o (λ e'. verdict e' xs) (stopped (x ∷ xs))) (atom-decides most_nested (kind_of x) (step goal_more (kind_of x)) goal_more)

-- ---- the end

pub verdict-nothing : (x : NumberedToken) (xs : List NumberedToken) → verdict nothing (x ∷ xs) ≡ stopped (x ∷ xs)
verdict-nothing x xs = verdict-none nothing x xs refl

pub more_than_nothing : (tokens : List Token) (at k : ℕ) → k ≡ at → at < length tokens → StopsAt nothing tokens at k
more_than_nothing tokens at k same lt =
    let d : Token = record { kind = Ident; start = 0; len = 0; value = 0 } in
    let here = tokens_from-at tokens at d lt in
    let x : NumberedToken = (at, terminal (get_or tokens at d)) in
    let stop : verdict nothing (tokens_from tokens at) ≡ stopped (tokens_from tokens at) =
    ap (verdict nothing) here ∙ verdict-nothing x (tokens_from tokens (at + 1)) ∙ ap stopped (sym here) in
    subst (λ n. StopsAt nothing tokens at n) (sym same) (let le : at ≤ length tokens = omega arith in le, stop)

-- what is there to the end is all that is there
pub to_end : {A : Type 0} (Is : List NumberedToken → A → Type 0) (xs ys : List NumberedToken) (t : A) → BeginsWith Is xs ys t → ys ≡ [] → Is xs t
to_end Is xs ys t begins ended =
    subst (λ zs. Is zs t) (sym (begins.joined ∙ ap (λ zs. begins.front ++ zs) ended ∙ append-nil begins.front)) begins.is

pub is_hole : (tokens : List Token) (at end : ℕ) (why : ReasonAst) → BeginsWithKind Equals (tokens_from tokens at) → BeginsWithKind QuestionMark (tokens_from tokens (at + 1)) →
    BeginsWith IsReason (tokens_from tokens (at + 2)) (tokens_from tokens end) why → tokens_from tokens end ≡ [] →
    IsHole (tokens_from tokens at) (record { equals = at; goal = None; reason = why })
is_hole tokens at end why equals mark is ended =
    let q = token_there tokens at Equals equals in
    let m = token_there tokens (at + 1) QuestionMark mark in
    let x : NumberedToken = (at, q.0) in
    let y : NumberedToken = (at + 1, m.0) in
    let all : tokens_from tokens at ≡ x ∷ y ∷ tokens_from tokens (at + 2) = q.2 ∙ ap (λ ys. x ∷ ys) (m.2 ∙ ap (λ ys. y ∷ ys) (from-two tokens at)) in
    subst (λ ys. IsHole ys (record { equals = at; goal = None; reason = why })) (sym all)
    (to_hole {equals = x} {mark = y} q.3 m.3 (to_end IsReason (tokens_from tokens (at + 2)) (tokens_from tokens end) why is ended))
