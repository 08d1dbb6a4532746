-- Where the tokens stop to be what is expected, and how they could have gone on.
use Rattle.std.proofs.Common.{◌≡◌, ℕ, zero, suc, ◌+◌, Bool, true, false, if◌then◌else◌, List, [], ◌∷◌, ◌++◌, Option, None, Some, refl, sym, ◌∙◌, ap, subst}
use Rattle.std.specs.List.{enumerate_from}
use Rattle.chyp_lex.specs.declared.token.TokenKind.{TokenKind}
use Rattle.chyp_lex.specs.declared.token.TokenKind.TheVariants.{Ident, Dotted, Equals, Semicolon, Star, LeftParenthesis, LeftBracket, Comma, Minus, QuestionMark, WordGen, WordLet, WordRule, WordRewrite, WordImport, WordShow, WordId, WordId0, WordSw, WordBy, WordAs, WordSimp}
use Rattle.chyp_syntax.specs.Expected.{Tail, signed_left, reason_left, numbers_left, places_left, atoms_left, pars_left, prefix_left, opener, behind, same_kind, name_answer, signed_answer, reason_answer, atom_answer, Symbol, token, name, signed, reason, atom, tail, Expected, nothing, statement, steps, goal, next, Answer, takes, skips, refuses, answer, proceed, onto, start, goal_more, step, ends, accepted, stopped, go_on, verdict}
use Rattle.chyp_syntax.specs.Sentence.{most_nested}
use Rattle.chyp_syntax.specs.Numbered.{Terminal, NumberedToken, kind_of}
use Rattle.chyp_syntax.specs.Beginning.{BeginsWithKind}
use Rattle.chyp_syntax.proofs.Verdicts.{verdict-step, verdict-none, verdict-done, symbol-takes, token-takes, tail_skips}
use Rattle.chyp_syntax.proofs.Splits.{not-both}

-- the kinds that a tail begins with
abbrev pub opens : TokenKind → Bool
opens Star = true
opens Semicolon = true
opens Comma = true
opens LeftBracket = true
opens WordBy = true
opens WordAs = true
opens _ = false

-- no token that has to be there could be taken for a tail
abbrev pub fine_symbol : Symbol → Bool
fine_symbol (token k) = if opens k then false else true
fine_symbol _ = true

abbrev pub fine : Expected → Bool
fine (next s e) = if fine_symbol s then fine e else false
fine _ = true

abbrev fines : List Symbol → Bool
fines [] = true
fines (s ∷ ss) = if fine_symbol s then fines ss else false

both : (b c : Bool) → (if b then c else false) ≡ true → (b ≡ true) × (c ≡ true)
both true c is = (refl, is)
both false c is = absurd (let clash : false ≡ true = is in cc)

both-back : (b c : Bool) → b ≡ true → c ≡ true → (if b then c else false) ≡ true
both-back true c is at = at
both-back false c is at = is

fine-onto : (ss : List Symbol) (e : Expected) → fines ss ≡ true → fine e ≡ true → fine (onto ss e) ≡ true
fine-onto [] e all is = is
fine-onto (s ∷ ss) e all is = let p = both (fine_symbol s) (fines ss) all in both-back (fine_symbol s) (fine (onto ss e)) p.0 (fine-onto ss e p.1 is)

abbrev FineAnswer : Answer → Type 0
FineAnswer (takes ss) = fines ss ≡ true
FineAnswer skips = Unit {0}
FineAnswer refuses = Unit {0}

fine-name : (k : TokenKind) → FineAnswer (name_answer k)
fine-name Ident = refl
fine-name Dotted = refl
fine-name _ = tt

fine-signed : (k : TokenKind) → FineAnswer (signed_answer k)
fine-signed Ident = refl
fine-signed Dotted = refl
fine-signed Minus = refl
fine-signed _ = tt

fine-reason : (k : TokenKind) → FineAnswer (reason_answer k)
fine-reason Ident = refl
fine-reason Dotted = refl
fine-reason Minus = refl
fine-reason WordSimp = refl
fine-reason _ = tt

fine-atom : (depth : ℕ) (k : TokenKind) → FineAnswer (atom_answer depth k)
fine-atom depth Ident = refl
fine-atom depth Dotted = refl
fine-atom depth WordId = refl
fine-atom depth WordId0 = refl
fine-atom depth WordSw = refl
fine-atom zero LeftParenthesis = tt
fine-atom (suc depth) LeftParenthesis = refl
fine-atom depth _ = tt

fine-behind : (t : Tail) → fines (behind t) ≡ true
fine-behind signed_left = refl
fine-behind reason_left = refl
fine-behind numbers_left = refl
fine-behind places_left = refl
fine-behind (atoms_left depth) = refl
fine-behind (pars_left depth) = refl
fine-behind prefix_left = refl

fine-choice : (b : Bool) (ss : List Symbol) (a : Answer) → fines ss ≡ true → FineAnswer a → FineAnswer (if b then takes ss else a)
fine-choice true ss a is other = is
fine-choice false ss a is other = other

fine-answer : (s : Symbol) (k : TokenKind) → FineAnswer (answer s k)
fine-answer (token kind) k = fine-choice (same_kind k kind) [] refuses refl tt
fine-answer name k = fine-name k
fine-answer signed k = fine-signed k
fine-answer reason k = fine-reason k
fine-answer (atom depth) k = fine-atom depth k
fine-answer (tail t) k = fine-choice (same_kind k (opener t)) (behind t) skips (fine-behind t) tt

abbrev IfFine : Option Expected → Type 0
IfFine None = Unit {0}
IfFine (Some e) = fine e ≡ true

fine-proceed : (a : Answer) (o : Option Expected) (e : Expected) → FineAnswer a → IfFine o → fine e ≡ true → IfFine (proceed a o e)
fine-proceed (takes ss) o e is other at = fine-onto ss e is at
fine-proceed skips o e is other at = other
fine-proceed refuses o e is other at = tt

fine-start : (k : TokenKind) → IfFine (start k)
fine-start WordGen = refl
fine-start WordLet = refl
fine-start WordRule = refl
fine-start WordRewrite = refl
fine-start WordImport = refl
fine-start WordShow = refl
fine-start _ = tt

fine-if : (b : Bool) (e : Expected) (o : Option Expected) → fine e ≡ true → IfFine o → IfFine (if b then Some e else o)
fine-if true e o is other = is
fine-if false e o is other = other

pub fine-step : (e : Expected) (k : TokenKind) → fine e ≡ true → IfFine (step e k)
fine-step nothing k is = tt
fine-step statement k is = fine-start k
fine-step steps k is = fine-if (same_kind k Equals) goal None refl tt
fine-step goal k is = fine-if (same_kind k QuestionMark) (next (tail reason_left) nothing) (proceed (answer (atom most_nested) k) None goal_more) refl
    (fine-proceed (answer (atom most_nested) k) None goal_more (fine-answer (atom most_nested) k) tt refl)
fine-step (next s e) k is =
    let p = both (fine_symbol s) (fine e) is in
    fine-proceed (answer s k) (step e k) e (fine-answer s k) (fine-step e k p.1) p.1

-- what is expected allows neither the end nor the next token
abbrev pub HaltsAt : Expected → List NumberedToken → Type 0
HaltsAt e [] = ends e ≡ false
HaltsAt e (y ∷ ys) = step e (kind_of y) ≡ None

-- the tokens in front of the place are what was expected, whatever follows them
pub record Halts (e : Expected) (xs ys : List NumberedToken) : Type 0 where
  pub front : List NumberedToken
  pub left : Expected
  pub joined : xs ≡ front ++ ys
  pub leads : (zs : List NumberedToken) → verdict e (front ++ zs) ≡ verdict left zs
  pub halts : HaltsAt left ys
  pub fine_left : fine left ≡ true

same-stop : (xs ys : List NumberedToken) → stopped xs ≡ stopped ys → xs ≡ ys
same-stop xs ys e = cc

pub halts : (xs : List NumberedToken) (e : Expected) (ys : List NumberedToken) → fine e ≡ true → verdict e xs ≡ stopped ys → Halts e xs ys
unfolding verdict
halts [] e ys ok is = go (ends e) refl is
  where
    go : (b : Bool) → ends e ≡ b → (if b then accepted else stopped []) ≡ stopped ys → Halts e [] ys
    go true open' at = absurd (let clash : accepted ≡ stopped ys = at in cc)
    go false open' at =
        let nothing_left : [] ≡ ys = same-stop [] ys at in
        subst (λ zs. Halts e [] zs) nothing_left (record { front = []; left = e; joined = refl; leads = λ zs. refl; halts = open'; fine_left = ok })
halts (x ∷ xs) e ys ok is = go (λ e' fine' at. halts xs e' ys fine' at) (step e (kind_of x)) refl (fine-step e (kind_of x) ok) is
  where
    go : ((e' : Expected) → fine e' ≡ true → verdict e' xs ≡ stopped ys → Halts e' xs ys) → (o : Option Expected) → step e (kind_of x) ≡ o → IfFine o
        → go_on o (λ e'. verdict e' xs) (stopped (x ∷ xs)) ≡ stopped ys → Halts e (x ∷ xs) ys
    go before None here fine' at =
        let left : x ∷ xs ≡ ys = same-stop (x ∷ xs) ys at in
        subst (λ zs. Halts e (x ∷ xs) zs) left (record { front = []; left = e; joined = refl; leads = λ zs. refl; halts = here; fine_left = ok })
    go before (Some e') here fine' at =
        let h = before e' fine' at in
        record {
          front = x ∷ h.front;
          left = h.left;
          joined = ap (λ zs. x ∷ zs) h.joined;
          leads = λ zs. ap (λ o. go_on o (λ e''. verdict e'' (h.front ++ zs)) (stopped (x ∷ (h.front ++ zs)))) here ∙ h.leads zs;
          halts = h.halts;
          fine_left = h.fine_left;
        }

-- nothing that goes on like the rest is accepted
pub never_accepted : (e : Expected) (xs ys : List NumberedToken) (y : NumberedToken) (h : Halts e xs (y ∷ ys)) (zs : List NumberedToken) → verdict e (h.front ++ y ∷ zs) ≡ accepted → ⊥
never_accepted e xs ys y h zs is = not-both (y ∷ zs) (sym (verdict-none h.left y zs h.halts) ∙ sym (h.leads (y ∷ zs)) ∙ is)

-- ---- how it could go on

-- no tail begins with the token
abbrev NoOpener : List NumberedToken → Type 0
NoOpener xs = (t : Tail) → BeginsWithKind (opener t) xs → ⊥

-- tokens that are all that is expected, numbered from n
pub record Completes (e : Expected) (n : ℕ) : Type 0 where
  pub tokens : List Terminal
  pub accepts : verdict e (enumerate_from n tokens) ≡ accepted
  pub plain : NoOpener (enumerate_from n tokens)

plain-token : (k : TokenKind) (n : ℕ) (rest : List NumberedToken) → ((t : Tail) → opener t ≡ k → ⊥) → NoOpener ((n, record { kind = k; value = 0 }) ∷ rest)
plain-token k n rest f t begins = f t (sym begins)

opens-opener : (t : Tail) → opens (opener t) ≡ true
opens-opener signed_left = refl
opens-opener reason_left = refl
opens-opener numbers_left = refl
opens-opener places_left = refl
opens-opener (atoms_left depth) = refl
opens-opener (pars_left depth) = refl
opens-opener prefix_left = refl

no-opener : (k : TokenKind) → opens k ≡ false → (t : Tail) → opener t ≡ k → ⊥
no-opener k is t e = let clash : true ≡ false = sym (opens-opener t) ∙ ap opens e ∙ is in cc

abbrev a_token : TokenKind → Terminal
a_token k = record { kind = k; value = 0 }

-- an Ident stands for any symbol that has to be there and is no token of its own
ident-first : (s : Symbol) (e : Expected) (n : ℕ) → answer s Ident ≡ takes [] → Completes e (n + 1) → Completes (next s e) n
ident-first s e n is rest = record {
  tokens = a_token Ident ∷ rest.tokens;
  accepts = symbol-takes s [] e (n, a_token Ident) (enumerate_from (n + 1) rest.tokens) is ∙ rest.accepts;
  plain = plain-token Ident n (enumerate_from (n + 1) rest.tokens) (no-opener Ident refl);
}

-- whatever is expected, some tokens are all of it
closed-kind : (b : Bool) → (if b then false else true) ≡ true → b ≡ false
closed-kind true is = absurd (let clash : false ≡ true = is in cc)
closed-kind false is = refl

pub completes : (e : Expected) (n : ℕ) → fine e ≡ true → Completes e n
completes nothing n ok = record { tokens = []; accepts = verdict-done nothing refl; plain = λ t begins. begins }
completes steps n ok = record { tokens = []; accepts = verdict-done steps refl; plain = λ t begins. begins }
completes statement n ok = record {
  tokens = a_token WordShow ∷ a_token Ident ∷ [];
  accepts = verdict-step statement (next name nothing) (n, a_token WordShow) ((n + 1, a_token Ident) ∷ []) refl ∙ symbol-takes name [] nothing (n + 1, a_token Ident) [] refl
      ∙ verdict-done nothing refl;
  plain = plain-token WordShow n ((n + 1, a_token Ident) ∷ []) (no-opener WordShow refl);
}
completes goal n ok = record {
  tokens = a_token QuestionMark ∷ [];
  accepts = verdict-step goal (next (tail reason_left) nothing) (n, a_token QuestionMark) [] refl ∙ verdict-done (next (tail reason_left) nothing) refl;
  plain = plain-token QuestionMark n [] (no-opener QuestionMark refl);
}
completes (next (tail t) e) n ok =
    let rest = completes e n ok in
    record { tokens = rest.tokens; accepts = tail_skips t e (enumerate_from n rest.tokens) (rest.plain t) ∙ rest.accepts; plain = rest.plain }
completes (next name e) n ok = ident-first name e n refl (completes e (n + 1) ok)
completes (next signed e) n ok = ident-first signed e n refl (completes e (n + 1) ok)
completes (next reason e) n ok = ident-first reason e n refl (completes e (n + 1) ok)
completes (next (atom depth) e) n ok = ident-first (atom depth) e n refl (completes e (n + 1) ok)
completes (next (token kind) e) n ok =
    let p = both (if opens kind then false else true) (fine e) ok in
    let rest = completes e (n + 1) p.1 in
    record {
      tokens = a_token kind ∷ rest.tokens;
      accepts = token-takes kind e (n, a_token kind) (enumerate_from (n + 1) rest.tokens) refl ∙ rest.accepts;
      plain = plain-token kind n (enumerate_from (n + 1) rest.tokens) (no-opener kind (closed-kind (opens kind) p.0));
    }
