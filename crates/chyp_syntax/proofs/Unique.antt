-- A list of tokens has at most one tree.
use Rattle.std.proofs.Common.{◌≡◌, ℕ, zero, suc, List, [], ◌∷◌, ◌++◌, None, Some, inl, inr, ◌⊎◌, refl, sym, ◌∙◌, ap, ap₂, subst, arith, append_assoc}
use Rattle.chyp_lex.specs.declared.token.TokenKind.{TokenKind}
use Rattle.chyp_lex.specs.declared.token.TokenKind.TheVariants.{Ident, Dotted, Semicolon, Star, LeftParenthesis, RightParenthesis, LeftBracket, RightBracket, Comma, WordId, WordId0, WordSw}
use Rattle.chyp_syntax.specs.Numbered.{NumberedToken, kind_of, value_of}
use Rattle.chyp_syntax.specs.Beginning.{BeginsWithKind}
use Rattle.chyp_syntax.specs.Sentence.{AreNumbers, one_number, more_numbers, IsSwap, two_places, these_places, IsAtom, a_name, an_id, an_id0, a_swap, in_parentheses, AreAtoms, one_atom, more_atoms, IsPar, tensor, ArePars, one_par, more_pars, IsTerm, composite}
use Rattle.chyp_syntax.specs.Term.{TermTree, named, wire, empty, swap, tensor_of, chain_of}
use Rattle.chyp_syntax.proofs.Driving.{Not, other}
use Rattle.chyp_syntax.proofs.Numbers.{IsNumber, a_value}
use Rattle.chyp_syntax.proofs.Existence.{no-less, one-less}

pub heads : (x y : NumberedToken) (xs ys : List NumberedToken) → x ∷ xs ≡ y ∷ ys → (x ≡ y) × (xs ≡ ys)
heads x y xs ys e = let first : x ≡ y = cc in let rest : xs ≡ ys = cc in (first, rest)

-- ---- parts with a token between them

pub data AreParts {A : Type 0} (Is : List NumberedToken → A → Type 0) (kind : TokenKind) : List NumberedToken → List A → List ℕ → Type 0 where
  one_part : {a : List NumberedToken} {t : A} → Is a t → AreParts Is kind a (t ∷ []) []
  more_parts : {a b : List NumberedToken} (x : NumberedToken) {t : A} {ts : List A} {ms : List ℕ} → Is a t → kind_of x ≡ kind → AreParts Is kind b ts ms →
      AreParts Is kind (a ++ x ∷ b) (t ∷ ts) (x.0 ∷ ms)

-- what stands at the front of one list, with what follows it, is told by the list
abbrev pub OneWay : {A : Type 0} → (List NumberedToken → A → Type 0) → (List NumberedToken → Type 0) → Type 0
OneWay {A} Is Ends = (a b r s : List NumberedToken) (t u : A) → Is a t → Is b u → Ends r → Ends s → a ++ r ≡ b ++ s → (t ≡ u) × (r ≡ s)

module _ {A : Type 0} (Is : List NumberedToken → A → Type 0) (kind : TokenKind) (Ends : List NumberedToken → Type 0)
    (open' : (x : NumberedToken) (xs : List NumberedToken) → kind_of x ≡ kind → Ends (x ∷ xs)) (one-way : OneWay Is Ends) where
  not-more : (r zs : List NumberedToken) (x : NumberedToken) → kind_of x ≡ kind → Not kind r → r ≡ x ∷ zs → ⊥
  not-more r zs x is ended e = ended (subst (BeginsWithKind kind) (sym e) is)

  pub parts-one-way : {a : List NumberedToken} {ts : List A} {ms : List ℕ} → AreParts Is kind a ts ms → (b r s : List NumberedToken) (us : List A) (ns : List ℕ) → AreParts Is kind b us ns →
      Ends r → Ends s → Not kind r → Not kind s → a ++ r ≡ b ++ s → (ts ≡ us) × (ms ≡ ns) × (r ≡ s)
  parts-one-way (one_part {a} {t} is) _ r s _ _ (one_part {a = b} {t = u} is') er es nr ns' e =
      let w = one-way a b r s t u is is' er es e in
      (ap (λ v. v ∷ []) w.0, refl, w.1)
  parts-one-way (one_part {a} {t} is) _ r s _ _ (more_parts {a = b} {b = c} y {t = u} is' k are') er es nr ns' e =
      let w = one-way a b r (y ∷ (c ++ s)) t u is is' er (open' y (c ++ s) k) (e ∙ append_assoc b (y ∷ c) s) in
      absurd (not-more r (c ++ s) y k nr w.1)
  parts-one-way (more_parts {a} {b = c} x {t} is k are) _ r s _ _ (one_part {a = b} {t = u} is') er es nr ns' e =
      let w = one-way a b (x ∷ (c ++ r)) s t u is is' (open' x (c ++ r) k) es (sym (append_assoc a (x ∷ c) r) ∙ e) in
      absurd (not-more s (c ++ r) x k ns' (sym w.1))
  parts-one-way (more_parts {a} {b = c} x {t} {ts} {ms} is k are) _ r s _ _ (more_parts {a = b} {b = d} y {t = u} {ts = us} {ms = ns} is' k' are') er es nr ns' e =
      let w = one-way a b (x ∷ (c ++ r)) (y ∷ (d ++ s)) t u is is' (open' x (c ++ r) k) (open' y (d ++ s) k') (sym (append_assoc a (x ∷ c) r) ∙ e ∙ append_assoc b (y ∷ d) s) in
      let h = heads x y (c ++ r) (d ++ s) w.1 in
      let v = parts-one-way are d r s us ns are' er es nr ns' h.1 in
      let number : NumberedToken → ℕ = λ z. z.0 in
      (ap₂ (λ p q. p ∷ q) w.0 v.0, ap₂ (λ p q. p ∷ q) (ap number h.0) v.1, v.2)

-- ---- numbers and swaps

abbrev pub Anything : List NumberedToken → Type 0
Anything xs = Unit {0}

number-one-way : (a b r s : List NumberedToken) (t u : ℕ) → IsNumber a t → IsNumber b u → Anything r → Anything s → a ++ r ≡ b ++ s → (t ≡ u) × (r ≡ s)
number-one-way _ _ r s _ _ (a_value {number = x} is) (a_value {number = y} is') er es e = let h = heads x y r s e in (ap value_of h.0, h.1)

numbers-parts : {a : List NumberedToken} {vs : List ℕ} → AreNumbers a vs → (ms : List ℕ) × AreParts IsNumber Comma a vs ms
numbers-parts (one_number {number = x} is) = ([], one_part (a_value {number = x} is))
numbers-parts (more_numbers {number = x} {comma = y} is k are) = let rest = numbers-parts are in (y.0 ∷ rest.0, more_parts y (a_value {number = x} is) k rest.1)

numbers-one-way : (a b r s : List NumberedToken) (t u : List ℕ) → AreNumbers a t → AreNumbers b u → Not Comma r → Not Comma s → a ++ r ≡ b ++ s → (t ≡ u) × (r ≡ s)
numbers-one-way a b r s t u is is' nr ns e =
    let p = numbers-parts is in
    let q = numbers-parts is' in
    let w = parts-one-way IsNumber Comma Anything (λ x xs k. tt) number-one-way p.1 b r s u q.0 q.1 tt tt nr ns e in
    (w.0, w.2)

-- what a swap from its first token on is
abbrev SwapReading : NumberedToken → List NumberedToken → TermTree → List NumberedToken → Type 0
SwapReading x ys t s =
    (Not LeftBracket ys × (t ≡ swap x.0 None) × (s ≡ ys))
    ⊎ ((y : NumberedToken) × (z : NumberedToken) × (places : List NumberedToken) × (values : List ℕ) ×
    (ys ≡ y ∷ (places ++ z ∷ s)) × (kind_of y ≡ LeftBracket) × AreNumbers places values × (kind_of z ≡ RightBracket) × (t ≡ swap x.0 (Some values)))

swap-reading : {xs : List NumberedToken} {t : TermTree} → IsSwap xs t → (s ys : List NumberedToken) (x : NumberedToken) → Not LeftBracket s → xs ++ s ≡ x ∷ ys → (kind_of x ≡ WordSw)
    × SwapReading x ys t s
swap-reading (two_places {word = w} is) s ys x ended e =
    let h = heads w x s ys e in
    (ap kind_of (sym h.0) ∙ is, inl (subst (Not LeftBracket) h.1 ended, ap (λ (v : NumberedToken). swap v.0 None) h.0, h.1))
swap-reading (these_places {word = w} {open' = y} z {places = ps} {values = vs} is o are c) s ys x ended e =
    let h = heads w x (y ∷ ((ps ++ z ∷ []) ++ s)) ys e in
    (ap kind_of (sym h.0) ∙ is, inr (y, z, ps, vs, sym h.1 ∙ ap (λ zs. y ∷ zs) (append_assoc ps (z ∷ []) s), o, are, c, ap (λ (v : NumberedToken). swap v.0 (Some vs)) h.0))

swap-same : (x : NumberedToken) (ys : List NumberedToken) (t u : TermTree) (s r : List NumberedToken) → SwapReading x ys t s → SwapReading x ys u r → (t ≡ u) × (s ≡ r)
swap-same x ys t u s r (inl a) (inl b) = (a.1 ∙ sym b.1, a.2 ∙ sym b.2)
swap-same x ys t u s r (inl a) (inr b) = absurd (a.0 (subst (BeginsWithKind LeftBracket) (sym b.4) b.5))
swap-same x ys t u s r (inr a) (inl b) = absurd (b.0 (subst (BeginsWithKind LeftBracket) (sym a.4) a.5))
swap-same x ys t u s r (inr a) (inr b) =
    let h = heads a.0 b.0 (a.2 ++ a.1 ∷ s) (b.2 ++ b.1 ∷ r) (sym a.4 ∙ b.4) in
    let w = numbers-one-way a.2 b.2 (a.1 ∷ s) (b.1 ∷ r) a.3 b.3 a.6 b.6 (other RightBracket Comma a.1 s a.7 (λ c. cc)) (other RightBracket Comma b.1 r b.7 (λ c. cc)) h.1 in
    let v = heads a.1 b.1 s r w.1 in
    (a.8 ∙ ap (λ vs. swap x.0 (Some vs)) w.0 ∙ sym b.8, v.1)

-- ---- atoms

abbrev pub TermEnds : List NumberedToken → Type 0
TermEnds xs = Not LeftBracket xs × Not Star xs × Not Semicolon xs

-- what an atom from its first token on is
abbrev AtomReading : TokenKind → ℕ → NumberedToken → List NumberedToken → TermTree → List NumberedToken → Type 0
AtomReading Ident depth x ys t s = (t ≡ named x.0) × (s ≡ ys)
AtomReading Dotted depth x ys t s = (t ≡ named x.0) × (s ≡ ys)
AtomReading WordId depth x ys t s = (t ≡ wire) × (s ≡ ys)
AtomReading WordId0 depth x ys t s = (t ≡ empty) × (s ≡ ys)
AtomReading WordSw depth x ys t s = SwapReading x ys t s
AtomReading LeftParenthesis depth x ys t s =
    (d : ℕ) × (z : NumberedToken) × (inner : List NumberedToken) × (depth ≡ suc d) × (ys ≡ inner ++ z ∷ s) × IsTerm d inner t × (kind_of z ≡ RightParenthesis)
AtomReading _ depth x ys t s = ⊥

kinded : (k j : TokenKind) (depth : ℕ) (x : NumberedToken) (ys : List NumberedToken) (t : TermTree) (s : List NumberedToken) → j ≡ k → AtomReading k depth x ys t s → AtomReading j depth x ys t s
kinded k j depth x ys t s e r = subst (λ i. AtomReading i depth x ys t s) (sym e) r

atom-reading : {depth : ℕ} {xs : List NumberedToken} {t : TermTree} → IsAtom depth xs t → (s ys : List NumberedToken) (x : NumberedToken) → Not LeftBracket s → xs ++ s ≡ x ∷ ys
    → AtomReading (kind_of x) depth x ys t s
atom-reading (a_name {depth} {word = w} (inl is)) s ys x ended e =
    let h = heads w x s ys e in
    kinded Ident (kind_of x) depth x ys (named w.0) s (ap kind_of (sym h.0) ∙ is) (ap (λ (v : NumberedToken). named v.0) h.0, h.1)
atom-reading (a_name {depth} {word = w} (inr is)) s ys x ended e =
    let h = heads w x s ys e in
    kinded Dotted (kind_of x) depth x ys (named w.0) s (ap kind_of (sym h.0) ∙ is) (ap (λ (v : NumberedToken). named v.0) h.0, h.1)
atom-reading (an_id {depth} {word = w} is) s ys x ended e =
    let h = heads w x s ys e in
    kinded WordId (kind_of x) depth x ys wire s (ap kind_of (sym h.0) ∙ is) (refl, h.1)
atom-reading (an_id0 {depth} {word = w} is) s ys x ended e =
    let h = heads w x s ys e in
    kinded WordId0 (kind_of x) depth x ys empty s (ap kind_of (sym h.0) ∙ is) (refl, h.1)
atom-reading (a_swap {depth} {tree = t} is) s ys x ended e =
    let r = swap-reading is s ys x ended e in
    kinded WordSw (kind_of x) depth x ys t s r.0 r.1
atom-reading (in_parentheses {depth} {open' = w} z {inner = zs} {tree = t} o is c) s ys x ended e =
    let h = heads w x ((zs ++ z ∷ []) ++ s) ys e in
    kinded LeftParenthesis (kind_of x) (suc depth) x ys t s (ap kind_of (sym h.0) ∙ o) (depth, z, zs, refl, sym h.1 ∙ append_assoc zs (z ∷ []) s, is, c)

abbrev pub TermOneWay : ℕ → Type 0
TermOneWay depth = (a b r s : List NumberedToken) (t u : TermTree) → IsTerm depth a t → IsTerm depth b u → TermEnds r → TermEnds s → a ++ r ≡ b ++ s → (t ≡ u) × (r ≡ s)

closing : (z : NumberedToken) (s : List NumberedToken) → kind_of z ≡ RightParenthesis → TermEnds (z ∷ s)
closing z s k = (other RightParenthesis LeftBracket z s k (λ c. cc), other RightParenthesis Star z s k (λ c. cc), other RightParenthesis Semicolon z s k (λ c. cc))

same-less : (d c depth : ℕ) → depth ≡ suc d → depth ≡ suc c → c ≡ d
same-less d c depth e f = omega (arith, e, f)

atom-same : (k : TokenKind) (depth : ℕ) (inner : (d : ℕ) → depth ≡ suc d → TermOneWay d) (x : NumberedToken) (ys : List NumberedToken) (t u : TermTree) (s r : List NumberedToken) →
    AtomReading k depth x ys t s → AtomReading k depth x ys u r → (t ≡ u) × (s ≡ r)
atom-same Ident depth inner x ys t u s r a b = (a.0 ∙ sym b.0, a.1 ∙ sym b.1)
atom-same Dotted depth inner x ys t u s r a b = (a.0 ∙ sym b.0, a.1 ∙ sym b.1)
atom-same WordId depth inner x ys t u s r a b = (a.0 ∙ sym b.0, a.1 ∙ sym b.1)
atom-same WordId0 depth inner x ys t u s r a b = (a.0 ∙ sym b.0, a.1 ∙ sym b.1)
atom-same WordSw depth inner x ys t u s r a b = swap-same x ys t u s r a b
atom-same LeftParenthesis depth inner x ys t u s r a b =
    let is' : IsTerm a.0 b.2 u = subst (λ d. IsTerm d b.2 u) (same-less a.0 b.0 depth a.3 b.3) b.5 in
    let w = inner a.0 a.3 a.2 b.2 (a.1 ∷ s) (b.1 ∷ r) t u a.5 is' (closing a.1 s a.6) (closing b.1 r b.6) (sym a.4 ∙ b.4) in
    (w.0, (heads a.1 b.1 s r w.1).1)
atom-same _ depth inner x ys t u s r a b = elim a [ ]

-- an atom has a token
atom-some : {depth : ℕ} {xs : List NumberedToken} {t : TermTree} → IsAtom depth xs t → (s : List NumberedToken) → (x : NumberedToken) × (ys : List NumberedToken) × (xs ++ s ≡ x ∷ ys)
atom-some (a_name {word = w} is) s = (w, s, refl)
atom-some (an_id {word = w} is) s = (w, s, refl)
atom-some (an_id0 {word = w} is) s = (w, s, refl)
atom-some (a_swap (two_places {word = w} is)) s = (w, s, refl)
atom-some (a_swap (these_places {word = w} {open' = y} z {places = ps} is o are c)) s = (w, y ∷ ((ps ++ z ∷ []) ++ s), refl)
atom-some (in_parentheses {open' = w} z {inner = zs} o is c) s = (w, (zs ++ z ∷ []) ++ s, refl)

atom-one-way : (depth : ℕ) → ((d : ℕ) → depth ≡ suc d → TermOneWay d) → (a b r s : List NumberedToken) (t u : TermTree) → IsAtom depth a t → IsAtom depth b u → Not LeftBracket r → Not LeftBracket s
    → a ++ r ≡ b ++ s → (t ≡ u) × (r ≡ s)
atom-one-way depth inner a b r s t u is is' er es e =
    let w = atom-some is r in
    atom-same (kind_of w.0) depth inner w.0 w.1 t u r s (atom-reading is r w.1 w.0 er w.2) (atom-reading is' s w.1 w.0 es (sym e ∙ w.2))

-- ---- terms

atoms-parts : {depth : ℕ} {a : List NumberedToken} {ts : List TermTree} → AreAtoms depth a ts → (ms : List ℕ) × AreParts (IsAtom depth) Star a ts ms
atoms-parts (one_atom is) = ([], one_part is)
atoms-parts (more_atoms x is k are) = let rest = atoms-parts are in (x.0 ∷ rest.0, more_parts x is k rest.1)

pars-parts : {depth : ℕ} {a : List NumberedToken} {ts : List TermTree} {ms : List ℕ} → ArePars depth a ts ms → AreParts (IsPar depth) Semicolon a ts ms
pars-parts (one_par is) = one_part is
pars-parts (more_pars x is k are) = more_parts x is k (pars-parts are)

abbrev ParEnds : List NumberedToken → Type 0
ParEnds xs = Not LeftBracket xs × Not Star xs

par-one-way : (depth : ℕ) → ((d : ℕ) → depth ≡ suc d → TermOneWay d) → (a b r s : List NumberedToken) (t u : TermTree) → IsPar depth a t → IsPar depth b u → ParEnds r → ParEnds s → a ++ r ≡ b ++ s
    → (t ≡ u) × (r ≡ s)
par-one-way depth inner a b r s _ _ (tensor {trees = ts} are) (tensor {trees = us} are') er es e =
    let p = atoms-parts are in
    let q = atoms-parts are' in
    let w = parts-one-way (IsAtom depth) Star (Not LeftBracket) (λ x xs k. other Star LeftBracket x xs k (λ c. cc)) (atom-one-way depth inner) p.1 b r s us q.0 q.1 er.0 es.0 er.1 es.1 e in
    (ap tensor_of w.0, w.2)

term-one-way-step : (depth : ℕ) → ((d : ℕ) → depth ≡ suc d → TermOneWay d) → TermOneWay depth
term-one-way-step depth inner a b r s _ _ (composite {trees = ts} {semis = ms} are) (composite {trees = us} {semis = ns} are') er es e =
    let w = parts-one-way (IsPar depth) Semicolon ParEnds (λ x xs k. (other Semicolon LeftBracket x xs k (λ c. cc), other Semicolon Star x xs k (λ c. cc))) (par-one-way depth inner)
    (pars-parts are) b r s us ns (pars-parts are') (er.0, er.1) (es.0, es.1) er.2 es.2 e in
    (ap₂ chain_of w.0 w.1, w.2)

pub term-one-way : (depth : ℕ) → TermOneWay depth
term-one-way zero = term-one-way-step zero (λ d e. absurd (no-less d e))
term-one-way (suc depth) = term-one-way-step (suc depth) (λ d e. subst TermOneWay (one-less depth d e) (term-one-way depth))
