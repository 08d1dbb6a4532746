-- A chunk has at most one tree.
use Rattle.std.proofs.Common.{◌≡◌, ℕ, true, false, List, [], ◌∷◌, ◌++◌, Option, None, Some, inl, inr, ◌⊎◌, refl, sym, ◌∙◌, ap, ap₂, subst, append-nil, append_assoc}
use Rattle.chyp_lex.specs.declared.token.TokenKind.{TokenKind}
use Rattle.chyp_lex.specs.declared.token.TokenKind.TheVariants.{Ident, Dotted, Equals, RightParenthesis, Comma, Minus, QuestionMark, WordGen, WordLet, WordRule, WordRewrite, WordImport, WordShow, WordBy, WordSimp}
use Rattle.chyp_syntax.specs.declared.step.ReasonAst.{ReasonAst}
use Rattle.chyp_syntax.specs.declared.step.ReasonAst.TheVariants.{Rule, Simp}
use Rattle.chyp_syntax.specs.declared.step.SignedAst.{SignedAst}
use Rattle.chyp_syntax.specs.Failing.{HasOneTree}
use Rattle.chyp_syntax.specs.Numbered.{NumberedToken, kind_of, value_of, IsName}
use Rattle.chyp_syntax.specs.Beginning.{BeginsWithKind}
use Rattle.chyp_syntax.specs.Sentence.{most_nested, IsTerm, IsSigned, forwards, backwards, AreSigned, one_signed, more_signed, IsReason, none, by_rule, by_simp, to_term, to_hole, AreSteps, no_step, last_hole, more_steps, IsStatement, is_gen, is_let, is_rule, is_rewrite, is_import, is_import_as, is_show}
use Rattle.chyp_syntax.specs.Statement.{StatementTree, generator, abbreviation, rule, rewrite, inclusion, showing}
use Rattle.chyp_syntax.specs.Step.{StepTree}
use Rattle.chyp_syntax.specs.Words.{Word}
use Rattle.chyp_syntax.specs.Term.{TermTree}
use Rattle.chyp_syntax.proofs.Driving.{Not, other, signed-no-simp, term-no-mark, steps-begin, reason-begins, ends-kind}
use Rattle.chyp_syntax.proofs.Unique.{heads, Anything, AreParts, one_part, more_parts, parts-one-way, term-one-way}

-- ---- signed names

no-name : (k : TokenKind) (x : NumberedToken) → IsName x → kind_of x ≡ k → (Ident ≡ k → ⊥) → (Dotted ≡ k → ⊥) → ⊥
no-name k x (inl is) e f g = f (sym is ∙ e)
no-name k x (inr is) e f g = g (sym is ∙ e)

abbrev plus : NumberedToken → SignedAst
plus x = record { minus = false; name = x.0 }

abbrev minus_of : NumberedToken → SignedAst
minus_of x = record { minus = true; name = x.0 }

signed-one-way : (a b r s : List NumberedToken) (t u : SignedAst) → IsSigned a t → IsSigned b u → Anything r → Anything s → a ++ r ≡ b ++ s → (t ≡ u) × (r ≡ s)
signed-one-way _ _ r s _ _ (forwards {word = x} is) (forwards {word = y} is') er es e = let h = heads x y r s e in (ap plus h.0, h.1)
signed-one-way _ _ r s _ _ (forwards {word = x} is) (backwards {minus = m} {word = y} k is') er es e =
    let h = heads x m r (y ∷ s) e in
    absurd (no-name Minus x is (ap kind_of h.0 ∙ k) (λ c. cc) (λ c. cc))
signed-one-way _ _ r s _ _ (backwards {minus = m} {word = x} k is) (forwards {word = y} is') er es e =
    let h = heads m y (x ∷ r) s e in
    absurd (no-name Minus y is' (ap kind_of (sym h.0) ∙ k) (λ c. cc) (λ c. cc))
signed-one-way _ _ r s _ _ (backwards {minus = m} {word = x} k is) (backwards {minus = n} {word = y} k' is') er es e =
    let h = heads m n (x ∷ r) (y ∷ s) e in
    let g = heads x y r s h.1 in
    (ap minus_of g.0, g.1)

signeds-parts : {a : List NumberedToken} {ts : List SignedAst} → AreSigned a ts → (ms : List ℕ) × AreParts IsSigned Comma a ts ms
signeds-parts (one_signed is) = ([], one_part is)
signeds-parts (more_signed x is k are) = let rest = signeds-parts are in (x.0 ∷ rest.0, more_parts x is k rest.1)

signeds-one-way : (a b r s : List NumberedToken) (t u : List SignedAst) → AreSigned a t → AreSigned b u → Not Comma r → Not Comma s → a ++ r ≡ b ++ s → (t ≡ u) × (r ≡ s)
signeds-one-way a b r s t u is is' nr ns e =
    let p = signeds-parts is in
    let q = signeds-parts is' in
    let w = parts-one-way IsSigned Comma Anything (λ x xs k. tt) signed-one-way p.1 b r s u q.0 q.1 tt tt nr ns e in
    (w.0, w.2)

-- ---- reasons

begun : (k : TokenKind) (r zs : List NumberedToken) (x : NumberedToken) → kind_of x ≡ k → Not k r → r ≡ x ∷ zs → ⊥
begun k r zs x is ended e = ended (subst (BeginsWithKind k) (sym e) is)

reason-one-way : (a b r s : List NumberedToken) (t u : ReasonAst) → IsReason a t → IsReason b u → Not WordBy r → Not WordBy s → a ++ r ≡ b ++ s → (t ≡ u) × (r ≡ s)
reason-one-way _ _ r s _ _ none none er es e = (refl, e)
reason-one-way _ _ r s _ _ none (by_rule {word = x} {tokens = zs} k is) er es e = absurd (begun WordBy r (zs ++ s) x k er e)
reason-one-way _ _ r s _ _ none (by_simp {word = x} {simp' = y} {open' = z} w {tokens = zs} k k1 k2 are k3) er es e = absurd (begun WordBy r (y ∷ z ∷ ((zs ++ w ∷ []) ++ s)) x k er e)
reason-one-way _ _ r s _ _ (by_rule {word = x} {tokens = zs} k is) none er es e = absurd (begun WordBy s (zs ++ r) x k es (sym e))
reason-one-way _ _ r s _ _ (by_simp {word = x} {simp' = y} {open' = z} w {tokens = zs} k k1 k2 are k3) none er es e = absurd (begun WordBy s (y ∷ z ∷ ((zs ++ w ∷ []) ++ r)) x k es (sym e))
reason-one-way _ _ r s _ _ (by_rule {word = x} {tokens = a} {tree = t} k is) (by_rule {word = y} {tokens = b} {tree = u} k' is') er es e =
    let h = heads x y (a ++ r) (b ++ s) e in
    let w = signed-one-way a b r s t u is is' tt tt h.1 in
    (ap Rule w.0, w.1)
reason-one-way _ _ r s _ _ (by_rule {word = x} {tokens = a} k is) (by_simp {word = y} {simp' = m} {open' = z} w {tokens = b} k' k1 k2 are k3) er es e =
    let h = heads x y (a ++ r) (m ∷ z ∷ ((b ++ w ∷ []) ++ s)) e in
    absurd (begun WordSimp (a ++ r) (z ∷ ((b ++ w ∷ []) ++ s)) m k1 (signed-no-simp is r) h.1)
reason-one-way _ _ r s _ _ (by_simp {word = y} {simp' = m} {open' = z} w {tokens = b} k' k1 k2 are k3) (by_rule {word = x} {tokens = a} k is) er es e =
    let h = heads y x (m ∷ z ∷ ((b ++ w ∷ []) ++ r)) (a ++ s) e in
    absurd (begun WordSimp (a ++ s) (z ∷ ((b ++ w ∷ []) ++ r)) m k1 (signed-no-simp is s) (sym h.1))
reason-one-way _ _ r s _ _ (by_simp {word = x} {simp' = m} {open' = z} w {tokens = a} {trees = t} k k1 k2 are k3)
    (by_simp {word = x'} {simp' = m'} {open' = z'} w' {tokens = b} {trees = u} k' k1' k2' are' k3') er es e =
    let h0 = heads x x' (m ∷ z ∷ ((a ++ w ∷ []) ++ r)) (m' ∷ z' ∷ ((b ++ w' ∷ []) ++ s)) e in
    let h1 = heads m m' (z ∷ ((a ++ w ∷ []) ++ r)) (z' ∷ ((b ++ w' ∷ []) ++ s)) h0.1 in
    let h2 = heads z z' ((a ++ w ∷ []) ++ r) ((b ++ w' ∷ []) ++ s) h1.1 in
    let v = signeds-one-way a b (w ∷ r) (w' ∷ s) t u are are' (other RightParenthesis Comma w r k3 (λ c. cc)) (other RightParenthesis Comma w' s k3' (λ c. cc))
    (sym (append_assoc a (w ∷ []) r) ∙ h2.1 ∙ append_assoc b (w' ∷ []) s) in
    (ap Simp v.0, (heads w w' r s v.1).1)

reason-one-end : (a b : List NumberedToken) (t u : ReasonAst) → IsReason a t → IsReason b u → a ≡ b → t ≡ u
reason-one-end a b t u is is' e = (reason-one-way a b [] [] t u is is' (λ k. k) (λ k. k) (append-nil a ∙ e ∙ sym (append-nil b))).0

-- ---- steps

empty-cons : (x : NumberedToken) (xs : List NumberedToken) → [] ≡ x ∷ xs → ⊥
empty-cons x xs e = cc

abbrev step_with : ℕ → Option TermTree → ReasonAst → StepTree
step_with n g why = record { equals = n; goal = g; reason = why }

number : NumberedToken → ℕ
number x = x.0

steps-one-way : {xs : List NumberedToken} {ts : List StepTree} → AreSteps xs ts → (ys : List NumberedToken) (us : List StepTree) → AreSteps ys us → xs ≡ ys → ts ≡ us
steps-one-way no_step _ _ no_step e = refl
steps-one-way no_step _ _ (last_hole (to_hole {equals = x} {mark = y} {by = zs} k m why)) e = absurd (empty-cons x (y ∷ zs) e)
steps-one-way no_step _ _ (more_steps {rest = rest} (to_term {equals = x} {term = a} {by = b} k term why) are) e = absurd (empty-cons x ((a ++ b) ++ rest) e)
steps-one-way (last_hole (to_hole {equals = x} {mark = y} {by = zs} k m why)) _ _ no_step e = absurd (empty-cons x (y ∷ zs) (sym e))
steps-one-way (more_steps {rest = rest} (to_term {equals = x} {term = a} {by = b} k term why) are) _ _ no_step e = absurd (empty-cons x ((a ++ b) ++ rest) (sym e))
steps-one-way (last_hole (to_hole {equals = x} {mark = y} {by = a} {reason = v} k m why)) _ _ (last_hole (to_hole {equals = x'} {mark = y'} {by = b} {reason = w} k' m' why')) e =
    let h0 = heads x x' (y ∷ a) (y' ∷ b) e in
    let h1 = heads y y' a b h0.1 in
    ap₂ (λ (z : NumberedToken) (q : ReasonAst). step_with z.0 None q ∷ []) h0.0 (reason-one-end a b v w why why' h1.1)
steps-one-way (last_hole (to_hole {equals = x} {mark = y} {by = a} k m why)) _ _ (more_steps {rest = rest} (to_term {equals = x'} {term = b} {by = c} k' term why') are) e =
    let h0 = heads x x' (y ∷ a) ((b ++ c) ++ rest) e in
    absurd (begun QuestionMark (b ++ (c ++ rest)) a y m (term-no-mark term (c ++ rest)) (sym (append_assoc b c rest) ∙ sym h0.1))
steps-one-way (more_steps {rest = rest} (to_term {equals = x'} {term = b} {by = c} k' term why') are) _ _ (last_hole (to_hole {equals = x} {mark = y} {by = a} k m why)) e =
    let h0 = heads x' x ((b ++ c) ++ rest) (y ∷ a) e in
    absurd (begun QuestionMark (b ++ (c ++ rest)) a y m (term-no-mark term (c ++ rest)) (sym (append_assoc b c rest) ∙ h0.1))
steps-one-way (more_steps {rest = r} {trees = ts} (to_term {equals = x} {term = a} {by = b} {tree = t} {reason = v} k term why) are) _ _
    (more_steps {rest = s} {trees = us} (to_term {equals = y} {term = c} {by = d} {tree = u} {reason = w} k' term' why') are') e =
    let h0 = heads x y ((a ++ b) ++ r) ((c ++ d) ++ s) e in
    let begins = steps-begin are in
    let begins' = steps-begin are' in
    let terms = term-one-way most_nested a c (b ++ r) (d ++ s) t u term term' (reason-begins why r begins.0) (reason-begins why' s begins'.0) (sym (append_assoc a b r) ∙ h0.1 ∙ append_assoc c d s) in
    let reasons = reason-one-way b d r s v w why why' begins.1 begins'.1 terms.1 in
    let rest = steps-one-way are s us are' reasons.1 in
    let made : ℕ → TermTree → ReasonAst → List StepTree → List StepTree = λ n g q qs. step_with n (Some g) q ∷ qs in
    ap (λ (z : NumberedToken). made z.0 t v ts) h0.0 ∙ ap (λ g. made y.0 g v ts) terms.0 ∙ ap (λ q. made y.0 u q ts) reasons.0 ∙ ap (made y.0 u w) rest

-- ---- statements

-- what a statement behind its first word is
abbrev Reading : TokenKind → List NumberedToken → StatementTree → Type 0
Reading WordGen ys t = (a : NumberedToken) × (b : NumberedToken) × (c : NumberedToken) × (d : NumberedToken) × (f : NumberedToken) × (ys ≡ a ∷ b ∷ c ∷ d ∷ f ∷ [])
    × (t ≡ generator a.0 (value_of c) (value_of f))
Reading WordLet ys t = (a : NumberedToken) × (b : NumberedToken) × (zs : List NumberedToken) × (u : TermTree) × (ys ≡ a ∷ b ∷ zs) × IsTerm most_nested zs u × (t ≡ abbreviation a.0 u)
Reading WordRule ys t =
    (a : NumberedToken) × (b : NumberedToken) × (left : List NumberedToken) × (c : NumberedToken) × (right : List NumberedToken) × (u : TermTree) × (v : TermTree) ×
    (ys ≡ a ∷ b ∷ (left ++ c ∷ right)) × IsTerm most_nested left u × (kind_of c ≡ Equals) × IsTerm most_nested right v × (t ≡ rule a.0 u c.0 v)
Reading WordRewrite ys t =
    (a : NumberedToken) × (b : NumberedToken) × (zs : List NumberedToken) × (rest : List NumberedToken) × (u : TermTree) × (us : List StepTree) ×
    (ys ≡ a ∷ b ∷ (zs ++ rest)) × IsTerm most_nested zs u × AreSteps rest us × (t ≡ rewrite a.0 u us)
Reading WordImport ys t =
    ((a : NumberedToken) × (ys ≡ a ∷ []) × (t ≡ inclusion a.0 None))
    ⊎ ((a : NumberedToken) × (b : NumberedToken) × (c : NumberedToken) × (ys ≡ a ∷ b ∷ c ∷ []) × (t ≡ inclusion a.0 (Some c.0)))
Reading WordShow ys t = (a : NumberedToken) × (ys ≡ a ∷ []) × (t ≡ showing a.0)
Reading _ ys t = ⊥

kinded : (k j : TokenKind) (ys : List NumberedToken) (t : StatementTree) → j ≡ k → Reading k ys t → Reading j ys t
kinded k j ys t e r = subst (λ i. Reading i ys t) (sym e) r

reading : {xs : List NumberedToken} {t : StatementTree} → IsStatement xs t → (x : NumberedToken) (ys : List NumberedToken) → xs ≡ x ∷ ys → Reading (kind_of x) ys t
reading (is_gen {word = w} {name = a} {colon = b} {dom = c} {arrow = d} {cod = f} k0 k1 k2 k3 k4 k5) x ys e =
    let h = heads w x (a ∷ b ∷ c ∷ d ∷ f ∷ []) ys e in
    kinded WordGen (kind_of x) ys (generator a.0 (value_of c) (value_of f)) (ap kind_of (sym h.0) ∙ k0) (a, b, c, d, f, sym h.1, refl)
reading (is_let {word = w} {name = a} {equals = b} {term = zs} {tree = u} k0 k1 k2 term) x ys e =
    let h = heads w x (a ∷ b ∷ zs) ys e in
    kinded WordLet (kind_of x) ys (abbreviation a.0 u) (ap kind_of (sym h.0) ∙ k0) (a, b, zs, u, sym h.1, term, refl)
reading (is_rule {word = w} {name = a} {colon = b} c {left = l} {right = r} {first = u} {second = v} k0 k1 k2 left k3 right) x ys e =
    let h = heads w x (a ∷ b ∷ (l ++ c ∷ r)) ys e in
    kinded WordRule (kind_of x) ys (rule a.0 u c.0 v) (ap kind_of (sym h.0) ∙ k0) (a, b, l, c, r, u, v, sym h.1, left, k3, right, refl)
reading (is_rewrite {word = w} {name = a} {colon = b} {term = zs} {rest = rest} {first = u} {steps = us} k0 k1 k2 term are) x ys e =
    let h = heads w x (a ∷ b ∷ (zs ++ rest)) ys e in
    kinded WordRewrite (kind_of x) ys (rewrite a.0 u us) (ap kind_of (sym h.0) ∙ k0) (a, b, zs, rest, u, us, sym h.1, term, are, refl)
reading (is_import {word = w} {name = a} k0 k1) x ys e =
    let h = heads w x (a ∷ []) ys e in
    kinded WordImport (kind_of x) ys (inclusion a.0 None) (ap kind_of (sym h.0) ∙ k0) (inl (a, sym h.1, refl))
reading (is_import_as {word = w} {name = a} {as' = b} {prefix = c} k0 k1 k2 k3) x ys e =
    let h = heads w x (a ∷ b ∷ c ∷ []) ys e in
    kinded WordImport (kind_of x) ys (inclusion a.0 (Some c.0)) (ap kind_of (sym h.0) ∙ k0) (inr (a, b, c, sym h.1, refl))
reading (is_show {word = w} {name = a} k0 k1) x ys e =
    let h = heads w x (a ∷ []) ys e in
    kinded WordShow (kind_of x) ys (showing a.0) (ap kind_of (sym h.0) ∙ k0) (a, sym h.1, refl)

term-to-end : (a b : List NumberedToken) (t u : TermTree) → IsTerm most_nested a t → IsTerm most_nested b u → a ≡ b → t ≡ u
term-to-end a b t u is is' e = (term-one-way most_nested a b [] [] t u is is' ((λ k. k), (λ k. k), (λ k. k)) ((λ k. k), (λ k. k), (λ k. k)) (append-nil a ∙ e ∙ sym (append-nil b))).0

same-reading : (k : TokenKind) (ys : List NumberedToken) (t u : StatementTree) → Reading k ys t → Reading k ys u → t ≡ u
same-reading WordGen ys t u p q =
    let e = sym p.5 ∙ q.5 in
    let first : p.0 ≡ q.0 = cc in
    let third : p.2 ≡ q.2 = cc in
    let fifth : p.4 ≡ q.4 = cc in
    p.6 ∙ ap (λ (z : NumberedToken). generator z.0 (value_of p.2) (value_of p.4)) first ∙ ap (λ z. generator q.0.0 (value_of z) (value_of p.4)) third
    ∙ ap (λ z. generator q.0.0 (value_of q.2) (value_of z)) fifth ∙ sym q.6
same-reading WordLet ys t u p q =
    let h0 = heads p.0 q.0 (p.1 ∷ p.2) (q.1 ∷ q.2) (sym p.4 ∙ q.4) in
    let h1 = heads p.1 q.1 p.2 q.2 h0.1 in
    let terms = term-to-end p.2 q.2 p.3 q.3 p.5 q.5 h1.1 in
    p.6 ∙ ap (λ (z : NumberedToken). abbreviation z.0 p.3) h0.0 ∙ ap (abbreviation q.0.0) terms ∙ sym q.6
same-reading WordRule ys t u p q =
    let h0 = heads p.0 q.0 (p.1 ∷ (p.2 ++ p.3 ∷ p.4)) (q.1 ∷ (q.2 ++ q.3 ∷ q.4)) (sym p.7 ∙ q.7) in
    let h1 = heads p.1 q.1 (p.2 ++ p.3 ∷ p.4) (q.2 ++ q.3 ∷ q.4) h0.1 in
    let left = term-one-way most_nested p.2 q.2 (p.3 ∷ p.4) (q.3 ∷ q.4) p.5 q.5 p.8 q.8 (ends-kind Equals p.3 p.4 p.9 (λ c. cc) (λ c. cc) (λ c. cc))
    (ends-kind Equals q.3 q.4 q.9 (λ c. cc) (λ c. cc) (λ c. cc)) h1.1 in
    let h2 = heads p.3 q.3 p.4 q.4 left.1 in
    let right = term-to-end p.4 q.4 p.6 q.6 p.10 q.10 h2.1 in
    p.11 ∙ ap (λ (z : NumberedToken). rule z.0 p.5 p.3.0 p.6) h0.0 ∙ ap (λ v. rule q.0.0 v p.3.0 p.6) left.0 ∙ ap (λ (z : NumberedToken). rule q.0.0 q.5 z.0 p.6) h2.0 ∙ ap (rule q.0.0 q.5 q.3.0) right
    ∙ sym q.11
same-reading WordRewrite ys t u p q =
    let h0 = heads p.0 q.0 (p.1 ∷ (p.2 ++ p.3)) (q.1 ∷ (q.2 ++ q.3)) (sym p.6 ∙ q.6) in
    let h1 = heads p.1 q.1 (p.2 ++ p.3) (q.2 ++ q.3) h0.1 in
    let first = term-one-way most_nested p.2 q.2 p.3 q.3 p.4 q.4 p.7 q.7 (steps-begin p.8).0 (steps-begin q.8).0 h1.1 in
    let rest = steps-one-way p.8 q.3 q.5 q.8 first.1 in
    p.9 ∙ ap (λ (z : NumberedToken). rewrite z.0 p.4 p.5) h0.0 ∙ ap (λ v. rewrite q.0.0 v p.5) first.0 ∙ ap (rewrite q.0.0 q.4) rest ∙ sym q.9
same-reading WordImport ys t u (inl p) (inl q) =
    let h0 = heads p.0 q.0 [] [] (sym p.1 ∙ q.1) in
    p.2 ∙ ap (λ (z : NumberedToken). inclusion z.0 None) h0.0 ∙ sym q.2
same-reading WordImport ys t u (inl p) (inr q) = absurd (empty-cons q.1 (q.2 ∷ []) (heads p.0 q.0 [] (q.1 ∷ q.2 ∷ []) (sym p.1 ∙ q.3)).1)
same-reading WordImport ys t u (inr p) (inl q) = absurd (empty-cons p.1 (p.2 ∷ []) (heads q.0 p.0 [] (p.1 ∷ p.2 ∷ []) (sym q.1 ∙ p.3)).1)
same-reading WordImport ys t u (inr p) (inr q) =
    let e = sym p.3 ∙ q.3 in
    let first : p.0 ≡ q.0 = cc in
    let third : p.2 ≡ q.2 = cc in
    p.4 ∙ ap (λ (z : NumberedToken). inclusion z.0 (Some p.2.0)) first ∙ ap (λ (z : NumberedToken). inclusion q.0.0 (Some z.0)) third ∙ sym q.4
same-reading WordShow ys t u p q =
    let h0 = heads p.0 q.0 [] [] (sym p.1 ∙ q.1) in
    p.2 ∙ ap (λ (z : NumberedToken). showing z.0) h0.0 ∙ sym q.2
same-reading _ ys t u p q = elim p [ ]

some-word : {xs : List NumberedToken} {t : StatementTree} → IsStatement xs t → (x : NumberedToken) × (ys : List NumberedToken) × (xs ≡ x ∷ ys)
some-word (is_gen {word = w} {name = a} {colon = b} {dom = c} {arrow = d} {cod = f} k0 k1 k2 k3 k4 k5) = (w, a ∷ b ∷ c ∷ d ∷ f ∷ [], refl)
some-word (is_let {word = w} {name = a} {equals = b} {term = zs} k0 k1 k2 term) = (w, a ∷ b ∷ zs, refl)
some-word (is_rule {word = w} {name = a} {colon = b} c {left = l} {right = r} k0 k1 k2 left k3 right) = (w, a ∷ b ∷ (l ++ c ∷ r), refl)
some-word (is_rewrite {word = w} {name = a} {colon = b} {term = zs} {rest = rest} k0 k1 k2 term are) = (w, a ∷ b ∷ (zs ++ rest), refl)
some-word (is_import {word = w} {name = a} k0 k1) = (w, a ∷ [], refl)
some-word (is_import_as {word = w} {name = a} {as' = b} {prefix = c} k0 k1 k2 k3) = (w, a ∷ b ∷ c ∷ [], refl)
some-word (is_show {word = w} {name = a} k0 k1) = (w, a ∷ [], refl)

pub has_one_tree : (words : List Word) → HasOneTree words
has_one_tree words tree other' is is' =
    let w = some-word is.statement in
    same-reading (kind_of w.0) w.1 tree other' (reading is.statement w.0 w.1 w.2) (reading is'.statement w.0 w.1 w.2)
