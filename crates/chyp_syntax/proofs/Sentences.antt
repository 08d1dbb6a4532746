-- Chunks that are accepted are sentences.
use Rattle.std.proofs.Common.{◌≡◌, ℕ, zero, suc, ◌≤◌, Bool, true, false, if◌then◌else◌, List, [], ◌∷◌, ◌++◌, length, Option, None, Some, inl, inr, ◌⊎◌, refl, sym, ◌∙◌, ap, subst, arith, append_assoc, length-append}
use Rattle.chyp_lex.specs.declared.token.TokenKind.{TokenKind}
use Rattle.chyp_lex.specs.declared.token.TokenKind.TheVariants.{Ident, Number, Colon, Arrow, Equals, QuestionMark, WordGen, WordLet, WordRule, WordRewrite, WordImport, WordShow}
use Rattle.chyp_syntax.specs.Expected.{same_kind, reason_left, atoms_left, pars_left, prefix_left, token, name, atom, tail, Expected, nothing, statement, steps, goal, next, answer, proceed, start, goal_more, term_then, accepted, stopped, go_on, verdict}
use Rattle.chyp_syntax.specs.Numbered.{NumberedToken, kind_of, value_of}
use Rattle.chyp_syntax.specs.Sentence.{most_nested, to_term, to_hole, AreSteps, no_step, last_hole, more_steps, IsStatement, is_gen, is_let, is_rule, is_rewrite, is_import, is_import_as, is_show}
use Rattle.chyp_syntax.specs.Statement.{StatementTree, generator, abbreviation, rule, rewrite, inclusion, showing}
use Rattle.chyp_syntax.specs.Step.{StepTree}
use Rattle.chyp_syntax.proofs.Existence.{term-tree, reason-tree}
use Rattle.chyp_syntax.proofs.Pieces.{goal_term}
use Rattle.chyp_syntax.proofs.Splits.{split, one_token, one_name, one_tail, no_token, not-both}
use Rattle.chyp_syntax.proofs.Verdicts.{same-kinds, same-self}

-- ---- steps

one_equals : (x : NumberedToken) (xs : List NumberedToken) → verdict steps (x ∷ xs) ≡ accepted → (kind_of x ≡ Equals) × (verdict goal xs ≡ accepted)
unfolding verdict
one_equals x xs is = go (same_kind (kind_of x) Equals) refl is
  where
    go : (b : Bool) → same_kind (kind_of x) Equals ≡ b → go_on (if b then Some goal else None) (λ e'. verdict e' xs) (stopped (x ∷ xs)) ≡ accepted → (kind_of x ≡ Equals) × (verdict goal xs ≡ accepted)
    go true here at = (same-kinds (kind_of x) Equals here, at)
    go false here at = absurd (not-both (x ∷ xs) at)

-- a goal is a hole or a term
abbrev Goal : List NumberedToken → Type 0
Goal xs = ((y : NumberedToken) × (ys : List NumberedToken) × (xs ≡ y ∷ ys) × (kind_of y ≡ QuestionMark) × (verdict (next (tail reason_left) nothing) ys ≡ accepted))
    ⊎ (verdict (term_then most_nested (next (tail reason_left) steps)) xs ≡ accepted)

one_goal : (xs : List NumberedToken) → verdict goal xs ≡ accepted → Goal xs
unfolding verdict
one_goal [] is = absurd (not-both [] is)
one_goal (y ∷ ys) is = go (same_kind (kind_of y) QuestionMark) refl is
  where
    go : (b : Bool) → same_kind (kind_of y) QuestionMark ≡ b →
        go_on (if b then Some (next (tail reason_left) nothing) else proceed (answer (atom most_nested) (kind_of y)) None goal_more) (λ e'. verdict e' ys) (stopped (y ∷ ys)) ≡ accepted → Goal (y ∷ ys)
    go true here at = inl (y, ys, refl, same-kinds (kind_of y) QuestionMark here, at)
    go false here at =
        let other : kind_of y ≡ QuestionMark → ⊥ = λ k. let clash : false ≡ true = sym here ∙ same-self (kind_of y) QuestionMark k in cc in
        inr (sym (goal_term (y ∷ ys) other) ∙ is)

abbrev StepTrees : List NumberedToken → Type 0
StepTrees xs = (ts : List StepTree) × AreSteps xs ts

hole-tree : (x y : NumberedToken) (ys : List NumberedToken) → kind_of x ≡ Equals → kind_of y ≡ QuestionMark → verdict (next (tail reason_left) nothing) ys ≡ accepted → StepTrees (x ∷ y ∷ ys)
hole-tree x y ys is mark at = let why = reason-tree ys at in (record { equals = x.0; goal = None; reason = why.0 } ∷ [], last_hole (to_hole {equals = x} {mark = y} is mark why.1))

step-tree : (x : NumberedToken) (xs : List NumberedToken) → kind_of x ≡ Equals → ((zs : List NumberedToken) → length zs ≤ length xs → verdict steps zs ≡ accepted → StepTrees zs) →
    verdict (term_then most_nested (next (tail reason_left) steps)) xs ≡ accepted → StepTrees (x ∷ xs)
step-tree x xs is before at =
    let h = split xs (atom most_nested ∷ tail (atoms_left most_nested) ∷ tail (pars_left most_nested) ∷ []) (next (tail reason_left) steps) at in
    let r = split h.back (tail reason_left ∷ []) steps h.back_is in
    let term = term-tree most_nested h.front h.front_is in
    let why = reason-tree r.front r.front_is in
    let short : length r.back ≤ length xs = omega (arith, ap length h.joined, length-append h.front h.back, ap length r.joined, length-append r.front r.back) in
    let rest = before r.back short r.back_is in
    let tree : StepTree = record { equals = x.0; goal = Some term.0; reason = why.0 } in
    let joined : xs ≡ (h.front ++ r.front) ++ r.back = h.joined ∙ ap (λ zs. h.front ++ zs) r.joined ∙ sym (append_assoc h.front r.front r.back) in (
      tree ∷ rest.0,
      subst (λ zs. AreSteps (x ∷ zs) (tree ∷ rest.0)) (sym joined)
          (more_steps {tokens = x ∷ (h.front ++ r.front)} {rest = r.back} {tree = tree} {trees =
          rest.0} (to_term {equals = x} {term = h.front} {by = r.front} {tree = term.0} {reason = why.0} is term.1 why.1) rest.1),
    )

steps-from : (x : NumberedToken) (xs : List NumberedToken) → kind_of x ≡ Equals → ((zs : List NumberedToken) → length zs ≤ length xs → verdict steps zs ≡ accepted → StepTrees zs) → Goal xs
    → StepTrees (x ∷ xs)
steps-from x xs is before (inl w) = subst (λ zs. StepTrees (x ∷ zs)) (sym w.2) (hole-tree x w.0 w.1 is w.3 w.4)
steps-from x xs is before (inr at) = step-tree x xs is before at

steps-tree : (n : ℕ) (xs : List NumberedToken) → length xs ≤ n → verdict steps xs ≡ accepted → StepTrees xs
steps-tree n [] le is = ([], no_step)
steps-tree zero (x ∷ xs) le is = absurd (omega arith)
steps-tree (suc n) (x ∷ xs) le is =
    let w = one_equals x xs is in
    steps-from x xs w.0 (λ zs short at. steps-tree n zs (omega arith) at) (one_goal xs w.1)

-- ---- statements

one_word : (x : NumberedToken) (xs : List NumberedToken) → verdict statement (x ∷ xs) ≡ accepted → (e : Expected) × (start (kind_of x) ≡ Some e) × (verdict e xs ≡ accepted)
unfolding verdict
one_word x xs is = go (start (kind_of x)) refl is
  where
    go : (o : Option Expected) → start (kind_of x) ≡ o → go_on o (λ e'. verdict e' xs) (stopped (x ∷ xs)) ≡ accepted → (e : Expected) × (start (kind_of x) ≡ Some e) × (verdict e xs ≡ accepted)
    go None here at = absurd (not-both (x ∷ xs) at)
    go (Some e) here at = (e, here, at)

abbrev pub HasTree : List NumberedToken → Type 0
HasTree xs = (t : StatementTree) × IsStatement xs t

moved : (e e' : Expected) (xs : List NumberedToken) → Some e ≡ Some e' → verdict e' xs ≡ accepted → verdict e xs ≡ accepted
moved e e' xs same at = let eq : e ≡ e' = cc in ap (λ f. verdict f xs) eq ∙ at

statement-cases : (k : TokenKind) (x : NumberedToken) (xs : List NumberedToken) (e : Expected) → kind_of x ≡ k → start k ≡ Some e → verdict e xs ≡ accepted → HasTree (x ∷ xs)
statement-cases WordGen x xs e is same at =
    let e5 = next (token Number) nothing in
    let e4 = next (token Arrow) e5 in
    let e3 = next (token Number) e4 in
    let e2 = next (token Colon) e3 in
    let a = one_token Ident e2 xs (moved (next (token Ident) e2) e xs same at) in
    let b = one_token Colon e3 a.1 a.4 in
    let c = one_token Number e4 b.1 b.4 in
    let d = one_token Arrow e5 c.1 c.4 in
    let f = one_token Number nothing d.1 d.4 in
    let joined : xs ≡ a.0 ∷ b.0 ∷ c.0 ∷ d.0 ∷ f.0 ∷ [] =
    a.2 ∙ ap (λ zs. a.0 ∷ zs) (b.2 ∙ ap (λ zs. b.0 ∷ zs) (c.2 ∙ ap (λ zs. c.0 ∷ zs) (d.2 ∙ ap (λ zs. d.0 ∷ zs) (f.2 ∙ ap (λ zs. f.0 ∷ zs) (no_token f.1 f.4))))) in
    let tree = generator a.0.0 (value_of c.0) (value_of f.0) in
    (tree, subst (λ zs. IsStatement (x ∷ zs) tree) (sym joined) (is_gen {word = x} {name = a.0} {colon = b.0} {dom = c.0} {arrow = d.0} {cod = f.0} is a.3 b.3 c.3 d.3 f.3))
statement-cases WordLet x xs e is same at =
    let e3 = term_then most_nested nothing in
    let e2 = next (token Equals) e3 in
    let a = one_token Ident e2 xs (moved (next (token Ident) e2) e xs same at) in
    let b = one_token Equals e3 a.1 a.4 in
    let term = term-tree most_nested b.1 b.4 in
    let joined : xs ≡ a.0 ∷ b.0 ∷ b.1 = a.2 ∙ ap (λ zs. a.0 ∷ zs) b.2 in
    let tree = abbreviation a.0.0 term.0 in
    (tree, subst (λ zs. IsStatement (x ∷ zs) tree) (sym joined) (is_let {word = x} {name = a.0} {equals = b.0} is a.3 b.3 term.1))
statement-cases WordRule x xs e is same at =
    let e4 = next (token Equals) (term_then most_nested nothing) in
    let e3 = term_then most_nested e4 in
    let e2 = next (token Colon) e3 in
    let a = one_token Ident e2 xs (moved (next (token Ident) e2) e xs same at) in
    let b = one_token Colon e3 a.1 a.4 in
    let h = split b.1 (atom most_nested ∷ tail (atoms_left most_nested) ∷ tail (pars_left most_nested) ∷ []) e4 b.4 in
    let left = term-tree most_nested h.front h.front_is in
    let c = one_token Equals (term_then most_nested nothing) h.back h.back_is in
    let right = term-tree most_nested c.1 c.4 in
    let joined : xs ≡ a.0 ∷ b.0 ∷ (h.front ++ c.0 ∷ c.1) = a.2 ∙ ap (λ zs. a.0 ∷ zs) (b.2 ∙ ap (λ zs. b.0 ∷ zs) (h.joined ∙ ap (λ zs. h.front ++ zs) c.2)) in
    let tree = rule a.0.0 left.0 c.0.0 right.0 in
    (tree, subst (λ zs. IsStatement (x ∷ zs) tree) (sym joined) (is_rule {word = x} {name = a.0} {colon = b.0} c.0 is a.3 b.3 left.1 c.3 right.1))
statement-cases WordRewrite x xs e is same at =
    let e3 = term_then most_nested steps in
    let e2 = next (token Colon) e3 in
    let a = one_token Ident e2 xs (moved (next (token Ident) e2) e xs same at) in
    let b = one_token Colon e3 a.1 a.4 in
    let h = split b.1 (atom most_nested ∷ tail (atoms_left most_nested) ∷ tail (pars_left most_nested) ∷ []) steps b.4 in
    let term = term-tree most_nested h.front h.front_is in
    let rest = steps-tree (length h.back) h.back (omega arith) h.back_is in
    let joined : xs ≡ a.0 ∷ b.0 ∷ (h.front ++ h.back) = a.2 ∙ ap (λ zs. a.0 ∷ zs) (b.2 ∙ ap (λ zs. b.0 ∷ zs) h.joined) in
    let tree = rewrite a.0.0 term.0 rest.0 in
    (tree, subst (λ zs. IsStatement (x ∷ zs) tree) (sym joined) (is_rewrite {word = x} {name = a.0} {colon = b.0} is a.3 b.3 term.1 rest.1))
statement-cases WordImport x xs e is same at =
    let e2 = next (tail prefix_left) nothing in
    let a = one_token Ident e2 xs (moved (next (token Ident) e2) e xs same at) in
    elim (one_tail prefix_left nothing a.1 a.4) [
      | inl ended ↦
          let joined : xs ≡ a.0 ∷ [] = a.2 ∙ ap (λ zs. a.0 ∷ zs) (no_token a.1 ended) in
          (inclusion a.0.0 None, subst (λ zs. IsStatement (x ∷ zs) (inclusion a.0.0 None)) (sym joined) (is_import {word = x} {name = a.0} is a.3))
      | inr w ↦
          let b = one_token Ident nothing w.1 w.4 in
          let joined : xs ≡ a.0 ∷ w.0 ∷ b.0 ∷ [] = a.2 ∙ ap (λ zs. a.0 ∷ zs) (w.2 ∙ ap (λ zs. w.0 ∷ zs) (b.2 ∙ ap (λ zs. b.0 ∷ zs) (no_token b.1 b.4))) in (
            inclusion a.0.0 (Some b.0.0),
            subst (λ zs. IsStatement (x ∷ zs) (inclusion a.0.0 (Some b.0.0))) (sym joined) (is_import_as {word = x} {name = a.0} {as' = w.0} {prefix = b.0} is a.3 w.3 b.3),
          )
    ]
statement-cases WordShow x xs e is same at =
    let a = one_name nothing xs (moved (next name nothing) e xs same at) in
    let joined : xs ≡ a.0 ∷ [] = a.2 ∙ ap (λ zs. a.0 ∷ zs) (no_token a.1 a.4) in
    (showing a.0.0, subst (λ zs. IsStatement (x ∷ zs) (showing a.0.0)) (sym joined) (is_show {word = x} {name = a.0} is a.3))
statement-cases _ x xs e is same at = absurd (let clash : None ≡ Some e = same in cc)

no-empty : verdict statement [] ≡ accepted → ⊥
unfolding verdict
no-empty is = not-both [] is

pub statement-tree : (xs : List NumberedToken) → verdict statement xs ≡ accepted → HasTree xs
statement-tree [] is = absurd (no-empty is)
statement-tree (x ∷ xs) is = let w = one_word x xs is in statement-cases (kind_of x) x xs w.0 refl w.1 w.2
