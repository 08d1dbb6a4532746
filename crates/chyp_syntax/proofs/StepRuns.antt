-- Steps one behind the other, and what is expected there.
use Rattle.std.proofs.Common.{◌≡◌, ℕ, ◌+◌, ◌<◌, ◌≤◌, if◌then◌else◌, List, [], ◌∷◌, ◌++◌, length, get_or, None, Some, sym, ◌∙◌, ap, subst, append_assoc, append-nil, arith}
use Rattle.chyp_lex.specs.declared.token.Token.{Token}
use Rattle.chyp_lex.specs.declared.token.TokenKind.TheVariants.{Ident, Equals, QuestionMark}
use Rattle.chyp_syntax.specs.declared.step.ReasonAst.{ReasonAst}
use Rattle.chyp_syntax.specs.Expected.{reason_left, atom, tail, answer, proceed, goal_more, nothing, steps, goal, next, term_then, stopped, verdict}
use Rattle.chyp_syntax.specs.Numbered.{NumberedToken, kind_of}
use Rattle.chyp_syntax.specs.Beginning.{tokens_from, BeginsWithKind}
use Rattle.chyp_syntax.specs.Reads.{BeginsWith, StopsAt}
use Rattle.chyp_syntax.specs.Sentence.{most_nested, IsTerm, IsReason, IsStep, to_term, IsHole, AreSteps, no_step, last_hole, more_steps}
use Rattle.chyp_syntax.specs.Step.{StepTree}
use Rattle.chyp_syntax.specs.Term.{TermTree}
use Rattle.chyp_syntax.proofs.Numbered.{terminal, token_there, tokens_from-at, from-two}
use Rattle.chyp_syntax.proofs.Pieces.{goal_term}
use Rattle.chyp_syntax.proofs.Separated.{SoFar}
use Rattle.chyp_syntax.proofs.Verdicts.{same-self, same-other, verdict-step, verdict-none}

pub is_step : (tokens : List Token) (at by end : ℕ) (tree : TermTree) (why : ReasonAst) → BeginsWithKind Equals (tokens_from tokens at) →
    BeginsWith (IsTerm most_nested) (tokens_from tokens (at + 1)) (tokens_from tokens by) tree → BeginsWith IsReason (tokens_from tokens by) (tokens_from tokens end) why →
    BeginsWith IsStep (tokens_from tokens at) (tokens_from tokens end) (record { equals = at; goal = Some tree; reason = why })
is_step tokens at by end tree why equals term reason =
    let h = token_there tokens at Equals equals in
    let x : NumberedToken = (at, h.0) in
    record {
      front = x ∷ (term.front ++ reason.front);
      joined = h.2 ∙ ap (λ ys. x ∷ ys) (term.joined ∙ ap (λ ys. term.front ++ ys) reason.joined ∙ sym (append_assoc term.front reason.front (tokens_from tokens end)));
      is = to_term {equals = x} h.3 term.is reason.is;
    }

-- ---- the steps so far

abbrev pub StepsSoFar : List NumberedToken → List NumberedToken → List StepTree → Type 0
StepsSoFar xs ys done = SoFar (λ zs ts _. AreSteps zs ts) xs ys done []

pub steps_more : (tokens : List Token) (start at end : ℕ) (done : List StepTree) (t : StepTree) → StepsSoFar (tokens_from tokens start) (tokens_from tokens at) done →
    BeginsWith IsStep (tokens_from tokens at) (tokens_from tokens end) t → StepsSoFar (tokens_from tokens start) (tokens_from tokens end) (done ++ t ∷ [])
steps_more tokens start at end done t so_far step =
    let front : List NumberedToken = so_far.0 ++ step.front in
    let split : (zs : List NumberedToken) → front ++ zs ≡ so_far.0 ++ (step.front ++ zs) = λ zs. append_assoc so_far.0 step.front zs in (
      front,
      so_far.1 ∙ ap (λ ys. so_far.0 ++ ys) step.joined ∙ sym (split (tokens_from tokens end)),
      λ zs ts ms are. let made = so_far.2 (step.front ++ zs) (t ∷ ts) [] (more_steps step.is are) in
          subst (λ ys. AreSteps ys ((done ++ t ∷ []) ++ ts)) (sym (split zs)) (subst (λ us. AreSteps (so_far.0 ++ (step.front ++ zs)) us) (sym (append_assoc done (t ∷ []) ts)) made),
    )

pub steps_hole : (xs ys : List NumberedToken) (done : List StepTree) (t : StepTree) → StepsSoFar xs ys done → IsHole ys t → AreSteps xs (done ++ t ∷ [])
steps_hole xs ys done t so_far hole = subst (λ zs. AreSteps zs (done ++ t ∷ [])) (sym so_far.1) (so_far.2 ys (t ∷ []) [] (last_hole hole))

pub steps_end : (xs ys : List NumberedToken) (done : List StepTree) → StepsSoFar xs ys done → ys ≡ [] → AreSteps xs done
steps_end xs ys done so_far ended =
    subst (λ ts. AreSteps xs ts) (append-nil done) (subst (λ zs. AreSteps zs (done ++ [])) (sym so_far.1) (so_far.2 ys [] [] (subst (λ zs. AreSteps zs []) (sym ended) no_step)))

-- ---- what is expected

pub equals_expects : (tokens : List Token) (at : ℕ) → BeginsWithKind Equals (tokens_from tokens at) → verdict steps (tokens_from tokens at) ≡ verdict goal (tokens_from tokens (at + 1))
equals_expects tokens at begins =
    let h = token_there tokens at Equals begins in
    let x : NumberedToken = (at, h.0) in
    ap (verdict steps) h.2 ∙ verdict-step steps goal x (tokens_from tokens (at + 1)) (ap (λ b. if b then Some goal else None) (same-self (kind_of x) Equals h.3))

pub hole_expects : (tokens : List Token) (at : ℕ) → BeginsWithKind Equals (tokens_from tokens at) → BeginsWithKind QuestionMark (tokens_from tokens (at + 1)) →
    verdict steps (tokens_from tokens at) ≡ verdict (next (tail reason_left) nothing) (tokens_from tokens (at + 2))
hole_expects tokens at equals mark =
    let h = token_there tokens (at + 1) QuestionMark mark in
    let x : NumberedToken = (at + 1, h.0) in
    let e = next (tail reason_left) nothing in
    equals_expects tokens at equals ∙ ap (verdict goal) h.2
    ∙ verdict-step goal e x (tokens_from tokens (at + 1 + 1)) (ap (λ b. if b then Some e else proceed (answer (atom most_nested) (kind_of x)) None goal_more) (same-self (kind_of x) QuestionMark h.3))
    ∙ ap (verdict e) (from-two tokens at)

pub step_expects : (tokens : List Token) (at : ℕ) → BeginsWithKind Equals (tokens_from tokens at) → (BeginsWithKind QuestionMark (tokens_from tokens (at + 1)) → ⊥) →
    verdict steps (tokens_from tokens at) ≡ verdict (term_then most_nested (next (tail reason_left) steps)) (tokens_from tokens (at + 1))
step_expects tokens at equals mark = equals_expects tokens at equals ∙ goal_term (tokens_from tokens (at + 1)) mark

pub no_step_there : (tokens : List Token) (at k : ℕ) → (BeginsWithKind Equals (tokens_from tokens at) → ⊥) → k ≡ at → at < length tokens → StopsAt steps tokens at k
no_step_there tokens at k other same lt =
    let d : Token = record { kind = Ident; start = 0; len = 0; value = 0 } in
    let here = tokens_from-at tokens at d lt in
    let x : NumberedToken = (at, terminal (get_or tokens at d)) in
    let le : at ≤ length tokens = omega arith in
    let differs : kind_of x ≡ Equals → ⊥ = λ is. other (subst (BeginsWithKind Equals) (sym here) is) in
    let stop : verdict steps (tokens_from tokens at) ≡ stopped (tokens_from tokens at) =
    ap (verdict steps) here ∙ verdict-none steps x (tokens_from tokens (at + 1)) (ap (λ b. if b then Some goal else None) (same-other (kind_of x) Equals differs)) ∙ ap stopped (sym here) in
    subst (λ n. StopsAt steps tokens at n) (sym same) (le, stop)
