-- From what was elaborated to verdicts.
use Rattle.std.proofs.Common.{◌≡◌, ◌+◌, ◌≤◌, Bool, true, List, [], ◌∷◌, length, Some, None, sum_by, Result, Ok, Err, OnErr, refl, sym, ◌∙◌, ap, subst, arith, ◌⊎◌, inl, inr}
use Rattle.std.proofs.lemmas.List.Sums.{sum_by-cons}
use Rattle.std.proofs.lemmas.Bool.{false≢true}
use Rattle.std.proofs.lemmas.List.{length-map}
use Rattle.chyp_base.specs.declared.verdict.Verdict.{Verdict}
use Rattle.chyp_base.specs.declared.verdict.Verdict.TheVariants.{Accepted, Proved}
use Rattle.chyp_lex.specs.declared.token.TokenKind.TheVariants.{WordRewrite}
use Rattle.chyp_syntax.specs.Sentence.{IsSentence}
use Rattle.chyp_syntax.specs.Statement.{StatementTree, generator as a_gen, abbreviation, rule, rewrite, inclusion, showing}
use Rattle.chyp_term.specs.Measure.{size_of}
use Rattle.chyp_term.specs.Step.{Reason, reason_of, reasons_of}
use Rattle.chyp_term.specs.Morphism.{Morphism, generator, permutation, then, beside}
use Rattle.chyp_env.specs.Site.{Site}
use Rattle.chyp_names.specs.declared.body.Body.{Body}
use Rattle.chyp_names.specs.Binding.{IsOutcome}
use Rattle.chyp_names.specs.Elaboration.{IsBody, IsRefused, Passes, has_hole, steps_at, terms_of}
use Rattle.chyp_verdicts.specs.Judged.{IsJudged, accepted, by_steps, is_rewrite}
use Rattle.chyp_verdicts.specs.Bodies.{IsVerdictOf}
use Rattle.chyp_verdicts.specs.Steps.{IsVerdictOnSteps}
use Rattle.chyp_verdicts.proofs.Follows.{goals-few}
use Rattle.chyp_verdicts.proofs.OneBinding.{rewrite-begins, sentence-is_rewrite}
use Rattle.chyp_verdicts.proofs.SomeBinding.{IsBad, refused-bad, steps-bad}
use Rattle.chyp_names.proofs.Made.{keyword_for}

-- what holds anyway, holds where there is an error
pub on_err : {T E : Type 0} (result : Result T E) (P : Type 0) → P → OnErr result P
on_err (Ok x) P p = tt
on_err (Err e) P p = p

some_size : (t : Morphism) → 1 ≤ size_of t
some_size (generator n a b) = omega arith
some_size (permutation a p) = omega arith
some_size (then s t) = omega arith
some_size (beside s t) = omega arith

-- there are no more terms than their sizes together
pub terms_few : (terms : List Morphism) → length terms ≤ sum_by size_of terms
terms_few [] = omega arith
terms_few (t ∷ ts) =
    let some = some_size t in
    let rest = terms_few ts in
    let sum = sum_by-cons size_of t ts in
    omega arith

-- the verdict of a sentence that nothing refuses
pub judged_sentence : (s : Site) (tree : StatementTree) (body : Body) (v : Verdict) → IsSentence s.scope.words tree → Passes s tree → IsBody s tree body
    → IsVerdictOf body.terms (reasons_of body.steps) body.hole tree v → IsJudged s v
judged_sentence s tree body v t p b = go tree t p b.terms b.steps b.hole
  where
    go : (tree : StatementTree) → IsSentence s.scope.words tree → Passes s tree → body.terms ≡ terms_of s tree → reasons_of body.steps ≡ steps_at s.scope tree → body.hole ≡ has_hole tree
        → IsVerdictOf body.terms (reasons_of body.steps) body.hole tree v → IsJudged s v
    go (a_gen name dom cod) t p e f g h = subst (IsJudged s) (sym h) (accepted t p refl)
    go (abbreviation name tree) t p e f g h = subst (IsJudged s) (sym h) (accepted t p refl)
    go (rule name left equals right) t p e f g h = subst (IsJudged s) (sym h) (accepted t p refl)
    go (inclusion imported prefix) t p e f g h = subst (IsJudged s) (sym h) (accepted t p refl)
    go (showing name) t p e f g h = subst (IsJudged s) (sym h) (accepted t p refl)
    go (rewrite name first steps) t p e f g h =
        let tree = rewrite name first steps in
        by_steps t p (subst (λ terms. IsVerdictOnSteps terms (steps_at s.scope tree) (has_hole tree) v) e
        (subst (λ reasons. IsVerdictOnSteps body.terms reasons (has_hole tree) v) f
        (subst (λ hole. IsVerdictOnSteps body.terms (reasons_of body.steps) hole v) g h)))

-- the verdict of an accepted statement is not that of a rewrite, and a proved statement is one
pub good_keyword : (terms : List Morphism) (reasons : List Reason) (hole : Bool) (tree : StatementTree) (v : Verdict) → IsVerdictOf terms reasons hole tree v
    → (v ≡ Accepted → keyword_for tree ≡ WordRewrite → ⊥) × (v ≡ Proved → keyword_for tree ≡ WordRewrite)
good_keyword terms reasons hole (a_gen name dom cod) v h = (λ e k. absurd cc, λ e. let both : Accepted ≡ Proved = sym h ∙ e in absurd cc)
good_keyword terms reasons hole (abbreviation name tree) v h = (λ e k. absurd cc, λ e. let both : Accepted ≡ Proved = sym h ∙ e in absurd cc)
good_keyword terms reasons hole (rule name left equals right) v h = (λ e k. absurd cc, λ e. let both : Accepted ≡ Proved = sym h ∙ e in absurd cc)
good_keyword terms reasons hole (inclusion imported prefix) v h = (λ e k. absurd cc, λ e. let both : Accepted ≡ Proved = sym h ∙ e in absurd cc)
good_keyword terms reasons hole (showing name) v h = (λ e k. absurd cc, λ e. let both : Accepted ≡ Proved = sym h ∙ e in absurd cc)
good_keyword terms reasons hole (rewrite name first steps) v h = (λ e k. never (steps-bad terms reasons hole v h) e, λ e. refl)
  where
    never : (v ≡ Proved) ⊎ IsBad v → v ≡ Accepted → ⊥
    never (inl p) e = let both : Accepted ≡ Proved = sym e ∙ p in absurd cc
    never (inr bad) e = bad.1 e

-- a sentence that nothing refuses has an outcome with its body
pub passing_outcome : (s : Site) (tree : StatementTree) (body : Body) (v : Verdict) → IsSentence s.scope.words tree → Passes s tree → IsBody s tree body
    → IsVerdictOf body.terms (reasons_of body.steps) body.hole tree v → IsOutcome s (Some body) v
passing_outcome s tree body v t p b h =
    let good = good_keyword body.terms (reasons_of body.steps) body.hole tree v h in
    record {
      elaborates = record { tree = tree; is_sentence = t; passes = p; is_body = b };
      accepted = λ e. (refl, λ r. good.0 e (sentence-is_rewrite s.scope.words tree t r));
      proved = λ e. (refl, rewrite-begins s.scope.words tree t (good.1 e));
    }

-- a statement that isn't good has an outcome without one
pub bad_outcome : (s : Site) (v : Verdict) → IsBad v → IsOutcome s None v
bad_outcome s v bad = record {
  elaborates = tt;
  accepted = λ e. absurd (bad.1 e);
  proved = λ e. absurd (bad.0 e);
}

-- a refused statement has an outcome
pub refused_outcome : (s : Site) (tree : StatementTree) (v : Verdict) → IsRefused s tree v → IsOutcome s None v
refused_outcome s tree v r = bad_outcome s v (refused-bad s tree v r)

-- a rewrite has at most one term more than steps
pub rewrite_steps : (s : Site) (tree : StatementTree) (body : Body) → IsBody s tree body → is_rewrite tree ≡ true → length body.terms ≤ length body.steps + 1
rewrite_steps s tree body b r =
    let few = go tree r in
    let terms = ap length b.terms in
    let reasons = ap length b.steps in
    let steps = length-map body.steps reason_of in
    omega arith
  where
    go : (tree : StatementTree) → is_rewrite tree ≡ true → length (terms_of s tree) ≤ length (steps_at s.scope tree) + 1
    go (a_gen name dom cod) h = absurd (false≢true h)
    go (abbreviation name tree) h = absurd (false≢true h)
    go (rule name left equals right) h = absurd (false≢true h)
    go (inclusion imported prefix) h = absurd (false≢true h)
    go (showing name) h = absurd (false≢true h)
    go (rewrite name first steps) h = let few = goals-few s steps in omega arith
