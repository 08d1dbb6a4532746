-- What verdicts say of rewrites is so.
use Rattle.std.proofs.Common.{◌≡◌, ℕ, ◌+◌, true, List, Some, slice_get, ◌⊎◌, inl, inr, refl, sym, subst}
use Rattle.std.specs.Prelude.{Contains}
use Rattle.std.proofs.lemmas.Bool.{false≢true}
use Rattle.chyp_base.specs.declared.verdict.Verdict.{Verdict}
use Rattle.chyp_base.specs.declared.verdict.Verdict.TheVariants as verdict
use Rattle.chyp_base.specs.declared.verdict.Verdict.TheVariants.{Proved}
use Rattle.chyp_syntax.specs.Sentence.{IsSentence}
use Rattle.chyp_syntax.specs.Step.{StepTree}
use Rattle.chyp_syntax.specs.Term.{TermTree}
use Rattle.chyp_syntax.specs.Statement.{rule, rewrite, StatementTree}
use Rattle.chyp_syntax.specs.Words.{bytes_at}
use Rattle.chyp_term.specs.Morphism.{Morphism}
use Rattle.chyp_term.specs.Step.{Reason, by_laws, by_rule, by_simp}
use Rattle.chyp_env.specs.Environment.{Binding, Origin}
use Rattle.chyp_env.specs.Site.{Site, there}
use Rattle.chyp_env.specs.Sound.{IsSound}
use Rattle.chyp_judge.specs.Judged.{IsJudgement, derived, not_derived, rewrites, rewrites_not, simp_limit, simp_wide, simplifies, simplifies_not, wide}
use Rattle.chyp_judge.specs.declared.judged.Judged.{Judged}
use Rattle.chyp_names.specs.Elaboration.{expansion_at, has_hole, steps_at, terms_of}
use Rattle.chyp_verdicts.specs.Explained.{Explains, HasProof, HasStep, IsEarlierRule, Order}
use Rattle.chyp_verdicts.specs.Judged.{IsJudged, accepted, by_steps, moves_at, no_sentence, refused}
use Rattle.chyp_verdicts.specs.Rules.{Cites, IsRewriteOf, Permits, RestsOn, by_name, itself}
use Rattle.chyp_verdicts.specs.Standing.{Gets, Standing}
use Rattle.chyp_verdicts.specs.Steps.{IsVerdictOnSteps, StopsWith, proved, refusal_at, stops, unfinished}
use Rattle.chyp_env.proofs.Bindings.{binding-found}
use Rattle.chyp_verdicts.proofs.Derived.{AreEquationsDerived, rewrite-derived}
use Rattle.chyp_verdicts.proofs.Known.{Known}
use Rattle.chyp_verdicts.proofs.SomeBinding.{is_refusal, last-there, refused-is}
use Rattle.chyp_names.proofs.Closing.{goals_at}

abbrev Equation : Type 0
Equation = Morphism × Morphism

-- what is known of statements, and of which stand before which
pub record AreInOrder (Stands : Standing) (Before : Order) : Type 0 where
  pub sound : (o : Origin) (s : Site) → Stands o s → IsSound s.scope.env
  pub laws : (o : Origin) (s : Site) → Stands o s → AreEquationsDerived Stands s.scope.env
  pub one : (o : Origin) (s t : Site) → Stands o s → Stands o t → s ≡ t
  pub cited : (o : Origin) (s : Site) (b : Binding) → Stands o s → Contains s.scope.env b → Before b.origin o
  pub chain : (o p q : Origin) → Before o p → Before p q → Before o q

module _ (known : Known) (Stands : Standing) (Before : Order) (order : AreInOrder Stands Before) where
  -- what a statement cites stands before it
  cited-before : (o : Origin) (s : Site) (binding : Binding) → Stands o s → Cites s binding → Before binding.origin o
  cited-before o s binding st c = order.cited o s binding st (binding-found s.scope.env (bytes_at s.scope.words c.token) binding c.is).0

  -- so does what stands before that
  before-cited : (o p : Origin) (s : Site) (binding : Binding) → Stands o s → Cites s binding → (p ≡ binding.origin) ⊎ Before p binding.origin → Before p o
  before-cited o p s binding st c (inl e) = subst (λ (q : Origin). Before q o) (sym e) (cited-before o s binding st c)
  before-cited o p s binding st c (inr b) = order.chain p binding.origin o b (cited-before o s binding st c)

  rests-within : (o p : Origin) → RestsOn Stands o p → (p ≡ o) ⊎ Before p o
  rests-within o p (itself st r) = inl refl
  rests-within o p (by_name {site = s} {binding} st c r) = inr (before-cited o p s binding st c (rests-within binding.origin p r))

  -- so do the rules on which a rewrite rests
  rests-before : (o p : Origin) (s : Site) (first last : Morphism) → Stands o s → IsRewriteOf s first last → RestsOn Stands o p → Before p o
  rests-before o p s first last st is (itself {site = t} other r) =
      let same : t ≡ s = order.one o t s other st in
      let sentence : IsSentence s.scope.words (rule r.name r.left r.equals r.right) = subst (λ (x : Site). IsSentence x.scope.words (rule r.name r.left r.equals r.right)) same r.is_sentence in
      let trees = known.trees s.scope.words (rule r.name r.left r.equals r.right) (rewrite is.name is.tree is.steps) sentence is.is_sentence in
      absurd cc
  rests-before o p s first last st is (by_name {site = t} {binding} other c r) = before-cited o p t binding other c (rests-within binding.origin p r)

  earlier : (o : Origin) (s : Site) (first last : Morphism) → Stands o s → IsRewriteOf s first last → (e : Equation) → Permits Stands o e → IsEarlierRule Stands Before o e
  earlier o s first last st is e p = record { from = p.from; before = rests-before o p.from s first last st is p.rests; rests = p.rests; means = p.means }

  -- a rewrite that is proved has a proof
  has-proof : (o : Origin) (s : Site) (name : ℕ) (tree : TermTree) (steps : List StepTree) → Stands o s → IsSentence s.scope.words (rewrite name tree steps) → IsJudged s Proved
      → HasProof Stands Before o
  has-proof o s name tree steps st t j =
      let first = expansion_at s.scope tree in
      let there = last-there first (goals_at s steps) in
      let is : IsRewriteOf s first there.0 = record { name = name; tree = tree; steps = steps; is_sentence = t; is_first = refl; is_last = there.1 } in
      let d = rewrite-derived Stands known o s st (order.sound o s st) (order.laws o s st) j first there.0 is in
      record {
        site = s;
        stands = st;
        first = first;
        last = there.0;
        is_rewrite = is;
        rules = d.rules;
        earlier = λ k x h. earlier o s first there.0 st is _ (d.permitted k x h);
        derivation = d.derivation;
      }

  -- so is what the verdict of a step says
  stops-explained : (o : Origin) (s : Site) (tree : StatementTree) → Stands o s → IsSentence s.scope.words tree → (v : Verdict) → StopsWith (moves_at s tree) v → Explains Stands Before o v
  stops-explained o s tree st t v w = go w.move.reason w.move.from w.move.to w.judged w.there w.judgement w.refuses
    where
      step : (reason : Reason) (from to : Morphism) → slice_get (moves_at s tree) w.k ≡ Some (record { reason = reason; from = from; to = to })
          → HasStep Stands o (w.k + 1) reason from to
      step reason from to at = record { site = s; stands = st; tree = tree; is_sentence = t; k = w.k; numbered = refl; is = at; front = w.front }

      same : (x : Verdict) → Some x ≡ Some v → Explains Stands Before o x → Explains Stands Before o v
      same x e h = let is : x ≡ v = cc in subst (Explains Stands Before o) is h

      go : (reason : Reason) (from to : Morphism) (j : Judged) → slice_get (moves_at s tree) w.k ≡ Some (record { reason = reason; from = from; to = to }) → IsJudgement reason from to j
          → refusal_at (w.k + 1) j ≡ Some v → Explains Stands Before o v
      go reason from to j at (derived d) e = absurd cc
      go reason from to j at (not_derived d) e = same _ e (record { from = from; to = to; is_step = step by_laws from to at; none = d })
      go reason from to j at (wide {l} {r} {n = m} p h) e =
          same _ e (inl (record { left = l; right = r; from = from; to = to; is_step = step (by_rule (l, r)) from to at; many = h; are = p }))
      go reason from to j at (rewrites p h c) e = absurd cc
      go reason from to j at (rewrites_not {l} {r} p h c o) e =
          same _ e (record { left = l; right = r; from = from; to = to; is_step = step (by_rule (l, r)) from to at; none = c; occur = o })
      go reason from to j at (simplifies c) e = absurd cc
      go reason from to j at (simplifies_not {rules} c) e = same _ e (record { rules = rules; from = from; to = to; is_step = step (by_simp rules) from to at; is = c })
      go reason from to j at (simp_wide {rules} c) e = same _ e (inr (record { rules = rules; from = from; to = to; is_step = step (by_simp rules) from to at; is = c }))
      go reason from to j at (simp_limit {rules} c) e = same _ e (record { rules = rules; from = from; to = to; is_step = step (by_simp rules) from to at; is = c })

  refusal-explained : (o : Origin) (v : Verdict) → is_refusal v ≡ true → Explains Stands Before o v
  refusal-explained o Proved e = absurd (false≢true e)
  refusal-explained o (verdict.Differs k) e = absurd (false≢true e)
  refusal-explained o (verdict.NoRewrite k m) e = absurd (false≢true e)
  refusal-explained o (verdict.TooWide k m) e = absurd (false≢true e)
  refusal-explained o (verdict.SimpDiffers k) e = absurd (false≢true e)
  refusal-explained o (verdict.SimpLimit k) e = absurd (false≢true e)
  refusal-explained o v e = tt

  -- what the verdict of a statement says is so
  pub explained : (o : Origin) (v : Verdict) → Gets Stands o v → Explains Stands Before o v
  explained o v g = go v g.judged
    where
      go : (v : Verdict) → IsJudged g.site v → Explains Stands Before o v
      go v (no_sentence f) = tt
      go v (refused {tree} t r) = refusal-explained o v (refused-is g.site tree v r)
      go v (accepted t p m) = tt
      go v (by_steps {name} {first} {steps} t p x) = steps-go v x refl
        where
          steps-go : (w : Verdict)
              → IsVerdictOnSteps (terms_of g.site (rewrite name first steps)) (steps_at g.site.scope (rewrite name first steps)) (has_hole (rewrite name first steps)) w → v ≡ w
              → Explains Stands Before o w
          steps-go w (stops s) e = stops-explained o g.site (rewrite name first steps) g.stands t w s
          steps-go w (unfinished a u) e = tt
          steps-go w (proved a u) e = has-proof o g.site name first steps g.stands t (subst (IsJudged g.site) e (by_steps t p x))
