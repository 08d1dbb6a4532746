-- Each statement that has its verdict binds, and what names stand for stays sound.
use Rattle.std.proofs.Common.{◌≡◌, ℕ, zero, suc, ◌+◌, ◌-◌, ◌≤◌, Bool, true, false, ◌&&◌, if◌then◌else◌, List, [], ◌∷◌, length}
use Rattle.std.proofs.Common.{replicate, Option, Some, None, slice_get, slice_index_or, ◌⊎◌, inl, inr, refl, sym, ◌∙◌, ap, subst, arith}
use Rattle.std.proofs.lemmas.Bool.{false≢true}
use Rattle.std.specs.List.{cons_option, filter_map}
use Rattle.chyp_base.specs.Sort.{plain}
use Rattle.chyp_base.specs.declared.verdict.Verdict.{Verdict}
use Rattle.chyp_base.specs.declared.verdict.Verdict.TheVariants.{Proved, Accepted, Clash, Unfinished}
use Rattle.chyp_base.specs.declared.verdict.Verdict.TheVariants as verdict
use Rattle.chyp_lex.specs.declared.token.TokenKind.TheVariants.{WordRewrite, WordShow}
use Rattle.chyp_syntax.specs.Expected.{same_kind}
use Rattle.chyp_syntax.specs.Heading.{declared_name, declares, is_identifier}
use Rattle.chyp_syntax.specs.Sentence.{IsSentence}
use Rattle.chyp_syntax.specs.Statement.{StatementTree, generator as a_gen, abbreviation as a_let, rule, rewrite, inclusion, showing}
use Rattle.chyp_syntax.specs.Step.{StepTree}
use Rattle.chyp_syntax.specs.Term.{TermTree}
use Rattle.chyp_syntax.specs.Words.{Word, bytes_at}
use Rattle.chyp_term.specs.Derivation.{IsEquation}
use Rattle.chyp_term.specs.Morphism.{Morphism}
use Rattle.chyp_term.specs.Step.{Reason}
use Rattle.chyp_env.specs.Expansion.{plain_wires}
use Rattle.chyp_env.specs.Environment.{Sense, generator, abbreviation, equation, unproved, broken, Binding}
use Rattle.chyp_term.specs.Limits.{IsWithinLimits}
use Rattle.std.specs.Option.{option_map}
use Rattle.chyp_env.specs.Import.{all_passed_on, first_clash}
use Rattle.chyp_env.specs.Scope.{binding_at}
use Rattle.chyp_env.specs.Site.{Imported, nothing, absent, on_cycle, there, Site}
use Rattle.chyp_env.specs.Sound.{IsSound, IsSoundSense}
use Rattle.chyp_names.specs.Binding.{IsRewrite, StandsFor, a_declared_generator, a_term, a_rule, a_proved_rewrite, an_unproved_rewrite, a_broken_statement}
use Rattle.chyp_names.specs.Elaboration.{Passes, has_hole, steps_at, IsRefused, fault_of_module, import_fault, prefix_at, declared}
use Rattle.chyp_names.specs.Elaboration.{at_import, at_name, too_big, mistyped, unproved as rests_on_unproved, expansion_at, generator_name, terms_of}
use Rattle.chyp_names.specs.Naming.{Use, in_term, in_reason, in_show, fault_of, fault_in_reason, fault_in_term, fault_or_unknown, uses_of}
use Rattle.chyp_names.specs.Typing.{AreTypedAlike}
use Rattle.chyp_judge.specs.declared.judged.Judged.{Judged}
use Rattle.chyp_judge.specs.declared.judged.Judged.TheVariants.{Differs, Good, NoRewrite, SimpDiffers, SimpLimit, TooWide}
use Rattle.chyp_verdicts.specs.Judged.{IsJudged, no_sentence, refused, accepted, by_steps, is_rewrite}
use Rattle.chyp_verdicts.specs.Steps.{IsVerdictOnSteps, proved, refusal_at, stops, unfinished}
use Rattle.chyp_syntax.proofs.Verdicts.{same-kinds}
use Rattle.chyp_verdicts.proofs.OneBinding.{imports-nothing, sentence-begins}
use Rattle.chyp_verdicts.proofs.OneVerdict.{none-some, slice_get-read}
use Rattle.chyp_verdicts.proofs.Known.{PassingTermsAreTyped}
use Rattle.chyp_names.proofs.Closing.{goals_at}

-- a verdict that isn't good
abbrev pub IsBad : Verdict → Type 0
IsBad v = ¬ (v ≡ Proved) × ¬ (v ≡ Accepted)

-- a verdict with which a statement is refused
abbrev pub is_refusal : Verdict → Bool
is_refusal Accepted = false
is_refusal Proved = false
is_refusal Unfinished = false
is_refusal (verdict.Differs step) = false
is_refusal (verdict.NoRewrite step occurrences) = false
is_refusal (verdict.TooWide step placements) = false
is_refusal (verdict.SimpDiffers step) = false
is_refusal (verdict.SimpLimit step) = false
is_refusal _ = true

this : (w v : Verdict) → is_refusal w ≡ true → Some w ≡ Some v → is_refusal v ≡ true
this w v r e = let same : w ≡ v = cc in ap is_refusal (sym same) ∙ r

-- a fault is one
term-fault : (sense : Sense) (token : ℕ) (v : Verdict) → fault_in_term sense token ≡ Some v → is_refusal v ≡ true
term-fault (generator name dom cod) token v e = absurd cc
term-fault (abbreviation m) token v e = absurd cc
term-fault broken token v e = this _ v refl e
term-fault (equation first last) token v e = this _ v refl e
term-fault unproved token v e = this _ v refl e

reason-fault : (sense : Sense) (token : ℕ) (v : Verdict) → fault_in_reason sense token ≡ Some v → is_refusal v ≡ true
reason-fault (equation first last) token v e = absurd cc
reason-fault unproved token v e = absurd cc
reason-fault broken token v e = this _ v refl e
reason-fault (generator name dom cod) token v e = this _ v refl e
reason-fault (abbreviation m) token v e = this _ v refl e

bound-fault : (fault : Sense → ℕ → Option Verdict) → ((sense : Sense) (token : ℕ) (v : Verdict) → fault sense token ≡ Some v → is_refusal v ≡ true)
    → (b : Option Binding) (token : ℕ) (v : Verdict) → fault_or_unknown fault b token ≡ Some v → is_refusal v ≡ true
bound-fault fault bad None token v e = this _ v refl e
bound-fault fault bad (Some b) token v e = bad b.sense token v e

use-fault : (s : Site) (use' : Use) (v : Verdict) → fault_of s.scope use' ≡ Some v → is_refusal v ≡ true
use-fault s (in_term token) v e = bound-fault fault_in_term term-fault (binding_at s.scope token) token v e
use-fault s (in_reason token) v e = bound-fault fault_in_reason reason-fault (binding_at s.scope token) token v e
use-fault s (in_show token) v e = bound-fault (λ sense at. None) (λ sense at w f. absurd cc) (binding_at s.scope token) token v e

-- the first that a filter keeps comes from some item
first-kept : {A : Type 0} (f : A → Option Verdict) (xs : List A) (v : Verdict) → ((x : A) → f x ≡ Some v → is_refusal v ≡ true) → slice_get (filter_map f xs) 0 ≡ Some v → is_refusal v ≡ true
first-kept f [] v bad e = absurd cc
first-kept f (x ∷ xs) v bad e = go (f x) refl e (first-kept f xs v bad)
  where
    go : (o : Option Verdict) → f x ≡ o → slice_get (cons_option o (filter_map f xs)) 0 ≡ Some v → (slice_get (filter_map f xs) 0 ≡ Some v → is_refusal v ≡ true) → is_refusal v ≡ true
    go None h i more = more i
    go (Some w) h i more = let same : w ≡ v = cc in bad x (h ∙ ap Some same)

module-bad : (env : List Binding) (i : Imported) (prefix : Option (List ℕ)) (v : Verdict) → fault_of_module env i prefix ≡ Some v → is_refusal v ≡ true
module-bad env nothing prefix v e = absurd cc
module-bad env absent prefix v e = this _ v refl e
module-bad env on_cycle prefix v e = this _ v refl e
module-bad env (there bindings) prefix v e = go (first_clash env (all_passed_on prefix bindings)) e
  where
    go : (o : Option (List ℕ)) → option_map Clash o ≡ Some v → is_refusal v ≡ true
    go None f = absurd cc
    go (Some name) f = this _ v refl f

import-bad : (s : Site) (tree : StatementTree) (v : Verdict) → import_fault s tree ≡ Some v → is_refusal v ≡ true
import-bad s (inclusion imported prefix) v e = module-bad s.scope.env s.imported (prefix_at s.scope prefix) v e
import-bad s (a_gen name dom cod) v e = absurd cc
import-bad s (a_let name tree) v e = absurd cc
import-bad s (rule name left equals right) v e = absurd cc
import-bad s (rewrite name first steps) v e = absurd cc
import-bad s (showing name) v e = absurd cc

-- a statement that is refused gets one
pub refused-is : (s : Site) (tree : StatementTree) (v : Verdict) → IsRefused s tree v → is_refusal v ≡ true
refused-is s tree v (declared d) = refl
refused-is s tree v (at_import f i) = import-bad s tree v i
refused-is s tree v (at_name f i e) = first-kept (fault_of s.scope) (uses_of tree) v (λ u h. use-fault s u v h) e
refused-is s tree v (too_big f i e b) = refl
refused-is s tree v (mistyped f i e b t) = refl
refused-is s tree v (rests_on_unproved f i e b t u) = refl

-- which is not good
pub refused-bad : (s : Site) (tree : StatementTree) (v : Verdict) → IsRefused s tree v → IsBad v
refused-bad s tree v r =
    let is = refused-is s tree v r in
    (λ p. false≢true (sym (ap is_refusal p) ∙ is), λ p. false≢true (sym (ap is_refusal p) ∙ is))

-- tokens begin a rewrite, or they don't
rewrite_or_not : (tokens : List Word) → IsRewrite tokens ⊎ ¬ IsRewrite tokens
rewrite_or_not [] = inr (λ h. h)
rewrite_or_not (t ∷ ts) = go (same_kind t.kind WordRewrite) refl
  where
    go : (b : Bool) → same_kind t.kind WordRewrite ≡ b → (t.kind ≡ WordRewrite) ⊎ ¬ (t.kind ≡ WordRewrite)
    go true e = inl (same-kinds t.kind WordRewrite e)
    go false e = inr (λ h. false≢true (sym e ∙ ap (λ k. same_kind k WordRewrite) h))

-- what a name stands for, and that it is sound
pub record SomeSense (s : Site) (v : Verdict) : Type 0 where
  pub sense : Sense
  pub stands : StandsFor s v sense
  pub sound : IsSoundSense sense

-- the name of a statement that isn't good
bad-sense : (s : Site) (v : Verdict) → IsBad v → SomeSense s v
bad-sense s v bad = go (rewrite_or_not s.scope.words)
  where
    go : IsRewrite s.scope.words ⊎ ¬ IsRewrite s.scope.words → SomeSense s v
    go (inl r) = record { sense = unproved; stands = an_unproved_rewrite r bad.0; sound = tt }
    go (inr r) = record { sense = broken; stands = a_broken_statement r bad.1; sound = tt }

length-replicate : {A : Type 0} (n : ℕ) (x : A) → length (replicate n x) ≡ n
length-replicate zero x = refl
length-replicate (suc n) x = ap suc (length-replicate n x)

show-declares : (keyword : Word) (rest : List Word) → keyword.kind ≡ WordShow → declared_name (keyword ∷ rest) ≡ None
show-declares keyword [] e = refl
show-declares keyword (name ∷ rest) e = ap (λ k. if declares k && is_identifier name.kind then Some name.bytes else None) e

-- a statement that shows something declares no name
shows-nothing : (s : Site) (name : ℕ) (declares : List ℕ) → IsSentence s.scope.words (showing name) → declared_name s.scope.words ≡ Some declares → ⊥
shows-nothing s name declares t e =
    let b = sentence-begins s.scope.words (showing name) t in
    none-some _ declares (show-declares b.0 b.1 b.3) (ap declared_name (sym b.2) ∙ e)

-- some terms have a last one
pub last-there : (t : Morphism) (ts : List Morphism) → (l : Morphism) × (slice_get (t ∷ ts) (length (t ∷ ts) - 1) ≡ Some l)
last-there t [] = (t, refl)
last-there t (u ∷ us) =
    let more = last-there u us in
    let at : length (t ∷ u ∷ us) - 1 ≡ suc (length (u ∷ us) - 1) = omega arith in
    (more.0, ap (slice_get (t ∷ u ∷ us)) at ∙ more.1)

-- a step that isn't good makes no good verdict
pub refusal-bad : (n : ℕ) (j : Judged) (v : Verdict) → refusal_at n j ≡ Some v → IsBad v
refusal-bad n Good v e = absurd cc
refusal-bad n Differs v e = (λ p. absurd cc, λ p. absurd cc)
refusal-bad n (NoRewrite k) v e = (λ p. absurd cc, λ p. absurd cc)
refusal-bad n (TooWide k) v e = (λ p. absurd cc, λ p. absurd cc)
refusal-bad n SimpDiffers v e = (λ p. absurd cc, λ p. absurd cc)
refusal-bad n SimpLimit v e = (λ p. absurd cc, λ p. absurd cc)

-- a rewrite is proved, or its verdict isn't good
pub steps-bad : (terms : List Morphism) (reasons : List Reason) (hole : Bool) (v : Verdict) → IsVerdictOnSteps terms reasons hole v → (v ≡ Proved) ⊎ IsBad v
steps-bad terms reasons hole v (stops s) = inr (refusal-bad (s.k + 1) s.judged v s.refuses)
steps-bad terms reasons hole v (unfinished g o) = inr (λ p. absurd cc, λ p. absurd cc)
steps-bad terms reasons hole v (proved g o) = inl refl

-- the name of a rewrite that nothing refuses
steps-sense : (s : Site) (name : ℕ) (tree : TermTree) (steps : List StepTree) (v : Verdict) → IsSentence s.scope.words (rewrite name tree steps) → Passes s (rewrite name tree steps)
    → AreTypedAlike (terms_of s (rewrite name tree steps)) → (v ≡ Proved) ⊎ IsBad v → SomeSense s v
steps-sense s name tree steps v t p alike (inr bad) = bad-sense s v bad
steps-sense s name tree steps v t p alike (inl is) =
    let terms = terms_of s (rewrite name tree steps) in
    let first = expansion_at s.scope tree in
    let there : (l : Morphism) × (slice_get terms (length terms - 1) ≡ Some l) = last-there first (goals_at s steps) in
    let last = there.0 in
    let b = slice_get-read terms (length terms - 1) last there.1 in
    let at : IsEquation first (slice_index_or terms (length terms - 1) last) = alike 0 first (omega arith) (length terms - 1) last b.0 in
    record {
      sense = equation first last;
      stands = subst (λ w. StandsFor s w (equation first last)) (sym is) (a_proved_rewrite t refl there.1);
      sound = (subst (IsEquation first) b.1 at, p.small.each 0 first (omega arith), subst IsWithinLimits b.1 (p.small.each (length terms - 1) last b.0));
    }

-- a statement that has its verdict and declares a name gives it a sense
pub some-sense : PassingTermsAreTyped → (s : Site) → IsSound s.scope.env → (v : Verdict) (name : List ℕ) → declared_name s.scope.words ≡ Some name → IsJudged s v → SomeSense s v
some-sense typed s env v name e (no_sentence f) = bad-sense s v (λ p. absurd cc, λ p. absurd cc)
some-sense typed s env v name e (refused {tree} t r) = bad-sense s v (refused-bad s tree v r)
some-sense typed s env v name e (by_steps {name = n} {first} {steps} t p x) =
    let tree = rewrite n first steps in
    steps-sense s n first steps v t p (typed s env tree p) (steps-bad (terms_of s tree) (steps_at s.scope tree) (has_hole tree) v x)
some-sense typed s env v name e (accepted {tree} t p n) = go tree t p n
  where
    go : (tree : StatementTree) → IsSentence s.scope.words tree → Passes s tree → is_rewrite tree ≡ false → SomeSense s Accepted
    go (a_gen n dom cod) t p m = record {
      sense = generator (generator_name s.home (bytes_at s.scope.words n)) (plain_wires dom) (plain_wires cod);
      stands = a_declared_generator t refl;
      sound = (subst (λ k. k ≤ 64) (sym (length-replicate dom plain)) p.small.ports.0, subst (λ k. k ≤ 64) (sym (length-replicate cod plain)) p.small.ports.1);
    }
    go (a_let n tree) t p m =
        let alike = typed s env (a_let n tree) p in
        let is = alike 0 (expansion_at s.scope tree) (omega arith) 0 (expansion_at s.scope tree) (omega arith) in
        record { sense = abbreviation (expansion_at s.scope tree); stands = a_term t refl; sound = (is.left, p.small.each 0 (expansion_at s.scope tree) (omega arith)) }
    go (rule n left equals right) t p m =
        let alike = typed s env (rule n left equals right) p in
        record {
          sense = equation (expansion_at s.scope left) (expansion_at s.scope right);
          stands = a_rule t refl;
          sound = (
            alike 0 (expansion_at s.scope left) (omega arith) 1 (expansion_at s.scope right) (omega arith),
            p.small.each 0 (expansion_at s.scope left) (omega arith),
            p.small.each 1 (expansion_at s.scope right)
                (omega arith),
          );
        }
    go (inclusion imported prefix) t p m = absurd (imports-nothing s imported prefix name t e)
    go (showing n) t p m = absurd (shows-nothing s n name t e)
    go (rewrite n first steps) t p m = absurd (false≢true (sym m))
