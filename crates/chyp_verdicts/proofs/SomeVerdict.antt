-- Each statement gets a verdict.
use Rattle.std.proofs.Common.{◌≡◌, ℕ, zero, suc, ◌+◌, ◌<◌, ◌≤◌, Bool, true, false, List, [], ◌∷◌, length, Option, Some, None, All, sum_by, ◌⊎◌, inl, inr, refl, ◌∙◌, ap, subst, arith}
use Rattle.std.proofs.lemmas.Bool.{cases_lt}
use Rattle.std.proofs.lemmas.List.Elements.{All-cons, All-nil}
use Rattle.chyp_base.specs.declared.verdict.Verdict.{Verdict}
use Rattle.chyp_base.specs.declared.verdict.Verdict.TheVariants.{Proved, Unfinished, Syntax, TooBig, Declared, Mistyped, Unproved, Accepted}
use Rattle.chyp_syntax.specs.Failing.{IsSentenceOrFails}
use Rattle.chyp_syntax.specs.Sentence.{IsSentence}
use Rattle.chyp_syntax.specs.Statement.{StatementTree, generator as a_gen, abbreviation, rule, rewrite, inclusion, showing}
use Rattle.chyp_term.specs.Derivation.{IsEquation}
use Rattle.chyp_term.specs.Step.{Reason, by_laws, by_rule, by_simp}
use Rattle.chyp_term.specs.Measure.{size_of, depth_of, generators_of}
use Rattle.chyp_term.specs.Morphism.{Morphism}
use Rattle.chyp_term.specs.Limits.{IsWithinLimits, most_depth, most_generators, most_ports, most_size}
use Rattle.chyp_env.specs.Scope.{is_declared}
use Rattle.chyp_env.specs.Site.{Site}
use Rattle.chyp_env.specs.Sound.{IsSound}
use Rattle.chyp_env.specs.Typing.{AllHold, FailsFirst}
use Rattle.chyp_names.specs.Elaboration.{Passes, IsRefused, declared, at_import, at_name, too_big, mistyped, unproved, tests_at, has_hole, import_fault, steps_at, terms_of}
use Rattle.chyp_names.specs.Limits.{AreWithinLimits, HasFewPorts, most_together}
use Rattle.chyp_names.specs.Naming.{first_fault, first_unproved}
use Rattle.chyp_names.specs.Typing.{AreTypedAlike}
use Rattle.chyp_simp.specs.Laws.{IsUsable}
use Rattle.chyp_judge.specs.Judged.{CanBeJudged, IsJudgement}
use Rattle.chyp_judge.specs.declared.judged.Judged.{Judged}
use Rattle.chyp_judge.specs.declared.judged.Judged.TheVariants.{Differs, Good, NoRewrite, SimpDiffers, SimpLimit, TooWide}
use Rattle.chyp_verdicts.specs.Judged.{IsJudged, no_sentence, refused, accepted, by_steps}
use Rattle.chyp_verdicts.specs.Steps.{AreGood, AreUsable, IsVerdictOnSteps, Move, StopsWith, is_open, moves_of, proved, refusal_at, rules_of, stops, unfinished}
use Rattle.chyp_verdicts.proofs.Cited.{reasons-usable}
use Rattle.chyp_verdicts.proofs.Judgements.{some-judgement}
use Rattle.chyp_verdicts.proofs.Known.{Known, TestsAreDecided}

-- one number is at most another, or it is not
at_most : (m n : ℕ) → (m ≤ n) ⊎ ¬ (m ≤ n)
at_most m n = go (cases_lt n m)
  where
    go : (n < m) ⊎ (m ≤ n) → (m ≤ n) ⊎ ¬ (m ≤ n)
    go (inl h) = inr (λ k. omega arith)
    go (inr h) = inl h

both : {A B : Type 0} → A ⊎ ¬ A → B ⊎ ¬ B → (A × B) ⊎ ¬ (A × B)
both (inl a) (inl b) = inl (a, b)
both (inl a) (inr b) = inr (λ p. b p.1)
both (inr a) other = inr (λ p. a p.0)

few_ports : (tree : StatementTree) → HasFewPorts tree ⊎ ¬ HasFewPorts tree
few_ports (a_gen name dom cod) = both (at_most dom most_ports) (at_most cod most_ports)
few_ports (abbreviation name tree) = inl tt
few_ports (rule name left equals right) = inl tt
few_ports (rewrite name first steps) = inl tt
few_ports (inclusion imported prefix) = inl tt
few_ports (showing name) = inl tt

within : (t : Morphism) → IsWithinLimits t ⊎ ¬ IsWithinLimits t
within t = go (at_most (generators_of t) most_generators) (at_most (size_of t) most_size) (at_most (depth_of t) most_depth)
  where
    go : (generators_of t ≤ most_generators) ⊎ ¬ (generators_of t ≤ most_generators) → (size_of t ≤ most_size) ⊎ ¬ (size_of t ≤ most_size)
        → (depth_of t ≤ most_depth) ⊎ ¬ (depth_of t ≤ most_depth) → IsWithinLimits t ⊎ ¬ IsWithinLimits t
    go (inl g) (inl s) (inl d) = inl (record { generators = g; size = s; depth = d })
    go (inr g) s d = inr (λ w. g w.generators)
    go (inl g) (inr s) d = inr (λ w. s w.size)
    go (inl g) (inl s) (inr d) = inr (λ w. d w.depth)

-- each item of a list satisfies P, or some doesn't
all_or_not : {A : Type 0} (P : A → Type 0) → ((x : A) → P x ⊎ ¬ P x) → (xs : List A) → All P xs ⊎ ¬ All P xs
all_or_not P decide [] = inl (All-nil P)
all_or_not P decide (x ∷ xs) = go (decide x) (all_or_not P decide xs)
  where
    go : P x ⊎ ¬ P x → All P xs ⊎ ¬ All P xs → All P (x ∷ xs) ⊎ ¬ All P (x ∷ xs)
    go (inl a) (inl b) = inl (All-cons P x xs a b)
    go (inr a) b = inr (λ all. a (all 0 x (omega arith)))
    go (inl a) (inr b) = inr (λ all. b (λ k d h. all (suc k) d (omega arith)))

small_or_not : (tree : StatementTree) (terms : List Morphism) → AreWithinLimits tree terms ⊎ ¬ AreWithinLimits tree terms
small_or_not tree terms = go (few_ports tree) (all_or_not IsWithinLimits within terms) (at_most (sum_by size_of terms) most_together)
  where
    go : HasFewPorts tree ⊎ ¬ HasFewPorts tree → All IsWithinLimits terms ⊎ ¬ All IsWithinLimits terms → (sum_by size_of terms ≤ most_together) ⊎ ¬ (sum_by size_of terms ≤ most_together)
        → AreWithinLimits tree terms ⊎ ¬ AreWithinLimits tree terms
    go (inl p) (inl e) (inl t) = inl (record { ports = p; each = e; together = t })
    go (inr p) e t = inr (λ w. p w.ports)
    go (inl p) (inr e) t = inr (λ w. e w.each)
    go (inl p) (inl e) (inr t) = inr (λ w. t w.together)

-- a verdict with which a statement is refused
pub record Refusal (s : Site) (tree : StatementTree) : Type 0 where
  pub verdict : Verdict
  pub is : IsRefused s tree verdict

-- nothing refuses a statement, or something does
pub passes_or_refused : TestsAreDecided → (s : Site) (tree : StatementTree) → Passes s tree ⊎ Refusal s tree
passes_or_refused tests s tree = name (is_declared s.scope) refl
  where
    end : is_declared s.scope ≡ false → import_fault s tree ≡ None → first_fault s.scope tree ≡ None → AreWithinLimits tree (terms_of s tree) → AllHold (tests_at s.scope tree)
        → (o : Option ℕ) → first_unproved s.scope tree ≡ o → Passes s tree ⊎ Refusal s tree
    end f i n b t None u = inl (record { fresh = f; fits = i; known = n; small = b; typed = t; proved = u })
    end f i n b t (Some token) u = inr (record { verdict = Unproved token; is = unproved f i n b t u })

    typing : is_declared s.scope ≡ false → import_fault s tree ≡ None → first_fault s.scope tree ≡ None → AreWithinLimits tree (terms_of s tree)
        → AllHold (tests_at s.scope tree) ⊎ ((token : ℕ) × FailsFirst (tests_at s.scope tree) token) → Passes s tree ⊎ Refusal s tree
    typing f i n b (inl t) = end f i n b t (first_unproved s.scope tree) refl
    typing f i n b (inr t) = inr (record { verdict = Mistyped t.0; is = mistyped f i n b t.1 })

    size : is_declared s.scope ≡ false → import_fault s tree ≡ None → first_fault s.scope tree ≡ None → AreWithinLimits tree (terms_of s tree) ⊎ ¬ AreWithinLimits tree (terms_of s tree)
        → Passes s tree ⊎ Refusal s tree
    size f i n (inl b) = typing f i n b (tests (tests_at s.scope tree))
    size f i n (inr b) = inr (record { verdict = TooBig; is = too_big f i n b })

    fault : is_declared s.scope ≡ false → import_fault s tree ≡ None → (o : Option Verdict) → first_fault s.scope tree ≡ o → Passes s tree ⊎ Refusal s tree
    fault f i None n = size f i n (small_or_not tree (terms_of s tree))
    fault f i (Some v) n = inr (record { verdict = v; is = at_name f i n })

    fits : is_declared s.scope ≡ false → (o : Option Verdict) → import_fault s tree ≡ o → Passes s tree ⊎ Refusal s tree
    fits f None i = fault f i (first_fault s.scope tree) refl
    fits f (Some v) i = inr (record { verdict = v; is = at_import f i })

    name : (b : Bool) → is_declared s.scope ≡ b → Passes s tree ⊎ Refusal s tree
    name false f = fits f (import_fault s tree) refl
    name true d = inr (record { verdict = Declared 1; is = declared d })

-- a verdict that a statement gets
pub record SomeVerdict (P : Verdict → Type 0) : Type 0 where
  pub verdict : Verdict
  pub gets : P verdict

-- ---- steps

-- a step between terms of one type, by usable equations
record IsFit (move : Move) : Type 0 where
  rules : All IsUsable (rules_of move.reason)
  equation : IsEquation move.from move.to

good-cons : (move : Move) (moves : List Move) (k : ℕ) → IsJudgement move.reason move.from move.to Good → AreGood moves k → AreGood (move ∷ moves) (suc k)
good-cons move moves k h front zero m i e = let same : move ≡ m = cc in subst (λ (x : Move). IsJudgement x.reason x.from x.to Good) same h
good-cons move moves k h front (suc j) m i e = front j m (omega arith) e

-- the verdict where the first step is the first that isn't good
stops-first : (move : Move) (moves : List Move) (j : Judged) (v : Verdict) → IsJudgement move.reason move.from move.to j → refusal_at 1 j ≡ Some v → StopsWith (move ∷ moves) v
stops-first move moves j v h e = record { k = 0; move = move; judged = j; front = λ i m l f. absurd (omega arith); there = refl; judgement = h; refuses = e }

-- some verdict with which the steps stop
record Stop (moves : List Move) : Type 0 where
  verdict : Verdict
  is : StopsWith moves verdict

-- behind a good step the steps stop one later
one-later : (n : ℕ) (j : Judged) (v : Verdict) → refusal_at n j ≡ Some v → (w : Verdict) × (refusal_at (suc n) j ≡ Some w)
one-later n Good v e = absurd cc
one-later n Differs v e = (_, refl)
one-later n (NoRewrite k) v e = (_, refl)
one-later n (TooWide k) v e = (_, refl)
one-later n SimpDiffers v e = (_, refl)
one-later n SimpLimit v e = (_, refl)

stops-later : (move : Move) (moves : List Move) → IsJudgement move.reason move.from move.to Good → Stop moves → Stop (move ∷ moves)
stops-later move moves h s =
    let later = one-later (s.is.k + 1) s.is.judged s.verdict s.is.refuses in
    record {
      verdict = later.0;
      is = record {
        k = suc s.is.k;
        move = s.is.move;
        judged = s.is.judged;
        front = good-cons move moves s.is.k h s.is.front;
        there = s.is.there;
        judgement = s.is.judgement;
        refuses = ap (λ n. refusal_at n s.is.judged) (omega arith) ∙ later.1;
      };
    }

-- a step by usable rules, or by none, can be judged
pub usable-judged : (reason : Reason) → All IsUsable (rules_of reason) → CanBeJudged reason
usable-judged by_laws can = tt
usable-judged (by_rule e) can = can 0 e (omega arith)
usable-judged (by_simp rules) can = can

-- steps that can be judged are all good, or they stop
good-or-stop : Known → (moves : List Move) → All IsFit moves → AreGood moves (length moves) ⊎ Stop moves
good-or-stop known [] fit = inl (λ j m h e. absurd (omega arith))
good-or-stop known (move ∷ moves) fit =
    go (good-or-stop known moves (λ k d h. fit (suc k) d (omega arith)))
    (some-judgement known.laws known.contexts move.reason move.from move.to (usable-judged move.reason here.rules) here.equation)
  where
    here : IsFit move
    here = fit 0 move (omega arith)

    go : AreGood moves (length moves) ⊎ Stop moves → (j : Judged) × IsJudgement move.reason move.from move.to j → AreGood (move ∷ moves) (suc (length moves)) ⊎ Stop (move ∷ moves)
    go (inl all) (Good, h) = inl (good-cons move moves (length moves) h all)
    go (inr f) (Good, h) = inr (stops-later move moves h f)
    go rest (Differs, h) = inr (record { verdict = _; is = stops-first move moves Differs _ h refl })
    go rest (NoRewrite k, h) = inr (record { verdict = _; is = stops-first move moves (NoRewrite k) _ h refl })
    go rest (TooWide k, h) = inr (record { verdict = _; is = stops-first move moves (TooWide k) _ h refl })
    go rest (SimpDiffers, h) = inr (record { verdict = _; is = stops-first move moves SimpDiffers _ h refl })
    go rest (SimpLimit, h) = inr (record { verdict = _; is = stops-first move moves SimpLimit _ h refl })

moves-fit : (terms : List Morphism) (reasons : List Reason) → AreTypedAlike terms → AreUsable reasons → All IsFit (moves_of terms reasons)
moves-fit [] reasons alike rules = All-nil _
moves-fit (t ∷ []) reasons alike rules = All-nil _
moves-fit (t ∷ u ∷ ts) [] alike rules = All-nil _
moves-fit (t ∷ u ∷ ts) (r ∷ rs) alike rules =
    All-cons IsFit (record { reason = r; from = t; to = u }) (moves_of (u ∷ ts) rs) (record { rules = rules 0 r (omega arith); equation = alike 0 t (omega arith) 1 u (omega arith) })
    (moves-fit (u ∷ ts) rs (λ j d i k e n. alike (suc j) d (omega arith) (suc k) e (omega arith)) (λ k d h. rules (suc k) d (omega arith)))

-- a rewrite that nothing refuses has a verdict on its steps
some-steps : Known → (terms : List Morphism) (reasons : List Reason) (hole : Bool) → AreTypedAlike terms → AreUsable reasons → SomeVerdict (IsVerdictOnSteps terms reasons hole)
some-steps known terms reasons hole alike can = table (good-or-stop known (moves_of terms reasons) (moves-fit terms reasons alike can)) (is_open reasons hole) refl
  where
    table : AreGood (moves_of terms reasons) (length (moves_of terms reasons)) ⊎ Stop (moves_of terms reasons) → (b : Bool) → is_open reasons hole ≡ b
        → SomeVerdict (IsVerdictOnSteps terms reasons hole)
    table (inr f) b e = record { verdict = f.verdict; gets = stops f.is }
    table (inl all) true e = record { verdict = Unfinished; gets = unfinished all e }
    table (inl all) false e = record { verdict = Proved; gets = proved all e }

-- each statement has a verdict
pub some-verdict : Known → (s : Site) → IsSound s.scope.env → SomeVerdict (IsJudged s)
some-verdict known s sound = go (known.sentences s.scope.words)
  where
    passing : (tree : StatementTree) → IsSentence s.scope.words tree → Passes s tree → SomeVerdict (IsJudged s)
    passing (a_gen name dom cod) t p = record { verdict = Accepted; gets = accepted t p refl }
    passing (abbreviation name tree) t p = record { verdict = Accepted; gets = accepted t p refl }
    passing (rule name left equals right) t p = record { verdict = Accepted; gets = accepted t p refl }
    passing (inclusion imported prefix) t p = record { verdict = Accepted; gets = accepted t p refl }
    passing (showing name) t p = record { verdict = Accepted; gets = accepted t p refl }
    passing (rewrite name first steps) t p =
        let tree = rewrite name first steps in
        let v = some-steps known (terms_of s tree) (steps_at s.scope tree) (has_hole tree) (known.typed s sound tree p) (reasons-usable s sound tree p) in
        record { verdict = v.verdict; gets = by_steps t p v.gets }

    of_tree : (tree : StatementTree) → IsSentence s.scope.words tree → Passes s tree ⊎ Refusal s tree → SomeVerdict (IsJudged s)
    of_tree tree t (inl p) = passing tree t p
    of_tree tree t (inr r) = record { verdict = r.verdict; gets = refused t r.is }

    go : IsSentenceOrFails s.scope.words → SomeVerdict (IsJudged s)
    go (inl t) = of_tree t.0 t.1 (passes_or_refused known.tests s t.0)
    go (inr f) = record { verdict = Syntax f.0; gets = no_sentence f.1 }
