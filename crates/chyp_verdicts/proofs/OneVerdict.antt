-- No statement gets two verdicts.
use Rattle.std.proofs.Common.{◌≡◌, ℕ, zero, suc, ◌+◌, ◌<◌, ◌≤◌, Bool, false, IsTrue, List, [], ◌∷◌, length, take}
use Rattle.std.proofs.Common.{Option, Some, None, slice_get, slice_index_or, ◌⊎◌, inl, inr, refl, sym, ◌∙◌, ap, ap₂, subst, arith}
use Rattle.std.proofs.lemmas.Bool.{cases_lt, false≢true}
use Rattle.std.proofs.lemmas.List.{take-take}
use Rattle.chyp_base.specs.declared.verdict.Verdict.{Verdict}
use Rattle.chyp_base.specs.declared.verdict.Verdict.TheVariants.{Syntax, Mistyped, Unproved}
use Rattle.chyp_syntax.specs.Words.{Word}
use Rattle.chyp_syntax.specs.Failing.{FailsAt, ArePrefixesClosed}
use Rattle.chyp_syntax.specs.Sentence.{IsPrefix}
use Rattle.chyp_syntax.specs.Statement.{StatementTree, rewrite}
use Rattle.chyp_term.specs.Morphism.{Morphism}
use Rattle.chyp_term.specs.Step.{Reason}
use Rattle.chyp_env.specs.Scope.{is_declared}
use Rattle.chyp_env.specs.Site.{Site}
use Rattle.chyp_env.specs.Typing.{AllHold, FailsFirst, Holds, Test}
use Rattle.chyp_names.specs.Elaboration.{Passes, IsRefused, declared, at_import, at_name, too_big, mistyped, unproved, tests_at, has_hole, import_fault, steps_at, terms_of}
use Rattle.chyp_names.specs.Naming.{first_fault, first_unproved}
use Rattle.chyp_judge.specs.Judged.{IsJudgement}
use Rattle.chyp_judge.specs.declared.judged.Judged.{Judged}
use Rattle.chyp_judge.specs.declared.judged.Judged.TheVariants.{Good}
use Rattle.chyp_verdicts.specs.Judged.{IsJudged, no_sentence, refused, accepted, by_steps, is_rewrite}
use Rattle.chyp_verdicts.specs.Steps.{AreGood, IsVerdictOnMoves, IsVerdictOnSteps, Move, StopsWith, is_open, moves_of, proved, refusal_at, stops, unfinished}
use Rattle.chyp_verdicts.proofs.Judgements.{judgement-once}
use Rattle.chyp_verdicts.proofs.Known.{Known}

-- a chunk fails at one place
not_before : ((tokens : List Word) → ArePrefixesClosed tokens) → (tokens : List Word) (j k : ℕ) → FailsAt tokens j → FailsAt tokens k → j < k → ⊥
not_before closed tokens j k f g h =
    let short : j < length tokens = omega (arith, g.within) in
    let front : take (j + 1) (take k tokens) ≡ take (j + 1) tokens = take-take (j + 1) k tokens (omega arith) in
    f.refused short (subst IsPrefix front (closed (take k tokens) (j + 1) g.before))

pub fails-once : ((tokens : List Word) → ArePrefixesClosed tokens) → (tokens : List Word) (j k : ℕ) → FailsAt tokens j → FailsAt tokens k → j ≡ k
fails-once closed tokens j k f g = go (cases_lt j k) (cases_lt k j)
  where
    go : (j < k) ⊎ (k ≤ j) → (k < j) ⊎ (j ≤ k) → j ≡ k
    go (inl h) other = absurd (not_before closed tokens j k f g h)
    go (inr h) (inl i) = absurd (not_before closed tokens k j g f i)
    go (inr h) (inr i) = omega arith

pub some-once : {A : Type 0} (o : Option A) (x y : A) → o ≡ Some x → o ≡ Some y → x ≡ y
some-once o x y e f = let both : Some x ≡ Some y = sym e ∙ f in cc

pub none-some : {A : Type 0} (o : Option A) (x : A) → o ≡ None → o ≡ Some x → ⊥
none-some o x e f = let both : None ≡ Some x = sym e ∙ f in absurd cc

pub true-false : (b : Bool) → IsTrue b → b ≡ false → ⊥
true-false b t f = false≢true (sym f ∙ t)

-- what stands at a place of a list is read there
pub slice_get-read : {A : Type 0} (xs : List A) (i : ℕ) (x : A) → slice_get xs i ≡ Some x → (i < length xs) × (slice_index_or xs i x ≡ x)
slice_get-read [] i x e = absurd cc
slice_get-read (y ∷ ys) zero x e = (omega arith, cc)
slice_get-read (y ∷ ys) (suc i) x e = let rest = slice_get-read ys i x e in (omega (arith, rest.0), rest.1)

-- the first test that fails is one
pub holds-fails : (tests : List Test) (k : ℕ) → AllHold tests → FailsFirst tests k → ⊥
holds-fails tests k all f =
    let at = slice_get-read tests f.number (k, f.condition) f.there in
    f.fails (subst (λ (t : Test). Holds t.1) at.1 (all f.number (k, f.condition) at.0))

fails-first-once : (tests : List Test) (j k : ℕ) → FailsFirst tests j → FailsFirst tests k → j ≡ k
fails-first-once tests j k f g = go (cases_lt f.number g.number) (cases_lt g.number f.number)
  where
    go : (f.number < g.number) ⊎ (g.number ≤ f.number) → (g.number < f.number) ⊎ (f.number ≤ g.number) → j ≡ k
    go (inl h) other = absurd (f.fails (g.before f.number (j, f.condition) h f.there))
    go (inr h) (inl i) = absurd (g.fails (f.before g.number (k, g.condition) i g.there))
    go (inr h) (inr i) =
        let same : f.number ≡ g.number = omega arith in
        let at : slice_get tests f.number ≡ Some (k, g.condition) = ap (slice_get tests) same ∙ g.there in
        let both = some-once (slice_get tests f.number) (j, f.condition) (k, g.condition) f.there at in
        ap (λ (t : Test). t.0) both

-- what nothing refuses is not refused
pub passes-refused : (site : Site) (tree : StatementTree) (v : Verdict) → Passes site tree → IsRefused site tree v → ⊥
passes-refused site tree v p (declared d) = true-false (is_declared site.scope) d p.fresh
passes-refused site tree v p (at_import f i) = none-some (import_fault site tree) v p.fits i
passes-refused site tree v p (at_name f i e) = none-some (first_fault site.scope tree) v p.known e
passes-refused site tree v p (too_big f i e b) = b p.small
passes-refused site tree v p (mistyped {token} f i e b t) = holds-fails (tests_at site.scope tree) token p.typed t
passes-refused site tree v p (unproved {token} f i e b t u) = none-some (first_unproved site.scope tree) token p.proved u

pub refused-once : (site : Site) (tree : StatementTree) (v w : Verdict) → IsRefused site tree v → IsRefused site tree w → v ≡ w
refused-once site tree v w (declared d) (declared e) = refl
refused-once site tree v w (declared d) (at_import f i) = absurd (true-false _ d f)
refused-once site tree v w (declared d) (at_name f i e) = absurd (true-false _ d f)
refused-once site tree v w (declared d) (too_big f i e b) = absurd (true-false _ d f)
refused-once site tree v w (declared d) (mistyped f i e b t) = absurd (true-false _ d f)
refused-once site tree v w (declared d) (unproved f i e b t u) = absurd (true-false _ d f)
refused-once site tree v w (at_import f i) (declared d) = absurd (true-false _ d f)
refused-once site tree v w (at_import f i) (at_import g j) = some-once (import_fault site tree) v w i j
refused-once site tree v w (at_import f i) (at_name g j e) = absurd (none-some _ _ j i)
refused-once site tree v w (at_import f i) (too_big g j e b) = absurd (none-some _ _ j i)
refused-once site tree v w (at_import f i) (mistyped g j e b t) = absurd (none-some _ _ j i)
refused-once site tree v w (at_import f i) (unproved g j e b t u) = absurd (none-some _ _ j i)
refused-once site tree v w (at_name f i e) (declared d) = absurd (true-false _ d f)
refused-once site tree v w (at_name f i e) (at_import g j) = absurd (none-some _ _ i j)
refused-once site tree v w (at_name f i e) (at_name g j h) = some-once (first_fault site.scope tree) v w e h
refused-once site tree v w (at_name f i e) (too_big g j h b) = absurd (none-some _ _ h e)
refused-once site tree v w (at_name f i e) (mistyped g j h b t) = absurd (none-some _ _ h e)
refused-once site tree v w (at_name f i e) (unproved g j h b t u) = absurd (none-some _ _ h e)
refused-once site tree v w (too_big f i e b) (declared d) = absurd (true-false _ d f)
refused-once site tree v w (too_big f i e b) (at_import g j) = absurd (none-some _ _ i j)
refused-once site tree v w (too_big f i e b) (at_name g j h) = absurd (none-some _ _ e h)
refused-once site tree v w (too_big f i e b) (too_big g j h c) = refl
refused-once site tree v w (too_big f i e b) (mistyped g j h c t) = absurd (b c)
refused-once site tree v w (too_big f i e b) (unproved g j h c t u) = absurd (b c)
refused-once site tree v w (mistyped f i e b t) (declared d) = absurd (true-false _ d f)
refused-once site tree v w (mistyped f i e b t) (at_import g j) = absurd (none-some _ _ i j)
refused-once site tree v w (mistyped f i e b t) (at_name g j h) = absurd (none-some _ _ e h)
refused-once site tree v w (mistyped f i e b t) (too_big g j h c) = absurd (c b)
refused-once site tree v w (mistyped {token} f i e b t) (mistyped {token = other} g j h c u) = ap Mistyped (fails-first-once (tests_at site.scope tree) token other t u)
refused-once site tree v w (mistyped {token} f i e b t) (unproved g j h c u x) = absurd (holds-fails (tests_at site.scope tree) token u t)
refused-once site tree v w (unproved f i e b t u) (declared d) = absurd (true-false _ d f)
refused-once site tree v w (unproved f i e b t u) (at_import g j) = absurd (none-some _ _ i j)
refused-once site tree v w (unproved f i e b t u) (at_name g j h) = absurd (none-some _ _ e h)
refused-once site tree v w (unproved f i e b t u) (too_big g j h c) = absurd (c b)
refused-once site tree v w (unproved f i e b t u) (mistyped {token} g j h c x) = absurd (holds-fails (tests_at site.scope tree) token t x)
refused-once site tree v w (unproved {token} f i e b t u) (unproved {token = other} g j h c x y) = ap Unproved (some-once (first_unproved site.scope tree) token other u y)

-- ---- steps

not-good : (move : Move) (n : ℕ) (v : Verdict) (j : Judged) → IsJudgement move.reason move.from move.to Good → IsJudgement move.reason move.from move.to j → refusal_at n j ≡ Some v → ⊥
not-good move n v j g h e =
    let same = judgement-once move.reason move.from move.to Good j g h in
    none-some (refusal_at n j) v (ap (refusal_at n) (sym same)) e

stops-once : (moves : List Move) (v w : Verdict) → StopsWith moves v → StopsWith moves w → v ≡ w
stops-once moves v w a b = go (cases_lt a.k b.k) (cases_lt b.k a.k)
  where
    go : (a.k < b.k) ⊎ (b.k ≤ a.k) → (b.k < a.k) ⊎ (a.k ≤ b.k) → v ≡ w
    go (inl h) other = absurd (not-good a.move (a.k + 1) v a.judged (b.front a.k a.move h a.there) a.judgement a.refuses)
    go (inr h) (inl i) = absurd (not-good b.move (b.k + 1) w b.judged (a.front b.k b.move i b.there) b.judgement b.refuses)
    go (inr h) (inr i) =
        let same : a.k ≡ b.k = omega arith in
        let moves' : a.move ≡ b.move = some-once (slice_get moves a.k) a.move b.move a.there (ap (slice_get moves) same ∙ b.there) in
        let judged : a.judged ≡ b.judged = judgement-once a.move.reason a.move.from a.move.to a.judged b.judged a.judgement
        (subst (λ (m : Move). IsJudgement m.reason m.from m.to b.judged) (sym moves') b.judgement) in
        some-once (refusal_at (a.k + 1) a.judged) v w a.refuses (ap₂ (λ k j. refusal_at (k + 1) j) same judged ∙ b.refuses)

stops-not : (moves : List Move) (v : Verdict) → StopsWith moves v → AreGood moves (length moves) → ⊥
stops-not moves v a all = not-good a.move (a.k + 1) v a.judged (all a.k a.move (slice_get-read moves a.k a.move a.there).0 a.there) a.judgement a.refuses

moves-once : (moves : List Move) (o : Bool) (v w : Verdict) → IsVerdictOnMoves moves o v → IsVerdictOnMoves moves o w → v ≡ w
moves-once moves o v w (stops a) (stops b) = stops-once moves v w a b
moves-once moves o v w (stops a) (unfinished g p) = absurd (stops-not moves v a g)
moves-once moves o v w (stops a) (proved g p) = absurd (stops-not moves v a g)
moves-once moves o v w (unfinished g p) (stops a) = absurd (stops-not moves w a g)
moves-once moves o v w (unfinished g p) (unfinished h q) = refl
moves-once moves o v w (unfinished g p) (proved h q) = absurd (true-false o p q)
moves-once moves o v w (proved g p) (stops a) = absurd (stops-not moves w a g)
moves-once moves o v w (proved g p) (unfinished h q) = absurd (true-false o q p)
moves-once moves o v w (proved g p) (proved h q) = refl

pub steps-once : (terms : List Morphism) (reasons : List Reason) (hole : Bool) (v w : Verdict) → IsVerdictOnSteps terms reasons hole v → IsVerdictOnSteps terms reasons hole w → v ≡ w
steps-once terms reasons hole v w x y = moves-once (moves_of terms reasons) (is_open reasons hole) v w x y

-- the verdict on the steps of a rewrite
abbrev on_tree : Site → Verdict → StatementTree → Type 0
on_tree site v (rewrite name first steps) =
    IsVerdictOnSteps (terms_of site (rewrite name first steps)) (steps_at site.scope (rewrite name first steps)) (has_hole (rewrite name first steps)) v
on_tree site v _ = ⊥

-- a statement has one verdict
pub judged-once : Known → (site : Site) (v w : Verdict) → IsJudged site v → IsJudged site w → v ≡ w
judged-once known site v w (no_sentence {k = j} f) (no_sentence {k = k} g) = ap Syntax (fails-once known.prefixes site.scope.words j k f g)
judged-once known site v w (no_sentence f) (refused {tree} s r) = absurd (f.no_sentence tree s)
judged-once known site v w (no_sentence f) (accepted {tree} s p n) = absurd (f.no_sentence tree s)
judged-once known site v w (no_sentence f) (by_steps {name} {first} {steps} s p x) = absurd (f.no_sentence (rewrite name first steps) s)
judged-once known site v w (refused {tree} s r) (no_sentence f) = absurd (f.no_sentence tree s)
judged-once known site v w (refused {tree} s r) (refused {tree = other} t q) =
    refused-once site tree v w r (subst (λ x. IsRefused site x w) (known.trees site.scope.words other tree t s) q)
judged-once known site v w (refused {tree} s r) (accepted {tree = other} t p n) =
    absurd (passes-refused site tree v (subst (Passes site) (known.trees site.scope.words other tree t s) p) r)
judged-once known site v w (refused {tree} s r) (by_steps {name} {first} {steps} t p x) =
    absurd (passes-refused site tree v (subst (Passes site) (known.trees site.scope.words (rewrite name first steps) tree t s) p) r)
judged-once known site v w (accepted {tree} s p n) (no_sentence f) = absurd (f.no_sentence tree s)
judged-once known site v w (accepted {tree} s p n) (refused {tree = other} t r) =
    absurd (passes-refused site other w (subst (Passes site) (known.trees site.scope.words tree other s t) p) r)
judged-once known site v w (accepted s p n) (accepted t q m) = refl
judged-once known site v w (accepted {tree} s p n) (by_steps {name} {first} {steps} t q x) =
    absurd (false≢true (sym (subst (λ y. is_rewrite y ≡ false) (known.trees site.scope.words tree (rewrite name first steps) s t) n)))
judged-once known site v w (by_steps {name} {first} {steps} s p x) (no_sentence f) = absurd (f.no_sentence (rewrite name first steps) s)
judged-once known site v w (by_steps {name} {first} {steps} s p x) (refused {tree = other} t r) =
    absurd (passes-refused site other w (subst (Passes site) (known.trees site.scope.words (rewrite name first steps) other s t) p) r)
judged-once known site v w (by_steps {name} {first} {steps} s p x) (accepted {tree} t q n) =
    absurd (false≢true (sym (subst (λ y. is_rewrite y ≡ false) (known.trees site.scope.words tree (rewrite name first steps) t s) n)))
judged-once known site v w (by_steps {name} {first} {steps} s p x) (by_steps {name = a} {first = b} {steps = c} t q y) =
    steps-once (terms_of site (rewrite name first steps)) (steps_at site.scope (rewrite name first steps)) (has_hole (rewrite name first steps)) v w x
    (subst (on_tree site w) (known.trees site.scope.words (rewrite a b c) (rewrite name first steps) t s) y)
