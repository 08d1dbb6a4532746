-- The names behind the `by`s of a statement that nothing refuses are those of equations.
use Rattle.std.proofs.Common.{◌≡◌, ℕ, Bool, true, false, List, [], ◌∷◌, map, Option, Some, None, slice_get, All, ◌⊎◌, inl, inr, refl, sym, ◌∙◌, ap, subst, arith}
use Rattle.std.specs.Prelude.{Contains, flat_map, if◌then◌else◌}
use Rattle.std.specs.List.{cons_option, filter_map}
use Rattle.std.specs.Option.{option_map_or}
use Rattle.std.proofs.lemmas.List.Elements.{All-cons, All-contains, All-nil, All-map, Contains-append_left, Contains-append_right}
use Rattle.chyp_syntax.specs.declared.step.ReasonAst.{ReasonAst}
use Rattle.chyp_syntax.specs.declared.step.ReasonAst.TheVariants.{Plain, Rule, Simp}
use Rattle.chyp_syntax.specs.declared.step.SignedAst.{SignedAst}
use Rattle.chyp_syntax.specs.Statement.{StatementTree, generator as a_gen, abbreviation as a_let, rule, rewrite, inclusion, showing}
use Rattle.chyp_syntax.specs.Step.{StepTree}
use Rattle.chyp_syntax.specs.Term.{TermTree}
use Rattle.chyp_syntax.specs.Words.{bytes_at}
use Rattle.chyp_term.specs.Derivation.{empty}
use Rattle.chyp_term.specs.Morphism.{Morphism}
use Rattle.chyp_env.specs.Environment.{Sense, generator, abbreviation, equation, unproved, broken, Binding}
use Rattle.chyp_env.specs.Scope.{binding_at}
use Rattle.chyp_env.specs.Site.{Site}
use Rattle.chyp_env.specs.Sound.{IsSound, IsSoundSense}
use Rattle.chyp_names.specs.Elaboration.{Passes, equation_at, equation_of_sense, reason_at, steps_at}
use Rattle.chyp_names.specs.Naming.{in_reason, fault_of, fault_in_reason, fault_or_unknown, names_of_reason, unproved_token, unproved_use, uses_in, uses_in_goal, uses_in_step, uses_of}
use Rattle.chyp_simp.specs.Laws.{IsUsable}
use Rattle.chyp_verdicts.specs.Steps.{AreUsable, rules_of}
use Rattle.chyp_env.proofs.Bindings.{Contains-from_cons, Contains-map, All-from, binding-found}
use Rattle.chyp_verdicts.proofs.Derivations.{Equation}

-- where a filter keeps nothing, nothing passes it
none-kept : {A B : Type 0} (f : A → Option B) (xs : List A) → slice_get (filter_map f xs) 0 ≡ None → (x : A) → Contains xs x → f x ≡ None
none-kept f [] e x c = absurd (omega (arith, c.1))
none-kept f (y ∷ ys) e x c = go (f y) refl e (Contains-from_cons y ys x c) (none-kept f ys)
  where
    go : (o : Option _) → f y ≡ o → slice_get (cons_option o (filter_map f ys)) 0 ≡ None → (y ≡ x) ⊎ Contains ys x → (slice_get (filter_map f ys) 0 ≡ None → (z : _) → Contains ys z → f z ≡ None)
        → f x ≡ None
    go None h i (inl s) rest = ap f (sym s) ∙ h
    go None h i (inr d) rest = rest i x d
    go (Some v) h i d rest = absurd cc

-- a name behind a `by` that is not at fault, and not unproved, is that of an equation
pub record IsEquationThere (site : Site) (token : ℕ) : Type 0 where
  pub binding : Binding
  pub first : Morphism
  pub last : Morphism
  pub is : binding_at site.scope token ≡ Some binding
  pub sense : binding.sense ≡ equation first last

equation-there : (site : Site) (token : ℕ) → fault_of site.scope (in_reason token) ≡ None → unproved_use site.scope (in_reason token) ≡ None → IsEquationThere site token
equation-there site token f u = bound (binding_at site.scope token) refl f u
  where
    sensed : (b : Binding) → binding_at site.scope token ≡ Some b → (s : Sense) → b.sense ≡ s → fault_in_reason s token ≡ None
        → unproved_token (Some (record { name = b.name; origin = b.origin; sense = s })) token ≡ None → IsEquationThere site token
    sensed b h (equation first last) e g v = record { binding = b; first = first; last = last; is = h; sense = e }
    sensed b h unproved e g v = absurd cc
    sensed b h broken e g v = absurd cc
    sensed b h (generator n a c) e g v = absurd cc
    sensed b h (abbreviation m) e g v = absurd cc

    bound : (o : Option Binding) → binding_at site.scope token ≡ o → fault_or_unknown fault_in_reason o token ≡ None → unproved_token o token ≡ None → IsEquationThere site token
    bound None h g v = absurd cc
    bound (Some b) h g v = sensed b h b.sense refl g v

pub Contains-flat_map : {A B : Type 0} (f : A → List B) (xs : List A) (x : A) (y : B) → Contains xs x → Contains (f x) y → Contains (flat_map f xs) y
Contains-flat_map f [] x y c d = absurd (omega (arith, c.1))
Contains-flat_map f (z ∷ zs) x y c d = go (Contains-from_cons z zs x c) (λ h. Contains-flat_map f zs x y h d)
  where
    go : (z ≡ x) ⊎ Contains zs x → (Contains zs x → Contains (flat_map f zs) y) → Contains (flat_map f (z ∷ zs)) y
    go (inl s) rest = Contains-append_left (f z) (flat_map f zs) y (subst (λ w. Contains (f w) y) (sym s) d)
    go (inr h) rest = Contains-append_right (f z) (flat_map f zs) y (rest h)

-- a name behind a `by` of a rewrite is used by it
cited-used : (name : ℕ) (first : TermTree) (steps : List StepTree) (step : StepTree) (token : ℕ) → Contains steps step → Contains (names_of_reason step.reason) token
    → Contains (uses_of (rewrite name first steps)) (in_reason token)
cited-used name first steps step token c d =
    Contains-append_right (uses_in first) (flat_map uses_in_step steps) (in_reason token)
    (Contains-flat_map uses_in_step steps step (in_reason token) c
    (Contains-append_right (uses_in_goal step.goal) (map in_reason (names_of_reason step.reason)) (in_reason token) (Contains-map in_reason (names_of_reason step.reason) token d)))

-- what is cited by a rewrite that nothing refuses is an equation
pub cited-equation : (site : Site) (name : ℕ) (first : TermTree) (steps : List StepTree) → Passes site (rewrite name first steps) → (step : StepTree) (token : ℕ) → Contains steps step
    → Contains (names_of_reason step.reason) token → IsEquationThere site token
cited-equation site name first steps p step token c d =
    let used = cited-used name first steps step token c d in
    equation-there site token (none-kept (fault_of site.scope) (uses_of (rewrite name first steps)) p.known (in_reason token) used)
    (none-kept (unproved_use site.scope) (uses_of (rewrite name first steps)) p.proved (in_reason token) used)

-- a name behind a `by` stands for its equation, in one of the two directions
directed-equation : (site : Site) (signed : SignedAst) (at : IsEquationThere site signed.name)
    → (equation_at site.scope signed ≡ (at.first, at.last)) ⊎ (equation_at site.scope signed ≡ (at.last, at.first))
directed-equation site signed at = go signed.minus refl
  where
    turned : Bool → Equation → Equation
    turned minus e = if minus then (e.1, e.0) else e

    plain : Equation
    plain = option_map_or (λ (b : Binding). equation_of_sense b.sense) (binding_at site.scope signed.name) (empty, empty)

    straight : plain ≡ (at.first, at.last)
    straight = ap (λ o. option_map_or (λ (b : Binding). equation_of_sense b.sense) o (empty, empty)) at.is ∙ ap equation_of_sense at.sense

    go : (m : Bool) → signed.minus ≡ m → (equation_at site.scope signed ≡ (at.first, at.last)) ⊎ (equation_at site.scope signed ≡ (at.last, at.first))
    go false e = inl (ap (λ m. turned m plain) e ∙ straight)
    go true e = inr (ap (λ m. turned m plain) e ∙ ap (turned true) straight)

-- what holds of each equation that a reason names, in both directions, holds of its equations
pub reason-equations : (P : Equation → Type 0) (site : Site) (reason : ReasonAst)
    → ((token : ℕ) → Contains (names_of_reason reason) token → (at : IsEquationThere site token) × P (at.first, at.last) × P (at.last, at.first)) → All P (rules_of (reason_at site.scope reason))
reason-equations P site Plain each = All-nil P
reason-equations P site (Rule signed) each = All-cons P (equation_at site.scope signed) [] (go (each signed.name (0, omega arith, refl))) (All-nil P)
  where
    go : (at : IsEquationThere site signed.name) × P (at.first, at.last) × P (at.last, at.first) → P (equation_at site.scope signed)
    go h = elim (directed-equation site signed h.0) [ inl e ↦ subst P (sym e) h.1 | inr e ↦ subst P (sym e) h.2 ]
reason-equations P site (Simp rules) each =
    All-map P (equation_at site.scope) rules
    (All-from (λ signed. P (equation_at site.scope signed)) rules (λ signed c. go signed (each signed.name (Contains-map (λ (s : SignedAst). s.name) rules signed c))))
  where
    go : (signed : SignedAst) → (at : IsEquationThere site signed.name) × P (at.first, at.last) × P (at.last, at.first) → P (equation_at site.scope signed)
    go signed h = elim (directed-equation site signed h.0) [ inl e ↦ subst P (sym e) h.1 | inr e ↦ subst P (sym e) h.2 ]

turned : (e : Equation) → IsUsable e → IsUsable (e.1, e.0)
turned e h = let is = h.0 in (record { left = is.right; right = is.left; doms = sym is.doms; cods = sym is.cods }, h.2, h.1)

-- the equations behind the `by`s of a statement that nothing refuses can be rested on, where names stand for sound things
pub reasons-usable : (s : Site) → IsSound s.scope.env → (tree : StatementTree) → Passes s tree → AreUsable (steps_at s.scope tree)
reasons-usable s sound (a_gen name dom cod) p = All-nil _
reasons-usable s sound (a_let name tree) p = All-nil _
reasons-usable s sound (rule name left equals right) p = All-nil _
reasons-usable s sound (inclusion imported prefix) p = All-nil _
reasons-usable s sound (showing name) p = All-nil _
reasons-usable s sound (rewrite name first steps) p =
    All-map (λ r. All IsUsable (rules_of r)) (λ (step : StepTree). reason_at s.scope step.reason) steps
    (All-from (λ (step : StepTree). All IsUsable (rules_of (reason_at s.scope step.reason))) steps
    (λ step c. reason-equations IsUsable s step.reason (λ token d. at step token c d)))
  where
    at : (step : StepTree) (token : ℕ) → Contains steps step → Contains (names_of_reason step.reason) token → (l : IsEquationThere s token) × IsUsable (l.first, l.last) × IsUsable (l.last, l.first)
    at step token c d =
        let l = cited-equation s name first steps p step token c d in
        let has = binding-found s.scope.env (bytes_at s.scope.words token) l.binding l.is in
        let is : IsSoundSense (equation l.first l.last) = subst IsSoundSense l.sense (All-contains (λ (b : Binding). IsSoundSense b.sense) s.scope.env l.binding sound.each has.0) in
        (l, is, turned (l.first, l.last) is)
