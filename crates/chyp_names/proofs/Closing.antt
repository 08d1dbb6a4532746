-- What a statement binds leaves a closed environment closed.
use Rattle.std.proofs.Common.{◌≡◌, ℕ, zero, suc, ◌-◌, Bool, true, false, ◌&&◌, cond, List, [], ◌∷◌, ◌++◌, length, map, slice_get, unwrap_or, Option, Some, None, IfSome, All, refl, sym, ap, subst, ◌∙◌, arith, is_some, true≢false}
use Rattle.std.specs.List.{cons_option}
use Rattle.std.specs.Option.{option_map}
use Rattle.std.proofs.lemmas.List.Elements.{All-cons, All-head, All-nil, All-tail}
use Rattle.chyp_base.specs.declared.verdict.Verdict.{Verdict}
use Rattle.chyp_base.specs.declared.verdict.Verdict.TheVariants.{Accepted, Clash}
use Rattle.chyp_lex.specs.declared.token.TokenKind.{TokenKind}
use Rattle.chyp_lex.specs.Names.{IsNameText}
use Rattle.chyp_syntax.specs.Heading.{declared_name, declares, is_identifier}
use Rattle.chyp_syntax.specs.Sentence.{IsSentence}
use Rattle.chyp_syntax.specs.Statement.{inclusion, rewrite}
use Rattle.chyp_syntax.specs.Step.{StepTree}
use Rattle.chyp_syntax.specs.Term.{TermTree}
use Rattle.chyp_syntax.specs.Words.{Word, bytes_at, keyword_in}
use Rattle.chyp_syntax.proofs.OneTree.{has_one_tree}
use Rattle.chyp_term.specs.Morphism.{Morphism}
use Rattle.chyp_env.specs.ChunkView.{AreNamed}
use Rattle.chyp_env.specs.Closed.{FitsBehind, HasBoundGenerators, HasBoundSense, IsClosed}
use Rattle.chyp_env.specs.Environment.{Sense, generator, abbreviation, equation, Binding, Origin}
use Rattle.chyp_env.specs.Import.{all_passed_on, first_clash}
use Rattle.chyp_env.specs.Site.{Imported, IsImportState, Site, an_import, no_import, there}
use Rattle.chyp_env.proofs.Closed.{AreBound, covers-append, term-covered}
use Rattle.chyp_env.proofs.BoundTerms.{expansion-bound}
use Rattle.chyp_names.specs.declared.body.Body.{Body}
use Rattle.chyp_names.specs.Binding.{Elaborates, IsOutcome, StandsFor, a_broken_statement, a_declared_generator, a_proved_rewrite, a_rule, a_term, an_unproved_rewrite}
use Rattle.chyp_names.specs.Elaboration.{expansion_at, fault_of_module, import_fault, prefix_at, terms_of}
use Rattle.chyp_names.specs.Outcome.{sense_for, terms_in}
use Rattle.chyp_names.specs.Trees.{goals_of}
use Rattle.chyp_names.proofs.Stands.{outcome_fit, site_at}
use Rattle.std.proofs.lemmas.List.Elements.{Contains-push}
use Rattle.chyp_names.proofs.Made.{both_true, ends_as, identifier_kind}

-- ---- the terms of a statement

-- the terms that the steps of a rewrite lead to
abbrev pub goals_at : Site → List StepTree → List Morphism
goals_at site steps = map (expansion_at site.scope) (goals_of steps)

goals-bound : (s : Site) → AreBound s.scope.env → (steps : List StepTree) → All (HasBoundGenerators s.scope.env) (goals_at s steps)
goals-bound s bound [] = All-nil (HasBoundGenerators s.scope.env)
goals-bound s bound (step ∷ steps) = go step.goal (goals-bound s bound steps)
  where
    go : (g : Option TermTree) → All (HasBoundGenerators s.scope.env) (goals_at s steps) → All (HasBoundGenerators s.scope.env) (map (expansion_at s.scope) (cons_option g (goals_of steps)))
    go None rest = rest
    go (Some tree) rest = All-cons (HasBoundGenerators s.scope.env) (expansion_at s.scope tree) (goals_at s steps) (expansion-bound s.scope bound tree) rest

rewrite-bound : (s : Site) → AreBound s.scope.env → (name : ℕ) (first : TermTree) (steps : List StepTree) → All (HasBoundGenerators s.scope.env) (terms_of s (rewrite name first steps))
rewrite-bound s bound name first steps =
    All-cons (HasBoundGenerators s.scope.env) (expansion_at s.scope first) (goals_at s steps) (expansion-bound s.scope bound first) (goals-bound s bound steps)

-- what holds of all terms holds of the one at a place
at-place : (P : Morphism → Type 0) (ts : List Morphism) (k : ℕ) (t : Morphism) → All P ts → slice_get ts k ≡ Some t → P t
at-place P [] k t all e = absurd cc
at-place P (x ∷ xs) zero t all e = let same : x ≡ t = cc in subst P same (All-head P x xs all)
at-place P (x ∷ xs) (suc k) t all e = at-place P xs k t (All-tail P x xs all) e

-- ---- what a statement stands for

-- each generator of what a statement stands for has a binding, if that of the statement's name is there too
pub sense-bound : (s : Site) → AreBound s.scope.env → (v : Verdict) (sense : Sense) → StandsFor s v sense → (name : List ℕ) (o : Origin)
    → HasBoundSense (s.scope.env ++ record { name = name; origin = o; sense = sense } ∷ []) sense
sense-bound s bound v sense (a_declared_generator {label} {a} {b} t e) name o =
    let mine : Binding = record { name = name; origin = o; sense = generator label a b } in
    record { binding = mine; has = Contains-push s.scope.env mine; is = refl }
sense-bound s bound v sense (a_term {tree} {term = m} t e) name o =
    let b : Binding = record { name = name; origin = o; sense = abbreviation m } in
    let same : expansion_at s.scope tree ≡ m = cc in
    term-covered s.scope.env (s.scope.env ++ b ∷ []) (covers-append s.scope.env (b ∷ [])) m (subst (HasBoundGenerators s.scope.env) same (expansion-bound s.scope bound tree))
sense-bound s bound v sense (a_rule {left} {right} {first} {last} t e) name o =
    let b : Binding = record { name = name; origin = o; sense = equation first last } in
    let one : expansion_at s.scope left ≡ first = cc in
    let two : expansion_at s.scope right ≡ last = cc in
    let more = term-covered s.scope.env (s.scope.env ++ b ∷ []) (covers-append s.scope.env (b ∷ [])) in
    (more first (subst (HasBoundGenerators s.scope.env) one (expansion-bound s.scope bound left)), more last (subst (HasBoundGenerators s.scope.env) two (expansion-bound s.scope bound right)))
sense-bound s bound v sense (a_proved_rewrite {name = n} {tree} {steps} {first} {last} t f l) name o =
    let b : Binding = record { name = name; origin = o; sense = equation first last } in
    let all = rewrite-bound s bound n tree steps in
    let terms = terms_of s (rewrite n tree steps) in
    let more = term-covered s.scope.env (s.scope.env ++ b ∷ []) (covers-append s.scope.env (b ∷ [])) in
    (more first (at-place (HasBoundGenerators s.scope.env) terms 0 first all f), more last (at-place (HasBoundGenerators s.scope.env) terms (length terms - 1) last all l))
sense-bound s bound v sense (an_unproved_rewrite r p) name o = tt
sense-bound s bound v sense (a_broken_statement r p) name o = tt

-- ---- names

-- a declared name is a name
declared-named : (words : List Word) (name : List ℕ) → AreNamed words → declared_name words ≡ Some name → IsNameText name
declared-named [] name named e = absurd (true≢false (sym (ap is_some e)))
declared-named (first ∷ []) name named e = absurd (true≢false (sym (ap is_some e)))
declared-named (first ∷ second ∷ rest) name named e = tell (declares first.kind && is_identifier second.kind) (both_true _ _) e
  where
    tell : (b : Bool) → (b ≡ true → is_identifier second.kind ≡ true) → (cond b (Some second.bytes) None) ≡ Some name → IsNameText name
    tell true kind f = subst IsNameText (ap (λ o. unwrap_or o []) f) (named 1 second (omega arith) (identifier_kind second.kind (kind refl)))
    tell false kind f = absurd (true≢false (sym (ap is_some f)))

-- so it is a name
pub prefix-named : (words : List Word) (word : ℕ) (as_word : Option ℕ) → AreNamed words → IsSentence words (inclusion word as_word)
    → IfSome (option_map (bytes_at words) as_word) IsNameText
prefix-named words word None named s = tt
prefix-named [] word (Some prefix) named s = absurd (ends_as s.statement)
prefix-named (a ∷ []) word (Some prefix) named s = absurd (ends_as s.statement)
prefix-named (a ∷ b ∷ []) word (Some prefix) named s = absurd (ends_as s.statement)
prefix-named (a ∷ b ∷ c ∷ []) word (Some prefix) named s = absurd (ends_as s.statement)
prefix-named (a ∷ b ∷ c ∷ d ∷ []) word (Some prefix) named s =
    let ends = ends_as s.statement in
    subst (λ n. IsNameText (bytes_at (a ∷ b ∷ c ∷ d ∷ []) n)) ends.0 (named 3 d (omega arith) ends.1)
prefix-named (a ∷ b ∷ c ∷ d ∷ e ∷ rest) word (Some prefix) named s = absurd (ends_as s.statement)

-- ---- what is bound

-- what a statement stands for may be bound to the name that it declares
pub declared-fits : (s : Site) (v : Verdict) (sense other : Sense) (name : List ℕ) (o : Origin) → IsClosed s.scope.env → AreNamed s.scope.words
    → declared_name s.scope.words ≡ Some name
    → StandsFor s v other → sense ≡ other → FitsBehind s.scope.env (record { name = name; origin = o; sense = sense })
declared-fits s v sense other name o closed named declared stands same =
    subst (λ x. FitsBehind s.scope.env (record { name = name; origin = o; sense = x })) (sym same)
    (record { generators = sense-bound s closed.generators v other stands name o; name = declared-named s.scope.words name named declared })

-- so may the sense that its keyword and its terms have with its verdict
pub sense-fits : (home : List ℕ) (words : List Word) (env : List Binding) (imported : Imported) (body : Option Body) (verdict : Verdict) (name : List ℕ)
    → IsOutcome (site_at home env imported words) body verdict → declared_name words ≡ Some name → (number : ℕ) (sense : Sense) (keyword : Option TokenKind) (terms : List Morphism)
    → keyword ≡ keyword_in words → terms ≡ terms_in body → sense ≡ sense_for keyword terms verdict → IsClosed env → AreNamed words
    → FitsBehind env (record { name = name; origin = record { home = home; number = number }; sense = sense })
sense-fits home words env imported body verdict name outcome declared number sense keyword terms k t same closed named =
    let fit = outcome_fit home env imported words body verdict name outcome declared in
    let is : sense ≡ sense_for (keyword_in words) (terms_in body) verdict = cc (same, k, t) in
    declared-fits (site_at home env imported words) verdict sense (sense_for (keyword_in words) (terms_in body) verdict) name
    (record { home = home; number = number }) closed named declared fit.stands is

no-first : (o : Option (List ℕ)) → option_map Clash o ≡ None → o ≡ None
no-first None e = refl
no-first (Some name) e = absurd (true≢false (sym (ap is_some (sym e))))

-- an import that takes in a module, with no clash
abbrev pub TakesAll : List Word → List Binding → List Binding → Type 0
TakesAll words env bs =
    (word : ℕ) × (as_word : Option ℕ) × IsSentence words (inclusion word as_word) × (first_clash env (all_passed_on (option_map (bytes_at words) as_word) bs) ≡ None)

-- an accepted import takes in all of its module
pub accepted-takes : (s : Site) (body : Option Body) (v : Verdict) (bs : List Binding) → IsImportState s → IsOutcome s body v → v ≡ Accepted → s.imported ≡ there bs
    → TakesAll s.scope.words s.scope.env bs
accepted-takes s body v bs state o is from = go body o.elaborates (o.accepted is).0 state
  where
    taken : (b : Body) → Elaborates s b → (word : ℕ) (as_word : Option ℕ) → IsSentence s.scope.words (inclusion word as_word) → TakesAll s.scope.words s.scope.env bs
    taken b e word as_word t =
        let fits : import_fault s (inclusion word as_word) ≡ None =
        subst (λ x. import_fault s x ≡ None) (has_one_tree s.scope.words e.tree (inclusion word as_word) e.is_sentence t) e.passes.fits in
        (word, as_word, t, no-first _ (subst (λ x. fault_of_module s.scope.env x (prefix_at s.scope as_word) ≡ None) from fits))

    is_there : Imported → Bool
    is_there (there _) = true
    is_there _ = false

    go : (body : Option Body) → IfSome body (Elaborates s) → is_some body ≡ true → IsImportState s → TakesAll s.scope.words s.scope.env bs
    go None e some state = absurd (true≢false (sym some))
    go (Some b) e some (no_import n) = absurd (true≢false (ap is_there (sym from ∙ n)))
    go (Some b) e some (an_import {word} {as_word} t) = taken b e word as_word t
