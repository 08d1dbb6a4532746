-- Environments stay closed when names are bound.
use Rattle.std.proofs.Common.{◌≡◌, ◌⊎◌, ℕ, List, [], ◌∷◌, ◌++◌, All, Option, None, Some, IfSome, Result, Ok, Err, OnOk, OnErr, inl, inr, sym, ap, subst, ◌∙◌}
use Rattle.std.specs.Prelude.{Contains}
use Rattle.std.proofs.lemmas.List.Elements.{All-append, All-cons, All-filter, All-map, All-nil, Contains-append_left}
use Rattle.chyp_base.specs.declared.sort.Sort.{Sort}
use Rattle.chyp_lex.specs.Names.{IsNameText}
use Rattle.chyp_lex.proofs.Joining.{joined-name}
use Rattle.chyp_term.specs.Morphism.{Morphism, generator as a_generator, permutation, then, beside}
use Rattle.chyp_env.specs.Closed.{FitsBehind, HasBoundGenerators, HasBoundSense, IsBoundGenerator, IsClosed}
use Rattle.chyp_env.specs.Environment.{Sense, generator, abbreviation, equation, unproved, broken, Binding}
use Rattle.chyp_env.specs.Import.{AgreeOnOrigins, all_passed_on, first_clash, new_in, passed_on, prefixed}
use Rattle.chyp_env.specs.Site.{there}
use Rattle.chyp_env.proofs.Bindings.{import-covers}

-- the generators that are bound in the one environment are bound in the other
abbrev pub Covers : List Binding → List Binding → Type 0
Covers env next = (name : List ℕ) (dom cod : List Sort) → IsBoundGenerator env name dom cod → IsBoundGenerator next name dom cod

pub term-covered : (env next : List Binding) → Covers env next → (t : Morphism) → HasBoundGenerators env t → HasBoundGenerators next t
term-covered env next covers (a_generator name dom cod) h = covers name dom cod h
term-covered env next covers (permutation sorts places) h = tt
term-covered env next covers (then s t) h = (term-covered env next covers s h.0, term-covered env next covers t h.1)
term-covered env next covers (beside s t) h = (term-covered env next covers s h.0, term-covered env next covers t h.1)

pub sense-covered : (env next : List Binding) → Covers env next → (sense : Sense) → HasBoundSense env sense → HasBoundSense next sense
sense-covered env next covers (generator name dom cod) h = covers name dom cod h
sense-covered env next covers (abbreviation t) h = term-covered env next covers t h
sense-covered env next covers (equation first last) h = (term-covered env next covers first h.0, term-covered env next covers last h.1)
sense-covered env next covers unproved h = tt
sense-covered env next covers broken h = tt

pub covers-append : (env more : List Binding) → Covers env (env ++ more)
covers-append env more name dom cod g = record { binding = g.binding; has = Contains-append_left env more g.binding g.has; is = g.is }

-- all generators of terms that names stand for are bound
abbrev pub AreBound : List Binding → Type 0
AreBound env = All (λ b. HasBoundSense env b.sense) env

pub bound-push : (env : List Binding) (b : Binding) → AreBound env → HasBoundSense (env ++ b ∷ []) b.sense → AreBound (env ++ b ∷ [])
bound-push env b bound own =
    let after = env ++ b ∷ [] in
    let P : Binding → Type 0 = λ c. HasBoundSense after c.sense in
    All-append P env (b ∷ []) (λ k d h. sense-covered env after (covers-append env (b ∷ [])) _ (bound k d h)) (All-cons P b [] own (All-nil P))

-- what is bound in a module is bound behind its import
pub import-bound : (here bs : List Binding) (prefix : Option (List ℕ)) → AgreeOnOrigins here (there bs) → first_clash here (all_passed_on prefix bs) ≡ None
    → Covers bs (here ++ new_in here (all_passed_on prefix bs))
import-bound here bs prefix agree none name dom cod g = go (import-covers here bs prefix none g.binding g.has)
  where
    next : List Binding
    next = here ++ new_in here (all_passed_on prefix bs)

    go : (c : Binding) × Contains next c × (c.origin ≡ g.binding.origin) × ((c ≡ passed_on prefix g.binding) ⊎ Contains here c) → IsBoundGenerator next name dom cod
    go (c, has, same, inl e) = record { binding = c; has = has; is = ap (λ (b : Binding). b.sense) e ∙ g.is }
    go (c, has, same, inr old) = record { binding = c; has = has; is = agree c g.binding old g.has same ∙ g.is }

pub bound-import : (here bs : List Binding) (prefix : Option (List ℕ)) → AreBound here → AreBound bs → AgreeOnOrigins here (there bs)
    → first_clash here (all_passed_on prefix bs) ≡ None
    → AreBound (here ++ new_in here (all_passed_on prefix bs))
bound-import here bs prefix bound theirs agree none =
    let all = all_passed_on prefix bs in
    let after = here ++ new_in here all in
    let covers = import-bound here bs prefix agree none in
    let P : Binding → Type 0 = λ c. HasBoundSense after c.sense in
    All-append P here (new_in here all) (λ k d h. sense-covered here after (covers-append here (new_in here all)) _ (bound k d h))
    (All-filter _ P all (All-map P (passed_on prefix) bs (λ k d h. sense-covered bs after covers _ (theirs k d h))))

-- so it stays behind a name that fits
pub closed-push : (env : List Binding) (b : Binding) → IsClosed env → FitsBehind env b → IsClosed (env ++ b ∷ [])
closed-push env b closed fits =
    let P : Binding → Type 0 = λ c. IsNameText c.name in
    record { generators = bound-push env b closed.generators fits.generators; names = All-append P env (b ∷ []) closed.names (All-cons P b [] fits.name (All-nil P)) }

prefixed-name : (prefix : Option (List ℕ)) (name : List ℕ) → IfSome prefix IsNameText → IsNameText name → IsNameText (prefixed prefix name)
prefixed-name None name p q = q
prefixed-name (Some prefix) name p q = joined-name prefix name p q

-- and behind an import without a clash, of a module that is closed
pub closed-import : (env bs : List Binding) (prefix : Option (List ℕ)) → IsClosed env → IsClosed bs → AgreeOnOrigins env (there bs)
    → first_clash env (all_passed_on prefix bs) ≡ None
    → IfSome prefix IsNameText → IsClosed (env ++ new_in env (all_passed_on prefix bs))
closed-import env bs prefix closed theirs agree none named =
    let all = all_passed_on prefix bs in
    let P : Binding → Type 0 = λ c. IsNameText c.name in
    record {
      generators = bound-import env bs prefix closed.generators theirs.generators agree none;
      names = All-append P env (new_in env all) closed.names
          (All-filter _ P all (All-map P (passed_on prefix) bs (λ k d h. prefixed-name prefix _ named (theirs.names k d h))));
    }

-- where a call binds names or leaves all as it was, the names are closed behind it
pub closed-after : {T E : Type 0} (result : Result T E) (old more now : List Binding) → OnOk result (now ≡ more) → OnErr result (now ≡ old) → IsClosed old → IsClosed more → IsClosed now
closed-after (Ok x) old more now ok err before behind = subst IsClosed (sym ok) behind
closed-after (Err e) old more now ok err before behind = subst IsClosed (sym err) before
