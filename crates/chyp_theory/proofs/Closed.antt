-- Sets of edges of a term that have what makes a source of one of theirs.
use Rattle.std.proofs.Common.{◌≡◌, Bool, true, List, [], ◌∷◌, map, ◌⊎◌, inl, inr, sym, ◌∙◌, ap, subst}
use Rattle.std.specs.List.{AllByRecursion}
use Rattle.chyp_term.specs.Morphism.{Morphism, then, IsTyped}
use Rattle.chyp_theory.proofs.Peeling.{ins}
use Rattle.chyp_theory.proofs.Renaming.{Producer, In, Target}
use Rattle.chyp_theory.proofs.Running.{EdgeOf, src, Alike}
use Rattle.chyp_theory.proofs.Sources.{rename, src-along, src-first, lifted, later}

-- S holds of what makes a source of an edge of which S holds
abbrev pub IsMadeIn : {E : Type 0} → (E → Bool) → Producer E → Type 0
IsMadeIn S (In j) = Unit {0}
IsMadeIn S (Target e i) = S e ≡ true

-- each edge in S takes inputs and what edges in S make alone
abbrev pub IsClosed : (t : Morphism) → (EdgeOf t → Bool) → Type 0
IsClosed t S = (e : EdgeOf t) → S e ≡ true → AllByRecursion (IsMadeIn S) (src t (λ e i. Target e i) (ins t) e)

-- along terms that are alike
pub closed-along : {s t : Morphism} → IsTyped s → (k : Alike s t) → (S : EdgeOf s → Bool) → IsClosed s S → IsClosed t (λ e. S (k.from e))
closed-along {s} {t} ts k S h e q =
    subst (AllByRecursion (IsMadeIn (λ e. S (k.from e)))) (src-along ts k e) (go (src s (λ e i. Target e i) (ins s) (k.from e)) (h (k.from e) q))
  where
    go : (ys : List (Producer (EdgeOf s))) → AllByRecursion (IsMadeIn S) ys → AllByRecursion (IsMadeIn (λ e. S (k.from e))) (map (rename k.to) ys)
    go [] a = tt
    go (In j ∷ ys) a = (tt, go ys a.1)
    go (Target d i ∷ ys) a = (ap S (k.from_to d) ∙ a.0, go ys a.1)

-- in the first of two terms
pub closed-first : (s t : Morphism) → IsTyped s → (S : EdgeOf (then s t) → Bool) → IsClosed (then s t) S → IsClosed s (λ e. S (inl e))
closed-first s t ts S h e q = go (src s (λ e i. Target e i) (ins s) e) (subst (AllByRecursion (IsMadeIn S)) (sym (src-first s t ts e)) (h (inl e) q))
  where
    go : (ys : List (Producer (EdgeOf s))) → AllByRecursion (IsMadeIn S) (map (rename {F = EdgeOf s ⊎ EdgeOf t} (λ e. inl e)) ys)
        → AllByRecursion (IsMadeIn (λ e. S (inl e))) ys
    go [] a = tt
    go (In j ∷ ys) a = (tt, go ys a.1)
    go (Target d i ∷ ys) a = (a.0, go ys a.1)

-- in the second of two terms
pub closed-later : (k m : Morphism) → IsTyped (then k m) → (S : EdgeOf (then k m) → Bool) → IsClosed (then k m) S → IsClosed m (λ e. S (inr e))
closed-later k m ty S h e q = keep (src m (λ e i. Target e i) (ins m) e) (subst (AllByRecursion (IsMadeIn S)) (sym (later k m ty e)) (h (inr e) q))
  where
    keep : (ys : List (Producer (EdgeOf m))) → AllByRecursion (IsMadeIn S) (map (lifted k m ty) ys) → AllByRecursion (IsMadeIn (λ e. S (inr e))) ys
    keep [] a = tt
    keep (In j ∷ ys) a = (tt, keep ys a.1)
    keep (Target d i ∷ ys) a = (a.0, keep ys a.1)
