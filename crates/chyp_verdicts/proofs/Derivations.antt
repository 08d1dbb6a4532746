-- Derivations from rules that are derived themselves.
use Rattle.std.proofs.Common.{◌≡◌, List, [], ◌∷◌, ◌++◌, All, refl, subst, arith, ◌⊎◌, inl, inr}
use Rattle.std.specs.Prelude.{Contains}
use Rattle.std.proofs.lemmas.List.Elements.{All-append, All-nil, All-head, All-tail, Contains-append_left, Contains-append_right}
use Rattle.chyp_term.specs.Derivation.{Derives, IsEquation, same, back, chain, in_then, in_beside, by_law, given, identity}
use Rattle.chyp_term.specs.Morphism.{Morphism, then, beside}
use Rattle.chyp_term.specs.Rewriting.{RewritesInContext}
use Rattle.chyp_theory.proofs.Wires.{derivation_equation}
use Rattle.chyp_env.specs.Environment.{Origin}
use Rattle.chyp_verdicts.specs.Rules.{Permits, IsDerived}
use Rattle.chyp_verdicts.specs.Standing.{Standing}
use Rattle.chyp_env.proofs.Bindings.{Contains-from_cons}

abbrev pub Equation : Type 0
Equation = Morphism × Morphism

-- what follows from equations that follow from others follows from those
pub cut : (E F : List Equation) → ((e : Equation) → Contains F e → IsEquation e.0 e.1 → Derives E e.0 e.1) → {s t : Morphism} → Derives F s t → Derives E s t
cut E F each (same x) = same x
cut E F each (back d) = back (cut E F each d)
cut E F each (chain d e) = chain (cut E F each d) (cut E F each e)
cut E F each (in_then d e m) = in_then (cut E F each d) (cut E F each e) m
cut E F each (in_beside d e) = in_beside (cut E F each d) (cut E F each e)
cut E F each (by_law l x y) = by_law l x y
cut E F each (given {s} {t} c e) = each (s, t) c e

-- more equations prove no less
pub weaken : (E F : List Equation) → ((e : Equation) → Contains F e → Contains E e) → {s t : Morphism} → Derives F s t → Derives E s t
weaken E F more d = cut E F (λ e c is. given (more e c) is) d

-- a rewriting in a context follows from its rule
pub context-derives : (l r t u : Morphism) → IsEquation l r → RewritesInContext l r t u → Derives ((l, r) ∷ []) t u
context-derives l r t u is c =
    let none : (e : Equation) → Contains {X = Equation} [] e → Contains ((l, r) ∷ []) e = λ e h. absurd (omega (arith, h.1)) in
    let before : Derives ((l, r) ∷ []) t (then c.before (then (beside (identity c.kept) l) c.after)) = weaken ((l, r) ∷ []) [] none c.left in
    let after : Derives ((l, r) ∷ []) u (then c.before (then (beside (identity c.kept) r) c.after)) = weaken ((l, r) ∷ []) [] none c.right in
    let typed = (derivation_equation c.left).right in
    let rule : Derives ((l, r) ∷ []) l r = given (0, omega arith, refl) is in
    let inner : Derives ((l, r) ∷ []) (beside (identity c.kept) l) (beside (identity c.kept) r) = in_beside (same typed.1.0.0) rule in
    let middle : Derives ((l, r) ∷ []) (then c.before (then (beside (identity c.kept) l) c.after)) (then c.before (then (beside (identity c.kept) r) c.after)) =
    in_then (same typed.0) (in_then inner (same typed.1.1) typed.1.2) typed.2 in
    chain before (chain middle (back after))

-- ---- equations that rest on rules

-- an equation that rests on no more is derived as well
pub derived-along : (Stands : Standing) (o p : Origin) → ((e : Equation) → Permits Stands o e → Permits Stands p e) → (l r : Morphism) → IsDerived Stands o l r
    → IsDerived Stands p l r
derived-along Stands o p more l r d = record { rules = d.rules; permitted = λ k x h. more _ (d.permitted k x h); derivation = d.derivation }

pub derived-back : (Stands : Standing) (o : Origin) (s t : Morphism) → IsDerived Stands o s t → IsDerived Stands o t s
derived-back Stands o s t d = record { rules = d.rules; permitted = d.permitted; derivation = back d.derivation }

-- rules that prove all of some equations
record Together (Stands : Standing) (o : Origin) (F : List Equation) : Type 0 where
  rules : List Equation
  permitted : All (Permits Stands o) rules
  each : (e : Equation) → Contains F e → Derives rules e.0 e.1

together : (Stands : Standing) (o : Origin) (F : List Equation) → All (λ (e : Equation). IsDerived Stands o e.0 e.1) F → Together Stands o F
together Stands o [] all = record { rules = []; permitted = All-nil _; each = λ e c. absurd (omega (arith, c.1)) }
together Stands o (f ∷ fs) all =
    go (All-head (λ (e : Equation). IsDerived Stands o e.0 e.1) f fs all) (together Stands o fs (All-tail (λ (e : Equation). IsDerived Stands o e.0 e.1) f fs all))
  where
    go : IsDerived Stands o f.0 f.1 → Together Stands o fs → Together Stands o (f ∷ fs)
    go d rest = record {
      rules = d.rules ++ rest.rules;
      permitted = All-append (Permits Stands o) d.rules rest.rules d.permitted rest.permitted;
      each = λ e c. pick e (Contains-from_cons f fs e c);
    }
      where
        pick : (e : Equation) → (f ≡ e) ⊎ Contains fs e → Derives (d.rules ++ rest.rules) e.0 e.1
        pick e (inl s) = subst (λ (x : Equation). Derives (d.rules ++ rest.rules) x.0 x.1) s (weaken (d.rules ++ rest.rules) d.rules (λ x c. Contains-append_left d.rules rest.rules x c) d.derivation)
        pick e (inr c) = weaken (d.rules ++ rest.rules) rest.rules (λ x h. Contains-append_right d.rules rest.rules x h) (rest.each e c)

-- what follows from derived equations is derived
pub derived-cut : (Stands : Standing) (o : Origin) (F : List Equation) (s t : Morphism) → All (λ (e : Equation). IsDerived Stands o e.0 e.1) F → Derives F s t
    → IsDerived Stands o s t
derived-cut Stands o F s t all d =
    let both = together Stands o F all in
    record { rules = both.rules; permitted = both.permitted; derivation = cut both.rules F (λ e c is. both.each e c) d }
