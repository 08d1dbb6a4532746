-- What a run leads to has a derivation from its rules.
use Rattle.std.proofs.Common.{◌≡◌, ℕ, List, [], refl, subst, arith}
use Rattle.std.specs.Prelude.{Contains}
use Rattle.std.proofs.lemmas.List.Elements.{All-contains}
use Rattle.chyp_term.specs.Derivation.{Derives, IsEquation, same, back, chain, in_then, in_beside, by_law, given, identity}
use Rattle.chyp_term.specs.Morphism.{IsTyped, Morphism, then, beside}
use Rattle.chyp_term.specs.Rewriting.{RewritesInContext}
use Rattle.chyp_theory.proofs.Wires.{derivation_equation}
use Rattle.chyp_graph.specs.GraphOf.{graph_of}
use Rattle.chyp_graph.specs.PlainGraph.{PlainGraph}
use Rattle.chyp_graph.specs.Validity.{IsValid}
use Rattle.chyp_graph.proofs.Validity.{valid}
use Rattle.chyp_extract.specs.Extraction.{extracted}
use Rattle.chyp_extract.proofs.Deciding.{term-derived}
use Rattle.chyp_extract.proofs.Theorem.{extracted_typed}
use Rattle.chyp_simp.specs.declared.ending.Ending.{Ending}
use Rattle.chyp_simp.specs.declared.ending.Ending.TheVariants.{AtLimit, NormalForm, TooWide}
use Rattle.chyp_simp.specs.Laws.{AreEquations}
use Rattle.chyp_simp.specs.Run.{Ends, RewritesIn, Stops, limit, none, normal, one_more, rules_of, stops, wide}
use Rattle.chyp_simp.proofs.Contexts.{leads}

-- what the laws derive, they derive beside equations
pub with-equations : (E : List (Morphism × Morphism)) {s t : Morphism} → Derives [] s t → Derives E s t
with-equations E (same x) = same x
with-equations E (back d) = back (with-equations E d)
with-equations E (chain d e) = chain (with-equations E d) (with-equations E e)
with-equations E (in_then d e m) = in_then (with-equations E d) (with-equations E e) m
with-equations E (in_beside d e) = in_beside (with-equations E d) (with-equations E e)
with-equations E (by_law l x y) = by_law l x y
with-equations E (given c e) = absurd (omega (arith, c.1))

-- a rewriting in a context follows from its rule
pub context-derived : (E : List (Morphism × Morphism)) (l r t u : Morphism) → Contains E (l, r) → IsEquation l r → RewritesInContext l r t u → Derives E t u
context-derived E l r t u has is c =
    let typed = (derivation_equation c.left).right in
    let inner : Derives E (beside (identity c.kept) l) (beside (identity c.kept) r) = in_beside (same typed.1.0.0) (given has is) in
    let middle : Derives E (then c.before (then (beside (identity c.kept) l) c.after)) (then c.before (then (beside (identity c.kept) r) c.after)) =
    in_then (same typed.0) (in_then inner (same typed.1.1) typed.1.2) typed.2 in
    chain (with-equations E c.left) (chain middle (back (with-equations E c.right)))

-- rewrites of a valid graph lead to a valid one, which they derive
pub record AreDerived (E : List (Morphism × Morphism)) (g h : PlainGraph) : Type 0 where
  pub valid : IsValid h
  pub derivation : Derives E (extracted g) (extracted h)

pub rewrites-derived : (E : List (Morphism × Morphism)) (g : PlainGraph) → AreEquations E → IsValid g → {n : ℕ} {h : PlainGraph} → RewritesIn (rules_of E) g n h → AreDerived E g h
rewrites-derived E g are v none = record { valid = v; derivation = same (extracted_typed g v) }
rewrites-derived E g are v (one_more {h} {k} before w) =
    let b = rewrites-derived E g are v before in
    let l = leads E h k are b.valid w in
    let is : IsEquation l.equation.0 l.equation.1 = All-contains (λ (e : Morphism × Morphism). IsEquation e.0 e.1) E l.equation are l.has in
    record { valid = l.valid; derivation = chain b.derivation (context-derived E l.equation.0 l.equation.1 (extracted h) (extracted k) l.has is l.context) }

-- so it is with the normal form of a term
pub normal-derived : (E : List (Morphism × Morphism)) (g h : PlainGraph) → AreEquations E → IsValid g → Ends (rules_of E) g (NormalForm h) → AreDerived E g h
normal-derived E g h are v ends = go (NormalForm h) refl ends
  where
    at : (ending : Ending) (k : PlainGraph) → ending ≡ NormalForm h → AreDerived E g k → Stops (rules_of E) k ending → AreDerived E g h
    at ending k e d (normal idle) = let same : k ≡ h = cc in subst (AreDerived E g) same d
    at ending k e d (wide w) = absurd cc

    go : (ending : Ending) → ending ≡ NormalForm h → Ends (rules_of E) g ending → AreDerived E g h
    go ending e (stops {h = k} few rewrites stop) = at ending k e (rewrites-derived E g are v rewrites) stop
    go ending e (limit rewrites more) = absurd cc

pub normal-form-derived : (E : List (Morphism × Morphism)) (t : Morphism) (h : PlainGraph) → AreEquations E → IsTyped t → Ends (rules_of E) (graph_of t) (NormalForm h)
    → Derives E t (extracted h)
normal-form-derived E t h are ty ends = chain (with-equations E (term-derived t ty)) (normal-derived E (graph_of t) h are (valid t ty) ends).derivation
