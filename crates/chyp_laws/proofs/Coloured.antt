-- What is not reached, then the image, then what is reached.
use Rattle.std.proofs.Common.{ℕ, ◌≡◌, Bool, true, false, List, inl, inr, refl, sym, ◌∙◌, ap}
use Rattle.chyp_term.specs.Morphism.{Morphism, then, dom, cod, IsTyped}
use Rattle.chyp_term.specs.Positions.{is_apart}
use Rattle.chyp_theory.proofs.Arrows.{Equal, Arrow}
use Rattle.chyp_theory.proofs.Layers.{layers, arrow_of, first_of_then, second_of_then, arrow_along}
use Rattle.chyp_theory.proofs.Running.{EdgeOf, Alike}
use Rattle.chyp_theory.proofs.Soundness.{sound}
use Rattle.chyp_graph.specs.PlainGraph.{PlainGraph}
use Rattle.chyp_laws.proofs.Draws.{Draws}
use Rattle.chyp_pattern.specs.Occurrence.{IsReached, IsOccurrence}
use Rattle.chyp_theory.proofs.Closed.{IsClosed, closed-along, closed-first}
use Rattle.chyp_laws.proofs.Colour.{Calm, Before, calm_closed, before_closed, before_not, not_calm, calm_image}
use Rattle.chyp_theory.proofs.Divide.{Divided, divided_along, divide_layers}
use Rattle.chyp_theory.proofs.Naming.{Named, either, named-chain, named-then, named-assoc, named-rename, named-same}

-- each typed term is divided
pub divide : (t : Morphism) → IsTyped t → (S : EdgeOf t → Bool) → IsClosed t S → Divided t S
divide t ty S h =
    let k = layers t ty in
    let s = sound k.equal in
    divided_along k.equal s.alike S (divide_layers k.layered (arrow_of s.right) (λ e. S (s.alike.from e)) (closed-along ty s.alike S h))

-- each edge by its own name
pub named_self : {s t : Morphism} → Equal s t → (a : Alike s t) → Named s t (λ e. e) a.from
named_self d a = record { equal = d; alike = a; same = λ e. a.from_to e }

-- the edges of the other term by their names
pub named-from : {s t : Morphism} {B : EdgeOf t → EdgeOf s} (n : Named s t (λ e. e) B) (e : EdgeOf t) → n.alike.from e ≡ B e
named-from {B = B} n e = sym (n.same (n.alike.from e)) ∙ ap B (n.alike.to_from e)

pub named-at : {X : Type 0} {s t : Morphism} {A : EdgeOf s → X} {B : EdgeOf t → X} (n : Named s t A B) (e : EdgeOf t) → A (n.alike.from e) ≡ B e
named-at {B = B} n e = sym (n.same (n.alike.from e)) ∙ ap B (n.alike.to_from e)

-- t is first ; middle ; last: outside the image and not reached, the image, and reached
pub record Coloured (t : Morphism) (g : PlainGraph) (d : Draws t g) (es ws : List ℕ) : Type 1 where
  pub first : Morphism
  pub middle : Morphism
  pub last : Morphism
  pub name : EdgeOf (then first (then middle last)) → EdgeOf t
  pub named : Named t (then first (then middle last)) (λ e. e) name
  pub is_first : (e : EdgeOf first) → (¬ (IsReached g es ws (d.edge (name (inl e))))) × (is_apart es (d.edge (name (inl e))) ≡ true)
  pub is_middle : (e : EdgeOf middle) → is_apart es (d.edge (name (inr (inl e)))) ≡ false
  pub is_last : (e : EdgeOf last) → IsReached g es ws (d.edge (name (inr (inr e))))

-- a term whose graph has an occurrence is so
pub colour : {t l : Morphism} (ty : IsTyped t) (tl : IsTyped l) {g lG : PlainGraph} (d : Draws t g) (dl : Draws l lG) {es ws : List ℕ}
    (o : IsOccurrence lG g es ws) → Coloured t g d es ws
colour {t} {l} ty tl {g} {lG} d dl {es} {ws} o =
    record {
      first = D1.first;
      middle = D1.second;
      last = D2.second;
      name = either (λ e. F (D1.named.alike.from (inl e))) (either (λ e. F (D1.named.alike.from (inr e))) L);
      named = named-chain (named-rename (named_self D2.named.equal D2.named.alike) (λ e. refl) (elim [ inl e ↦ refl | inr e ↦ refl ]))
          (named-chain (named-then inside (named-same AL L) AF AL)
          (named-assoc A1 A2 AL (λ e. F (D1.named.alike.from (inl e))) (λ e. F (D1.named.alike.from (inr e))) L));
      is_first = λ e. before_not ty tl d dl o _ (named-at D1.named (inl e));
      is_middle = λ e. calm_image ty tl d dl o _ (named-at D2.named (inl (D1.named.alike.from (inr e)))) (named-at D1.named (inr e));
      is_last = λ e. not_calm ty tl d dl o _ (named-at D2.named (inr e));
    }
  where
    C : EdgeOf t → Bool
    C = Calm ty tl d dl o

    B : EdgeOf t → Bool
    B = Before ty tl d dl o

    D2 : Divided t C
    D2 = divide t ty C (calm_closed ty tl d dl o)

    F : EdgeOf D2.first → EdgeOf t
    F e = D2.named.alike.from (inl e)

    L : EdgeOf D2.second → EdgeOf t
    L e = D2.named.alike.from (inr e)

    two : IsTyped (then D2.first D2.second)
    two = (sound D2.named.equal).right

    D1 : Divided D2.first (λ e. B (F e))
    D1 =
        divide D2.first two.0 (λ e. B (F e))
        (closed-first D2.first D2.second two.0 (λ e. B (D2.named.alike.from e)) (closed-along ty D2.named.alike B (before_closed ty tl d dl o)))

    three : IsTyped (then D1.first D1.second)
    three = (sound D1.named.equal).right

    AF : Arrow D2.first (dom D2.first) (cod D2.first)
    AF = arrow_of two.0

    AL : Arrow D2.second (cod D2.first) (cod D2.second)
    AL = second_of_then (arrow_of two)

    AT : Arrow (then D1.first D1.second) (dom D2.first) (cod D2.first)
    AT = arrow_along D1.named.equal AF

    A1 : Arrow D1.first (dom D2.first) (cod D1.first)
    A1 = first_of_then AT

    A2 : Arrow D1.second (cod D1.first) (cod D2.first)
    A2 = second_of_then AT

    inside : Named D2.first (then D1.first D1.second) F (either (λ e. F (D1.named.alike.from (inl e))) (λ e. F (D1.named.alike.from (inr e))))
    inside = record { equal = D1.named.equal; alike = D1.named.alike; same = λ e. at (D1.named.alike.to e) ∙ ap F (D1.named.alike.from_to e) }
      where
        at : (c : EdgeOf (then D1.first D1.second))
            → either (λ e. F (D1.named.alike.from (inl e))) (λ e. F (D1.named.alike.from (inr e))) c ≡ F (D1.named.alike.from c)
        at (inl e) = refl
        at (inr e) = refl
