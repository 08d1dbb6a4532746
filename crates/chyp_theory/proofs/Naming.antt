-- Equations that say which generator becomes which: each generator keeps its name.
use Rattle.std.proofs.Common.{◌≡◌, List, ◌⊎◌, inl, inr, refl, sym, ◌∙◌, ap, subst}
use Rattle.chyp_base.specs.declared.sort.Sort.{Sort}
use Rattle.chyp_term.specs.Derivation.{identity, back, chain, in_then, in_beside, by_law, then_left, then_right}
use Rattle.chyp_term.specs.Morphism.{Morphism, then, beside, dom}
use Rattle.chyp_term.proofs.Permuted.{permuted-all}
use Rattle.chyp_theory.proofs.Arrows.{Equal, Arrow, id_arrow, equal-same, equal-assoc, equal-exchange}
use Rattle.chyp_term.proofs.Inverses.{id_perm}
use Rattle.chyp_theory.proofs.Congruence.{Alike-trans, Alike-then, Alike-refl, Alike-sym, Alike-beside}
use Rattle.chyp_theory.proofs.Running.{EdgeOf, Alike}
use Rattle.chyp_theory.proofs.Soundness.{assoc, sound, exchange, unit_left, unit_right}

-- s and t are equal, and each edge keeps its name; names are of any type
pub record Named {X : Type 0} (s t : Morphism) (A : EdgeOf s → X) (B : EdgeOf t → X) : Type 1 where
  pub equal : Equal s t
  pub alike : Alike s t
  pub same : (e : EdgeOf s) → B (alike.to e) ≡ A e

-- one function or the other
abbrev pub either : {A B X : Type 0} → (A → X) → (B → X) → A ⊎ B → X
either f g (inl a) = f a
either f g (inr b) = g b

-- one equation after the other
pub named-chain : {X : Type 0} {s t u : Morphism} {A : EdgeOf s → X} {B : EdgeOf t → X} {C : EdgeOf u → X} → Named s t A B → Named t u B C → Named s u A C
unfolding Alike-trans
named-chain a b = record { equal = chain a.equal b.equal; alike = Alike-trans a.alike b.alike; same = λ e. b.same (a.alike.to e) ∙ a.same e }

-- under ;
pub named-then : {X : Type 0} {s t u v : Morphism} {A : EdgeOf s → X} {B : EdgeOf t → X} {C : EdgeOf u → X} {D : EdgeOf v → X} {a b c : List Sort}
    → Named s t A B → Named u v C D → Arrow s a b → Arrow u b c → Named (then s u) (then t v) (either A C) (either B D)
unfolding Alike-then
named-then d e f g = record {
  equal = in_then d.equal e.equal (f.to ∙ sym g.from);
  alike = Alike-then d.alike e.alike f.typed (f.to ∙ sym g.from);
  same = elim [ inl x ↦ d.same x | inr y ↦ e.same y ];
}

-- (s ; t) ; u = s ; (t ; u)
pub named-assoc : {X : Type 0} {s t u : Morphism} {a b c d : List Sort} → Arrow s a b → Arrow t b c → Arrow u c d
    → (A : EdgeOf s → X) (B : EdgeOf t → X) (C : EdgeOf u → X) → Named (then (then s t) u) (then s (then t u)) (either (either A B) C) (either A (either B C))
unfolding assoc
named-assoc {s = s} {t = t} {u = u} f g h A B C = record {
  equal = equal-assoc f g h;
  alike = assoc s t u;
  same = elim [
    | inl (inl e) ↦ refl
    | inl (inr e) ↦ refl
    | inr e ↦ refl
  ];
}

-- with names that are the same
pub named-rename : {X : Type 0} {s t : Morphism} {A A' : EdgeOf s → X} {B B' : EdgeOf t → X} → Named s t A B → ((e : EdgeOf s) → A e ≡ A' e)
    → ((e : EdgeOf t) → B e ≡ B' e) → Named s t A' B'
named-rename d f g = record { equal = d.equal; alike = d.alike; same = λ e. sym (g (d.alike.to e)) ∙ d.same e ∙ f e }

-- from right to left
pub named-back : {X : Type 0} {s t : Morphism} {A : EdgeOf s → X} {B : EdgeOf t → X} → Named s t A B → Named t s B A
unfolding Alike-sym
named-back {B = B} d = record { equal = back d.equal; alike = Alike-sym d.alike; same = λ e. sym (d.same (d.alike.from e)) ∙ ap B (d.alike.to_from e) }

-- s = s
pub named-same : {X : Type 0} {s : Morphism} {a b : List Sort} → Arrow s a b → (A : EdgeOf s → X) → Named s s A A
unfolding Alike-refl
named-same {s = s} f A = record { equal = equal-same f; alike = Alike-refl s; same = λ e. refl }

-- where all names are one, any equation keeps them
pub named-all : {X : Type 0} {s t : Morphism} → Equal s t → (x : X) → Named s t (λ _. x) (λ _. x)
named-all d x = record { equal = d; alike = (sound d).alike; same = λ e. refl }

-- under *
pub named-beside : {X : Type 0} {s t u v : Morphism} {A : EdgeOf s → X} {B : EdgeOf t → X} {C : EdgeOf u → X} {D : EdgeOf v → X} → Named s t A B → Named u v C D
    → Named (beside s u) (beside t v) (either A C) (either B D)
unfolding Alike-beside
named-beside d e = record { equal = in_beside d.equal e.equal; alike = Alike-beside d.alike e.alike; same = elim [ inl x ↦ d.same x | inr y ↦ e.same y ] }

-- (s * t) ; (u * v) = (s ; u) * (t ; v)
pub named-exchange : {X : Type 0} {s t u v : Morphism} {a b c d e f : List Sort} → Arrow s a b → Arrow t c d → Arrow u b e → Arrow v d f
    → (A : EdgeOf s → X) (B : EdgeOf t → X) (C : EdgeOf u → X) (D : EdgeOf v → X)
    → Named (then (beside s t) (beside u v)) (beside (then s u) (then t v)) (either (either A B) (either C D)) (either (either A C) (either B D))
unfolding exchange
named-exchange {s = s} {t = t} {u = u} {v = v} f g h k A B C D = record {
  equal = equal-exchange f g h k;
  alike = exchange s t u v f.typed g.typed (f.to ∙ sym h.from) (g.to ∙ sym k.from);
  same = elim [ inl (inl e) ↦ refl | inl (inr e) ↦ refl | inr (inl e) ↦ refl | inr (inr e) ↦ refl ];
}

-- the names of no generators
abbrev pub none : {X : Type 0} → ⊥ → X
none e = absurd e

-- id ; s = s
pub named-left : {X : Type 0} {s : Morphism} {a b : List Sort} → Arrow s a b → (A : EdgeOf s → X) → Named (then (identity a) s) s (either none A) A
unfolding unit_left
named-left {s = s} f A = subst (λ x. Named (then (identity x) s) s (either none A) A) f.from
    (record {
      equal = by_law (then_left s)
          (id_perm _, f.typed, permuted-all (dom s)) f.typed;
      alike = unit_left s;
      same = elim [ inl e ↦ absurd e | inr e ↦ refl ];
    })

-- s ; id = s
pub named-right : {X : Type 0} {s : Morphism} {a b : List Sort} → Arrow s a b → (A : EdgeOf s → X) → Named (then s (identity b)) s (either A none) A
unfolding unit_right
named-right {s = s} f A = subst (λ x. Named (then s (identity x)) s (either A none) A) f.to
    (record { equal = by_law (then_right s) (f.typed, id_perm _, refl) f.typed; alike = unit_right s f.typed; same = elim [ inl e ↦ refl | inr e ↦ absurd e ] })

-- two terms slide past one another
pub named-cross : {X : Type 0} {h k : Morphism} {a b c d : List Sort} → Arrow h a b → Arrow k c d → (A : EdgeOf h → X) (B : EdgeOf k → X)
    → Named (then (beside h (identity c)) (beside (identity b) k)) (then (beside (identity a) k) (beside h (identity d)))
    (either (either A none) (either none B)) (either (either none B) (either A none))
named-cross {a = a} {b = b} {c = c} {d = d} f g A B =
    named-chain (named-exchange f (id_arrow c) (id_arrow b) g A none none B)
    (named-chain (named-beside (named-chain (named-right f A) (named-back (named-left f A))) (named-chain (named-left g B) (named-back (named-right g B))))
    (named-back (named-exchange (id_arrow a) g f (id_arrow d) none B A none)))
