-- With which edges or wires a component may begin.
use Rattle.std.proofs.Common.{ℕ, ◌+◌, ◌<◌, ◌≤◌, ◌≡◌, true, List, [], ◌∷◌, length, Option, Some, None, slice_get, ◌⊎◌, inl, inr, refl, sym, ◌∙◌, ap, subst, arith}
use Rattle.std.specs.Str.{bytes_eq}
use Rattle.std.proofs.lemmas.Bool.{cases_lt}
use Rattle.chyp_base.specs.declared.sort.Sort.{Sort}
use Rattle.chyp_term.proofs.Permuted.{found}
use Rattle.chyp_term.proofs.Positions.{slice_get-length}
use Rattle.chyp_graph.specs.PlainGraph.{Edge, PlainGraph}
use Rattle.chyp_pattern.specs.Pattern.{Parts}
use Rattle.chyp_pattern.specs.Occurrence.{IsOccurrence}
use Rattle.chyp_pattern.specs.declared.anchor.Anchor.{Anchor}
use Rattle.chyp_pattern.specs.declared.anchor.Anchor.TheVariants.{Edge as AtEdge, Wire as AtWire}
use Rattle.chyp_pattern.specs.declared.occurrence.Occurrence.{Occurrence}
use Rattle.chyp_pairs.specs.Pairs.{Pairs}
use Rattle.chyp_match.specs.Following.{Refutes}
use Rattle.chyp_match.specs.Listed.{edges_named, wires_sorted}
use Rattle.chyp_pattern.specs.Placements.{IsThere}
use Rattle.chyp_match.specs.Search.{AreRuledOut, AreThere, IsPlaced, choices, chosen, image_of, seed_of}
use Rattle.chyp_match.specs.declared.level.Level.{Level}
use Rattle.chyp_match.proofs.Bounding.{begins}
use Rattle.chyp_match.proofs.Choosing.{ids-all, ids-increase, ids-sound}
use Rattle.chyp_match.proofs.Embedded.{maps-one}
use Rattle.chyp_match.proofs.Named.{same-bytes}
use Rattle.chyp_match.proofs.Placing.{embedding_of, placed-maps, seed-maps}

-- ## the choices of an anchor that is there

module _ (l g : PlainGraph) where
  -- the choices are the edges of a name, or the wires of a sort
  edge-choices : (k : ℕ) (e : Edge) → slice_get l.edges k ≡ Some e → choices l g (AtEdge k) ≡ edges_named g e.name
  edge-choices k e q = rw q refl

  wire-choices : (w : ℕ) (sort : Sort) → slice_get l.wires w ≡ Some sort → choices l g (AtWire w) ≡ wires_sorted g sort.name
  wire-choices w sort q = rw q refl

  pub choice-there : (a : Anchor) (j x : ℕ) → IsThere l a → slice_get (choices l g a) j ≡ Some x → AreThere l g (seed_of a x)
  choice-there (AtEdge k) j x h q =
      let e = found l.edges k h in
      let r = ids-sound (λ (d : Edge). bytes_eq e.0.name d.name) 0 g.edges j x (ap (λ xs. slice_get xs j) (sym (edge-choices k e.0 e.1)) ∙ q) in
      let b = slice_get-length g.edges r.0 r.1 r.3 in
      let m = r.2 in
      (h, omega arith)
  choice-there (AtWire w) j x h q =
      let e = found l.wires w h in
      let r = ids-sound (λ (d : Sort). bytes_eq e.0.name d.name) 0 g.wires j x (ap (λ xs. slice_get xs j) (sym (wire-choices w e.0 e.1)) ∙ q) in
      let b = slice_get-length g.wires r.0 r.1 r.3 in
      let m = r.2 in
      (h, omega arith)

  pub choices-increase : (a : Anchor) → IsThere l a → (i j x y : ℕ) → i < j → slice_get (choices l g a) i ≡ Some x → slice_get (choices l g a) j ≡ Some y → x < y
  choices-increase (AtEdge k) h i j x y b p q =
      let e = found l.edges k h in
      let s = edge-choices k e.0 e.1 in
      ids-increase (λ (d : Edge). bytes_eq e.0.name d.name) 0 g.edges i j x y b (ap (λ xs. slice_get xs i) (sym s) ∙ p) (ap (λ xs. slice_get xs j) (sym s) ∙ q)
  choices-increase (AtWire w) h i j x y b p q =
      let e = found l.wires w h in
      let s = wire-choices w e.0 e.1 in
      ids-increase (λ (d : Sort). bytes_eq e.0.name d.name) 0 g.wires i j x y b (ap (λ xs. slice_get xs i) (sym s) ∙ p) (ap (λ xs. slice_get xs j) (sym s) ∙ q)

  -- an occurrence takes the anchor to one of its choices
  pub choices-all : (o : Occurrence) → IsOccurrence l g o.edges o.wires → (a : Anchor) → IsThere l a → (j : ℕ) × (slice_get (choices l g a) j ≡ Some (image_of o a))
  choices-all o q (AtEdge k) h =
      let m = begins l g o q (AtEdge k) h in
      let named = m.2 in
      let same : bytes_eq m.0.name named.edge.name ≡ true = subst (λ n. bytes_eq m.0.name n ≡ true) (sym named.named) (same-bytes m.0.name) in
      let r = ids-all (λ (d : Edge). bytes_eq m.0.name d.name) 0 g.edges (image_of o (AtEdge k)) named.edge named.is same in
      let z : 0 + image_of o (AtEdge k) ≡ image_of o (AtEdge k) = omega arith in
      (r.0, ap (λ xs. slice_get xs r.0) (edge-choices k m.0 m.1) ∙ r.1 ∙ ap (λ v. Some v) z)
  choices-all o q (AtWire w) h =
      let m = begins l g o q (AtWire w) h in
      let r = ids-all (λ (d : Sort). bytes_eq m.0.name d.name) 0 g.wires (image_of o (AtWire w)) m.0 m.2 (same-bytes m.0.name) in
      let z : 0 + image_of o (AtWire w) ≡ image_of o (AtWire w) = omega arith in
      (r.0, ap (λ xs. slice_get xs r.0) (wire-choices w m.0 m.1) ∙ r.1 ∙ ap (λ v. Some v) z)

-- ## choices that no occurrence takes

module _ (l : Parts) (g : PlainGraph) where
  pub ruled-none : (ns : List ℕ) (a : Anchor) (from : ℕ) → AreRuledOut l g ns a from from
  ruled-none ns a from o q b j f t e = omega arith

  pub ruled-more : (s : Pairs) (levels : List Level) (a : Anchor) (from place x : ℕ) → IsPlaced l g s levels → slice_get (choices l.graph g a) place ≡ Some x
      → Refutes l.graph g (seed_of a x ∷ []) s.pairs → AreRuledOut l g (chosen levels) a from place → AreRuledOut l g (chosen levels) a from (place + 1)
  ruled-more s levels a from place x p c r ih o q b j f t e = go (cases_lt j place)
    where
      go : (j < place) ⊎ (place ≤ j) → ⊥
      go (inl m) = ih o q b j f m e
      go (inr m) =
          let at : j ≡ place = omega arith in
          let both : ◌≡◌ {A = Option ℕ} (Some (image_of o a)) (Some x) = sym e ∙ ap (slice_get (choices l.graph g a)) at ∙ c in
          let one : image_of o a ≡ x = cc in
          r (embedding_of o q) (placed-maps l g s levels p o q b) (maps-one (embedding_of o q) (seed_of a x) (seed-maps o q a x one))

  none-behind : {A : Type 0} (xs : List A) (i : ℕ) → slice_get xs i ≡ None → length xs ≤ i
  none-behind xs i e = go (cases_lt i (length xs))
    where
      go : (i < length xs) ⊎ (length xs ≤ i) → length xs ≤ i
      go (inl h) = let f = found xs i h in let c = sym e ∙ f.1 in absurd (cc)
      go (inr h) = h

  pub ruled-end : (ns : List ℕ) (a : Anchor) (from place : ℕ) → slice_get (choices l.graph g a) place ≡ None → AreRuledOut l g ns a from place
      → AreRuledOut l g ns a from (length (choices l.graph g a))
  ruled-end ns a from place c r o q b j f t e = let m = none-behind (choices l.graph g a) place c in r o q b j f (omega arith) e
