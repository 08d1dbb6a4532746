-- Counting edges and wires one by one, and the product of the counts.
use Rattle.std.proofs.Common.{[], ℕ, zero, suc, ◌+◌, ◌*◌, ◌<◌, ◌≤◌, ◌≡◌, min, List, ◌∷◌, ◌++◌, length, take, map, Some, slice_get, length-append, mul_assoc, mul-suc, ◌⊎◌, inl, inr, refl}
use Rattle.std.proofs.Common.{sym, ◌∙◌, ap, subst, arith}
use Rattle.std.proofs.lemmas.Bool.{cases_lt}
use Rattle.std.proofs.lemmas.List.{take_all}
use Rattle.chyp_base.specs.declared.sort.Sort.{Sort}
use Rattle.chyp_term.proofs.Positions.{slice_get-length}
use Rattle.chyp_term.proofs.Members.{Member, get-member, map-member, member-split, member-Contains}
use Rattle.chyp_term.proofs.Slices.{take-suc}
use Rattle.chyp_pattern.specs.Pattern.{Parts}
use Rattle.chyp_graph.specs.declared.edge_part.EdgePart.{EdgePart}
use Rattle.chyp_pattern.specs.Component.{AreAnchors}
use Rattle.chyp_graph.specs.PlainGraph.{PlainGraph}
use Rattle.chyp_pattern.specs.declared.anchor.Anchor.{Anchor}
use Rattle.chyp_pattern.specs.declared.anchor.Anchor.TheVariants.{Edge, Wire}
use Rattle.chyp_pattern.proofs.Anchoring.{AreThoseBelow, those-end, those-push, those-skip}
use Rattle.chyp_pattern.specs.Placements.{ArePlacements, AreCounts, BeginAlike, IsCount, IsKnownBefore, IsNamed, IsOfSort, IsThere, MayBegin, product}

-- ## counting

-- so many numbers below n have the property
pub record IsCountBelow (P : ℕ → Type 0) (n count : ℕ) : Type 0 where
  pub those : List ℕ
  pub are : AreThoseBelow P n those
  pub is : length those ≡ count
  pub few : count ≤ n

pub count-push : (P : ℕ → Type 0) (n count : ℕ) → IsCountBelow P n count → P n → IsCountBelow P (n + 1) (count + 1)
count-push P n count c p =
    let l = length-append c.those (n ∷ []) in
    let i = c.is in
    let f = c.few in
    record { those = c.those ++ n ∷ []; are = those-push P n c.those c.are p; is = omega arith; few = omega arith }

pub count-skip : (P : ℕ → Type 0) (n count : ℕ) → IsCountBelow P n count → (P n → ⊥) → IsCountBelow P (n + 1) count
count-skip P n count c none = let f = c.few in record { those = c.those; are = those-skip P n c.those c.are none; is = c.is; few = omega arith }

pub count-end : (P : ℕ → Type 0) (n count : ℕ) → ((k : ℕ) → P k → k < n) → IsCountBelow P n count → IsCount P count
count-end P n count within c = (c.those, those-end P n c.those within c.are, c.is)

pub count-same : (P Q : ℕ → Type 0) (n : ℕ) → ((k : ℕ) → P k → Q k) → ((k : ℕ) → Q k → P k) → IsCount P n → IsCount Q n
count-same P Q n f g c = (c.0, record { increasing = c.1.increasing; members = λ k. let m = c.1.members k in (λ h. f k (m.0 h), λ q. m.1 (g k q)) }, c.2)

pub named-one : (g : PlainGraph) (name : List ℕ) (k : ℕ) (e : EdgePart) → slice_get g.edges k ≡ Some e → IsNamed g name k → e.name ≡ name
named-one g name k e is p = let both : Some e ≡ Some p.edge = sym is ∙ p.is in let one : e ≡ p.edge = cc in ap (λ (e : EdgePart). e.name) one ∙ p.named

pub named-below : (g : PlainGraph) (name : List ℕ) (n : ℕ) → n ≡ length g.edges → (k : ℕ) → IsNamed g name k → k < n
named-below g name n is k p = subst (λ n. k < n) (sym is) (slice_get-length g.edges k p.edge p.is)

pub sort-below : (g : PlainGraph) (sort : Sort) (n : ℕ) → n ≡ length g.wires → (k : ℕ) → IsOfSort g sort k → k < n
sort-below g sort n is k p = subst (λ n. k < n) (sym is) (slice_get-length g.wires k sort p)

pub sort-one : (g : PlainGraph) (s t : Sort) (k : ℕ) → slice_get g.wires k ≡ Some s → IsOfSort g t k → s ≡ t
sort-one g s t k is p = let both : Some s ≡ Some t = sym is ∙ p in cc

pub named-count : (l g : PlainGraph) (k : ℕ) (e : EdgePart) (name : List ℕ) (n : ℕ) → slice_get l.edges k ≡ Some e → e.name ≡ name → IsCount (IsNamed g name) n → IsCount (MayBegin l g (Edge k)) n
named-count l g k e name n is named c =
    count-same (IsNamed g name) (MayBegin l g (Edge k)) n (λ j p. (e, is, subst (λ name. IsNamed g name j) (sym named) p))
    (λ j q. let both : Some q.0 ≡ Some e = sym q.1 ∙ is in let one : q.0 ≡ e = cc in subst (λ name. IsNamed g name j) (ap (λ (e : EdgePart). e.name) one ∙ named) q.2) c

pub sort-count : (l g : PlainGraph) (w : ℕ) (sort : Sort) (n : ℕ) → slice_get l.wires w ≡ Some sort → IsCount (IsOfSort g sort) n → IsCount (MayBegin l g (Wire w)) n
sort-count l g w sort n is c =
    count-same (IsOfSort g sort) (MayBegin l g (Wire w)) n (λ j p. (sort, is, p))
    (λ j q. let both : Some q.0 ≡ Some sort = sym q.1 ∙ is in let one : q.0 ≡ sort = cc in subst (λ s. IsOfSort g s j) one q.2) c

-- components that begin alike may begin in as many ways
pub alike-count : (l g : PlainGraph) (a b : Anchor) (n : ℕ) → BeginAlike l a b → IsCount (MayBegin l g a) n → IsCount (MayBegin l g b) n
alike-count l g (Edge j) (Edge k) n t c = named-count l g k t.1 t.0.name n t.3 (sym t.4) (count-same (MayBegin l g (Edge j)) (IsNamed g t.0.name) n
    (λ i q. let both : Some q.0 ≡ Some t.0 = sym q.1 ∙ t.2 in let one : q.0 ≡ t.0 = cc in subst (λ (e : EdgePart). IsNamed g e.name i) one q.2) (λ i p. (t.0, t.2, p)) c)
alike-count l g (Wire v) (Wire w) n t c = count-same (MayBegin l g (Wire v)) (MayBegin l g (Wire w)) n (λ j q. (q.0, sym t ∙ q.1, q.2)) (λ j q. (q.0, t ∙ q.1, q.2)) c
alike-count l g (Edge j) (Wire w) n t c = absurd t
alike-count l g (Wire v) (Edge k) n t c = absurd t

-- ## anchors

pub anchor-there : (g : PlainGraph) (anchors : List Anchor) → AreAnchors g anchors → (k : ℕ) (a : Anchor) → slice_get anchors k ≡ Some a → IsThere g a
anchor-there g anchors t k a at = go (member-split (map Edge t.edges) (map Wire t.wires) a (subst (Member a) t.is (get-member anchors k a at)))
  where
    go : (Member a (map Edge t.edges)) ⊎ (Member a (map Wire t.wires)) → IsThere g a
    go (inl m) = let r = map-member Edge t.edges a m in let f = t.first_edges.members r.0 in subst (IsThere g) r.2 ((f.0 (member-Contains t.edges r.0 r.1)).there)
    go (inr m) = let r = map-member Wire t.wires a m in let f = t.bare_wires.members r.0 in subst (IsThere g) r.2 ((f.0 (member-Contains t.wires r.0 r.1)).there)

-- ## the product

pub counts-push : (l g : PlainGraph) (others : List Anchor) (ns : List ℕ) (a : Anchor) (n : ℕ) → AreCounts l g others ns → IsCount (MayBegin l g a) n
    → AreCounts l g (others ++ a ∷ []) (ns ++ n ∷ [])
counts-push l g [] [] a n t c = (c, tt)
counts-push l g [] (m ∷ ns) a n t c = absurd t
counts-push l g (b ∷ others) [] a n t c = absurd t
counts-push l g (b ∷ others) (m ∷ ns) a n t c = (t.0, counts-push l g others ns a n t.1 c)

product-push : (ns : List ℕ) (n : ℕ) → product (ns ++ n ∷ []) ≡ product ns * n
product-push [] n = omega arith
product-push (m ∷ ns) n = ap (λ p. m * p) (product-push ns n) ∙ sym (mul_assoc m (product ns) n)

abbrev most : ℕ
most = 18446744073709551615

-- a product that stops at the most stops there again where it is multiplied once more
sated : (p n : ℕ) → min (min p most * n) most ≡ min (p * n) most
sated p n = go n (cases_lt most p)
  where
    go : (n : ℕ) → (most < p) ⊎ (p ≤ most) → min (min p most * n) most ≡ min (p * n) most
    go n (inr b) = ap (λ q. min (q * n) most) (omega arith)
    go zero (inl b) = omega arith
    go (suc n) (inl b) =
        let q : min p most ≡ most = omega arith in
        let one : p * suc n ≡ p * n + p = mul-suc p n in
        let left : min (most * suc n) most ≡ most = omega arith in
        let right : min (p * n + p) most ≡ most = omega arith in
        ap (λ q. min (q * suc n) most) q ∙ left ∙ sym (ap (λ x. min x most) one ∙ right)

-- the product of the counts of the first k anchors, as far as it goes
pub record IsProductOf (l : Parts) (g : PlainGraph) (k n : ℕ) : Type 0 where
  pub counts : List ℕ
  pub are : AreCounts l.graph g (take k l.anchors) counts
  pub is : n ≡ min (product counts) most

pub product-none : (l : Parts) (g : PlainGraph) → IsProductOf l g 0 1
product-none l g = record { counts = []; are = tt; is = refl }

pub product-more : (l : Parts) (g : PlainGraph) (k n m r : ℕ) (a : Anchor) → slice_get l.anchors k ≡ Some a → IsProductOf l g k n → IsCount (MayBegin l.graph g a) m
    → r ≡ min (n * m) most → IsProductOf l g (k + 1) r
product-more l g k n m r a at t c is =
    record {
      counts = t.counts ++ m ∷ [];
      are = subst (λ others. AreCounts l.graph g others (t.counts ++ m ∷ [])) (sym (take-suc l.anchors k a at)) (counts-push l.graph g (take k l.anchors) t.counts a m t.are c);
      is = is ∙ ap (λ n. min (n * m) most) t.is ∙ sated (product t.counts) m ∙ ap (λ p. min p most) (sym (product-push t.counts m));
    }

pub product-end : (l : Parts) (g : PlainGraph) (k n : ℕ) → length l.anchors ≤ k → IsProductOf l g k n → ArePlacements l g n
product-end l g k n b t = record { counts = t.counts; are = subst (λ others. AreCounts l.graph g others t.counts) (take_all k l.anchors b) t.are; is = t.is }

pub known-none : (l : Parts) (g : PlainGraph) (n : ℕ) → IsKnownBefore l g 0 n
known-none l g n j a e h = absurd (omega arith)

pub known-next : (l : Parts) (g : PlainGraph) (k n : ℕ) (a : Anchor) → slice_get l.anchors k ≡ Some a → IsCount (MayBegin l.graph g a) n → IsKnownBefore l g (k + 1) n
known-next l g k n a at c j b e h =
    let i : j ≡ k = omega arith in
    let both : Some b ≡ Some a = sym h ∙ ap (slice_get l.anchors) i ∙ at in
    let is : a ≡ b = cc in
    subst (λ a. IsCount (MayBegin l.graph g a) n) is c
