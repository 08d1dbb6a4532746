-- The first edges of components, and bare wires, in order.
use Rattle.std.proofs.Common.{[], ℕ, ◌+◌, ◌<◌, ◌≤◌, ◌≡◌, Bool, true, false, not, List, ◌∷◌, ◌++◌, length, map, Option, Some, slice_get, slice_index, length-append, ◌⊎◌, inl, inr, IsNone}
use Rattle.std.proofs.Common.{Contains, ◌↔◌, refl, sym, ◌∙◌, ap, ap₂, subst, arith, append-nil, append_assoc}
use Rattle.std.specs.Bool.{MatchBool}
use Rattle.std.specs.Option.{is_some}
use Rattle.std.proofs.lemmas.Bool.{cases_lt}
use Rattle.std.proofs.lemmas.List.{length-map}
use Rattle.chyp_term.specs.Perm.{IsPermutation}
use Rattle.chyp_term.specs.Positions.{is_apart}
use Rattle.chyp_term.proofs.Closure.{get-index}
use Rattle.chyp_term.proofs.Inverting.{pigeonhole}
use Rattle.chyp_term.proofs.Positions.{slice_get-length}
use Rattle.chyp_term.proofs.Members.{Member, Rearr-member, below-member, get-member, member-left, member-not_apart, member-right, member-split, not_member-apart, Contains-member, member-Contains}
use Rattle.chyp_term.proofs.Rearrangement.{permutation-Rearr}
use Rattle.chyp_term.proofs.Slices.{push-cases}
use Rattle.chyp_pattern.specs.declared.anchor.Anchor.{Anchor}
use Rattle.chyp_pattern.specs.declared.anchor.Anchor.TheVariants.{Edge, Wire}
use Rattle.chyp_pattern.specs.Component.{AreAnchors, AreJoined, AreThose, IsBare, IsFirstEdge, IsIncreasing}
use Rattle.chyp_graph.specs.PlainGraph.{PlainGraph, sources_of, targets_of}
use Rattle.chyp_pattern.specs.Sweep.{Found, IsClosed, IsComponentFound}
use Rattle.chyp_graph.specs.Validity.{IsValid}
use Rattle.chyp_pattern.proofs.Joined.{grown, joined-sym, joined-trans}
use Rattle.chyp_graph.proofs.Removing.{Once-apart, Once-perm}

-- ## the numbers below n for which something holds

pub record AreThoseBelow (P : ℕ → Type 0) (n : ℕ) (ns : List ℕ) : Type 0 where
  pub increasing : IsIncreasing ns
  pub below : (k : ℕ) → Contains ns k → (k < n) × P k
  pub all : (k : ℕ) → k < n → P k → Contains ns k

pub those-none : (P : ℕ → Type 0) → AreThoseBelow P 0 []
those-none P =
    record {
      increasing = λ i j m n l a b. cc;
      below = λ k c. absurd (Contains-member [] k c);
      all = λ k l p. absurd (omega arith);
    }

pub those-push : (P : ℕ → Type 0) (n : ℕ) (ns : List ℕ) → AreThoseBelow P n ns → P n → AreThoseBelow P (n + 1) (ns ++ n ∷ [])
those-push P n ns t p =
    record {
      increasing = λ i j a b l f g. up i j a b l (push-cases ns n i a f) (push-cases ns n j b g);
      below = λ k c. low k (member-split ns (n ∷ []) k (Contains-member _ k c));
      all = λ k l q. member-Contains (ns ++ n ∷ []) k (high k l q (cases_lt k n));
    }
  where
    last : (i a : ℕ) → slice_get ns i ≡ Some a → a < n
    last i a f = (t.below a (member-Contains ns a (get-member ns i a f))).0

    up : (i j a b : ℕ) → i < j → (slice_get ns i ≡ Some a) ⊎ ((i ≡ length ns) × (a ≡ n)) → (slice_get ns j ≡ Some b) ⊎ ((j ≡ length ns) × (b ≡ n)) → a < b
    up i j a b l (inl f) (inl g) = t.increasing i j a b l f g
    up i j a b l (inl f) (inr g) = subst (λ b. a < b) (sym g.1) (last i a f)
    up i j a b l (inr f) (inl g) = let s = slice_get-length ns j b g in let e = f.0 in absurd (omega arith)
    up i j a b l (inr f) (inr g) = let e = f.0 in let d = g.0 in absurd (omega arith)

    low : (k : ℕ) → (Member k ns) ⊎ (Member k (n ∷ [])) → (k < n + 1) × P k
    low k (inl m) = let r = t.below k (member-Contains ns k m) in let l = r.0 in (omega arith, r.1)
    low k (inr (inl e)) = (omega arith, subst P e p)
    low k (inr (inr h)) = absurd h

    high : (k : ℕ) → k < n + 1 → P k → (k < n) ⊎ (n ≤ k) → Member k (ns ++ n ∷ [])
    high k l q (inl b) = member-left ns (n ∷ []) k (Contains-member ns k (t.all k b q))
    high k l q (inr b) = let e : n ≡ k = omega arith in member-right ns (n ∷ []) k (inl e)

pub those-skip : (P : ℕ → Type 0) (n : ℕ) (ns : List ℕ) → AreThoseBelow P n ns → (P n → ⊥) → AreThoseBelow P (n + 1) ns
those-skip P n ns t none =
    record {
      increasing = t.increasing;
      below = λ k c. let r = t.below k c in let l = r.0 in (omega arith, r.1);
      all = λ k l q. high k l q (cases_lt k n);
    }
  where
    high : (k : ℕ) → k < n + 1 → P k → (k < n) ⊎ (n ≤ k) → Contains ns k
    high k l q (inl b) = t.all k b q
    high k l q (inr b) = let e : k ≡ n = omega arith in absurd (none (subst P e q))

pub those-end : (P : ℕ → Type 0) (n : ℕ) (ns : List ℕ) → ((k : ℕ) → P k → k < n) → AreThoseBelow P n ns → AreThose P ns
those-end P n ns few t = record { increasing = t.increasing; members = λ k. (λ c. (t.below k c).1, λ p. t.all k (few k p) p) }

map-push : {A B : Type 0} (f : A → B) (xs : List A) (x : A) → map f (xs ++ x ∷ []) ≡ map f xs ++ f x ∷ []
map-push f [] x = refl
map-push f (y ∷ xs) x = ap (λ ys. f y ∷ ys) (map-push f xs x)

-- ## first edges

-- the anchors are the first edges below n, and what is found are the edges joined with those below n
pub record AreFirstBelow (g : PlainGraph) (n : ℕ) (anchors : List Anchor) (s : Found) : Type 0 where
  pub room : s.edges ≡ length g.edges
  pub edges : List ℕ
  pub is : anchors ≡ map Edge edges
  pub those : AreThoseBelow (IsFirstEdge g) n edges
  pub found : (j k : ℕ) → j < n → AreJoined g j k → Contains s.found k
  pub only : (k : ℕ) → Contains s.found k → (j : ℕ) × (j < n) × AreJoined g j k

pub first-closed : (g : PlainGraph) (n : ℕ) (anchors : List Anchor) (s : Found) → AreFirstBelow g n anchors s → IsClosed g s.found
first-closed g n anchors s t j k c a = let r = t.only j c in t.found r.0 k r.1 (joined-trans g r.0 j k r.2 a)

pub first-skip : (g : PlainGraph) (n : ℕ) (anchors : List Anchor) (s : Found) → AreFirstBelow g n anchors s → Contains s.found n → AreFirstBelow g (n + 1) anchors s
first-skip g n anchors s t c =
    record {
      room = t.room;
      edges = t.edges;
      is = t.is;
      those = those-skip (IsFirstEdge g) n t.edges t.those (λ f. let r = t.only n c in let l = r.1 in let m = f.first r.0 (joined-sym g r.0 n r.2) in omega arith);
      found = λ j k l a. in-range j k a (cases_lt j n) l;
      only = λ k h. let r = t.only k h in let l = r.1 in (r.0, omega arith, r.2);
    }
  where
    in-range : (j k : ℕ) → AreJoined g j k → (j < n) ⊎ (n ≤ j) → j < n + 1 → Contains s.found k
    in-range j k a (inl b) l = t.found j k b a
    in-range j k a (inr b) l = let e : j ≡ n = omega arith in first-closed g n anchors s t n k c (subst (λ j. AreJoined g j k) e a)

pub first-push : (g : PlainGraph) (n : ℕ) (anchors after : List Anchor) (s t : Found) → AreFirstBelow g n anchors s → n < length g.edges → (Contains s.found n → ⊥)
    → after ≡ anchors ++ Edge n ∷ [] → IsComponentFound g n s t
    → AreFirstBelow g (n + 1) after t
first-push g n anchors after s t a b new is f =
    record {
      room = f.grows.edges ∙ a.room;
      edges = a.edges ++ n ∷ [];
      is = is ∙ ap (λ xs. xs ++ Edge n ∷ []) a.is ∙ sym (map-push Edge a.edges n);
      those = those-push (IsFirstEdge g) n a.edges a.those (record { there = b; first = λ l j. least l j (cases_lt l n) });
      found = λ j k l h. in-range j k h (cases_lt j n) l;
      only = λ k h. from k (f.only k h);
    }
  where
    least : (l : ℕ) → AreJoined g n l → (l < n) ⊎ (n ≤ l) → n ≤ l
    least l j (inl c) = absurd (new (a.found l n c (joined-sym g n l j)))
    least l j (inr c) = c

    in-range : (j k : ℕ) → AreJoined g j k → (j < n) ⊎ (n ≤ j) → j < n + 1 → Contains t.found k
    in-range j k h (inl c) l = grown s t f.grows k (a.found j k c h)
    in-range j k h (inr c) l = let e : j ≡ n = omega arith in f.found k (subst (λ j. AreJoined g j k) e h)

    from : (k : ℕ) → (Contains s.found k) ⊎ AreJoined g n k → (j : ℕ) × (j < n + 1) × AreJoined g j k
    from k (inl c) = let r = a.only k c in let l = r.1 in (r.0, omega arith, r.2)
    from k (inr j) = (n, omega arith, j)

pub first-end : (g : PlainGraph) (n : ℕ) (anchors : List Anchor) (s : Found) → n ≡ length g.edges → AreFirstBelow g n anchors s
    → (edges : List ℕ) × (anchors ≡ map Edge edges) × AreThose (IsFirstEdge g) edges
first-end g n anchors s is t = (t.edges, t.is, those-end (IsFirstEdge g) n t.edges (λ k f. subst (λ n. k < n) (sym is) f.there) t.those)

-- ## bare wires

pub record AreBareBelow (g : PlainGraph) (n : ℕ) (anchors after : List Anchor) : Type 0 where
  pub wires : List ℕ
  pub is : after ≡ anchors ++ map Wire wires
  pub those : AreThoseBelow (IsBare g) n wires

pub bare-none : (g : PlainGraph) (anchors : List Anchor) → AreBareBelow g 0 anchors anchors
bare-none g anchors = record { wires = []; is = sym (append-nil anchors); those = those-none (IsBare g) }

pub bare-skip : (g : PlainGraph) (n : ℕ) (anchors after : List Anchor) → AreBareBelow g n anchors after → (IsBare g n → ⊥) → AreBareBelow g (n + 1) anchors after
bare-skip g n anchors after t none = record { wires = t.wires; is = t.is; those = those-skip (IsBare g) n t.wires t.those none }

pub bare-push : (g : PlainGraph) (n : ℕ) (anchors after new : List Anchor) → AreBareBelow g n anchors after → IsBare g n → new ≡ after ++ Wire n ∷ [] → AreBareBelow g (n + 1) anchors new
bare-push g n anchors after new t bare is =
    record {
      wires = t.wires ++ n ∷ [];
      is = is ∙ ap (λ xs. xs ++ Wire n ∷ []) t.is ∙ append_assoc anchors (map Wire t.wires) (Wire n ∷ []) ∙ ap (λ xs. anchors ++ xs) (sym (map-push Wire t.wires n));
      those = those-push (IsBare g) n t.wires t.those bare;
    }

pub bare-end : (g : PlainGraph) (n : ℕ) (anchors after : List Anchor) → n ≡ length g.wires → AreBareBelow g n anchors after
    → (wires : List ℕ) × (after ≡ anchors ++ map Wire wires) × AreThose (IsBare g) wires
bare-end g n anchors after is t = (t.wires, t.is, those-end (IsBare g) n t.wires (λ k f. subst (λ n. k < n) (sym is) f.there) t.those)

bare-if : (g : PlainGraph) → IsValid g → (w : ℕ) → w < length g.wires → Contains g.inputs w → Contains g.outputs w → IsBare g w
bare-if g v w b i o =
    record {
      there = b;
      unmade = not_member-apart (targets_of g.edges) w (Once-apart g.inputs (targets_of g.edges) (Once-perm _ _ v.producers) w (Contains-member g.inputs w i));
      unused = not_member-apart (sources_of g.edges) w (Once-apart g.outputs (sources_of g.edges) (Once-perm _ _ v.consumers) w (Contains-member g.outputs w o));
    }

-- a wire is an end where it is no port
an-end : (n : ℕ) (ends ports : List ℕ) → IsPermutation n (ends ++ ports) → (w : ℕ) → w < n → is_apart ports w ≡ true → Contains ends w
an-end n ends ports t w b none = member-Contains ends w (go (member-split ends ports w (Rearr-member w (permutation-Rearr n _ t) (below-member n w b))))
  where
    go : (Member w ends) ⊎ (Member w ports) → Member w ends
    go (inl m) = m
    go (inr m) = let a = member-not_apart ports w m in let e : true ≡ false = sym none ∙ a in cc

none-of : (r : Option (ℕ × ℕ)) (b : Bool) → is_some r ≡ not b → b ≡ true → IsNone r
none-of r b is t = is ∙ ap not t

some-of : (r : Option (ℕ × ℕ)) (b : Bool) → is_some r ≡ not b → b ≡ false → IsNone r → ⊥
some-of r b is f none = let e : true ≡ false = sym (is ∙ ap not f) ∙ none in cc

pub bare-match : (g : PlainGraph) → IsValid g → (w : ℕ) → w < length g.wires → (made used : Option (ℕ × ℕ)) (a b : Bool) → (IsNone made ↔ Contains g.inputs w) → (IsNone used ↔ Contains g.outputs w)
    → is_some made ≡ not a → is_some used ≡ not b → a ≡ true → MatchBool b (IsBare g w) (IsBare g w → ⊥)
bare-match g v w l made used a b m u p q t = go b refl
  where
    go : (c : Bool) → b ≡ c → MatchBool c (IsBare g w) (IsBare g w → ⊥)
    go true e = bare-if g v w l (m.0 (none-of made a p t)) (u.0 (none-of used b q e))
    go false e = λ bare. some-of used b q e (u.1 (an-end (length g.wires) g.outputs (sources_of g.edges) v.consumers w l bare.unused))

pub made-match : (g : PlainGraph) → IsValid g → (w : ℕ) → w < length g.wires → (made : Option (ℕ × ℕ)) (a : Bool) → (IsNone made ↔ Contains g.inputs w)
    → is_some made ≡ not a → a ≡ false → MatchBool a (IsBare g w) (IsBare g w → ⊥)
made-match g v w l made a m p f =
    subst (λ a. MatchBool a (IsBare g w) (IsBare g w → ⊥)) (sym f) (λ bare. some-of made a p f (m.1 (an-end (length g.wires) g.inputs (targets_of g.edges) v.producers w l bare.unmade)))

-- ## how many there are

those-few : (P : ℕ → Type 0) (ns : List ℕ) (n : ℕ) → AreThose P ns → ((k : ℕ) → P k → k < n) → length ns ≤ n
those-few P ns n t few =
    pigeonhole n ns (λ i j h l e. apart i j h l e (cases_lt i j) (cases_lt j i))
    (λ i h. few (slice_index ns i) ((t.members (slice_index ns i)).0 (member-Contains ns (slice_index ns i) (get-member ns i (slice_index ns i) (get-index ns i h)))))
  where
    apart : (i j : ℕ) → i < length ns → j < length ns → slice_index ns i ≡ slice_index ns j → (i < j) ⊎ (j ≤ i) → (j < i) ⊎ (i ≤ j) → i ≡ j
    apart i j h l e (inl a) b = let c = t.increasing i j (slice_index ns i) (slice_index ns j) a (get-index ns i h) (get-index ns j l) in absurd (omega arith)
    apart i j h l e (inr a) (inl b) = let c = t.increasing j i (slice_index ns j) (slice_index ns i) b (get-index ns j l) (get-index ns i h) in absurd (omega arith)
    apart i j h l e (inr a) (inr b) = omega arith

pub anchors-few : (g : PlainGraph) (all : List Anchor) → length g.edges < 2147483648 → length g.wires < 2147483648 → AreAnchors g all → length all < 4294967296
anchors-few g anchors m n t =
    let e = those-few (IsFirstEdge g) t.edges (length g.edges) t.first_edges (λ k f. f.there) in
    let w = those-few (IsBare g) t.wires (length g.wires) t.bare_wires (λ k f. f.there) in
    let a : length anchors ≡ length t.edges + length t.wires =
    ap length t.is ∙ length-append (map Edge t.edges) (map Wire t.wires) ∙ ap₂ (λ m n. m + n) (length-map t.edges Edge) (length-map t.wires Wire) in
    omega arith

pub anchors-all : (g : PlainGraph) (first all : List Anchor) → ((edges : List ℕ) × (first ≡ map Edge edges) × AreThose (IsFirstEdge g) edges)
    → ((wires : List ℕ) × (all ≡ first ++ map Wire wires) × AreThose (IsBare g) wires) → AreAnchors g all
anchors-all g first all e w = record { edges = e.0; wires = w.0; is = w.1 ∙ ap (λ xs. xs ++ map Wire w.0) e.1; first_edges = e.2; bare_wires = w.2 }
