-- A run has at most one end.
use Rattle.std.proofs.Common.{ℕ, zero, suc, ◌<◌, ◌≤◌, ◌≡◌, List, length, Option, Some, slice_get, ◌⊎◌, inl, inr, refl, sym, ◌∙◌, ap, ap₂, subst, arith}
use Rattle.std.proofs.lemmas.Bool.{cases_lt}
use Rattle.chyp_term.proofs.Members.{Contains-member, member-get}
use Rattle.chyp_term.proofs.Positions.{slice_get-length, some-same}
use Rattle.chyp_graph.specs.PlainGraph.{PlainGraph}
use Rattle.chyp_pattern.specs.Occurrences.{IsBefore}
use Rattle.chyp_pattern.specs.Replacement.{replaced}
use Rattle.chyp_pattern.specs.declared.occurrence.Occurrence.{Occurrence}
use Rattle.chyp_pattern.proofs.Listed.{are-listed, listed}
use Rattle.chyp_simp.specs.declared.ending.Ending.{Ending}
use Rattle.chyp_simp.specs.declared.ending.Ending.TheVariants.{AtLimit, NormalForm, TooWide}
use Rattle.chyp_simp.specs.Run.{AreIdle, Ends, HavePlacements, IsIdle, IsLeast, ComesTo, IsWide, Rewrites, RewritesIn, Rule, Stops, most_placements, most_rewrites}
use Rattle.chyp_simp.specs.Run.{limit, none, normal, one_more, stops, wide}
use Rattle.chyp_simp.proofs.Placements.{placements-once}

-- ---- one rewrite

pub least-once : (l g : PlainGraph) (a b : Occurrence) → IsLeast l g a → IsLeast l g b → a ≡ b
least-once l g a b p q =
    let are = are-listed l g in
    let i = member-get (listed l g) a (Contains-member (listed l g) a ((are.members a).1 p.occurs)) in
    let j = member-get (listed l g) b (Contains-member (listed l g) b ((are.members b).1 q.occurs)) in
    go i.0 j.0 i.1 j.1 (cases_lt i.0 j.0) (cases_lt j.0 i.0)
  where
    go : (i j : ℕ) → slice_get (listed l g) i ≡ Some a → slice_get (listed l g) j ≡ Some b → (i < j) ⊎ (j ≤ i) → (j < i) ⊎ (i ≤ j) → a ≡ b
    go i j x y (inl h) k = absurd (q.least a p.occurs ((are-listed l g).ordered i j a b h x y))
    go i j x y (inr h) (inl k) = absurd (p.least b q.occurs ((are-listed l g).ordered j i b a k y x))
    go i j x y (inr h) (inr k) = let e : i ≡ j = omega arith in some-same a b (sym x ∙ ap (slice_get (listed l g)) e ∙ y)

module _ (rules : List Rule) where
  -- only one rule is reached that isn't idle
  reached-once : (g : PlainGraph) (p q : Rule) → ComesTo rules g p → ComesTo rules g q → (IsIdle p.0 g → ⊥) → (IsIdle q.0 g → ⊥) → p ≡ q
  reached-once g p q a b x y = go (cases_lt a.k b.k) (cases_lt b.k a.k)
    where
      go : (a.k < b.k) ⊎ (b.k ≤ a.k) → (b.k < a.k) ⊎ (a.k ≤ b.k) → p ≡ q
      go (inl h) k = absurd (x (b.front a.k p h a.is))
      go (inr h) (inl k) = absurd (y (a.front b.k q k b.is))
      go (inr h) (inr k) = let e : a.k ≡ b.k = omega arith in some-same p q (sym a.is ∙ ap (slice_get rules) e ∙ b.is)

  rewrites-busy : (g h : PlainGraph) (w : Rewrites rules g h) → IsIdle w.rule.0 g → ⊥
  rewrites-busy g h w idle = idle.none w.at w.least.occurs

  wide-busy : (g : PlainGraph) (n : ℕ) (w : IsWide rules g n) → IsIdle w.rule.0 g → ⊥
  wide-busy g n w idle =
      let same = placements-once w.rule.0 g n idle.placements w.are idle.are in
      let many = w.many in
      let few = idle.few in
      omega arith

  pub rewrites-once : (g h k : PlainGraph) → Rewrites rules g h → Rewrites rules g k → h ≡ k
  rewrites-once g h k a b = go b.rule (reached-once g a.rule b.rule a.reached b.reached (rewrites-busy g h a) (rewrites-busy g k b)) b.least b.is
    where
      go : (rule : Rule) → a.rule ≡ rule → IsLeast rule.0 g b.at → k ≡ replaced g rule.0 rule.1 b.at.edges b.at.wires → h ≡ k
      go rule e least is =
          let at = least-once a.rule.0 g a.at b.at a.least (subst (λ (x : Rule). IsLeast x.0 g b.at) (sym e) least) in
          a.is ∙ ap₂ (λ (x : Rule) (o : Occurrence). replaced g x.0 x.1 o.edges o.wires) e at ∙ sym is

  -- a graph that is rewritten isn't one at which the run stops
  rewrites-wide : (g h : PlainGraph) (n : ℕ) → Rewrites rules g h → IsWide rules g n → ⊥
  rewrites-wide g h n a b =
      let same = reached-once g a.rule b.rule a.reached b.reached (rewrites-busy g h a) (wide-busy g n b) in
      let placements = placements-once b.rule.0 g a.placements n (subst (λ (x : Rule). HavePlacements x.0 g a.placements) same a.are) b.are in
      let few = a.few in
      let many = b.many in
      omega arith

  reached-idle : (g : PlainGraph) (p : Rule) → ComesTo rules g p → AreIdle rules g (length rules) → IsIdle p.0 g
  reached-idle g p a idle = idle a.k p (slice_get-length rules a.k p a.is) a.is

  pub rewrites-on : (g h : PlainGraph) (ending : Ending) → Rewrites rules g h → Stops rules g ending → ⊥
  rewrites-on g h ending w (normal idle) = rewrites-busy g h w (reached-idle g w.rule w.reached idle)
  rewrites-on g h ending w (wide {placements = n} b) = rewrites-wide g h n w b

  wide-once : (g : PlainGraph) (m n : ℕ) → IsWide rules g m → IsWide rules g n → m ≡ n
  wide-once g m n a b =
      let same = reached-once g a.rule b.rule a.reached b.reached (wide-busy g m a) (wide-busy g n b) in
      placements-once b.rule.0 g m n (subst (λ (x : Rule). HavePlacements x.0 g m) same a.are) b.are

  stops-once : (g : PlainGraph) (a b : Ending) → Stops rules g a → Stops rules g b → a ≡ b
  stops-once g a b (normal p) (normal q) = refl
  stops-once g a b (normal p) (wide {placements = n} q) = absurd (wide-busy g n q (reached-idle g q.rule q.reached p))
  stops-once g a b (wide {placements = n} p) (normal q) = absurd (wide-busy g n p (reached-idle g p.rule p.reached q))
  stops-once g a b (wide {placements = m} p) (wide {placements = n} q) = ap TooWide (wide-once g m n p q)

  -- ---- many rewrites

  module _ (g : PlainGraph) where
    same-many : (m n : ℕ) → m ≡ n → (h k : PlainGraph) → RewritesIn rules g m h → RewritesIn rules g n k → h ≡ k
    same-many m n e h k none none = refl
    same-many m n e h k none (one_more b w) = absurd (omega arith)
    same-many m n e h k (one_more a v) none = absurd (omega arith)
    same-many m n e h k (one_more {n = i} {h = p} a v) (one_more {n = j} {h = q} b w) =
        let same = same-many i j (omega arith) p q a b in
        rewrites-once q h k (subst (λ (x : PlainGraph). Rewrites rules x h) same v) w

    -- where there are more rewrites, the first ones lead to a graph that is rewritten
    goes-on : (m n : ℕ) → m < n → (h k : PlainGraph) → RewritesIn rules g m h → RewritesIn rules g n k → (x : PlainGraph) × Rewrites rules h x
    goes-on m n l h k a none = absurd (omega arith)
    goes-on m n l h k a (one_more {n = j} {h = q} b w) = go (cases_lt m j) (λ h'. goes-on m j h' h q a b)
      where
        go : (m < j) ⊎ (j ≤ m) → (m < j → (x : PlainGraph) × Rewrites rules h x) → (x : PlainGraph) × Rewrites rules h x
        go (inl i) below = below i
        go (inr i) below = let same = same-many j m (omega arith) q h b a in (k, subst (λ (x : PlainGraph). Rewrites rules x k) same w)

    -- after the rewrites of a run that stops there are no others
    stops-last : (m n : ℕ) (h k : PlainGraph) (ending : Ending) → RewritesIn rules g m h → Stops rules h ending → RewritesIn rules g n k → n ≤ m
    stops-last m n h k ending a s b = go (cases_lt m n)
      where
        go : (m < n) ⊎ (n ≤ m) → n ≤ m
        go (inl l) = let more = goes-on m n l h k a b in absurd (rewrites-on h more.0 ending more.1 s)
        go (inr l) = l

    -- nor at the limit
    limit-last : (m : ℕ) (h k x : PlainGraph) (ending : Ending) → m ≤ most_rewrites → RewritesIn rules g m h → Stops rules h ending →
        RewritesIn rules g most_rewrites k → Rewrites rules k x → ⊥
    limit-last m h k x ending few a s b w =
        let l = stops-last m (suc most_rewrites) h x ending a s (one_more b w) in
        omega arith

    pub ends-once : (a b : Ending) → Ends rules g a → Ends rules g b → a ≡ b
    ends-once a b (stops {n = m} {h} p r s) (stops {n = n} {h = k} q t u) =
        let x = stops-last m n h k a r s t in
        let y = stops-last n m k h b t u r in
        let same = same-many m n (omega arith) h k r t in
        stops-once k a b (subst (λ (z : PlainGraph). Stops rules z a) same s) u
    ends-once a b (stops {n = m} {h} p r s) (limit {h = k} {k = x} t w) = absurd (limit-last m h k x a p r s t w)
    ends-once a b (limit {h = k} {k = x} t w) (stops {n = m} {h} p r s) = absurd (limit-last m h k x b p r s t w)
    ends-once a b (limit t w) (limit u v) = refl
