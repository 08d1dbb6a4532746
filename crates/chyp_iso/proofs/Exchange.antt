-- An isomorphism that makes the pairs of a part can be changed to one that makes those of a larger part.
use Rattle.std.proofs.Common.{ℕ, ◌<◌, ◌≡◌, Bool, true, false, not, ◌||◌, List, length, Option, Some, None, slice_get, option_map, ◌⊎◌, inl, inr, refl, sym, ◌∙◌, ap, subst}
use Rattle.std.specs.Option.{is_some}
use Rattle.chyp_graph.specs.PlainGraph.{Edge, PlainGraph}
use Rattle.chyp_graph.specs.Isomorphism.{IsBijection}
use Rattle.chyp_iso.specs.Port.{IsPortAt, Side}
use Rattle.chyp_iso.proofs.Switch.{CanSwitch, IsPartial, partial-flip, switch, switch-bijection, switch-free, switch-keeps, switch-known, switch-taken}

-- what an isomorphism keeps of an edge besides its wires: its name, and how many ports it has
abbrev pub shape_of : Edge → List ℕ × ℕ × ℕ
shape_of e = (e.name, length e.sources, length e.targets)

abbrev pub shape : PlainGraph → ℕ → Option (List ℕ × ℕ × ℕ)
shape g k = option_map shape_of (slice_get g.edges k)

-- a partial map of wires and of edges, there and back
pub record PartMap : Type 0 where
  pub wire : ℕ → Option ℕ
  pub wire_back : ℕ → Option ℕ
  pub edge : ℕ → Option ℕ
  pub edge_back : ℕ → Option ℕ

-- the same of all wires and edges
pub record FullMap : Type 0 where
  pub wire : ℕ → ℕ
  pub wire_back : ℕ → ℕ
  pub edge : ℕ → ℕ
  pub edge_back : ℕ → ℕ

abbrev pub part_back : PartMap → PartMap
part_back m = record { wire = m.wire_back; wire_back = m.wire; edge = m.edge_back; edge_back = m.edge }

abbrev pub full_back : FullMap → FullMap
full_back f = record { wire = f.wire_back; wire_back = f.wire; edge = f.edge_back; edge_back = f.edge }

-- an isomorphism between parts to which nothing hangs
pub record IsPart (g h : PlainGraph) (m : PartMap) : Type 0 where
  pub wires : IsPartial (length g.wires) (length h.wires) m.wire m.wire_back
  pub edges : IsPartial (length g.edges) (length h.edges) m.edge m.edge_back
  pub sorts : (v w : ℕ) → m.wire v ≡ Some w → slice_get h.wires w ≡ slice_get g.wires v
  pub shapes : (e f : ℕ) → m.edge e ≡ Some f → shape h f ≡ shape g e
  pub down : (side : Side) (e f i v : ℕ) → m.edge e ≡ Some f → IsPortAt g side e i v → (w : ℕ) × IsPortAt h side f i w × (m.wire v ≡ Some w)
  pub down_back : (side : Side) (e f i w : ℕ) → m.edge e ≡ Some f → IsPortAt h side f i w → (v : ℕ) × IsPortAt g side e i v × (m.wire v ≡ Some w)
  pub up : (side : Side) (e i v w : ℕ) → m.wire v ≡ Some w → IsPortAt g side e i v → (f : ℕ) × IsPortAt h side f i w × (m.edge e ≡ Some f)
  pub up_back : (side : Side) (f i v w : ℕ) → m.wire v ≡ Some w → IsPortAt h side f i w → (e : ℕ) × IsPortAt g side e i v × (m.edge e ≡ Some f)

-- an isomorphism, its interfaces left out
pub record IsFull (g h : PlainGraph) (f : FullMap) : Type 0 where
  pub wires : IsBijection (length g.wires) (length h.wires) f.wire f.wire_back
  pub edges : IsBijection (length g.edges) (length h.edges) f.edge f.edge_back
  pub sorts : (v : ℕ) → v < length g.wires → slice_get h.wires (f.wire v) ≡ slice_get g.wires v
  pub shapes : (k : ℕ) → k < length g.edges → shape h (f.edge k) ≡ shape g k
  pub ports : (side : Side) (k i v : ℕ) → IsPortAt g side k i v → IsPortAt h side (f.edge k) i (f.wire v)
  pub ports_back : (side : Side) (k i v : ℕ) → IsPortAt h side k i v → IsPortAt g side (f.edge_back k) i (f.wire_back v)

pub part-flip : (g h : PlainGraph) (m : PartMap) → IsPart g h m → IsPart h g (part_back m)
part-flip g h m p = record {
  wires = partial-flip p.wires;
  edges = partial-flip p.edges;
  sorts = λ v w e. sym (p.sorts w v (p.wires.again w v e));
  shapes = λ e f q. sym (p.shapes f e (p.edges.again f e q));
  down = λ side e f i v q r. let a = p.down_back side f e i v (p.edges.again f e q) r in (a.0, a.1, p.wires.there a.0 v a.2);
  down_back = λ side e f i w q r. let a = p.down side f e i w (p.edges.again f e q) r in (a.0, a.1, p.wires.there w a.0 a.2);
  up = λ side e i v w q r. let a = p.up_back side e i w v (p.wires.again w v q) r in (a.0, a.1, p.edges.there a.0 e a.2);
  up_back = λ side f i v w q r. let a = p.up side f i w v (p.wires.again w v q) r in (a.0, a.1, p.edges.there f a.0 a.2);
}

pub full-flip : (g h : PlainGraph) (f : FullMap) → IsFull g h f → IsFull h g (full_back f)
full-flip g h f p = record {
  wires = record { there = p.wires.back; back = p.wires.there; there_back = p.wires.back_there; back_there = p.wires.there_back };
  edges = record { there = p.edges.back; back = p.edges.there; there_back = p.edges.back_there; back_there = p.edges.there_back };
  sorts = λ v l. sym (p.sorts (f.wire_back v) (p.wires.back v l)) ∙ ap (slice_get h.wires) (p.wires.there_back v l);
  shapes = λ k l. sym (p.shapes (f.edge_back k) (p.edges.back k l)) ∙ ap (shape h) (p.edges.there_back k l);
  ports = p.ports_back;
  ports_back = p.ports;
}

-- ## switching

abbrev pub switched : PartMap → FullMap → FullMap
switched m f = record {
  wire = switch m.wire m.wire_back f.wire;
  wire_back = switch m.wire_back m.wire f.wire_back;
  edge = switch m.edge m.edge_back f.edge;
  edge_back = switch m.edge_back m.edge f.edge_back;
}

pub switch-ports : (g h : PlainGraph) (m : PartMap) (f : FullMap) → IsPart g h m → IsFull g h f → (side : Side) (k i v : ℕ) → IsPortAt g side k i v
    → IsPortAt h side (switch m.edge m.edge_back f.edge k) i (switch m.wire m.wire_back f.wire v)
switch-ports g h m f p q side k i v a = go (m.edge k) refl (m.wire v) refl (m.edge_back (f.edge k)) refl (m.wire_back (f.wire v)) refl
  where
    at : (e w e' w' : ℕ) → e ≡ e' → w ≡ w' → IsPortAt h side e' i w' → IsPortAt h side e i w
    at e w e' w' x y z = subst (λ c. IsPortAt h side c i w) (sym x) (subst (λ c. IsPortAt h side e' i c) (sym y) z)

    go : (e : Option ℕ) → m.edge k ≡ e → (w : Option ℕ) → m.wire v ≡ w → (e' : Option ℕ) → m.edge_back (f.edge k) ≡ e' → (w' : Option ℕ) → m.wire_back (f.wire v) ≡ w'
        → IsPortAt h side (switch m.edge m.edge_back f.edge k) i (switch m.wire m.wire_back f.wire v)
    go (Some e) x w y e' x' w' y' =
        let d = p.down side k e i v x a in
        at _ _ e d.0 (switch-known m.edge m.edge_back f.edge k e x) (switch-known m.wire m.wire_back f.wire v d.0 d.2) d.1
    go None x (Some w) y e' x' w' y' = let u = p.up side k i v w y a in let c : ◌≡◌ {A = Option ℕ} None (Some u.0) = sym x ∙ u.2 in cc
    go None x None y (Some e') x' w' y' =
        let d = p.down_back side e' (f.edge k) i (f.wire v) (p.edges.again e' (f.edge k) x') (q.ports side k i v a) in
        at _ _ (f.edge e') (f.wire d.0) (switch-taken m.edge m.edge_back f.edge k e' x x')
        (switch-taken m.wire m.wire_back f.wire v d.0 y (p.wires.there d.0 (f.wire v) d.2)) (q.ports side e' i d.0 d.1)
    go None x None y None x' (Some w') y' =
        let u = p.up_back side (f.edge k) i w' (f.wire v) (p.wires.again w' (f.wire v) y') (q.ports side k i v a) in
        let c : ◌≡◌ {A = Option ℕ} None (Some u.0) = sym x' ∙ p.edges.there u.0 (f.edge k) u.2 in
        cc
    go None x None y None x' None y' =
        at _ _ (f.edge k) (f.wire v) (switch-free m.edge m.edge_back f.edge k x x') (switch-free m.wire m.wire_back f.wire v y y') (q.ports side k i v a)

-- the larger part and the isomorphism fit together
abbrev pub CanExchange : (g h : PlainGraph) (m : PartMap) (f : FullMap) → Type 0
CanExchange g h m f = CanSwitch (length g.wires) (length h.wires) m.wire m.wire_back f.wire f.wire_back × CanSwitch (length g.edges) (length h.edges) m.edge m.edge_back f.edge f.edge_back

pub switched-full : (g h : PlainGraph) (m : PartMap) (f : FullMap) → IsPart g h m → IsFull g h f → CanExchange g h m f → IsFull g h (switched m f)
switched-full g h m f p q can = record {
  wires = switch-bijection (length g.wires) (length h.wires) m.wire m.wire_back f.wire f.wire_back p.wires q.wires can.0;
  edges = switch-bijection (length g.edges) (length h.edges) m.edge m.edge_back f.edge f.edge_back p.edges q.edges can.1;
  sorts = switch-keeps (length g.wires) (length h.wires) m.wire m.wire_back f.wire f.wire_back (slice_get g.wires) (slice_get h.wires) p.wires q.wires p.sorts q.sorts;
  shapes = switch-keeps (length g.edges) (length h.edges) m.edge m.edge_back f.edge f.edge_back (shape g) (shape h) p.edges q.edges p.shapes q.shapes;
  ports = switch-ports g h m f p q;
  ports_back = switch-ports h g (part_back m) (full_back f) (part-flip g h m p) (full-flip g h f q);
}

-- ## a larger part that hangs on one pair of edges

-- tests of wires and of edges that pass from each to the other at one port
pub record IsClosed (g h : PlainGraph) (wires edges : ℕ → ℕ → Bool) : Type 0 where
  pub down : (side : Side) (e f i v w : ℕ) → edges e f ≡ true → IsPortAt g side e i v → IsPortAt h side f i w → wires v w ≡ true
  pub up : (side : Side) (e f i v w : ℕ) → wires v w ≡ true → IsPortAt g side e i v → IsPortAt h side f i w → edges e f ≡ true

-- the pairs pass the tests
pub record Pass (m : PartMap) (wires edges : ℕ → ℕ → Bool) : Type 0 where
  pub on_wires : (v w : ℕ) → m.wire v ≡ Some w → wires v w ≡ true
  pub on_edges : (e f : ℕ) → m.edge e ≡ Some f → edges e f ≡ true

-- a part m of an isomorphism f, and a larger part n, which follows from m and from one pair of edges that is not in m
pub record IsGrown (g h : PlainGraph) (m n : PartMap) (f : FullMap) (a b : ℕ) : Type 0 where
  pub small : IsPart g h m
  pub large : IsPart g h n
  pub full : IsFull g h f
  pub more_wires : (v w : ℕ) → m.wire v ≡ Some w → n.wire v ≡ Some w
  pub more_edges : (e k : ℕ) → m.edge e ≡ Some k → n.edge e ≡ Some k
  pub agrees_wires : (v w : ℕ) → m.wire v ≡ Some w → f.wire v ≡ w
  pub agrees_edges : (e k : ℕ) → m.edge e ≡ Some k → f.edge e ≡ k
  pub seed : n.edge a ≡ Some b
  pub new_there : m.edge a ≡ None
  pub new_back : m.edge_back b ≡ None
  pub follows : (wires edges : ℕ → ℕ → Bool) → IsClosed g h wires edges → Pass m wires edges → edges a b ≡ true → Pass n wires edges

pub grown-flip : (g h : PlainGraph) (m n : PartMap) (f : FullMap) (a b : ℕ) → IsGrown g h m n f a b → IsGrown h g (part_back m) (part_back n) (full_back f) b a
grown-flip g h m n f a b s = record {
  small = part-flip g h m s.small;
  large = part-flip g h n s.large;
  full = full-flip g h f s.full;
  more_wires = λ v w e. s.large.wires.there w v (s.more_wires w v (s.small.wires.again w v e));
  more_edges = λ v w e. s.large.edges.there w v (s.more_edges w v (s.small.edges.again w v e));
  agrees_wires = λ v w e. let i = s.small.wires.again w v e in ap f.wire_back (sym (s.agrees_wires w v i)) ∙ s.full.wires.back_there w (s.small.wires.below w v i);
  agrees_edges = λ v w e. let i = s.small.edges.again w v e in ap f.edge_back (sym (s.agrees_edges w v i)) ∙ s.full.edges.back_there w (s.small.edges.below w v i);
  seed = s.large.edges.there a b s.seed;
  new_there = s.new_back;
  new_back = s.new_there;
  follows = λ wires edges c p q.
      let r = s.follows (λ x y. wires y x) (λ x y. edges y x)
      (record { down = λ side e k i v w x y z. c.down side k e i w v x z y; up = λ side e k i v w x y z. c.up side k e i w v x z y })
      (record { on_wires = λ v w x. p.on_wires w v (s.small.wires.there v w x); on_edges = λ v w x. p.on_edges w v (s.small.edges.there v w x) })
      q in
      record { on_wires = λ v w x. r.on_wires w v (s.large.wires.again w v x); on_edges = λ v w x. r.on_edges w v (s.large.edges.again w v x) };
}

some-is : (o : Option ℕ) (x : ℕ) → o ≡ Some x → is_some o ≡ true
some-is o x e = ap is_some e

is-some : (o : Option ℕ) → is_some o ≡ true → (x : ℕ) × (o ≡ Some x)
is-some None e = cc
is-some (Some x) e = (x, refl)

or-left : (a b : Bool) → a ≡ true → (a || b) ≡ true
or-left true b e = refl
or-left false b e = cc

or-right : (a b : Bool) → b ≡ true → (a || b) ≡ true
or-right true b e = refl
or-right false b e = e

or-split : (a b : Bool) → (a || b) ≡ true → (a ≡ true) ⊎ (b ≡ true)
or-split true b e = inl refl
or-split false b e = inr e

not-some : (o : Option ℕ) → not (is_some o) ≡ true → o ≡ None
not-some None e = refl
not-some (Some x) e = cc

some-not : (o : Option ℕ) → o ≡ None → not (is_some o) ≡ true
some-not o e = ap (λ x. not (is_some x)) e

-- what is known in m, or goes past n
past : (m back : ℕ → Option ℕ) (f : ℕ → ℕ) → ℕ → ℕ → Bool
past m back f x y = is_some (m x) || not (is_some (back (f x)))

-- what goes into n
into : (back : ℕ → Option ℕ) (f : ℕ → ℕ) → ℕ → ℕ → Bool
into back f x y = is_some (back (f x))

past-closed : (g h : PlainGraph) (m n : PartMap) (f : FullMap) (a b : ℕ) → IsGrown g h m n f a b → IsClosed g h (past m.wire n.wire_back f.wire) (past m.edge n.edge_back f.edge)
unfolding past
past-closed g h m n f a b s = record {
  down = λ side e k i v w x y z. down side e i v (or-split (is_some (m.edge e)) _ x) y;
  up = λ side e k i v w x y z. up side e i v (or-split (is_some (m.wire v)) _ x) y;
}
  where
    down : (side : Side) (e i v : ℕ) → (is_some (m.edge e) ≡ true) ⊎ (not (is_some (n.edge_back (f.edge e))) ≡ true) → IsPortAt g side e i v
        → (is_some (m.wire v) || not (is_some (n.wire_back (f.wire v)))) ≡ true
    down side e i v (inl x) y = let k = is-some (m.edge e) x in let d = s.small.down side e k.0 i v k.1 y in or-left _ _ (some-is (m.wire v) d.0 d.2)
    down side e i v (inr x) y = or-right (is_some (m.wire v)) _ (some-not (n.wire_back (f.wire v)) (go (n.wire_back (f.wire v)) refl))
      where
        go : (o : Option ℕ) → n.wire_back (f.wire v) ≡ o → n.wire_back (f.wire v) ≡ None
        go None q = q
        go (Some u) q =
            let r = s.large.up_back side (f.edge e) i u (f.wire v) (s.large.wires.again u (f.wire v) q) (s.full.ports side e i v y) in
            let c : ◌≡◌ {A = Option ℕ} None (Some r.0) = sym (not-some (n.edge_back (f.edge e)) x) ∙ s.large.edges.there r.0 (f.edge e) r.2 in
            cc

    up : (side : Side) (e i v : ℕ) → (is_some (m.wire v) ≡ true) ⊎ (not (is_some (n.wire_back (f.wire v))) ≡ true) → IsPortAt g side e i v
        → (is_some (m.edge e) || not (is_some (n.edge_back (f.edge e)))) ≡ true
    up side e i v (inl x) y = let k = is-some (m.wire v) x in let d = s.small.up side e i v k.0 k.1 y in or-left _ _ (some-is (m.edge e) d.0 d.2)
    up side e i v (inr x) y = or-right (is_some (m.edge e)) _ (some-not (n.edge_back (f.edge e)) (go (n.edge_back (f.edge e)) refl))
      where
        go : (o : Option ℕ) → n.edge_back (f.edge e) ≡ o → n.edge_back (f.edge e) ≡ None
        go None q = q
        go (Some u) q =
            let r = s.large.down_back side u (f.edge e) i (f.wire v) (s.large.edges.again u (f.edge e) q) (s.full.ports side e i v y) in
            let c : ◌≡◌ {A = Option ℕ} None (Some r.0) = sym (not-some (n.wire_back (f.wire v)) x) ∙ s.large.wires.there r.0 (f.wire v) r.2 in
            cc

into-closed : (g h : PlainGraph) (m n : PartMap) (f : FullMap) (a b : ℕ) → IsGrown g h m n f a b → IsClosed g h (into n.wire_back f.wire) (into n.edge_back f.edge)
unfolding into
into-closed g h m n f a b s = record {
  down = λ side e k i v w x y z.
      let u = is-some (n.edge_back (f.edge e)) x in
      let d = s.large.down_back side u.0 (f.edge e) i (f.wire v) (s.large.edges.again u.0 (f.edge e) u.1) (s.full.ports side e i v y) in
      some-is (n.wire_back (f.wire v)) d.0 (s.large.wires.there d.0 (f.wire v) d.2);
  up = λ side e k i v w x y z.
      let u = is-some (n.wire_back (f.wire v)) x in
      let d = s.large.up_back side (f.edge e) i u.0 (f.wire v) (s.large.wires.again u.0 (f.wire v) u.1) (s.full.ports side e i v y) in
      some-is (n.edge_back (f.edge e)) d.0 (s.large.edges.there d.0 (f.edge e) d.2);
}

-- where f takes the first edge past n, it takes all that is new in n past n
past-all : (g h : PlainGraph) (m n : PartMap) (f : FullMap) (a b : ℕ) → IsGrown g h m n f a b → n.edge_back (f.edge a) ≡ None → Pass n (past m.wire n.wire_back f.wire) (past m.edge n.edge_back f.edge)
unfolding past
past-all g h m n f a b s o = s.follows _ _ (past-closed g h m n f a b s)
    (record { on_wires = λ v w x. or-left _ _ (some-is (m.wire v) w x); on_edges = λ e k x. or-left _ _ (some-is (m.edge e) k x) })
    (or-right (is_some (m.edge a)) _ (some-not (n.edge_back (f.edge a)) o))

apart : (g h : PlainGraph) (m n : PartMap) (f : FullMap) (a b : ℕ) → IsGrown g h m n f a b → n.edge_back (f.edge a) ≡ None → CanExchange g h n f
unfolding past
apart g h m n f a b s o =
    (inl (λ v w u x y. wires v w u x y (or-split (is_some (m.wire v)) _ (all.on_wires v w x))), inl (λ e k u x y. edges e k u x y (or-split (is_some (m.edge e)) _ (all.on_edges e k x))))
  where
    all : Pass n (past m.wire n.wire_back f.wire) (past m.edge n.edge_back f.edge)
    all = past-all g h m n f a b s o

    wires : (v w u : ℕ) → n.wire v ≡ Some w → n.wire_back (f.wire v) ≡ Some u → (is_some (m.wire v) ≡ true) ⊎ (not (is_some (n.wire_back (f.wire v))) ≡ true) → u ≡ v
    wires v w u x y (inr z) = let c : ◌≡◌ {A = Option ℕ} None (Some u) = sym (not-some (n.wire_back (f.wire v)) z) ∙ y in cc
    wires v w u x y (inl z) =
        let k = is-some (m.wire v) z in
        let c : n.wire_back (f.wire v) ≡ Some v = ap n.wire_back (s.agrees_wires v k.0 k.1) ∙ s.large.wires.there v k.0 (s.more_wires v k.0 k.1) in
        let d : ◌≡◌ {A = Option ℕ} (Some u) (Some v) = sym y ∙ c in
        cc

    edges : (v w u : ℕ) → n.edge v ≡ Some w → n.edge_back (f.edge v) ≡ Some u → (is_some (m.edge v) ≡ true) ⊎ (not (is_some (n.edge_back (f.edge v))) ≡ true) → u ≡ v
    edges v w u x y (inr z) = let c : ◌≡◌ {A = Option ℕ} None (Some u) = sym (not-some (n.edge_back (f.edge v)) z) ∙ y in cc
    edges v w u x y (inl z) =
        let k = is-some (m.edge v) z in
        let c : n.edge_back (f.edge v) ≡ Some v = ap n.edge_back (s.agrees_edges v k.0 k.1) ∙ s.large.edges.there v k.0 (s.more_edges v k.0 k.1) in
        let d : ◌≡◌ {A = Option ℕ} (Some u) (Some v) = sym y ∙ c in
        cc

-- where f takes the first edge into n, it takes all that is in n into n
into-all : (g h : PlainGraph) (m n : PartMap) (f : FullMap) (a b u : ℕ) → IsGrown g h m n f a b → n.edge_back (f.edge a) ≡ Some u → Pass n (into n.wire_back f.wire) (into n.edge_back f.edge)
unfolding into
into-all g h m n f a b u s o = s.follows _ _ (into-closed g h m n f a b s)
    (record {
      on_wires = λ v w x. some-is (n.wire_back (f.wire v)) v (ap n.wire_back (s.agrees_wires v w x) ∙ s.large.wires.there v w (s.more_wires v w x));
      on_edges = λ v w x. some-is (n.edge_back (f.edge v)) v (ap n.edge_back (s.agrees_edges v w x) ∙ s.large.edges.there v w (s.more_edges v w x));
    })
    (some-is (n.edge_back (f.edge a)) u o)

-- and then the second edge comes from n too
comes-from : (g h : PlainGraph) (m n : PartMap) (f : FullMap) (a b u : ℕ) → IsGrown g h m n f a b → n.edge_back (f.edge a) ≡ Some u → (x : ℕ) × (n.edge (f.edge_back b) ≡ Some x)
unfolding past
comes-from g h m n f a b u s o = go (n.edge (f.edge_back b)) refl
  where
    back : IsGrown h g (part_back m) (part_back n) (full_back f) b a
    back = grown-flip g h m n f a b s

    there : f.edge_back (f.edge a) ≡ a
    there = s.full.edges.back_there a (s.large.edges.below a b s.seed)

    no : n.edge (f.edge_back b) ≡ None → ⊥
    no e = at (or-split (is_some (m.edge_back (f.edge a))) _ ((past-all h g (part_back m) (part_back n) (full_back f) b a back e).on_edges (f.edge a) u o))
      where
        at : (is_some (m.edge_back (f.edge a)) ≡ true) ⊎ (not (is_some (n.edge (f.edge_back (f.edge a)))) ≡ true) → ⊥
        at (inr z) = let c : ◌≡◌ {A = Option ℕ} None (Some b) = sym (not-some (n.edge (f.edge_back (f.edge a))) z) ∙ ap n.edge there ∙ s.seed in cc
        at (inl z) =
            let k = is-some (m.edge_back (f.edge a)) z in
            let i : m.edge k.0 ≡ Some (f.edge a) = s.small.edges.again k.0 (f.edge a) k.1 in
            let j : f.edge k.0 ≡ f.edge a = s.agrees_edges k.0 (f.edge a) i in
            let l : k.0 ≡ a = sym (s.full.edges.back_there k.0 (s.small.edges.below k.0 (f.edge a) i)) ∙ ap f.edge_back j ∙ there in
            let c : ◌≡◌ {A = Option ℕ} None (Some (f.edge a)) = sym s.new_there ∙ ap m.edge (sym l) ∙ i in
            cc

    go : (x : Option ℕ) → n.edge (f.edge_back b) ≡ x → (x : ℕ) × (n.edge (f.edge_back b) ≡ Some x)
    go None e = absurd (no e)
    go (Some x) e = (x, e)

same : (g h : PlainGraph) (m n : PartMap) (f : FullMap) (a b u : ℕ) → IsGrown g h m n f a b → n.edge_back (f.edge a) ≡ Some u → CanExchange g h n f
unfolding into
same g h m n f a b u s o = (inr (record { stays = wires_there; comes = wires_back }), inr (record { stays = edges_there; comes = edges_back }))
  where
    there : Pass n (into n.wire_back f.wire) (into n.edge_back f.edge)
    there = into-all g h m n f a b u s o

    back : Pass (part_back n) (into n.wire f.wire_back) (into n.edge f.edge_back)
    back = let x = comes-from g h m n f a b u s o in into-all h g (part_back m) (part_back n) (full_back f) b a x.0 (grown-flip g h m n f a b s) x.1

    wires_there : (x : ℕ) → x < length g.wires → n.wire x ≡ None → n.wire_back (f.wire x) ≡ None
    wires_there x l e = go (n.wire_back (f.wire x)) refl
      where
        go : (q : Option ℕ) → n.wire_back (f.wire x) ≡ q → n.wire_back (f.wire x) ≡ None
        go None q = q
        go (Some t) q =
            let k = is-some (n.wire (f.wire_back (f.wire x))) (back.on_wires (f.wire x) t q) in
            let c : ◌≡◌ {A = Option ℕ} None (Some k.0) = sym e ∙ ap n.wire (sym (s.full.wires.back_there x l)) ∙ k.1 in
            cc

    wires_back : (x : ℕ) → x < length h.wires → n.wire_back x ≡ None → n.wire (f.wire_back x) ≡ None
    wires_back x l e = go (n.wire (f.wire_back x)) refl
      where
        go : (q : Option ℕ) → n.wire (f.wire_back x) ≡ q → n.wire (f.wire_back x) ≡ None
        go None q = q
        go (Some t) q =
            let k = is-some (n.wire_back (f.wire (f.wire_back x))) (there.on_wires (f.wire_back x) t q) in
            let c : ◌≡◌ {A = Option ℕ} None (Some k.0) = sym e ∙ ap n.wire_back (sym (s.full.wires.there_back x l)) ∙ k.1 in
            cc

    edges_there : (x : ℕ) → x < length g.edges → n.edge x ≡ None → n.edge_back (f.edge x) ≡ None
    edges_there x l e = go (n.edge_back (f.edge x)) refl
      where
        go : (q : Option ℕ) → n.edge_back (f.edge x) ≡ q → n.edge_back (f.edge x) ≡ None
        go None q = q
        go (Some t) q =
            let k = is-some (n.edge (f.edge_back (f.edge x))) (back.on_edges (f.edge x) t q) in
            let c : ◌≡◌ {A = Option ℕ} None (Some k.0) = sym e ∙ ap n.edge (sym (s.full.edges.back_there x l)) ∙ k.1 in
            cc

    edges_back : (x : ℕ) → x < length h.edges → n.edge_back x ≡ None → n.edge (f.edge_back x) ≡ None
    edges_back x l e = go (n.edge (f.edge_back x)) refl
      where
        go : (q : Option ℕ) → n.edge (f.edge_back x) ≡ q → n.edge (f.edge_back x) ≡ None
        go None q = q
        go (Some t) q =
            let k = is-some (n.edge_back (f.edge (f.edge_back x))) (there.on_edges (f.edge_back x) t q) in
            let c : ◌≡◌ {A = Option ℕ} None (Some k.0) = sym e ∙ ap n.edge_back (sym (s.full.edges.there_back x l)) ∙ k.1 in
            cc

pub can-exchange : (g h : PlainGraph) (m n : PartMap) (f : FullMap) (a b : ℕ) → IsGrown g h m n f a b → CanExchange g h n f
can-exchange g h m n f a b s = go (n.edge_back (f.edge a)) refl
  where
    go : (o : Option ℕ) → n.edge_back (f.edge a) ≡ o → CanExchange g h n f
    go None e = apart g h m n f a b s e
    go (Some u) e = same g h m n f a b u s e

-- the isomorphism that is changed makes the pairs of the larger part
pub exchange : (g h : PlainGraph) (m n : PartMap) (f : FullMap) (a b : ℕ) → IsGrown g h m n f a b → IsFull g h (switched n f)
exchange g h m n f a b s = switched-full g h n f s.large s.full (can-exchange g h m n f a b s)
