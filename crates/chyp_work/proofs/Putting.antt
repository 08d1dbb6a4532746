-- Boards that take the wires and the edges of a graph.
use Rattle.std.proofs.Common.{ℕ, zero, suc, ◌<◌, ◌≡◌, List, [], ◌∷◌, ◌++◌, length, map, Option, Some, None, All, slice_get, slice_index, inl, inr, refl, sym, ◌∙◌, ap, subst, arith, length-append}
use Rattle.std.specs.Prelude.{Vec}
use Rattle.std.specs.Global.{Global}
use Rattle.std.specs.List.{zip}
use Rattle.std.proofs.lemmas.List.{map-append}
use Rattle.chyp_base.specs.declared.sort.Sort.{Sort}
use Rattle.chyp_term.proofs.Members.{All-from_get_members, Member, flat-member, get-member, le-flat, map-member, member-get, member-map, member-right}
use Rattle.chyp_term.proofs.Positions.{map-map, slice_get-length, some-same}
use Rattle.chyp_graph.specs.PlainGraph.{Edge, PlainGraph, renamed, sources_of, targets_of}
use Rattle.chyp_graph.specs.Validity.{IsValid}
use Rattle.chyp_graph.proofs.Numbering.{edges-within}
use Rattle.chyp_match.specs.View.{IsIn}
use Rattle.chyp_store.specs.Items.{AreDistinct, ids, item_at}
use Rattle.chyp_store.specs.Lists.{HasRows, Row}
use Rattle.chyp_work.specs.Board.{HasPortsBelow, edge_of, edges_of, loose_wire, net, renamed_by, wires_of}
use Rattle.chyp_work.specs.Filling.{AreParts, KeepsEnds, KnowsMaker, KnowsUser, with_graph}
use Rattle.chyp_work.specs.declared.board.Board.{Board}
use Rattle.chyp_work.specs.declared.board.EdgeItem.{EdgeItem}
use Rattle.chyp_work.specs.declared.board.WireItem.{WireItem}
use Rattle.chyp_work.specs.declared.parts.Parts.{Parts}
use Rattle.chyp_work.proofs.Boards.{ids-map, item-once}
use Rattle.chyp_work.proofs.Fillings.{all-get, length-mapped}
use Rattle.chyp_work.proofs.Nets.{item-map}
use Rattle.chyp_work.proofs.Noting.{consumer-more, item-left, producer-more}

-- ## lists

pub get-map : {A B : Type 0} (f : A → B) (xs : List A) (i : ℕ) (x : A) → slice_get xs i ≡ Some x → slice_get (map f xs) i ≡ Some (f x)
get-map f [] i x h = absurd (cc)
get-map f (y ∷ xs) zero x h = let q : y ≡ x = cc in rw q refl
get-map f (y ∷ xs) (suc i) x h = get-map f xs i x h

get-there : {A : Type 0} (xs : List A) (i : ℕ) → i < length xs → (x : A) × (slice_get xs i ≡ Some x)
get-there [] i h = absurd (omega arith)
get-there (x ∷ xs) zero h = (x, refl)
get-there (x ∷ xs) (suc i) h = get-there xs i (omega arith)

pub all-unmap : {A B : Type 0} (P : B → Type 0) (f : A → B) (xs : List A) → All P (map f xs) → All (λ x. P (f x)) xs
all-unmap P f xs a = All-from_get_members {P = λ x. P (f x)} xs (λ x m. let g = member-get xs x m in all-get P (map f xs) g.0 (f x) a (get-map f xs g.0 x g.1))

member-zip : {X : Type 0} (ds : List ℕ) (xs : List X) (j k : ℕ) (x : X) → slice_get ds j ≡ Some k → slice_get xs j ≡ Some x → Member (k, x) (zip ds xs)
member-zip [] xs j k x g h = absurd (cc)
member-zip (d ∷ ds) [] j k x g h = absurd (cc)
member-zip {X} (d ∷ ds) (y ∷ xs) zero k x g h = let p : d ≡ k = cc in let q : y ≡ x = cc in inl (λ i. (p i, q i))
member-zip (d ∷ ds) (y ∷ xs) (suc j) k x g h = inr (member-zip ds xs j k x g h)

-- what comes behind the others is found under its number
pub found-behind : {X : Type 0} (old : List (ℕ × X)) (ds : List ℕ) (xs : List X) → AreDistinct (ids (old ++ zip ds xs)) → (j k : ℕ) (x : X) → slice_get ds j ≡ Some k → slice_get xs j ≡ Some x
    → item_at k (old ++ zip ds xs) ≡ Some x
found-behind old ds xs d j k x g h = item-once (k, x) (old ++ zip ds xs) d (member-right old (zip ds xs) (k, x) (member-zip ds xs j k x g h))

-- the item of which another one is made
pub item-of : {X Y : Type 0} (f : X → Y) (k : ℕ) (items : List (ℕ × X)) (y : Y) → item_at k (map (λ e. (e.0, f e.1)) items) ≡ Some y → (x : X) × (item_at k items ≡ Some x) × (f x ≡ y)
item-of {X} {Y} f k items y h = by (item_at k items) refl
  where
    by : (o : Option X) → item_at k items ≡ o → (x : X) × (item_at k items ≡ Some x) × (f x ≡ y)
    by None e = let a = sym (item-map f k items) ∙ h in let b = rw e at a in absurd (cc)
    by (Some x) e = let a = sym (item-map f k items) ∙ h in let b = rw e at a in (x, e, some-same (f x) y b)

-- ## a board before and after

-- b is a with the wires and the edges of g, under these numbers
pub record Takes (a b : Board) (g : PlainGraph) (ds vs : List ℕ) : Type 0 where
  pub edges : edges_of b.edges.items ≡ edges_of a.edges.items ++ zip ds (map (renamed (slice_index vs)) g.edges)
  pub wires : b.wires.items ≡ a.wires.items ++ zip vs (map loose_wire g.wires)
  pub inputs : b.inputs ≡ a.inputs
  pub outputs : b.outputs ≡ a.outputs
  pub apart : AreDistinct (ids b.edges.items)
  pub edge_count : length ds ≡ length g.edges
  pub wire_count : length vs ≡ length g.wires

renamed-parts : (items : List EdgeItem) (vs : List ℕ) (es : List Edge) → map edge_of items ≡ es → map (renamed_by vs) items ≡ map (renamed (slice_index vs)) es
renamed-parts items vs es e = sym (map-map (renamed (slice_index vs)) edge_of items) ∙ ap (map (renamed (slice_index vs))) e

pub takes : (a b c : Board) (g : PlainGraph) (parts : Parts) (ds vs us : List ℕ) → AreParts g parts → us ≡ vs → b.wires.items ≡ a.wires.items ++ zip vs (map loose_wire parts.sorts.items)
    → length vs ≡ length parts.sorts.items → b ≡ record a { wires = b.wires; sorted = b.sorted }
    → edges_of c.edges.items ≡ edges_of b.edges.items ++ zip ds (map (renamed_by us) parts.edges.items) → length ds ≡ length parts.edges.items
    → c ≡ record b { edges = c.edges; named = c.named } → AreDistinct (ids c.edges.items) → Takes a c g ds vs
takes a b c g parts ds vs us p q w n r e m s d = record {
  edges = e ∙ (λ i. edges_of (r i).edges.items ++ zip ds (x i));
  wires = (λ i. (s i).wires.items) ∙ w ∙ ap (λ l. a.wires.items ++ zip vs (map loose_wire l)) p.sorts;
  inputs = (λ i. (s i).inputs) ∙ (λ i. (r i).inputs);
  outputs = (λ i. (s i).outputs) ∙ (λ i. (r i).outputs);
  apart = d;
  edge_count = m ∙ sym (length-mapped edge_of parts.edges.items) ∙ ap length p.edges;
  wire_count = n ∙ ap length p.sorts;
}
  where
    x : map (renamed_by us) parts.edges.items ≡ map (renamed (slice_index vs)) g.edges
    x = ap (λ l. map (renamed_by l) parts.edges.items) q ∙ renamed-parts parts.edges.items vs g.edges p.edges

-- the places in the parts are those of wires
pub parts-within : (g : PlainGraph) (items : List EdgeItem) (n : ℕ) → IsValid g → map edge_of items ≡ g.edges → n ≡ length g.wires → All (HasPortsBelow n) items
parts-within g items n v e q =
    let a = edges-within g v n (sym q) in
    all-unmap (λ (e : Edge). All (λ w. w < n) e.sources × All (λ w. w < n) e.targets) edge_of items (rw e a)

-- the lists by name have room for the edges of the parts
pub parts-rows : (items : List EdgeItem) (es : List Edge) (rows more : List (List ℕ × Row ℕ)) → map edge_of items ≡ es → more ≡ rows → HasRows (λ (e : Edge). e.name) es (length es) rows
    → HasRows (λ (item : EdgeItem). item.name) items (length items) more
parts-rows items es rows more e q h i x l g =
    let n : length items ≡ length es = sym (length-mapped edge_of items) ∙ ap length e in
    rw (q, n) (h i (edge_of x) (rw (← n) l) (rw (← e) (get-map edge_of items i x g)))

module _ (a b : Board) (g : PlainGraph) (ds vs : List ℕ) (t : Takes a b g ds vs) where
  apart : AreDistinct (ids (edges_of a.edges.items ++ zip ds (map (renamed (slice_index vs)) g.edges)))
  apart = rw (← t.edges, ids-map edge_of b.edges.items) t.apart

  -- the edge at a place is under the number at that place
  found : (j k : ℕ) (e : Edge) → slice_get ds j ≡ Some k → slice_get (map (renamed (slice_index vs)) g.edges) j ≡ Some e → (item : EdgeItem) × (item_at k b.edges.items ≡ Some item) ×
      (edge_of item ≡ e)
  found j k e h i = item-of edge_of k b.edges.items e (rw t.edges (found-behind (edges_of a.edges.items) ds (map (renamed (slice_index vs)) g.edges) apart j k e h i))

  -- the new edges have few ports
  pub few-ports : IsValid g → length g.wires < 2147483648 → (k : ℕ) (item : EdgeItem) → Member k ds → item_at k b.edges.items ≡ Some item
      → (length item.sources.items < 4294967296) × (length item.targets.items < 4294967296)
  few-ports v few k item m h =
      let i = member-get ds k m in
      let l = slice_get-length ds i.0 k i.1 in
      let c = t.edge_count in
      let n = length-mapped (renamed (slice_index vs)) g.edges in
      let x = get-there (map (renamed (slice_index vs)) g.edges) i.0 (omega arith) in
      let f = found i.0 k x.0 i.1 x.1 in
      let y = map-member (renamed (slice_index vs)) g.edges x.0 (get-member (map (renamed (slice_index vs)) g.edges) i.0 x.0 x.1) in
      let z : item ≡ f.0 = some-same item f.0 (sym h ∙ f.1) in
      let e : edge_of item ≡ renamed (slice_index vs) y.0 = ap edge_of z ∙ f.2 ∙ sym y.2 in
      let s : length item.sources.items ≡ length y.0.sources = ap (λ (e : Edge). length e.sources) e ∙ length-mapped (slice_index vs) y.0.sources in
      let u : length item.targets.items ≡ length y.0.targets = ap (λ (e : Edge). length e.targets) e ∙ length-mapped (slice_index vs) y.0.targets in
      let p = v.producers.size in
      let q = v.consumers.size in
      let pp = length-append g.inputs (targets_of g.edges) in
      let qq = length-append g.outputs (sources_of g.edges) in
      let ll = le-flat (λ (e : Edge). e.targets) g.edges y.0 y.1 in
      let rr = le-flat (λ (e : Edge). e.sources) g.edges y.0 y.1 in
      (omega arith, omega arith)

  old-item : (w : ℕ) (item : WireItem) → IsIn w a.wires.items → item_at w b.wires.items ≡ Some item → item_at w a.wires.items ≡ Some item
  old-item w item there h = by (item_at w a.wires.items) refl
    where
      by : (o : Option WireItem) → item_at w a.wires.items ≡ o → item_at w a.wires.items ≡ Some item
      by None e = let x = rw e at there in absurd (cc)
      by (Some x) e = let y = item-left w x a.wires.items (zip vs (map loose_wire g.wires)) e in let z = rw t.wires at h in e ∙ sym y ∙ z

  module _ (c : Board) (k : KeepsEnds b c) where
    pub taken-net : net c ≡ with_graph (net a) g ds vs
    taken-net = λ i. record { edges = e i; wires = w i; inputs = j i; outputs = o i }
      where
        e : edges_of c.edges.items ≡ edges_of a.edges.items ++ zip ds (map (renamed (slice_index vs)) g.edges)
        e = ap (λ (d : Board). edges_of d.edges.items) k.rest ∙ t.edges

        w : wires_of c.wires.items ≡ wires_of a.wires.items ++ zip vs g.wires
        w = k.sorts ∙ ap wires_of t.wires ∙ map-append (λ (e : ℕ × WireItem). (e.0, e.1.sort)) a.wires.items (zip vs (map loose_wire g.wires)) ∙ ap (λ l. wires_of a.wires.items ++ l)
            (loose vs g.wires)
          where
            loose : (vs : List ℕ) (ss : List Sort) → wires_of (zip vs (map loose_wire ss)) ≡ zip vs ss
            loose [] ss = refl
            loose (v ∷ vs) [] = refl
            loose (v ∷ vs) (s ∷ ss) = ap (λ l. (v, s) ∷ l) (loose vs ss)

        j : c.inputs.items ≡ a.inputs.items
        j = ap (λ (d : Board). d.inputs.items) k.rest ∙ ap (λ (l : Vec ℕ Global). l.items) t.inputs

        o : c.outputs.items ≡ a.outputs.items
        o = ap (λ (d : Board). d.outputs.items) k.rest ∙ ap (λ (l : Vec ℕ Global). l.items) t.outputs

    pub taken-makers : (w : ℕ) → IsIn w a.wires.items → KnowsMaker a w → KnowsMaker c w
    taken-makers w there known = k.makers w
        (λ item h. producer-more (net a) (net b) (zip ds (map (renamed (slice_index vs)) g.edges)) t.edges (ap (λ (l : Vec ℕ Global). l.items) t.inputs) w item.producer (known item
        (old-item w item there h)))

    pub taken-users : (w : ℕ) → IsIn w a.wires.items → KnowsUser a w → KnowsUser c w
    taken-users w there known = k.users w
        (λ item h. consumer-more (net a) (net b) (zip ds (map (renamed (slice_index vs)) g.edges)) t.edges (ap (λ (l : Vec ℕ Global). l.items) t.outputs) w item.consumer (known item
        (old-item w item there h)))

  module _ (c : Board) (ks : List ℕ) (q : ks ≡ ds) where
    pub new-makers : ((k w : ℕ) (e : EdgeItem) → Member k ks → item_at k b.edges.items ≡ Some e → Member w e.targets.items → KnowsMaker c w)
        → (v : ℕ) → Member v (targets_of g.edges) → KnowsMaker c (slice_index vs v)
    new-makers makers v m =
        let e = flat-member (λ (e : Edge). e.targets) g.edges v m in
        let j = member-get g.edges e.0 e.1 in
        let n = t.edge_count in
        let l = slice_get-length g.edges j.0 e.0 j.1 in
        let d = get-there ds j.0 (omega arith) in
        let f = found j.0 d.0 (renamed (slice_index vs) e.0) d.1 (get-map (renamed (slice_index vs)) g.edges j.0 e.0 j.1) in
        makers d.0 (slice_index vs v) f.0 (rw q (get-member ds j.0 d.0 d.1)) f.1
        (subst (λ (x : Edge). Member (slice_index vs v) x.targets) (sym f.2) (member-map (slice_index vs) e.0.targets v e.2))

    pub new-users : ((k w : ℕ) (e : EdgeItem) → Member k ks → item_at k b.edges.items ≡ Some e → Member w e.sources.items → KnowsUser c w)
        → (v : ℕ) → Member v (sources_of g.edges) → KnowsUser c (slice_index vs v)
    new-users users v m =
        let e = flat-member (λ (e : Edge). e.sources) g.edges v m in
        let j = member-get g.edges e.0 e.1 in
        let n = t.edge_count in
        let l = slice_get-length g.edges j.0 e.0 j.1 in
        let d = get-there ds j.0 (omega arith) in
        let f = found j.0 d.0 (renamed (slice_index vs) e.0) d.1 (get-map (renamed (slice_index vs)) g.edges j.0 e.0 j.1) in
        users d.0 (slice_index vs v) f.0 (rw q (get-member ds j.0 d.0 d.1)) f.1
        (subst (λ (x : Edge). Member (slice_index vs v) x.sources) (sym f.2) (member-map (slice_index vs) e.0.sources v e.2))
