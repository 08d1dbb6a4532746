-- Boards that have taken a whole graph.
use Rattle.std.proofs.Common.{ℕ, ◌<◌, ◌≡◌, ◌≢◌, List, [], ◌∷◌, ◌++◌, length, map, Some, All, slice_index, ◌⊎◌, inl, inr, refl, sym, ◌∙◌, ap, subst, arith, eq-eqb, ne_eqb}
use Rattle.std.specs.List.{zip}
use Rattle.std.specs.Option.{unwrap_or}
use Rattle.std.proofs.lemmas.Bool.{cases_eq}
use Rattle.chyp_term.proofs.Closure.{index-get}
use Rattle.chyp_term.proofs.Members.{All-from_get_members, All-members, Member, Rearr-member, below-member, map-member, member-get, member-map, member-split}
use Rattle.chyp_term.proofs.Rearrangement.{permutation-Rearr}
use Rattle.chyp_term.proofs.Positions.{map-map, slice_get-length}
use Rattle.chyp_graph.specs.PlainGraph.{Edge, PlainGraph, renamed, sources_of, targets_of}
use Rattle.chyp_graph.specs.Validity.{IsValid}
use Rattle.chyp_graph.proofs.Numbering.{edges-within, input-below, output-below}
use Rattle.chyp_match.specs.View.{IsIn, Net}
use Rattle.chyp_store.specs.Items.{AreDistinct, ids, item_at}
use Rattle.chyp_work.specs.Board.{IsFiled, edge_of, edges_of, net, wires_of}
use Rattle.chyp_work.specs.Filling.{IsBoardOf, KnowsMaker, KnowsUser, with_graph}
use Rattle.chyp_work.specs.Net.{IsClosed, IsSound, place_in, plain}
use Rattle.chyp_work.specs.declared.board.Board.{Board}
use Rattle.chyp_work.specs.declared.board.EdgeItem.{EdgeItem}
use Rattle.chyp_work.specs.declared.board.WireItem.{WireItem}
use Rattle.chyp_work.proofs.Boards.{ids-map}
use Rattle.chyp_work.proofs.Fillings.{all-get, length-mapped}
use Rattle.chyp_work.proofs.Nets.{item-member}
use Rattle.chyp_work.proofs.Places.{ids-zip, index-member, items-zip, place-of-index}

-- ## lists

pub member-there : {X : Type 0} (w : ℕ) (items : List (ℕ × X)) → Member w (ids items) → IsIn w items
member-there w [] m = absurd m
member-there {X} w (e ∷ es) m = by (cases_eq w e.0) m (member-there w es)
  where
    by : (w ≡ e.0) ⊎ (w ≢ e.0) → Member w (e.0 ∷ ids es) → (Member w (ids es) → IsIn w es) → IsIn w (e ∷ es)
    by (inl q) m r = rw (eq-eqb w e.0 q) refl
    by (inr n) (inl q) r = absurd (n (sym q))
    by (inr n) (inr m) r = rw (ne_eqb w e.0 n) (r m)

pub zip-member : {X : Type 0} (ds : List ℕ) (xs : List X) (e : ℕ × X) → Member e (zip ds xs) → Member e.1 xs
zip-member [] xs e m = absurd m
zip-member (d ∷ ds) [] e m = absurd m
zip-member {X} (d ∷ ds) (x ∷ xs) e (inl q) = inl (ap (λ (e : ℕ × X). e.1) q)
zip-member (d ∷ ds) (x ∷ xs) e (inr m) = inr (zip-member ds xs e m)

pub map-fixed : {A : Type 0} (h : A → A) (xs : List A) → ((x : A) → Member x xs → h x ≡ x) → map h xs ≡ xs
map-fixed h [] e = refl
map-fixed h (x ∷ xs) e = let a = e x (inl refl) in let b = map-fixed h xs (λ y m. e y (inr m)) in λ i. a i ∷ b i

edges-back : (p f : ℕ → ℕ) (ds : List ℕ) (es : List Edge) → length ds ≡ length es → ((e : Edge) → Member e es → renamed p (renamed f e) ≡ e)
    → map (λ (e : ℕ × Edge). renamed p e.1) (zip ds (map (renamed f) es)) ≡ es
edges-back p f [] [] l h = refl
edges-back p f [] (e ∷ es) l h = absurd (omega arith)
edges-back p f (d ∷ ds) [] l h = absurd (omega arith)
edges-back p f (d ∷ ds) (e ∷ es) l h = let a = h e (inl refl) in let b = edges-back p f ds es (omega arith) (λ x m. h x (inr m)) in λ i. a i ∷ b i

all-member : (n : ℕ) (ws : List ℕ) (w : ℕ) → All (λ w. w < n) ws → Member w ws → w < n
all-member n ws w a m = let g = member-get ws w m in all-get (λ w. w < n) ws g.0 w a g.1

ports-below : (g : PlainGraph) → IsValid g → (e : Edge) → Member e g.edges → All (λ w. w < length g.wires) e.sources × All (λ w. w < length g.wires) e.targets
ports-below g v e m =
    let i = member-get g.edges e m in
    all-get (λ (e : Edge). All (λ w. w < length g.wires) e.sources × All (λ w. w < length g.wires) e.targets) g.edges i.0 e (edges-within g v (length g.wires) refl) i.1

pub source-below : (g : PlainGraph) → IsValid g → (e : Edge) → Member e g.edges → (w : ℕ) → Member w e.sources → w < length g.wires
source-below g v e m w s = all-member (length g.wires) e.sources w (ports-below g v e m).0 s

pub target-below : (g : PlainGraph) → IsValid g → (e : Edge) → Member e g.edges → (w : ℕ) → Member w e.targets → w < length g.wires
target-below g v e m w t = all-member (length g.wires) e.targets w (ports-below g v e m).1 t

-- ## a graph under fresh numbers

-- the graph, with these numbers for its edges and its wires
abbrev pub fresh : PlainGraph → List ℕ → List ℕ → Net
fresh g ds vs =
    record {
      edges = zip ds (map (renamed (slice_index vs)) g.edges);
      wires = zip vs g.wires;
      inputs = map (slice_index vs) g.inputs;
      outputs = map (slice_index vs) g.outputs;
    }

module _ (g : PlainGraph) (ds vs : List ℕ) (valid : IsValid g) (edge_count : length ds ≡ length g.edges) (wire_count : length vs ≡ length g.wires) (apart : AreDistinct vs) where
  back : (v : ℕ) → v < length g.wires → place_in vs (slice_index vs v) ≡ v
  back v h = ap (λ o. unwrap_or o 0) (place-of-index vs v apart (rw wire_count h))

  all-back : (ws : List ℕ) → ((w : ℕ) → Member w ws → w < length g.wires) → map (place_in vs) (map (slice_index vs) ws) ≡ ws
  all-back ws h = map-map (place_in vs) (slice_index vs) ws ∙ map-fixed (λ w. place_in vs (slice_index vs w)) ws (λ w m. back w (h w m))

  edge-back : (e : Edge) → Member e g.edges → renamed (place_in vs) (renamed (slice_index vs) e) ≡ e
  edge-back e m =
      let s = all-back e.sources (λ w k. source-below g valid e m w k) in
      let t = all-back e.targets (λ w k. target-below g valid e m w k) in
      λ i. record { name = e.name; sources = s i; targets = t i }

  -- its plain graph is the graph
  pub plain-fresh : plain (fresh g ds vs) ≡ g
  plain-fresh =
      let k = ids-zip vs g.wires wire_count in
      let w = items-zip vs g.wires wire_count in
      let e = ap (λ ks. map (λ (e : ℕ × Edge). renamed (place_in ks) e.1) (zip ds (map (renamed (slice_index vs)) g.edges))) k ∙ edges-back (place_in vs)
      (slice_index vs) ds g.edges edge_count edge-back in
      let i = ap (λ ks. map (place_in ks) (map (slice_index vs) g.inputs)) k ∙ all-back g.inputs (input-below g valid) in
      let o = ap (λ ks. map (place_in ks) (map (slice_index vs) g.outputs)) k ∙ all-back g.outputs (output-below g valid) in
      λ j. record { wires = w j; edges = e j; inputs = i j; outputs = o j }

  there : (v : ℕ) → v < length g.wires → IsIn (slice_index vs v) (zip vs g.wires)
  there v h = member-there (slice_index vs v) (zip vs g.wires) (rw (ids-zip vs g.wires wire_count) (index-member vs v (rw wire_count h)))

  all-there : (ws : List ℕ) → ((w : ℕ) → Member w ws → w < length g.wires) → All (λ w. IsIn w (zip vs g.wires)) (map (slice_index vs) ws)
  all-there ws h = All-members (map (slice_index vs) ws) (λ w m. let a = map-member (slice_index vs) ws w m in subst (λ x. IsIn x (zip vs g.wires)) a.2 (there a.0 (h a.0 a.1)))

  closed : IsClosed (fresh g ds vs)
  closed = record {
    ports = All-from_get_members {P = λ (e : ℕ × Edge). All (λ w. IsIn w (zip vs g.wires)) e.1.sources × All (λ w. IsIn w (zip vs g.wires)) e.1.targets}
        (zip ds (map (renamed (slice_index vs)) g.edges)) (λ e m.
        let a = map-member (renamed (slice_index vs)) g.edges e.1 (zip-member ds (map (renamed (slice_index vs)) g.edges) e m) in (
          subst (λ (x : Edge). All (λ w. IsIn w (zip vs g.wires)) x.sources) a.2 (all-there a.0.sources (source-below g valid a.0 a.1)),
          subst (λ (x : Edge). All (λ w. IsIn w (zip vs g.wires)) x.targets) a.2 (all-there a.0.targets (target-below g valid a.0 a.1)),
        ));
    inputs = all-there g.inputs (input-below g valid);
    outputs = all-there g.outputs (output-below g valid);
  }

  pub sound-fresh : AreDistinct ds → IsSound (fresh g ds vs)
  sound-fresh d = record {
    closed = closed;
    valid = rw plain-fresh valid;
    edges_apart = rw (ids-zip ds (map (renamed (slice_index vs)) g.edges) (edge_count ∙ sym (length-mapped (renamed (slice_index vs)) g.edges))) d;
    wires_apart = rw (ids-zip vs g.wires wire_count) apart;
  }

-- ## a board with a whole graph

module _ (g : PlainGraph) (b : Board) (ds vs : List ℕ) (valid : IsValid g) (edge_count : length ds ≡ length g.edges) (wire_count : length vs ≡ length g.wires) (is : net b ≡ fresh g ds vs) where
  wire-ids : ids b.wires.items ≡ vs
  wire-ids = sym (ids-map (λ (item : WireItem). item.sort) b.wires.items) ∙ ap (λ (n : Net). ids n.wires) is ∙ ids-zip vs g.wires wire_count

  edge-ids : ids b.edges.items ≡ ds
  edge-ids = sym (ids-map edge_of b.edges.items) ∙ ap (λ (n : Net). ids n.edges) is
      ∙ ids-zip ds (map (renamed (slice_index vs)) g.edges) (edge_count ∙ sym (length-mapped (renamed (slice_index vs)) g.edges))

  -- each wire is under the number of one of the graph
  number : (w : ℕ) (item : WireItem) → item_at w b.wires.items ≡ Some item → (v : ℕ) × (v < length g.wires) × (slice_index vs v ≡ w)
  number w item h =
      let m = member-map (λ (e : ℕ × WireItem). e.0) b.wires.items (w, item) (item-member w item b.wires.items h) in
      let k = member-get vs w (subst (Member w) wire-ids m) in
      (k.0, subst (λ n. k.0 < n) wire_count (slice_get-length vs k.0 w k.1), index-get vs k.0 w k.1)

  pub board-of : length g.wires < 2147483648 → length g.edges < 2147483648 → AreDistinct (ids b.wires.items) → AreDistinct (ids b.edges.items) → IsFiled b
      → ((v : ℕ) → (Member v g.inputs) ⊎ (Member v (targets_of g.edges)) → KnowsMaker b (slice_index vs v))
      → ((v : ℕ) → (Member v g.outputs) ⊎ (Member v (sources_of g.edges)) → KnowsUser b (slice_index vs v)) → IsBoardOf g b
  board-of few_wires few_edges wires_apart edges_apart filed makers users = record {
    work = record {
      sound = subst IsSound (sym is) (sound-fresh g ds vs valid edge_count wire_count apart (subst AreDistinct edge-ids edges_apart));
      filed = filed;
      ends = λ w item h. let v = number w item h in (
        subst (KnowsMaker b) v.2 (makers v.0 (made v.0 v.1)) item h,
        subst (KnowsUser b) v.2 (users v.0 (used v.0 v.1)) item h,
      );
      few_edges = let l = sym (length-mapped (λ (e : ℕ × EdgeItem). e.0) b.edges.items) ∙ ap length edge-ids ∙ edge_count in omega arith;
      few_wires = let l = sym (length-mapped (λ (e : ℕ × WireItem). e.0) b.wires.items) ∙ ap length wire-ids ∙ wire_count in omega arith;
    };
    graph = ap plain is ∙ plain-fresh g ds vs valid edge_count wire_count apart;
  }
    where
      apart : AreDistinct vs
      apart = subst AreDistinct wire-ids wires_apart

      made : (v : ℕ) → v < length g.wires → (Member v g.inputs) ⊎ (Member v (targets_of g.edges))
      made v h = member-split g.inputs (targets_of g.edges) v (Rearr-member v (permutation-Rearr (length g.wires) _ valid.producers) (below-member (length g.wires) v h))

      used : (v : ℕ) → v < length g.wires → (Member v g.outputs) ⊎ (Member v (sources_of g.edges))
      used v h = member-split g.outputs (sources_of g.edges) v (Rearr-member v (permutation-Rearr (length g.wires) _ valid.consumers) (below-member (length g.wires) v h))

-- c is b with these inputs
pub record GetsInputs (b c : Board) (is : List ℕ) : Type 0 where
  pub inputs : c.inputs.items ≡ is
  pub rest : c ≡ record b { wires = c.wires; inputs = c.inputs }
  pub sorts : wires_of c.wires.items ≡ wires_of b.wires.items
  pub known : (w : ℕ) → KnowsMaker b w → KnowsMaker c w
  pub makers : (w : ℕ) → Member w is → KnowsMaker c w
  pub users : (w : ℕ) → KnowsUser b w → KnowsUser c w

-- c is b with these outputs
pub record GetsOutputs (b c : Board) (os : List ℕ) : Type 0 where
  pub outputs : c.outputs.items ≡ os
  pub rest : c ≡ record b { wires = c.wires; outputs = c.outputs }
  pub sorts : wires_of c.wires.items ≡ wires_of b.wires.items
  pub known : (w : ℕ) → KnowsUser b w → KnowsUser c w
  pub users : (w : ℕ) → Member w os → KnowsUser c w
  pub makers : (w : ℕ) → KnowsMaker b w → KnowsMaker c w

module _ (g : PlainGraph) (a b c d : Board) (ds vs is os : List ℕ) (i : GetsInputs b c is) (o : GetsOutputs c d os) (p : is ≡ map (slice_index vs) g.inputs) (q : os ≡ map
    (slice_index vs) g.outputs) where
  opened : net a ≡ record { edges = []; wires = []; inputs = []; outputs = [] } → net b ≡ with_graph (net a) g ds vs → net d ≡ fresh g ds vs
  opened n t = λ j. record { edges = e j; wires = w j; inputs = x j; outputs = y j }
    where
      e : edges_of d.edges.items ≡ zip ds (map (renamed (slice_index vs)) g.edges)
      e = ap (λ (b : Board). edges_of b.edges.items) o.rest ∙ ap (λ (b : Board). edges_of b.edges.items) i.rest ∙ ap (λ (n : Net). n.edges) t
          ∙ ap (λ (n : Net). n.edges ++ zip ds (map (renamed (slice_index vs)) g.edges)) n

      w : wires_of d.wires.items ≡ zip vs g.wires
      w = o.sorts ∙ i.sorts ∙ ap (λ (n : Net). n.wires) t ∙ ap (λ (n : Net). n.wires ++ zip vs g.wires) n

      x : d.inputs.items ≡ map (slice_index vs) g.inputs
      x = ap (λ (b : Board). b.inputs.items) o.rest ∙ i.inputs ∙ p

      y : d.outputs.items ≡ map (slice_index vs) g.outputs
      y = o.outputs ∙ q

  pub filled : IsValid g → length g.wires < 2147483648 → length g.edges < 2147483648 → length ds ≡ length g.edges → length vs ≡ length g.wires
      → net a ≡ record { edges = []; wires = []; inputs = []; outputs = [] } → net b ≡ with_graph (net a) g ds vs → AreDistinct (ids b.wires.items) → AreDistinct (ids b.edges.items) → IsFiled d
      → ((v : ℕ) → Member v (targets_of g.edges) → KnowsMaker b (slice_index vs v)) → ((v : ℕ) → Member v (sources_of g.edges) → KnowsUser b (slice_index vs v)) → IsBoardOf g d
  filled valid few_wires few_edges edge_count wire_count n t wires_apart edges_apart f makers users =
      board-of g d ds vs valid edge_count wire_count (opened n t) few_wires few_edges (subst AreDistinct wire-same wires_apart) (subst AreDistinct edge-same edges_apart) f made used
    where
      wire-same : ids b.wires.items ≡ ids d.wires.items
      wire-same = sym (ids-map (λ (item : WireItem). item.sort) b.wires.items) ∙ ap ids (sym i.sorts ∙ sym o.sorts) ∙ ids-map (λ (item : WireItem). item.sort) d.wires.items

      edge-same : ids b.edges.items ≡ ids d.edges.items
      edge-same = sym (ap (λ (b : Board). ids b.edges.items) o.rest ∙ ap (λ (b : Board). ids b.edges.items) i.rest)

      made : (v : ℕ) → (Member v g.inputs) ⊎ (Member v (targets_of g.edges)) → KnowsMaker d (slice_index vs v)
      made v (inl m) = o.makers (slice_index vs v) (i.makers (slice_index vs v) (subst (Member (slice_index vs v)) (sym p) (member-map (slice_index vs) g.inputs v m)))
      made v (inr m) = o.makers (slice_index vs v) (i.known (slice_index vs v) (makers v m))

      used : (v : ℕ) → (Member v g.outputs) ⊎ (Member v (sources_of g.edges)) → KnowsUser d (slice_index vs v)
      used v (inl m) = o.users (slice_index vs v) (subst (Member (slice_index vs v)) (sym q) (member-map (slice_index vs) g.outputs v m))
      used v (inr m) = o.known (slice_index vs v) (i.users (slice_index vs v) (users v m))
