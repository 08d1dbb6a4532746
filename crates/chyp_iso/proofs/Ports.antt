-- Each wire of a valid graph is once an end or a port.
use Rattle.std.proofs.Common.{ℕ, zero, suc, ◌+◌, ◌<◌, ◌≡◌, List, [], ◌∷◌, ◌++◌, length, flat_map, Option, Some, None, slice_get, refl, sym, ◌∙◌, ap, arith, zero-add}
use Rattle.std.specs.Option.{option_and_then}
use Rattle.chyp_term.specs.Perm.{IsPermutation}
use Rattle.chyp_term.proofs.Closure.{index-get}
use Rattle.chyp_term.proofs.Permuted.{get-append_left, get-append_right}
use Rattle.chyp_term.proofs.Positions.{slice_get-length}
use Rattle.chyp_graph.specs.PlainGraph.{Edge, PlainGraph}
use Rattle.chyp_graph.specs.Validity.{IsValid}
use Rattle.chyp_term.proofs.Members.{Member, get-member, member-below, member-flat, member-right, parts-apart, Rearr-member}
use Rattle.chyp_term.proofs.Rearrangement.{Rearr-sym, permutation-Rearr}
use Rattle.chyp_iso.specs.Port.{IsPortAt, Side, port_at, ports_on, the_sources, the_targets}

-- the i-th port of the edge k
abbrev pub port_of : (Edge → List ℕ) → List Edge → ℕ → ℕ → Option ℕ
port_of ports es k i = option_and_then (λ e. slice_get (ports e) i) (slice_get es k)

-- the edge of a port
pub port-edge : (ports : Edge → List ℕ) (es : List Edge) (k i w : ℕ) → port_of ports es k i ≡ Some w → (e : Edge) × (slice_get es k ≡ Some e) × (slice_get (ports e) i ≡ Some w)
port-edge ports es k i w h = go (slice_get es k) refl h
  where
    go : (o : Option Edge) → slice_get es k ≡ o → option_and_then (λ e. slice_get (ports e) i) o ≡ Some w → (e : Edge) × (slice_get es k ≡ Some e) × (slice_get (ports e) i ≡ Some w)
    go None q r = cc
    go (Some e) q r = (e, q, r)

-- how many ports the first k edges have
before : (Edge → List ℕ) → List Edge → ℕ → ℕ
before ports es zero = 0
before ports [] (suc k) = 0
before ports (e ∷ es) (suc k) = length (ports e) + before ports es k

-- the place of a port among all ports
place : (ports : Edge → List ℕ) (es : List Edge) (k i w : ℕ) → port_of ports es k i ≡ Some w → slice_get (flat_map ports es) (before ports es k + i) ≡ Some w
unfolding before
place ports [] k i w h = cc
place ports (e ∷ es) zero i w h = ap (slice_get (ports e ++ flat_map ports es)) (zero-add i) ∙ get-append_left (ports e) (flat_map ports es) i (slice_get-length (ports e) i w h) ∙ h
place ports (e ∷ es) (suc k) i w h =
    let q : (length (ports e) + before ports es k) + i ≡ length (ports e) + (before ports es k + i) = omega arith in
    ap (slice_get (ports e ++ flat_map ports es)) q ∙ get-append_right (ports e) (flat_map ports es) (before ports es k + i) ∙ place ports es k i w h

-- a port that stands at one place with another is that one
same-place : (ports : Edge → List ℕ) (es : List Edge) (k i w k' i' w' : ℕ) → port_of ports es k i ≡ Some w → port_of ports es k' i' ≡ Some w'
    → before ports es k + i ≡ before ports es k' + i' → (k ≡ k') × (i ≡ i')
unfolding before
same-place ports [] k i w k' i' w' h h' e = cc
same-place ports (d ∷ es) zero i w zero i' w' h h' e = (refl, omega arith)
same-place ports (d ∷ es) zero i w (suc k') i' w' h h' e = let l = slice_get-length (ports d) i w h in absurd (omega arith)
same-place ports (d ∷ es) (suc k) i w zero i' w' h h' e = let l = slice_get-length (ports d) i' w' h' in absurd (omega arith)
same-place ports (d ∷ es) (suc k) i w (suc k') i' w' h h' e = let r = same-place ports es k i w k' i' w' h h' (omega arith) in (ap suc r.0, r.1)

-- a wire is a port once
pub port-once : (ports : Edge → List ℕ) (es : List Edge) (n : ℕ) (ends : List ℕ) → IsPermutation n (ends ++ flat_map ports es) → (k i k' i' w : ℕ)
    → port_of ports es k i ≡ Some w → port_of ports es k' i' ≡ Some w → (k ≡ k') × (i ≡ i')
port-once ports es n ends t k i k' i' w h h' =
    let x = before ports es k + i in
    let y = before ports es k' + i' in
    let a : slice_get (ends ++ flat_map ports es) (length ends + x) ≡ Some w = get-append_right ends (flat_map ports es) x ∙ place ports es k i w h in
    let b : slice_get (ends ++ flat_map ports es) (length ends + y) ≡ Some w = get-append_right ends (flat_map ports es) y ∙ place ports es k' i' w h' in
    let al = slice_get-length (ends ++ flat_map ports es) (length ends + x) w a in
    let bl = slice_get-length (ends ++ flat_map ports es) (length ends + y) w b in
    let s = t.size in
    let q : length ends + x ≡ length ends + y = t.apart (length ends + x) (length ends + y) (omega arith) (omega arith) (index-get _ (length ends + x) w a ∙ sym (index-get _ (length ends + y) w b)) in
    same-place ports es k i w k' i' w h h' (omega arith)

-- a port is no end
pub port-no_end : (ports : Edge → List ℕ) (es : List Edge) (n : ℕ) (ends : List ℕ) → IsPermutation n (ends ++ flat_map ports es) → (k i w : ℕ) → port_of ports es k i ≡ Some w → Member w ends → ⊥
port-no_end ports es n ends t k i w h m =
    let e = port-edge ports es k i w h in
    parts-apart n ends (flat_map ports es) t w m (member-flat ports es e.0 w (get-member es k e.0 e.1) (get-member (ports e.0) i w e.2))

-- a port is one of the wires
pub port-below : (ports : Edge → List ℕ) (es : List Edge) (n : ℕ) (ends : List ℕ) → IsPermutation n (ends ++ flat_map ports es) → (k i w : ℕ) → port_of ports es k i ≡ Some w → w < n
port-below ports es n ends t k i w h =
    let e = port-edge ports es k i w h in
    member-below n w (Rearr-member w (Rearr-sym (permutation-Rearr n _ t)) (member-right ends _ w (member-flat ports es e.0 w (get-member es k e.0 e.1) (get-member (ports e.0) i w e.2))))

pub edge-below : (ports : Edge → List ℕ) (es : List Edge) (k i w : ℕ) → port_of ports es k i ≡ Some w → k < length es
edge-below ports es k i w h = let e = port-edge ports es k i w h in slice_get-length es k e.0 e.1

-- the same of the graph
pub once : (g : PlainGraph) → IsValid g → (side : Side) (k i k' i' w : ℕ) → IsPortAt g side k i w → IsPortAt g side k' i' w → (k ≡ k') × (i ≡ i')
once g t the_sources k i k' i' w h h' = port-once (λ e. e.sources) g.edges (length g.wires) g.outputs t.consumers k i k' i' w h h'
once g t the_targets k i k' i' w h h' = port-once (λ e. e.targets) g.edges (length g.wires) g.inputs t.producers k i k' i' w h h'

pub wire-below : (g : PlainGraph) → IsValid g → (side : Side) (k i w : ℕ) → IsPortAt g side k i w → w < length g.wires
wire-below g t the_sources k i w h = port-below (λ e. e.sources) g.edges (length g.wires) g.outputs t.consumers k i w h
wire-below g t the_targets k i w h = port-below (λ e. e.targets) g.edges (length g.wires) g.inputs t.producers k i w h

pub below-edge : (g : PlainGraph) (side : Side) (k i w : ℕ) → IsPortAt g side k i w → k < length g.edges
below-edge g side k i w h = edge-below (ports_on side) g.edges k i w h

-- the same of one side of an edge
pub port-is : (g : PlainGraph) (side : Side) (k i : ℕ) (e : Edge) → slice_get g.edges k ≡ Some e → port_at g side k i ≡ slice_get (ports_on side e) i
port-is g side k i e q = ap (option_and_then (λ d. slice_get (ports_on side d) i)) q
