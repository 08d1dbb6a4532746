-- The ends of wires are the ports that a graph knows.
use Rattle.std.proofs.Common.{ℕ, suc, ◌<◌, ◌≡◌, true, List, [], ◌∷◌, ◌++◌, length, flat_map, Option, Some, None, option_map, slice_get, slice_index, ◌⊎◌, inl, inr, Contains, IsNone, ◌↔◌, refl, sym, ◌∙◌, ap, subst}
use Rattle.chyp_term.specs.Perm.{IsPermutation}
use Rattle.chyp_term.specs.Positions.{is_there, place_of}
use Rattle.chyp_term.proofs.Closure.{index-get}
use Rattle.chyp_term.proofs.Inverses.{place-found}
use Rattle.chyp_term.proofs.Positions.{slice_get-length}
use Rattle.chyp_graph.specs.Graph.{source_at, target_at}
use Rattle.chyp_graph.specs.PlainGraph.{Edge, PlainGraph, sources_of, targets_of}
use Rattle.chyp_graph.specs.Validity.{IsValid}
use Rattle.chyp_term.proofs.Members.{Member, member-among, member-get, member-split, place-first, Contains-member}
use Rattle.chyp_graph.proofs.Removing.{Once, Once-apart, Once-perm, Once-right, port-member, port-once, port_at}
use Rattle.chyp_picture.specs.declared.end.End.{End}
use Rattle.chyp_picture.specs.declared.end.End.TheVariants.{Input, Output, Port}
use Rattle.chyp_layout.specs.Ends.{end_at, from_of, port_of, port_or, to_of}

-- the place in a list that is one, and its number
abbrev pair_or : Option (ℕ × ℕ) → ℕ × ℕ
pair_or None = (0, 0)
pair_or (Some p) = p

-- what is found is a port
pub found-port : (ports : Edge → List ℕ) (es : List Edge) (w k i : ℕ) → port_of ports es w ≡ Some (k, i) → port_at ports es k i ≡ Some w
found-port ports [] w k i h = cc
found-port ports (e ∷ es) w k i h = go (place_of w (ports e)) refl (port_of ports es w) refl h (found-port ports es w)
  where
    go : (o : Option ℕ) → place_of w (ports e) ≡ o → (q : Option (ℕ × ℕ)) → port_of ports es w ≡ q → port_or o q ≡ Some (k, i) → ((k i : ℕ) → port_of ports es w ≡ Some (k, i)
        → port_at ports es k i ≡ Some w) → port_at ports (e ∷ es) k i ≡ Some w
    go (Some j) a q b r ih =
        let x : 0 ≡ k = ap (λ o. (pair_or o).0) r in
        let y : j ≡ i = ap (λ o. (pair_or o).1) r in
        subst (λ z. port_at ports (e ∷ es) z i ≡ Some w) x (subst (λ z. slice_get (ports e) z ≡ Some w) y (place-found w (ports e) j a))
    go None a None b r ih = cc
    go None a (Some p) b r ih =
        let x : suc p.0 ≡ k = ap (λ o. (pair_or o).0) r in
        let y : p.1 ≡ i = ap (λ o. (pair_or o).1) r in
        subst (λ z. port_at ports (e ∷ es) z i ≡ Some w) x (subst (λ z. port_at ports es p.0 z ≡ Some w) y (ih p.0 p.1 b))

-- each port is found
pub port-found : (ports : Edge → List ℕ) (es : List Edge) (w : ℕ) → Member w (flat_map ports es) → (p : ℕ × ℕ) × (port_of ports es w ≡ Some p)
port-found ports [] w m = absurd m
port-found ports (e ∷ es) w m = go (place_of w (ports e)) refl (member-split (ports e) (flat_map ports es) w m) (port-found ports es w)
  where
    go : (o : Option ℕ) → place_of w (ports e) ≡ o → (Member w (ports e)) ⊎ (Member w (flat_map ports es)) → (Member w (flat_map ports es) → (p : ℕ × ℕ) × (port_of ports es w ≡ Some p))
        → (p : ℕ × ℕ) × (port_or o (port_of ports es w) ≡ Some p)
    go (Some j) a m ih = ((0, j), refl)
    go None a (inl m) ih = let t : is_there (place_of w (ports e)) ≡ true = member-among (ports e) w m in absurd (cc)
    go None a (inr m) ih = let r = ih m in ((suc r.0.0, r.0.1), ap (option_map (λ q. (suc q.0, q.1))) r.1)

-- the port at which a wire stands is the one that is found
pub port-is : (ports : Edge → List ℕ) (es : List Edge) (w k i : ℕ) → Once (flat_map ports es) → port_at ports es k i ≡ Some w → port_of ports es w ≡ Some (k, i)
port-is ports es w k i o h =
    let r = port-found ports es w (port-member ports es k i w h) in
    let s = port-once ports es o r.0.0 k r.0.1 i w (found-port ports es w r.0.0 r.0.1 r.1) h in
    r.1 ∙ ap (λ a. Some (a, r.0.1)) s.0 ∙ ap (λ b. Some (k, b)) s.1

-- no port is found of a wire at the rim
pub port-none : (ports : Edge → List ℕ) (es : List Edge) (rim : List ℕ) (w : ℕ) → Once (rim ++ flat_map ports es) → Member w rim → port_of ports es w ≡ None
port-none ports es rim w o m = go (port_of ports es w) refl
  where
    go : (q : Option (ℕ × ℕ)) → port_of ports es w ≡ q → q ≡ None
    go None a = refl
    go (Some p) a = absurd (Once-apart rim (flat_map ports es) o w m (port-member ports es p.0 p.1 w (found-port ports es w p.0 p.1 a)))

-- the end at the rim, read from a table
pub end-at_rim : (name : ℕ → End) (ports : Edge → List ℕ) (es : List Edge) (rim table : List ℕ) (n w : ℕ) → IsPermutation n (rim ++ flat_map ports es) → Contains rim w
    → ((j : ℕ) → j < length rim → slice_index table (slice_index rim j) ≡ j) → name (slice_index table w) ≡ end_at name (port_of ports es w) (place_of w rim)
end-at_rim name ports es rim table n w p c t =
    let m = Contains-member rim w c in
    let j = member-get rim w m in
    let l = slice_get-length rim j.0 w j.1 in
    let e : slice_index rim j.0 ≡ w = index-get rim j.0 w j.1 in
    let f : place_of w rim ≡ Some j.0 = ap (λ x. place_of x rim) (sym e) ∙ place-first n rim (flat_map ports es) p j.0 l in
    let a : slice_index table w ≡ j.0 = ap (slice_index table) (sym e) ∙ t j.0 l in
    rw (port-none ports es rim w (Once-perm n _ p) m, f, a) refl

pub from-port : (g : PlainGraph) → IsValid g → (w k i : ℕ) → target_at g k i ≡ Some w → Port k i ≡ from_of g w
from-port g v w k i h = sym (ap (λ q. end_at Input q (place_of w g.inputs)) (port-is (λ e. e.targets) g.edges w k i (Once-right g.inputs (targets_of g.edges) (Once-perm
    (length g.wires) _ v.producers)) h))

pub to-port : (g : PlainGraph) → IsValid g → (w k i : ℕ) → source_at g k i ≡ Some w → Port k i ≡ to_of g w
to-port g v w k i h = sym (ap (λ q. end_at Output q (place_of w g.outputs)) (port-is (λ e. e.sources) g.edges w k i (Once-right g.outputs (sources_of g.edges) (Once-perm
    (length g.wires) _ v.consumers)) h))

pub from-rim : (g : PlainGraph) → IsValid g → (table : List ℕ) (w : ℕ) → Contains g.inputs w → ((j : ℕ) → j < length g.inputs → slice_index table (slice_index g.inputs j) ≡ j)
    → Input (slice_index table w) ≡ from_of g w
from-rim g v table w c t = end-at_rim Input (λ e. e.targets) g.edges g.inputs table (length g.wires) w v.producers c t

pub to-rim : (g : PlainGraph) → IsValid g → (table : List ℕ) (w : ℕ) → Contains g.outputs w → ((j : ℕ) → j < length g.outputs → slice_index table (slice_index g.outputs j) ≡ j)
    → Output (slice_index table w) ≡ to_of g w
to-rim g v table w c t = end-at_rim Output (λ e. e.sources) g.edges g.outputs table (length g.wires) w v.consumers c t

pub rim-of_none : (rim : List ℕ) (w : ℕ) (r : Option (ℕ × ℕ)) → (IsNone r ↔ Contains rim w) → r ≡ None → Contains rim w
rim-of_none rim w r h e = (subst (λ r. IsNone r ↔ Contains rim w) e h).0 refl
