-- Some occurrences and replaced graphs, computed.
use Rattle.std.specs.Prelude.{Contains}
use Rattle.std.proofs.Common.{ℕ, zero, suc, ◌≡◌, true, false, List, [], ◌∷◌, length, ◌⊎◌, inl, inr, refl, ap₂, subst, arith}
use Rattle.chyp_base.specs.declared.sort.Sort.{Sort}
use Rattle.chyp_term.specs.Morphism.{Morphism, generator, then, beside}
use Rattle.chyp_term.specs.Derivation.{empty, identity}
use Rattle.chyp_graph.specs.GraphOf.{graph_of}
use Rattle.chyp_graph.specs.PlainGraph.{Edge, PlainGraph}
use Rattle.chyp_pattern.specs.declared.occurrence.Occurrence.{Occurrence}
use Rattle.chyp_pattern.specs.Occurrences.{AreOccurrences, AreOrdered}
use Rattle.chyp_term.proofs.Members.{Contains-member, member-Contains}
use Rattle.chyp_pattern.specs.Occurrence.{IsOccurrence, IsReached, first, next}
use Rattle.chyp_pattern.specs.Replacement.{replaced}

wire : Sort
wire = record { name = 120 ∷ [] }

-- generators with one wire on each side, by their names
box : ℕ → Morphism
box n = generator (n ∷ []) (wire ∷ []) (wire ∷ [])

-- an edge with one wire on each side
edge : ℕ → ℕ → ℕ → Edge
edge n v w = record { name = n ∷ []; sources = v ∷ []; targets = w ∷ [] }

-- f ; g ; h with g replaced by two boxes in a row: the image wires go, and those of the boxes come last
inside : replaced (graph_of (then (box 1) (then (box 2) (box 3)))) (graph_of (box 2)) (graph_of (then (box 4) (box 5))) (1 ∷ []) (1 ∷ 2 ∷ [])
    ≡ record {
      wires = wire ∷ wire ∷ wire ∷ wire ∷ wire ∷ [];
      edges = edge 1 0 2 ∷ edge 3 4 1 ∷ edge 4 2 3 ∷ edge 5 3 4 ∷ [];
      inputs = 0 ∷ [];
      outputs = 1 ∷ [];
    }
unfolding box wire edge
inside = refl

-- f ; g with g replaced by a bare wire: f makes the output itself
straight : replaced (graph_of (then (box 1) (box 2))) (graph_of (box 2)) (graph_of (identity (wire ∷ []))) (1 ∷ []) (1 ∷ 2 ∷ [])
    ≡ record { wires = wire ∷ wire ∷ []; edges = edge 1 0 1 ∷ []; inputs = 0 ∷ []; outputs = 1 ∷ [] }
unfolding box wire edge
straight = refl

-- f ; g with the bare wire between them replaced by h
between : replaced (graph_of (then (box 1) (box 2))) (graph_of (identity (wire ∷ []))) (graph_of (box 3)) [] (1 ∷ [])
    ≡ record {
      wires = wire ∷ wire ∷ wire ∷ wire ∷ [];
      edges = edge 1 0 2 ∷ edge 2 3 1 ∷ edge 3 2 3 ∷ [];
      inputs = 0 ∷ [];
      outputs = 1 ∷ [];
    }
unfolding box wire edge
between = refl

-- f and h of f ; g ; h are no convex occurrence of f * h: the chain of g alone leads from the image of f to that of h
not_convex : IsOccurrence (graph_of (beside (box 1) (box 3))) (graph_of (then (box 1) (then (box 2) (box 3)))) (0 ∷ 2 ∷ []) (0 ∷ 1 ∷ 2 ∷ 3 ∷ []) → ⊥
unfolding box wire
not_convex o =
    let c : false ≡ true = o.convex 1 _ 2 (first refl refl {w = 1} (1, omega arith, refl) (0, omega arith, refl)) refl (0, omega arith, refl) in
    cc

-- no images
nothing : Occurrence
nothing = record { edges = []; wires = [] }

-- the empty graph has one occurrence in every graph
empty-once : (g : PlainGraph) → AreOccurrences (graph_of empty) g (nothing ∷ [])
unfolding nothing
empty-once g = record { ordered = ordered; members = λ o. (there o, back_at o) }
  where
    ordered : AreOrdered (nothing ∷ [])
    ordered i zero a b l p q = absurd (omega arith)
    ordered i (suc j) a b l p q = cc

    unreached : (k : ℕ) → IsReached g [] [] k → ⊥
    unreached k (first s o c d) = let l = c.1 in omega arith
    unreached k (next {j = j} r t s o c d) = unreached j r

    occurs : IsOccurrence (graph_of empty) g [] []
    occurs = record {
      edge_count = refl;
      wire_count = refl;
      edges_apart = λ i j h l e. absurd (omega arith);
      wires_apart = λ i j h l e. absurd (omega arith);
      sorts = λ v h. absurd (omega arith);
      ports = λ k h. absurd (omega arith);
      convex = λ k e w r s c. absurd (unreached k r);
    }

    there : (o : Occurrence) → Contains (nothing ∷ []) o → IsOccurrence (graph_of empty) g o.edges o.wires
    there o c = go (Contains-member (nothing ∷ []) o c)
      where
        go : (◌≡◌ {A = Occurrence} (nothing) o) ⊎ ⊥ → IsOccurrence (graph_of empty) g o.edges o.wires
        go (inl e) = subst (λ (z : Occurrence). IsOccurrence (graph_of empty) g z.edges z.wires) e occurs
        go (inr h) = absurd h

    none : (xs : List ℕ) → length xs ≡ 0 → [] ≡ xs
    none [] q = refl
    none (x ∷ xs) q = absurd (omega arith)

    back_at : (o : Occurrence) → IsOccurrence (graph_of empty) g o.edges o.wires → Contains (nothing ∷ []) o
    back_at o q = member-Contains (nothing ∷ []) o
        (inl (ap₂ (λ x y. record { edges = x; wires = y }) (none o.edges q.edge_count) (none o.wires q.wire_count)))
