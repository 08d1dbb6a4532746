-- A graph that is isomorphic to a valid one is valid.
use Rattle.std.proofs.Common.{ℕ, ◌<◌, ◌≡◌, true, List, [], ◌∷◌, ◌++◌, map, length, Option, Some, None, option_map, slice_get, refl, sym, ◌∙◌, ap, ap₂, subst, arith, zero-add}
use Rattle.std.specs.List.{cons_option}
use Rattle.std.proofs.lemmas.List.{length-map, map-append}
use Rattle.chyp_term.specs.Perm.{IsPermutation, count_from, permuted}
use Rattle.chyp_term.proofs.Permuted.{Under, Under-count_from, permuted-all}
use Rattle.chyp_graph.specs.Isomorphism.{IsBijection, Isomorphic}
use Rattle.chyp_graph.specs.PlainGraph.{Edge, PlainGraph, renamed, sources_of, targets_of}
use Rattle.chyp_graph.specs.Validity.{IsValid, is_ready}
use Rattle.chyp_term.proofs.Members.{Member, Rearr-member, below-member, map-member, member-below, member-left, member-map}
use Rattle.chyp_term.proofs.Rearrangement.{Rearr, Rearr-append, Rearr-filter_map, Rearr-flat, Rearr-length, Rearr-map, Rearr-permutation, Rearr-same, Rearr-sym, join, permutation-Rearr}
use Rattle.chyp_graph.proofs.Rounds.{IsTaken, all-taken, carry, edge-taken, live_after, ready-renamed}
use Rattle.chyp_graph.proofs.ThenValid.{sources-joined, targets-joined}
use Rattle.chyp_term.proofs.Apart.{Apart-count, numbers_apart}
use Rattle.chyp_term.proofs.SameMembers.{member-count, rearr_members}

-- a bijection rearranges the numbers
pub bijection-Rearr : (m n : ℕ) (f g : ℕ → ℕ) → IsBijection m n f g → Rearr (count_from 0 n) (map f (count_from 0 m))
bijection-Rearr m n f g b =
    rearr_members (count_from 0 n) (map f (count_from 0 m)) (numbers_apart n)
    (Apart-count f 0 m (λ i j _ h _ l e. sym (b.back_there i (omega arith)) ∙ ap g e ∙ b.back_there j (omega arith)))
    (λ w h.
    let l = member-below n w h in
    subst (λ x. Member x (map f (count_from 0 m))) (ap f (zero-add (g w)) ∙ b.there_back w l) (member-count f 0 m (g w) (b.back w l)))
    (λ w h.
    let k = map-member f (count_from 0 m) w h in
    below-member n w (subst (λ x. x < n) k.2 (b.there k.0 (member-below m k.0 k.1))))

module _ (g h : PlainGraph) (v : IsValid g) (a : Isomorphic g h) where
  images : (ks : List ℕ) → Under (length g.edges) ks → permuted h.edges (map a.edge ks) ≡ map (renamed a.wire) (permuted g.edges ks)
  images [] u = refl
  images (k ∷ ks) u = ap₂ cons_option (a.ports k u.0) (images ks u.1) ∙ through (slice_get g.edges k) (permuted g.edges ks)
    where
      through : (o : Option Edge) (es : List Edge)
          → cons_option (option_map (renamed a.wire) o) (map (renamed a.wire) es) ≡ map (renamed a.wire) (cons_option o es)
      through None es = refl
      through (Some e) es = refl

  -- the edges of h are those of g, renamed, in some order
  pub edges_renamed : Rearr h.edges (map (renamed a.wire) g.edges)
  edges_renamed =
      join (Rearr-same (sym (permuted-all h.edges)))
      (join (Rearr-filter_map (slice_get h.edges) (bijection-Rearr (length g.edges) (length h.edges) a.edge a.edge_back a.edges))
      (Rearr-same (images (count_from 0 (length g.edges)) (Under-count_from (length g.edges) 0 (length g.edges) (omega arith))
      ∙ ap (map (renamed a.wire)) (permuted-all g.edges))))

  -- what is a permutation of the wires of g is one of those of h, renamed
  renamed_permutation : (xs ys : List ℕ) → IsPermutation (length g.wires) xs → Rearr (map a.wire xs) ys → IsPermutation (length h.wires) ys
  renamed_permutation xs ys t r =
      Rearr-permutation (length h.wires) ys
      (join (bijection-Rearr (length g.wires) (length h.wires) a.wire a.wire_back a.wires)
      (join (Rearr-map a.wire (permutation-Rearr (length g.wires) xs t)) r))

  taken : (e : Edge) → Member e h.edges → IsTaken h e (length h.edges)
  taken e m =
      let d = map-member (renamed a.wire) g.edges e (Rearr-member e edges_renamed m) in
      let t = edge-taken g v.acyclic d.0 d.1 in
      let size : length h.edges ≡ length g.edges = Rearr-length edges_renamed ∙ length-map g.edges (renamed a.wire) in
      let b = t.within in
      record { round = t.round; within = omega arith; ready = subst (λ x. is_ready_at x t.round) d.2 (ready d.0 t.round t.ready) }
    where
      is_ready_at : Edge → ℕ → Type 0
      is_ready_at x n = is_ready (live_after h n) x ≡ true

      edge_there : (d : Edge) → Member d g.edges → Member (renamed a.wire d) h.edges
      edge_there d k = Rearr-member (renamed a.wire d) (Rearr-sym edges_renamed) (member-map (renamed a.wire) g.edges d k)

      inputs_there : (w : ℕ) → Member w g.inputs → Member (a.wire w) (live_after h 0)
      inputs_there w k = member-left h.inputs [] (a.wire w) (subst (Member (a.wire w)) (sym a.inputs) (member-map a.wire g.inputs w k))

      ready : (d : Edge) (n : ℕ) → is_ready (live_after g n) d ≡ true → is_ready_at (renamed a.wire d) n
      ready d n =
          ready-renamed a.wire (live_after g n) (live_after h n) d
          (λ w k. subst (λ x. Member (a.wire w) (live_after h x)) (zero-add n) (carry g h a.wire 0 inputs_there edge_there n w k))

  pub isomorphic_valid : IsValid h
  isomorphic_valid = record {
    producers = renamed_permutation (g.inputs ++ targets_of g.edges) (h.inputs ++ targets_of h.edges) v.producers
        (join (Rearr-same (map-append a.wire g.inputs (targets_of g.edges)))
        (Rearr-append (Rearr-same (sym a.inputs))
        (join (Rearr-same (sym (targets-joined a.wire [] g.edges))) (Rearr-flat (λ e. e.targets) (Rearr-sym edges_renamed)))));
    consumers = renamed_permutation (g.outputs ++ sources_of g.edges) (h.outputs ++ sources_of h.edges) v.consumers
        (join (Rearr-same (map-append a.wire g.outputs (sources_of g.edges)))
        (Rearr-append (Rearr-same (sym a.outputs))
        (join (Rearr-same (sym (sources-joined a.wire [] g.edges))) (Rearr-flat (λ e. e.sources) (Rearr-sym edges_renamed)))));
    acyclic = all-taken h taken;
  }
