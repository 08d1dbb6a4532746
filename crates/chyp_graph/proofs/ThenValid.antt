-- g ; h is valid where g and h are, and g has as many outputs as h has inputs.
use Rattle.std.proofs.Common.{[], ℕ, zero, suc, ◌+◌, ◌≡◌, Bool, true, false, cond, List, ◌∷◌, ◌++◌, map, length, flat_map, slice_index, ◌⊎◌, inl, inr, refl, sym, ◌∙◌, ap, ap₂, subst, arith}
use Rattle.std.proofs.Common.{append_assoc, append-nil, length-append, zero-add}
use Rattle.std.proofs.lemmas.List.{map-append, length-map}
use Rattle.std.proofs.lemmas.List.Elements.{filter-append}
use Rattle.std.proofs.lemmas.Bool.{cases_Bool}
use Rattle.chyp_term.specs.Perm.{count_from, permuted}
use Rattle.chyp_term.specs.Positions.{is_apart}
use Rattle.chyp_term.proofs.Permuted.{length-permuted}
use Rattle.chyp_term.proofs.Positions.{Under-filter, apart-none, count_from-append, upto, upto-suc, map-id}
use Rattle.chyp_term.proofs.Counting.{count_from-push}
use Rattle.chyp_term.proofs.Members.{Member, Rearr-member, filter-all, filter-none, map-member, member-below, member-left, member-map, member-not_apart, member-right, member-split, not_member-apart}
use Rattle.chyp_term.proofs.Members.{parts-apart, place-first}
use Rattle.chyp_term.proofs.Rearrangement.{Rearr, Rearr-append, Rearr-comm, Rearr-filter, Rearr-left, Rearr-map, Rearr-permutation, Rearr-right, Rearr-same, Rearr-sym, flat-append, flat-map, join}
use Rattle.chyp_term.proofs.Rearrangement.{permutation-Rearr}
use Rattle.chyp_term.proofs.Apart.{map-by_index}
use Rattle.chyp_graph.specs.Composition.{inner, inner_wires, joined, joined_at, then_graph}
use Rattle.chyp_graph.specs.PlainGraph.{Edge, PlainGraph, renamed, sources_of, targets_of}
use Rattle.chyp_graph.specs.Validity.{IsValid, is_ready}
use Rattle.chyp_graph.proofs.Rounds.{IsTaken, all-live, all-taken, carry, edge-taken, live_after, ready-more, ready-renamed}

pub renamed-id : (e : Edge) → renamed (λ w. w) e ≡ e
renamed-id e = ap₂ (λ a b. record { name = e.name; sources = a; targets = b }) (map-id e.sources) (map-id e.targets)

pub map-flat : {A : Type 0} (f : ℕ → ℕ) (g : A → List ℕ) (xs : List A) → flat_map (λ x. map f (g x)) xs ≡ map f (flat_map g xs)
map-flat f g [] = refl
map-flat f g (x ∷ xs) = ap (λ r. map f (g x) ++ r) (map-flat f g xs) ∙ sym (map-append f (g x) (flat_map g xs))

-- the targets of two lists of edges, of which the second is renamed
pub targets-joined : (f : ℕ → ℕ) (es fs : List Edge) → targets_of (es ++ map (renamed f) fs) ≡ targets_of es ++ map f (targets_of fs)
targets-joined f es fs = flat-append (λ e. e.targets) es (map (renamed f) fs) ∙ ap (λ r. targets_of es ++ r) (flat-map (λ e. e.targets) (renamed f) fs ∙ map-flat f (λ e. e.targets) fs)

pub sources-joined : (f : ℕ → ℕ) (es fs : List Edge) → sources_of (es ++ map (renamed f) fs) ≡ sources_of es ++ map f (sources_of fs)
sources-joined f es fs = flat-append (λ e. e.sources) es (map (renamed f) fs) ∙ ap (λ r. sources_of es ++ r) (flat-map (λ e. e.sources) (renamed f) fs ∙ map-flat f (λ e. e.sources) fs)

-- what is n more than the count of those that pass below it counts on from n
pub map-inner : (p : ℕ → Bool) (n m : ℕ) (f : ℕ → ℕ) → ((w : ℕ) → p w ≡ true → f w ≡ n + length (upto p w)) → map f (upto p m) ≡ count_from n (length (upto p m))
map-inner p n zero f h = refl
map-inner p n (suc m) f h = go (cases_Bool (p m)) (map-inner p n m f h)
  where
    go : (p m ≡ true) ⊎ (p m ≡ false) → map f (upto p m) ≡ count_from n (length (upto p m)) → map f (upto p (suc m)) ≡ count_from n (length (upto p (suc m)))
    go (inl b) ih =
        let e : upto p (suc m) ≡ upto p m ++ m ∷ [] = upto-suc p m ∙ ap (λ c. upto p m ++ cond c (m ∷ []) []) b in
        let l : length (upto p (suc m)) ≡ suc (length (upto p m)) = ap length e ∙ length-append (upto p m) (m ∷ []) ∙ omega arith in
        ap (map f) e ∙ map-append f (upto p m) (m ∷ []) ∙ ap₂ (λ a c. a ++ c ∷ []) ih (h m b)
        ∙ sym (count_from-push n (length (upto p m))) ∙ ap (count_from n) (sym l)
    go (inr b) ih =
        let e : upto p (suc m) ≡ upto p m = upto-suc p m ∙ ap (λ c. upto p m ++ cond c (m ∷ []) []) b ∙ append-nil (upto p m) in
        ap (map f) e ∙ ih ∙ ap (λ xs. count_from n (length xs)) (sym e)

-- ## a graph that is put behind others

-- the wires that are no input are the targets, in some order
pub inner-targets : (h : PlainGraph) → IsValid h → Rearr (inner_wires h) (targets_of h.edges)
inner-targets h v =
    join (Rearr-filter (is_apart h.inputs) (permutation-Rearr (length h.wires) (h.inputs ++ targets_of h.edges) v.producers))
    (Rearr-same (filter-append (is_apart h.inputs) h.inputs (targets_of h.edges)
    ∙ ap₂ (λ a b. a ++ b)
    (filter-none (is_apart h.inputs) h.inputs (λ w m. member-not_apart h.inputs w m))
    (filter-all (is_apart h.inputs) (targets_of h.edges) (λ w m. not_member-apart h.inputs w (λ k. parts-apart (length h.wires) h.inputs (targets_of h.edges) v.producers w k m)))))

pub inputs-inner : (h : PlainGraph) → IsValid h → Rearr (count_from 0 (length h.wires)) (h.inputs ++ inner_wires h)
inputs-inner h v = join (permutation-Rearr (length h.wires) _ v.producers) (Rearr-left h.inputs (Rearr-sym (inner-targets h v)))

pub length-inner : (h : PlainGraph) → length (permuted h.wires (inner_wires h)) ≡ length (inner_wires h)
length-inner h = length-permuted h.wires (inner_wires h) (Under-filter (is_apart h.inputs) (length h.wires) 0 (length h.wires) (omega arith))

-- the inputs of h become the outputs of g
pub joined-inputs : (g h : PlainGraph) → IsValid h → length g.outputs ≡ length h.inputs → map (joined g h) h.inputs ≡ g.outputs
joined-inputs g h v m = map-by_index (joined g h) h.inputs g.outputs (sym m) (λ i l.
    ap (joined_at g.outputs (length g.wires + length (inner h.inputs (slice_index h.inputs i)))) (place-first (length h.wires) h.inputs (targets_of h.edges) v.producers i l))

-- the other wires of h follow those of g
pub joined-inner : (g h : PlainGraph) → map (joined g h) (inner_wires h) ≡ count_from (length g.wires) (length (inner_wires h))
joined-inner g h = map-inner (is_apart h.inputs) (length g.wires) (length h.wires) (joined g h) (λ w a.
    ap (joined_at g.outputs (length g.wires + length (inner h.inputs w))) (apart-none h.inputs w a))

-- ## validity

module _ (g h : PlainGraph) (vg : IsValid g) (vh : IsValid h) (m : length g.outputs ≡ length h.inputs) where
  length-wires : length (then_graph g h).wires ≡ length g.wires + length (inner_wires h)
  length-wires = length-append g.wires (permuted h.wires (inner_wires h)) ∙ ap (λ n. length g.wires + n) (length-inner h)

  all-wires : count_from 0 (length (then_graph g h).wires) ≡ count_from 0 (length g.wires) ++ map (joined g h) (inner_wires h)
  all-wires =
      ap (count_from 0) length-wires ∙ count_from-append 0 (length g.wires) (length (inner_wires h))
      ∙ ap (λ r. count_from 0 (length g.wires) ++ r) (ap (λ n. count_from n (length (inner_wires h))) (zero-add (length g.wires)) ∙ sym (joined-inner g h))

  producers : Rearr (count_from 0 (length (then_graph g h).wires)) (g.inputs ++ targets_of (then_graph g h).edges)
  producers =
      join (Rearr-same all-wires)
      (join (Rearr-append (permutation-Rearr (length g.wires) _ vg.producers) (Rearr-map (joined g h) (inner-targets h vh)))
      (Rearr-same (append_assoc g.inputs (targets_of g.edges) (map (joined g h) (targets_of h.edges)) ∙ ap (λ r. g.inputs ++ r) (sym (targets-joined (joined g h) g.edges h.edges)))))

  -- the outputs of g and the other wires of h are what h ends in
  used-later : Rearr (g.outputs ++ map (joined g h) (inner_wires h)) (map (joined g h) h.outputs ++ map (joined g h) (sources_of h.edges))
  used-later =
      join (Rearr-same (ap (λ r. r ++ map (joined g h) (inner_wires h)) (sym (joined-inputs g h vh m)) ∙ sym (map-append (joined g h) h.inputs (inner_wires h))))
      (join (Rearr-map (joined g h) (join (Rearr-sym (inputs-inner h vh)) (permutation-Rearr (length h.wires) _ vh.consumers)))
      (Rearr-same (map-append (joined g h) h.outputs (sources_of h.edges))))

  consumers : Rearr (count_from 0 (length (then_graph g h).wires)) (map (joined g h) h.outputs ++ sources_of (then_graph g h).edges)
  consumers =
      join (Rearr-same all-wires)
      (join (Rearr-right (map (joined g h) (inner_wires h)) (join (permutation-Rearr (length g.wires) _ vg.consumers) (Rearr-comm g.outputs (sources_of g.edges))))
      (join (Rearr-same (append_assoc (sources_of g.edges) g.outputs (map (joined g h) (inner_wires h))))
      (join (Rearr-left (sources_of g.edges) used-later)
      (join (Rearr-same (sym (append_assoc (sources_of g.edges) (map (joined g h) h.outputs) (map (joined g h) (sources_of h.edges)))))
      (join (Rearr-right (map (joined g h) (sources_of h.edges)) (Rearr-comm (sources_of g.edges) (map (joined g h) h.outputs)))
      (Rearr-same (append_assoc (map (joined g h) h.outputs) (sources_of g.edges) (map (joined g h) (sources_of h.edges))
      ∙ ap (λ r. map (joined g h) h.outputs ++ r) (sym (sources-joined (joined g h) g.edges h.edges)))))))))

  edge-left : (e : Edge) → Member e g.edges → Member (renamed (λ w. w) e) (then_graph g h).edges
  edge-left e k = member-left g.edges _ _ (subst (λ x. Member x g.edges) (sym (renamed-id e)) k)

  edge-right : (e : Edge) → Member e h.edges → Member (renamed (joined g h) e) (then_graph g h).edges
  edge-right e k = member-right g.edges _ _ (member-map (renamed (joined g h)) h.edges e k)

  live-left : (n w : ℕ) → Member w (live_after g n) → Member w (live_after (then_graph g h) n)
  live-left n w k = subst (λ x. Member w (live_after (then_graph g h) x)) (zero-add n) (carry g (then_graph g h) (λ w. w) 0 (λ w k. member-left g.inputs [] w k) edge-left n w k)

  live-inputs : (w : ℕ) → Member w h.inputs → Member (joined g h w) (live_after (then_graph g h) (length g.edges))
  live-inputs w k =
      let o : Member (joined g h w) g.outputs = subst (Member (joined g h w)) (joined-inputs g h vh m) (member-map (joined g h) h.inputs w k) in
      let b = member-below (length g.wires) (joined g h w) (Rearr-member _ (Rearr-sym (permutation-Rearr (length g.wires) _ vg.consumers)) (member-left g.outputs (sources_of g.edges) _ o)) in
      live-left (length g.edges) (joined g h w) (all-live g vg (joined g h w) b)

  taken : (e : Edge) → Member e (then_graph g h).edges → IsTaken (then_graph g h) e (length (then_graph g h).edges)
  taken e k = go (member-split g.edges (map (renamed (joined g h)) h.edges) e k)
    where
      size : length (then_graph g h).edges ≡ length g.edges + length h.edges
      size = length-append g.edges _ ∙ ap (λ n. length g.edges + n) (length-map h.edges (renamed (joined g h)))

      go : (Member e g.edges) ⊎ (Member e (map (renamed (joined g h)) h.edges)) → IsTaken (then_graph g h) e (length (then_graph g h).edges)
      go (inl k) =
          let t = edge-taken g vg.acyclic e k in
          let b = t.within in
          let s = size in
          record { round = t.round; within = omega arith; ready = ready-more (live_after g t.round) (live_after (then_graph g h) t.round) e (live-left t.round) t.ready }
      go (inr k) =
          let f = map-member (renamed (joined g h)) h.edges e k in
          let t = edge-taken h vh.acyclic f.0 f.1 in
          let b = t.within in
          let s = size in
          record {
            round = length g.edges + t.round;
            within = omega arith;
            ready = subst (λ x. is_ready (live_after (then_graph g h) (length g.edges + t.round)) x ≡ true) f.2
                (ready-renamed (joined g h) (live_after h t.round) (live_after (then_graph g h) (length g.edges + t.round)) f.0
                (carry h (then_graph g h) (joined g h) (length g.edges) live-inputs edge-right t.round) t.ready);
          }

  pub then_valid : IsValid (then_graph g h)
  then_valid = record {
    producers = Rearr-permutation _ _ producers;
    consumers = Rearr-permutation _ _ consumers;
    acyclic = all-taken (then_graph g h) taken;
  }
