-- Tables of images.
use Rattle.std.proofs.Common.{ℕ, zero, suc, ◌+◌, ◌<◌, ◌≤◌, ◌≡◌, ◌≢◌, List, [], ◌∷◌, ◌++◌, length, Option, Some, None, slice_get, slice_set, replicate, ◌⊎◌, inl, inr, refl, sym, ◌∙◌}
use Rattle.std.proofs.Common.{ap, arith, length-append}
use Rattle.std.specs.Option.{option_and_then}
use Rattle.std.proofs.lemmas.Bool.{cases_eq}
use Rattle.std.proofs.lemmas.List.{length-replicate}
use Rattle.std.proofs.Math.ListN.{length-set}
use Rattle.chyp_term.proofs.Positions.{slice_get-length}
use Rattle.chyp_term.proofs.Slices.{get-set_same, get-set_other}
use Rattle.chyp_pairs.specs.declared.pair.Pair.{Pair}
use Rattle.chyp_pairs.specs.declared.pair.Pair.TheVariants.{Wires, Edges}
use Rattle.chyp_pairs.specs.Pairs.{IsMatching, IsNewIn, edge_back, edge_there, image, wire_back, wire_there}
use Rattle.chyp_pairs.specs.Pairing.{IsKept, filled, looked_up}
use Rattle.chyp_pairs.proofs.PairLists.{image-kept, image-none, image-off, image-one, image-past, single-first, single-last, single-push}

pub looked-same : (t : List (Option ℕ)) (x : ℕ) (o : Option ℕ) → x < length t → looked_up (slice_set t x o) x ≡ o
looked-same t x o h = ap (option_and_then (λ e. e)) (get-set_same t x o h)

pub looked-other : (t : List (Option ℕ)) (x z : ℕ) (o : Option ℕ) → z ≢ x → looked_up (slice_set t x o) z ≡ looked_up t z
looked-other t x z o n = ap (option_and_then (λ e. e)) (get-set_other t x z o n)

pub looked-within : (t : List (Option ℕ)) (x y : ℕ) → looked_up t x ≡ Some y → x < length t
looked-within t x y e = go (slice_get t x) refl e
  where
    go : (o : Option (Option ℕ)) → slice_get t x ≡ o → option_and_then (λ e. e) o ≡ Some y → x < length t
    go None q f = cc
    go (Some o) q f = slice_get-length t x o q

-- the table has the images that the pairs say
abbrev pub Shows : (Pair → Option (ℕ × ℕ)) → List Pair → List (Option ℕ) → Type 0
Shows says ps t = (z : ℕ) → looked_up t z ≡ image says ps z

pub shows-add : (says : Pair → Option (ℕ × ℕ)) (ps : List Pair) (t : List (Option ℕ)) (p : Pair) (x y : ℕ) → Shows says ps t → x < length t → says p ≡ Some (x, y)
    → image says ps x ≡ None → Shows says (ps ++ p ∷ []) (slice_set t x (Some y))
shows-add says ps t p x y s h e n z = go (cases_eq z x)
  where
    go : (z ≡ x) ⊎ (z ≡ x → ⊥) → looked_up (slice_set t x (Some y)) z ≡ image says (ps ++ p ∷ []) z
    go (inl q) = ap (looked_up (slice_set t x (Some y))) q ∙ looked-same t x (Some y) h ∙ sym (image-past says ps (p ∷ []) x n ∙ image-one says p x y e) ∙ ap (image says (ps ++ p ∷ [])) (sym q)
    go (inr q) = looked-other t x z (Some y) q ∙ s z ∙ same (image says ps z) refl
      where
        same : (o : Option ℕ) → image says ps z ≡ o → image says ps z ≡ image says (ps ++ p ∷ []) z
        same None f = f ∙ sym (image-past says ps (p ∷ []) z f ∙ image-off says p x y z e (λ r. q (sym r)))
        same (Some w) f = f ∙ sym (image-kept says ps (p ∷ []) z w f)

pub image-skip : (says : Pair → Option (ℕ × ℕ)) (ps : List Pair) (p : Pair) (z : ℕ) → says p ≡ None → image says ps z ≡ image says (ps ++ p ∷ []) z
image-skip says ps p z e = go (image says ps z) refl
  where
    go : (o : Option ℕ) → image says ps z ≡ o → image says ps z ≡ image says (ps ++ p ∷ []) z
    go None f = f ∙ sym (image-past says ps (p ∷ []) z f ∙ image-none says p z e)
    go (Some w) f = f ∙ sym (image-kept says ps (p ∷ []) z w f)

pub shows-skip : (says : Pair → Option (ℕ × ℕ)) (ps : List Pair) (t : List (Option ℕ)) (p : Pair) → Shows says ps t → says p ≡ None → Shows says (ps ++ p ∷ []) t
shows-skip says ps t p s e z = s z ∙ image-skip says ps p z e

pub shows-unskip : (says : Pair → Option (ℕ × ℕ)) (ps : List Pair) (t : List (Option ℕ)) (p : Pair) → Shows says (ps ++ p ∷ []) t → says p ≡ None → Shows says ps t
shows-unskip says ps t p s e z = s z ∙ sym (image-skip says ps p z e)

pub shows-drop : (says : Pair → Option (ℕ × ℕ)) (ps : List Pair) (t : List (Option ℕ)) (p : Pair) (x y : ℕ) → Shows says (ps ++ p ∷ []) t → x < length t
    → says p ≡ Some (x, y) → image says ps x ≡ None → Shows says ps (slice_set t x None)
shows-drop says ps t p x y s h e n z = go (cases_eq z x)
  where
    go : (z ≡ x) ⊎ (z ≡ x → ⊥) → looked_up (slice_set t x None) z ≡ image says ps z
    go (inl q) = ap (looked_up (slice_set t x None)) q ∙ looked-same t x None h ∙ sym n ∙ ap (image says ps) (sym q)
    go (inr q) = looked-other t x z None q ∙ s z ∙ sym (same (image says ps z) refl)
      where
        same : (o : Option ℕ) → image says ps z ≡ o → image says ps z ≡ image says (ps ++ p ∷ []) z
        same None f = f ∙ sym (image-past says ps (p ∷ []) z f ∙ image-off says p x y z e (λ r. q (sym r)))
        same (Some w) f = f ∙ sym (image-kept says ps (p ∷ []) z w f)

-- how many entries say something
pub filled-add : (t : List (Option ℕ)) (x y : ℕ) → x < length t → looked_up t x ≡ None → filled (slice_set t x (Some y)) ≡ suc (filled t)
filled-add [] x y h e = absurd (omega arith)
filled-add (None ∷ t) zero y h e = refl
filled-add (Some z ∷ t) zero y h e = cc
filled-add (None ∷ t) (suc x) y h e = filled-add t x y (omega arith) e
filled-add (Some z ∷ t) (suc x) y h e = ap suc (filled-add t x y (omega arith) e)

pub filled-drop : (t : List (Option ℕ)) (x y : ℕ) → looked_up t x ≡ Some y → suc (filled (slice_set t x None)) ≡ filled t
filled-drop [] x y e = cc
filled-drop (None ∷ t) zero y e = cc
filled-drop (Some z ∷ t) zero y e = refl
filled-drop (None ∷ t) (suc x) y e = filled-drop t x y e
filled-drop (Some z ∷ t) (suc x) y e = ap suc (filled-drop t x y e)

pub filled-le : (t : List (Option ℕ)) → filled t ≤ length t
filled-le [] = omega arith
filled-le (None ∷ t) = let r = filled-le t in omega arith
filled-le (Some z ∷ t) = let r = filled-le t in omega arith

pub filled-lt : (t : List (Option ℕ)) (x : ℕ) → x < length t → looked_up t x ≡ None → filled t < length t
filled-lt t x h e = let a = filled-add t x 0 h e in let b = filled-le (slice_set t x (Some 0)) in let c = length-set t x (Some 0) in omega arith

pub matching-push : (ps : List Pair) (p : Pair) → IsMatching ps → IsNewIn (wire_there p) (image wire_there ps) → IsNewIn (wire_back p) (image wire_back ps)
    → IsNewIn (edge_there p) (image edge_there ps) → IsNewIn (edge_back p) (image edge_back ps) → IsMatching (ps ++ p ∷ [])
matching-push ps p m a b c d = record {
  wires_there = single-push wire_there ps p m.wires_there a;
  wires_back = single-push wire_back ps p m.wires_back b;
  edges_there = single-push edge_there ps p m.edges_there c;
  edges_back = single-push edge_back ps p m.edges_back d;
}

pub matching-first : (ps : List Pair) (p : Pair) → IsMatching (ps ++ p ∷ []) → IsMatching ps
matching-first ps p m = record {
  wires_there = single-first wire_there ps p m.wires_there;
  wires_back = single-first wire_back ps p m.wires_back;
  edges_there = single-first edge_there ps p m.edges_there;
  edges_back = single-first edge_back ps p m.edges_back;
}

pub length-push : (ps : List Pair) (p : Pair) → length (ps ++ p ∷ []) ≡ suc (length ps)
length-push ps p = let a = length-append ps (p ∷ []) in omega arith

pub kept-add_wires : (ps : List Pair) (ws wb es eb : List (Option ℕ)) (room v w : ℕ) → IsKept ps ws wb es eb room → v < length ws → w < length ws
    → image wire_there ps v ≡ None → image wire_back ps w ≡ None → IsKept (ps ++ Wires v w ∷ []) (slice_set ws v (Some w)) (slice_set wb w (Some v)) es eb room
kept-add_wires ps ws wb es eb room v w k a b n m = record {
  matching = matching-push ps (Wires v w) k.matching n m tt tt;
  wire_images = shows-add wire_there ps ws (Wires v w) v w k.wire_images a refl n;
  wire_sources = let s = k.wires_size in shows-add wire_back ps wb (Wires v w) w v k.wire_sources (omega arith) refl m;
  edge_images = shows-skip edge_there ps es (Wires v w) k.edge_images refl;
  edge_sources = shows-skip edge_back ps eb (Wires v w) k.edge_sources refl;
  wires_size = length-set wb w (Some v) ∙ k.wires_size ∙ sym (length-set ws v (Some w));
  edges_size = k.edges_size;
  count = let c = k.count in let f = filled-add ws v w a (k.wire_images v ∙ n) in let l = length-push ps (Wires v w) in omega arith;
  enough = let e = k.enough in let l = length-set ws v (Some w) in omega arith;
}

pub kept-add_edges : (ps : List Pair) (ws wb es eb : List (Option ℕ)) (room v w : ℕ) → IsKept ps ws wb es eb room → v < length es → w < length es
    → image edge_there ps v ≡ None → image edge_back ps w ≡ None → IsKept (ps ++ Edges v w ∷ []) ws wb (slice_set es v (Some w)) (slice_set eb w (Some v)) room
kept-add_edges ps ws wb es eb room v w k a b n m = record {
  matching = matching-push ps (Edges v w) k.matching tt tt n m;
  wire_images = shows-skip wire_there ps ws (Edges v w) k.wire_images refl;
  wire_sources = shows-skip wire_back ps wb (Edges v w) k.wire_sources refl;
  edge_images = shows-add edge_there ps es (Edges v w) v w k.edge_images a refl n;
  edge_sources = let s = k.edges_size in shows-add edge_back ps eb (Edges v w) w v k.edge_sources (omega arith) refl m;
  wires_size = k.wires_size;
  edges_size = length-set eb w (Some v) ∙ k.edges_size ∙ sym (length-set es v (Some w));
  count = let c = k.count in let f = filled-add es v w a (k.edge_images v ∙ n) in let l = length-push ps (Edges v w) in omega arith;
  enough = let e = k.enough in let l = length-set es v (Some w) in omega arith;
}

-- the items of the last pair are in the tables
pub kept-wires_within : (ps : List Pair) (ws wb es eb : List (Option ℕ)) (room v w : ℕ) → IsKept (ps ++ Wires v w ∷ []) ws wb es eb room → (looked_up ws v ≡ Some w) × (looked_up wb w ≡ Some v)
kept-wires_within ps ws wb es eb room v w k = (
  k.wire_images v ∙ image-past wire_there ps (Wires v w ∷ []) v (single-last wire_there ps (Wires v w) k.matching.wires_there) ∙ image-one wire_there (Wires v w) v w refl,
  k.wire_sources w ∙ image-past wire_back ps (Wires v w ∷ []) w (single-last wire_back ps (Wires v w) k.matching.wires_back) ∙ image-one wire_back (Wires v w) w v refl,
)

pub kept-edges_within : (ps : List Pair) (ws wb es eb : List (Option ℕ)) (room v w : ℕ) → IsKept (ps ++ Edges v w ∷ []) ws wb es eb room → (looked_up es v ≡ Some w) × (looked_up eb w ≡ Some v)
kept-edges_within ps ws wb es eb room v w k = (
  k.edge_images v ∙ image-past edge_there ps (Edges v w ∷ []) v (single-last edge_there ps (Edges v w) k.matching.edges_there) ∙ image-one edge_there (Edges v w) v w refl,
  k.edge_sources w ∙ image-past edge_back ps (Edges v w ∷ []) w (single-last edge_back ps (Edges v w) k.matching.edges_back) ∙ image-one edge_back (Edges v w) w v refl,
)

pub kept-drop_wires : (ps : List Pair) (ws wb es eb : List (Option ℕ)) (room v w : ℕ) → IsKept (ps ++ Wires v w ∷ []) ws wb es eb room
    → IsKept ps (slice_set ws v None) (slice_set wb w None) es eb room
kept-drop_wires ps ws wb es eb room v w k =
    let r = kept-wires_within ps ws wb es eb room v w k in
    record {
      matching = matching-first ps (Wires v w) k.matching;
      wire_images = shows-drop wire_there ps ws (Wires v w) v w k.wire_images (looked-within ws v w r.0) refl (single-last wire_there ps (Wires v w) k.matching.wires_there);
      wire_sources = shows-drop wire_back ps wb (Wires v w) w v k.wire_sources (looked-within wb w v r.1) refl (single-last wire_back ps (Wires v w) k.matching.wires_back);
      edge_images = shows-unskip edge_there ps es (Wires v w) k.edge_images refl;
      edge_sources = shows-unskip edge_back ps eb (Wires v w) k.edge_sources refl;
      wires_size = length-set wb w None ∙ k.wires_size ∙ sym (length-set ws v None);
      edges_size = k.edges_size;
      count = let c = k.count in let f = filled-drop ws v w r.0 in let l = length-push ps (Wires v w) in omega arith;
      enough = let e = k.enough in let l = length-set ws v None in omega arith;
    }

pub kept-drop_edges : (ps : List Pair) (ws wb es eb : List (Option ℕ)) (room v w : ℕ) → IsKept (ps ++ Edges v w ∷ []) ws wb es eb room
    → IsKept ps ws wb (slice_set es v None) (slice_set eb w None) room
kept-drop_edges ps ws wb es eb room v w k =
    let r = kept-edges_within ps ws wb es eb room v w k in
    record {
      matching = matching-first ps (Edges v w) k.matching;
      wire_images = shows-unskip wire_there ps ws (Edges v w) k.wire_images refl;
      wire_sources = shows-unskip wire_back ps wb (Edges v w) k.wire_sources refl;
      edge_images = shows-drop edge_there ps es (Edges v w) v w k.edge_images (looked-within es v w r.0) refl (single-last edge_there ps (Edges v w) k.matching.edges_there);
      edge_sources = shows-drop edge_back ps eb (Edges v w) w v k.edge_sources (looked-within eb w v r.1) refl (single-last edge_back ps (Edges v w) k.matching.edges_back);
      wires_size = k.wires_size;
      edges_size = length-set eb w None ∙ k.edges_size ∙ sym (length-set es v None);
      count = let c = k.count in let f = filled-drop es v w r.0 in let l = length-push ps (Edges v w) in omega arith;
      enough = let e = k.enough in let l = length-set es v None in omega arith;
    }

-- there is room for one more
pub kept-room_wires : (ps : List Pair) (ws wb es eb : List (Option ℕ)) (room v : ℕ) → IsKept ps ws wb es eb room → v < length ws → image wire_there ps v ≡ None → length ps < room
kept-room_wires ps ws wb es eb room v k h n =
    let a = filled-lt ws v h (k.wire_images v ∙ n) in let b = filled-le es in let c = k.count in let d = k.enough in omega arith

pub kept-room_edges : (ps : List Pair) (ws wb es eb : List (Option ℕ)) (room v : ℕ) → IsKept ps ws wb es eb room → v < length es → image edge_there ps v ≡ None → length ps < room
kept-room_edges ps ws wb es eb room v k h n =
    let a = filled-lt es v h (k.edge_images v ∙ n) in let b = filled-le ws in let c = k.count in let d = k.enough in omega arith

pub kept-bound : (ps : List Pair) (ws wb es eb : List (Option ℕ)) (room : ℕ) → IsKept ps ws wb es eb room → length ps ≤ length es + length ws
kept-bound ps ws wb es eb room k = let a = filled-le es in let b = filled-le ws in let c = k.count in omega arith

pub kept-more : (ps : List Pair) (ws wb es eb : List (Option ℕ)) (room more : ℕ) → room ≤ more → IsKept ps ws wb es eb room → IsKept ps ws wb es eb more
kept-more ps ws wb es eb room more h k = record {
  matching = k.matching;
  wire_images = k.wire_images;
  wire_sources = k.wire_sources;
  edge_images = k.edge_images;
  edge_sources = k.edge_sources;
  wires_size = k.wires_size;
  edges_size = k.edges_size;
  count = k.count;
  enough = let e = k.enough in omega arith;
}

looked-none : (n x : ℕ) → looked_up (replicate n None) x ≡ None
looked-none zero x = refl
looked-none (suc n) zero = refl
looked-none (suc n) (suc x) = looked-none n x

filled-none : (n : ℕ) → filled (replicate n None) ≡ 0
filled-none zero = refl
filled-none (suc n) = filled-none n

pub kept-none : (e w room : ℕ) (ws wb es eb : List (Option ℕ)) (ps : List Pair) → ps ≡ [] → ws ≡ replicate w None → wb ≡ replicate w None → es ≡ replicate e None
    → eb ≡ replicate e None → e + w ≤ room → IsKept ps ws wb es eb room
kept-none e w room ws wb es eb ps p a b c d h = rw (p, a, b, c, d) (record {
  matching = record { wires_there = tt; wires_back = tt; edges_there = tt; edges_back = tt };
  wire_images = looked-none w;
  wire_sources = looked-none w;
  edge_images = looked-none e;
  edge_sources = looked-none e;
  wires_size = refl;
  edges_size = refl;
  count = let f = filled-none e in let g = filled-none w in omega arith;
  enough = let none : Option ℕ = None in let l = length-replicate e none in let m = length-replicate w none in omega arith;
})
