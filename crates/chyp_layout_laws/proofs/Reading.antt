-- What is read from the picture of a graph is the graph.
use Rattle.std.proofs.Common.{ℕ, zero, suc, ◌+◌, ◌<◌, ◌≤◌, ◌≡◌, ◌≢◌, Bool, true, false, cond, eqb, List, [], ◌∷◌, ◌++◌, map, length, filter, flat_map, Option, Some}
use Rattle.std.proofs.Common.{None, option_map, slice_get, slice_index, ◌⊎◌, inl, inr, refl, sym, ◌∙◌, ap, ap₂, subst, arith, eq-eqb, length-append}
use Rattle.std.specs.List.{enumerate_from, range_with_len}
use Rattle.std.specs.Option.{unwrap_or}
use Rattle.std.proofs.lemmas.Bool.{and_from, and_parts, cases_eq, eqb-true}
use Rattle.std.proofs.lemmas.List.{length-map}
use Rattle.chyp_base.specs.declared.sort.Sort.{Sort}
use Rattle.chyp_term.specs.Perm.{IsPermutation, count_from}
use Rattle.chyp_term.specs.Positions.{place_of}
use Rattle.chyp_term.proofs.Closure.{index-get}
use Rattle.chyp_term.proofs.Inverses.{place-found, place_in}
use Rattle.chyp_term.proofs.Members.{Member, get-member, le-flat, member-get, member-left, member-right, member-split, place-first}
use Rattle.chyp_term.proofs.Permuted.{get-map}
use Rattle.chyp_term.proofs.Positions.{slice_get-length}
use Rattle.chyp_graph.specs.PlainGraph.{Edge, PlainGraph}
use Rattle.chyp_graph.specs.Validity.{IsValid}
use Rattle.chyp_graph.proofs.Removing.{Once-perm, Once-right, port-member, port_at}
use Rattle.chyp_picture.specs.declared.box_at.BoxAt.{BoxAt}
use Rattle.chyp_picture.specs.declared.end.End.{End}
use Rattle.chyp_picture.specs.declared.end.End.TheVariants.{Input, Output, Port}
use Rattle.chyp_picture.specs.declared.line.Line.{Line}
use Rattle.chyp_layout.specs.Ends.{end_at, from_of, port_of, to_of}
use Rattle.chyp_layout.specs.PictureOf.{box_of, boxes_of, line_of, lines_of, picture_in, picture_of}
use Rattle.chyp_layout.specs.Spots.{placed_from}
use Rattle.chyp_layout.specs.declared.item.Item.{Item}
use Rattle.chyp_layout.specs.declared.placed.Placed.{Placed}
use Rattle.chyp_layout.proofs.Best.{lines-few}
use Rattle.chyp_layout.proofs.Numbers.{same-items}
use Rattle.chyp_layout.proofs.Ports.{found-port, port-found, port-is, port-none}
use Rattle.chyp_layout.proofs.Sweeping.{length-enumerate}
use Rattle.chyp_layout_laws.specs.Reading.{edge_read, is_end, lines_at, lines_at_ports, lines_at_rim, read}
use Rattle.chyp_layout_laws.proofs.Layering.{box-at, boxes-count, get-enumerate0}
use Rattle.chyp_layout_laws.proofs.Orders.{kept}

-- ## ends

end-same : (a b : End) → is_end a b ≡ true → a ≡ b
end-same (Input i) (Input j) e = ap Input (eqb-true i j e)
end-same (Input i) (Output j) e = cc
end-same (Input i) (Port l j) e = cc
end-same (Output i) (Input j) e = cc
end-same (Output i) (Output j) e = ap Output (eqb-true i j e)
end-same (Output i) (Port l j) e = cc
end-same (Port k i) (Input j) e = cc
end-same (Port k i) (Output j) e = cc
end-same (Port k i) (Port l j) e = let p = and_parts (eqb k l) (eqb i j) e in ap₂ (λ a b. Port a b) (eqb-true k l p.0) (eqb-true i j p.1)

end-is : (a : End) → is_end a a ≡ true
end-is (Input i) = eq-eqb i i refl
end-is (Output i) = eq-eqb i i refl
end-is (Port k i) = and_from (eqb k k) (eqb i i) (eq-eqb k k refl) (eq-eqb i i refl)

end-equal : (a b : End) → a ≡ b → is_end a b ≡ true
end-equal a b e = subst (λ z. is_end a z ≡ true) e (end-is a)

-- ## the one number that passes

none-pass : (b : ℕ → Bool) (k n : ℕ) → ((v : ℕ) → k ≤ v → v < k + n → b v ≡ true → ⊥) → filter b (count_from k n) ≡ []
none-pass b k zero h = refl
none-pass b k (suc n) h = go (b k) refl (none-pass b (suc k) n (λ v l m. h v (omega arith) (omega arith)))
  where
    go : (t : Bool) → b k ≡ t → filter b (count_from (suc k) n) ≡ [] → cond t (k ∷ filter b (count_from (suc k) n)) (filter b (count_from (suc k) n)) ≡ []
    go true e ih = absurd (h k (omega arith) (omega arith) e)
    go false e ih = ih

one-passes : (b : ℕ → Bool) (k n w : ℕ) → k ≤ w → w < k + n → b w ≡ true → ((v : ℕ) → v < k + n → b v ≡ true → v ≡ w) → filter b (count_from k n) ≡ w ∷ []
one-passes b k zero w l m t h = absurd (omega arith)
one-passes b k (suc n) w l m t h = go (b k) refl (cases_eq k w) (λ q. one-passes b (suc k) n w q (omega arith) t (λ v i f. h v (omega arith) f))
  where
    rest : List ℕ
    rest = filter b (count_from (suc k) n)

    go : (u : Bool) → b k ≡ u → (k ≡ w) ⊎ (k ≢ w) → (suc k ≤ w → rest ≡ w ∷ []) → cond u (k ∷ rest) rest ≡ w ∷ []
    go true e (inl q) ih = ap₂ (λ x l. x ∷ l) q (none-pass b (suc k) n (λ v i j f. let g = h v (omega arith) f in absurd (omega arith)))
    go false e (inl q) ih = let f : b k ≡ true = ap b q ∙ t in cc
    go true e (inr q) ih = absurd (q (h k (omega arith) e))
    go false e (inr q) ih = ih (later q)
      where
        later : k ≢ w → suc k ≤ w
        later q = omega arith

-- a list that is read number by number
flat-reads : (f : ℕ → List ℕ) (s n : ℕ) (xs : List ℕ) → length xs ≤ n → ((i x : ℕ) → slice_get xs i ≡ Some x → f (s + i) ≡ x ∷ []) → ((i : ℕ) → length xs ≤ i → i < n → f (s + i) ≡ [])
    → flat_map f (range_with_len s n) ≡ xs
flat-reads f s zero [] l a b = refl
flat-reads f s zero (x ∷ xs) l a b = absurd (omega arith)
flat-reads f s (suc n) [] l a b =
    let e : s + 0 ≡ s = omega arith in
    ap₂ (λ x y. x ++ y) (ap f (sym e) ∙ b 0 (omega arith) (omega arith))
    (flat-reads f (s + 1) n [] (omega arith) (λ i x h. absurd (no i x h)) (λ i m j. let z : s + 1 + i ≡ s + suc i = omega arith in ap f z ∙ b (suc i) (omega arith) (omega arith)))
  where
    no : (i x : ℕ) → slice_get [] i ≡ Some x → ⊥
    no i x h = cc
flat-reads f s (suc n) (x ∷ xs) l a b =
    let e : s + 0 ≡ s = omega arith in
    ap₂ (λ x y. x ++ y) (ap f (sym e) ∙ a 0 x refl)
    (flat-reads f (s + 1) n xs (omega arith) (λ i y h. let z : s + 1 + i ≡ s + suc i = omega arith in ap f z ∙ a (suc i) y h)
    (λ i m j. let z : s + 1 + i ≡ s + suc i = omega arith in ap f z ∙ b (suc i) (omega arith) (omega arith)))

-- ## one side of all wires

module _ (rim-end : ℕ → End) (apart : (j k i : ℕ) → rim-end j ≡ Port k i → ⊥) (one : (i j : ℕ) → rim-end i ≡ rim-end j → i ≡ j) (ports : Edge → List ℕ) (es : List Edge) (rim : List ℕ) (n : ℕ)
    (t : IsPermutation n (rim ++ flat_map ports es)) where
  -- the end of a wire on this side
  abbrev pub end_of_wire : ℕ → End
  end_of_wire w = end_at rim-end (port_of ports es w) (place_of w rim)

  port-there : (k i w : ℕ) → port_at ports es k i ≡ Some w → end_of_wire w ≡ Port k i
  port-there k i w h = ap (λ q. end_at rim-end q (place_of w rim)) (port-is ports es w k i (Once-right rim (flat_map ports es) (Once-perm n (rim ++ flat_map ports es) t)) h)

  there-port : (k i w : ℕ) → end_of_wire w ≡ Port k i → port_at ports es k i ≡ Some w
  there-port k i w h = go (port_of ports es w) refl h
    where
      go : (q : Option (ℕ × ℕ)) → port_of ports es w ≡ q → end_at rim-end q (place_of w rim) ≡ Port k i → port_at ports es k i ≡ Some w
      go None e h = absurd (apart (unwrap_or (place_of w rim) 0) k i h)
      go (Some p) e h =
          let f = found-port ports es w p.0 p.1 e in
          let a : p.0 ≡ k = first p.0 p.1 k i h in
          let b : p.1 ≡ i = second p.0 p.1 k i h in
          subst (λ x. port_at ports es x i ≡ Some w) a (subst (λ y. port_at ports es p.0 y ≡ Some w) b f)
        where
          first : (a b c d : ℕ) → ◌≡◌ {A = End} (Port a b) (Port c d) → a ≡ c
          first a b c d h = cc

          second : (a b c d : ℕ) → ◌≡◌ {A = End} (Port a b) (Port c d) → b ≡ d
          second a b c d h = cc

  rim-there : (i w : ℕ) → slice_get rim i ≡ Some w → end_of_wire w ≡ rim-end i
  rim-there i w h =
      let l = slice_get-length rim i w h in
      let e : slice_index rim i ≡ w = index-get rim i w h in
      let a = port-none ports es rim w (Once-perm n (rim ++ flat_map ports es) t) (get-member rim i w h) in
      let b : place_of w rim ≡ Some i = ap (λ x. place_of x rim) (sym e) ∙ place-first n rim (flat_map ports es) t i l in
      ap₂ (λ q o. end_at rim-end q o) a b

  there-rim : (i w : ℕ) → w < n → end_of_wire w ≡ rim-end i → slice_get rim i ≡ Some w
  there-rim i w l h = go (port_of ports es w) refl (place_of w rim) refl h
    where
      some : Member w (rim ++ flat_map ports es)
      some = let f = place_in n (rim ++ flat_map ports es) t w l in get-member (rim ++ flat_map ports es) f.0 w (place-found w (rim ++ flat_map ports es) f.0 f.1)

      inside : (m : (Member w rim) ⊎ (Member w (flat_map ports es))) → port_of ports es w ≡ None → Member w rim
      inside (inl m) e = m
      inside (inr m) e = let f = port-found ports es w m in absurd (no f.0 (sym f.1 ∙ e))
        where
          no : (p : ℕ × ℕ) → Some p ≡ None → ⊥
          no p h = cc

      go : (q : Option (ℕ × ℕ)) → port_of ports es w ≡ q → (o : Option ℕ) → place_of w rim ≡ o → end_at rim-end q o ≡ rim-end i → slice_get rim i ≡ Some w
      go (Some p) e o f h = absurd (apart i p.0 p.1 (sym h))
      go None e (Some j) f h = let a = one j i h in subst (λ x. slice_get rim x ≡ Some w) a (place-found w rim j f)
      go None e None f h =
          let m = inside (member-split rim (flat_map ports es) w some) e in
          let j = placed m in
          absurd (no j.0 (sym j.1 ∙ f))
        where
          placed : Member w rim → (j : ℕ) × (place_of w rim ≡ Some j)
          placed m =
              let k = member-get rim w m in
              let l = slice_get-length rim k.0 w k.1 in
              let e : slice_index rim k.0 ≡ w = index-get rim k.0 w k.1 in
              (k.0, ap (λ x. place_of x rim) (sym e) ∙ place-first n rim (flat_map ports es) t k.0 l)

          no : (j : ℕ) → Some j ≡ None → ⊥
          no j h = cc

  -- the wires with an end
  abbrev pub wires_at : End → List ℕ
  wires_at e = filter (λ w. is_end e (end_of_wire w)) (count_from 0 n)

  some-same : (x y : ℕ) → Some x ≡ Some y → x ≡ y
  some-same x y e = cc

  below : (i w : ℕ) → slice_get (rim ++ flat_map ports es) i ≡ Some w → w < n
  below i w h =
      let l = slice_get-length (rim ++ flat_map ports es) i w h in
      let s = t.size in
      let a = t.within i (omega arith) in
      let e = index-get (rim ++ flat_map ports es) i w h in
      omega arith

  ports-read : (k : ℕ) (e : Edge) → slice_get es k ≡ Some e → flat_map (λ i. wires_at (Port k i)) (range_with_len 0 n) ≡ ports e
  ports-read k e h = flat-reads (λ i. wires_at (Port k i)) 0 n (ports e) few there gone
    where
      few : length (ports e) ≤ n
      few =
          let a = le-flat ports es e (get-member es k e h) in
          let b = length-append rim (flat_map ports es) in
          let s = t.size in
          omega arith

      at : (i : ℕ) → port_at ports es k i ≡ slice_get (ports e) i
      at i = rw h refl

      there : (i x : ℕ) → slice_get (ports e) i ≡ Some x → wires_at (Port k (0 + i)) ≡ x ∷ []
      there i x q =
          let z : 0 + i ≡ i = omega arith in
          let p : port_at ports es k (0 + i) ≡ Some x = ap (port_at ports es k) z ∙ at i ∙ q in
          one-passes (λ w. is_end (Port k (0 + i)) (end_of_wire w)) 0 n x (omega arith) (let l = low i x q in omega arith) (end-equal (Port k (0 + i)) (end_of_wire x) (sym (port-there k (0 + i) x p)))
          (λ v l u. some-same v x (sym (there-port k (0 + i) v (sym (end-same (Port k (0 + i)) (end_of_wire v) u))) ∙ p))
        where
          low : (i x : ℕ) → slice_get (ports e) i ≡ Some x → x < n
          low i x q =
              let m = port-member ports es k i x (at i ∙ q) in
              let j = member-get (rim ++ flat_map ports es) x (member-right rim (flat_map ports es) x m) in
              below j.0 x j.1

      gone : (i : ℕ) → length (ports e) ≤ i → i < n → wires_at (Port k (0 + i)) ≡ []
      gone i l m = none-pass (λ w. is_end (Port k (0 + i)) (end_of_wire w)) 0 n (λ v a b u.
          let p = sym (at (0 + i)) ∙ there-port k (0 + i) v (sym (end-same (Port k (0 + i)) (end_of_wire v) u)) in
          let q = slice_get-length (ports e) (0 + i) v p in
          omega arith)

  rim-read : flat_map (λ i. wires_at (rim-end i)) (range_with_len 0 (length rim)) ≡ rim
  rim-read = flat-reads (λ i. wires_at (rim-end i)) 0 (length rim) rim (omega arith) there (λ i l m. absurd (omega arith))
    where
      there : (i x : ℕ) → slice_get rim i ≡ Some x → wires_at (rim-end (0 + i)) ≡ x ∷ []
      there i x q =
          let z : 0 + i ≡ i = omega arith in
          let j = member-get (rim ++ flat_map ports es) x (member-left rim (flat_map ports es) x (get-member rim i x q)) in
          let l = below j.0 x j.1 in
          ap (λ m. wires_at (rim-end m)) z
          ∙ one-passes (λ w. is_end (rim-end i) (end_of_wire w)) 0 n x (omega arith) (omega arith) (end-equal (rim-end i) (end_of_wire x) (sym (rim-there i x q)))
          (λ v l u. some-same v x (sym (there-rim i v (omega arith) (sym (end-same (rim-end i) (end_of_wire v) u))) ∙ q))

-- ## the picture of a graph

flat-same : (f g : ℕ → List ℕ) (xs : List ℕ) → ((i : ℕ) → f i ≡ g i) → flat_map f xs ≡ flat_map g xs
flat-same f g [] h = refl
flat-same f g (x ∷ xs) h = ap₂ (λ a b. a ++ b) (h x) (flat-same f g xs h)

-- the lines with an end are the wires with it
lines-wires : (side : Line → End) (at : ℕ → End) (line : ℕ × Sort → Line) → ((q : ℕ × Sort) → side (line q) ≡ at q.0) → (x : End) (n : ℕ) (ws : List Sort)
    → map (λ (q : ℕ × Line). q.0) (filter (λ (q : ℕ × Line). is_end x (side q.1)) (enumerate_from n (map line (enumerate_from n ws)))) ≡ filter (λ w. is_end x (at w)) (count_from n (length ws))
lines-wires side at line h x n [] = refl
lines-wires side at line h x n (s ∷ ws) =
    ap (λ e. map (λ (q : ℕ × Line). q.0) (cond (is_end x e) ((n, line (n, s)) ∷ rest) rest)) (h (n, s))
    ∙ go (is_end x (at n)) (lines-wires side at line h x (n + 1) ws ∙ ap (λ m. filter (λ w. is_end x (at w)) (count_from m (length ws))) next)
  where
    next : n + 1 ≡ suc n
    next = omega arith

    rest : List (ℕ × Line)
    rest = filter (λ (q : ℕ × Line). is_end x (side q.1)) (enumerate_from (n + 1) (map line (enumerate_from (n + 1) ws)))

    go : (b : Bool) → map (λ (q : ℕ × Line). q.0) rest ≡ filter (λ w. is_end x (at w)) (count_from (suc n) (length ws))
        → map (λ (q : ℕ × Line). q.0) (cond b ((n, line (n, s)) ∷ rest) rest)
        ≡ cond b (n ∷ filter (λ w. is_end x (at w)) (count_from (suc n) (length ws))) (filter (λ w. is_end x (at w)) (count_from (suc n) (length ws)))
    go true e = ap (λ l. n ∷ l) e
    go false e = e

sorts-read : (g : PlainGraph) (placed : List Placed) (n : ℕ) (ws : List Sort) → map (λ (l : Line). l.sort) (map (λ (p : ℕ × Sort). line_of g placed p.0 p.1) (enumerate_from n ws)) ≡ ws
sorts-read g placed n [] = refl
sorts-read g placed n (s ∷ ws) = ap (λ l. s ∷ l) (sorts-read g placed (n + 1) ws)

module _ (g : PlainGraph) (v : IsValid g) (order : List (List Item)) where
  drawn : List Line
  drawn = lines_of g (placed_from g 1 order)

  input-apart : (j k i : ℕ) → ◌≡◌ {A = End} (Input j) (Port k i) → ⊥
  input-apart j k i e = cc

  output-apart : (j k i : ℕ) → ◌≡◌ {A = End} (Output j) (Port k i) → ⊥
  output-apart j k i e = cc

  input-one : (i j : ℕ) → ◌≡◌ {A = End} (Input i) (Input j) → i ≡ j
  input-one i j e = cc

  output-one : (i j : ℕ) → ◌≡◌ {A = End} (Output i) (Output j) → i ≡ j
  output-one i j e = cc

  from-lines : (x : End) → lines_at (λ l. l.from) (lines_of g (placed_from g 1 order)) x ≡ filter (λ w. is_end x (from_of g w)) (count_from 0 (length g.wires))
  from-lines x = lines-wires (λ l. l.from) (from_of g) (λ p. line_of g (placed_from g 1 order) p.0 p.1) (λ q. refl) x 0 g.wires

  to-lines : (x : End) → lines_at (λ l. l.to) (lines_of g (placed_from g 1 order)) x ≡ filter (λ w. is_end x (to_of g w)) (count_from 0 (length g.wires))
  to-lines x = lines-wires (λ l. l.to) (to_of g) (λ p. line_of g (placed_from g 1 order) p.0 p.1) (λ q. refl) x 0 g.wires

  targets-read : (k : ℕ) (e : Edge) → slice_get g.edges k ≡ Some e → lines_at_ports (λ l. l.from) (lines_of g (placed_from g 1 order)) k ≡ e.targets
  targets-read k e h =
      flat-same (λ i. lines_at (λ l. l.from) (lines_of g (placed_from g 1 order)) (Port k i)) (λ i. filter (λ w. is_end (Port k i) (from_of g w)) (count_from 0 (length g.wires)))
      (range_with_len 0 (length (lines_of g (placed_from g 1 order)))) (λ i. from-lines (Port k i))
      ∙ ap (λ n. flat_map (λ i. filter (λ w. is_end (Port k i) (from_of g w)) (count_from 0 (length g.wires))) (range_with_len 0 n)) (lines-few g order)
      ∙ ports-read Input input-apart input-one (λ e. e.targets) g.edges g.inputs (length g.wires) v.producers k e h

  sources-read : (k : ℕ) (e : Edge) → slice_get g.edges k ≡ Some e → lines_at_ports (λ l. l.to) (lines_of g (placed_from g 1 order)) k ≡ e.sources
  sources-read k e h =
      flat-same (λ i. lines_at (λ l. l.to) (lines_of g (placed_from g 1 order)) (Port k i)) (λ i. filter (λ w. is_end (Port k i) (to_of g w)) (count_from 0 (length g.wires)))
      (range_with_len 0 (length (lines_of g (placed_from g 1 order)))) (λ i. to-lines (Port k i))
      ∙ ap (λ n. flat_map (λ i. filter (λ w. is_end (Port k i) (to_of g w)) (count_from 0 (length g.wires))) (range_with_len 0 n)) (lines-few g order)
      ∙ ports-read Output output-apart output-one (λ e. e.sources) g.edges g.outputs (length g.wires) v.consumers k e h

  inputs-read : lines_at_rim (λ l. l.from) (lines_of g (placed_from g 1 order)) Input (length g.inputs) ≡ g.inputs
  inputs-read =
      flat-same (λ i. lines_at (λ l. l.from) (lines_of g (placed_from g 1 order)) (Input i)) (λ i. filter (λ w. is_end (Input i) (from_of g w)) (count_from 0 (length g.wires)))
      (range_with_len 0 (length g.inputs)) (λ i. from-lines (Input i))
      ∙ rim-read Input input-apart input-one (λ e. e.targets) g.edges g.inputs (length g.wires) v.producers

  outputs-read : lines_at_rim (λ l. l.to) (lines_of g (placed_from g 1 order)) Output (length g.outputs) ≡ g.outputs
  outputs-read =
      flat-same (λ i. lines_at (λ l. l.to) (lines_of g (placed_from g 1 order)) (Output i)) (λ i. filter (λ w. is_end (Output i) (to_of g w)) (count_from 0 (length g.wires)))
      (range_with_len 0 (length g.outputs)) (λ i. to-lines (Output i))
      ∙ rim-read Output output-apart output-one (λ e. e.sources) g.edges g.outputs (length g.wires) v.consumers

  edges-read : map (λ q. edge_read (lines_of g (placed_from g 1 order)) q.0 q.1) (enumerate_from 0 (boxes_of g (placed_from g 1 order))) ≡ g.edges
  edges-read = same-items (map reading (enumerate_from 0 boxes)) g.edges (length-map (enumerate_from 0 boxes) reading ∙ length-enumerate 0 boxes ∙ boxes-count g (placed_from g 1 order)) at
    where
      boxes : List BoxAt
      boxes = boxes_of g (placed_from g 1 order)

      reading : ℕ × BoxAt → Edge
      reading q = edge_read (lines_of g (placed_from g 1 order)) q.0 q.1

      some : (x y : Edge) → Some x ≡ Some y → x ≡ y
      some x y e = cc

      at : (i : ℕ) (x y : Edge) → slice_get (map reading (enumerate_from 0 boxes)) i ≡ Some x → slice_get g.edges i ≡ Some y → x ≡ y
      at i x y a b =
          let p = get-map reading (enumerate_from 0 boxes) i
          ∙ ap (option_map reading) (get-enumerate0 boxes i (box_of (placed_from g 1 order) i y) (box-at g (placed_from g 1 order) i y b)) in
          let q : x ≡ reading (i, box_of (placed_from g 1 order) i y) = some x (reading (i, box_of (placed_from g 1 order) i y)) (sym a ∙ p) in
          q ∙ ap₂ (λ (s t : List ℕ). record { name = y.name; sources = s; targets = t }) (sources-read i y b) (targets-read i y b)

  pub graph-read : read (picture_in g order) ≡ g
  graph-read =
      ap₂ (λ (w : List Sort) (e : List Edge). record {
        wires = w;
        edges = e;
        inputs = lines_at_rim (λ l. l.from) (lines_of g (placed_from g 1 order)) Input (length g.inputs);
        outputs = lines_at_rim (λ l. l.to) (lines_of g (placed_from g 1 order)) Output (length g.outputs);
      }) (sorts-read g (placed_from g 1 order) 0 g.wires) edges-read
      ∙ ap₂ (λ (i o : List ℕ). record { wires = g.wires; edges = g.edges; inputs = i; outputs = o }) inputs-read outputs-read

pub read-back : (g : PlainGraph) → IsValid g → read (picture_of g) ≡ g
read-back g v = let o = kept g in ap read o.2 ∙ graph-read g v o.0

pub told-apart : (g h : PlainGraph) → IsValid g → IsValid h → picture_of g ≡ picture_of h → g ≡ h
told-apart g h v w e = sym (read-back g v) ∙ ap read e ∙ read-back h w
