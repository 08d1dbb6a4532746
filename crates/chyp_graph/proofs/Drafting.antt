-- Drawing a composite is drawing its parts, one after the other: graphs behind graphs, and beside them.
use Rattle.std.proofs.Common.{ℕ, zero, suc, ◌+◌, ◌<◌, ◌≤◌, ◌≡◌, Bool, true, false, not, cond, eqb, List, [], ◌∷◌, ◌++◌, map, length, filter, Option, Some, None, option_map, slice_index}
use Rattle.std.proofs.Common.{◌⊎◌, inl, inr, refl, sym, ◌∙◌, ap, ap₂, subst, arith, append_assoc, length-append, zero-add, ne_eqb, eq-eqb, eqb-true}
use Rattle.std.proofs.lemmas.List.{map-append}
use Rattle.std.proofs.lemmas.List.Elements.{filter-append}
use Rattle.std.proofs.lemmas.Bool.{cases_Bool}
use Rattle.chyp_base.specs.declared.sort.Sort.{Sort}
use Rattle.chyp_term.specs.Perm.{count_from, permuted, shifted}
use Rattle.chyp_term.specs.Positions.{is_apart, is_there, place_of}
use Rattle.chyp_term.proofs.Closure.{get-index, index-get}
use Rattle.chyp_term.proofs.Inverses.{length-shifted, place-found}
use Rattle.chyp_term.proofs.Permuted.{Under, count_from-0, get-append_left, get-append_right, length-count_from, permuted-append, permuted-append_left, permuted-right, permuted-shifted}
use Rattle.chyp_term.proofs.Positions.{Under-filter, apart-none, count_from-append, map-map, slice_get-length}
use Rattle.chyp_graph.specs.Composition.{beside_graph, inner, inner_wires, joined, joined_at, then_graph}
use Rattle.chyp_graph.specs.Draft.{followed}
use Rattle.chyp_graph.specs.PlainGraph.{Edge, PlainGraph, renamed}
use Rattle.chyp_graph.specs.Validity.{IsValid}
use Rattle.chyp_term.proofs.Members.{Member, Rearr-member, filter-all, map-member, map-same_on, member-below, member-flat, member-left, member-right, not_member-apart}
use Rattle.chyp_term.proofs.Rearrangement.{Rearr-sym, permutation-Rearr}
use Rattle.chyp_graph.proofs.ThenValid.{length-inner}

-- ## plain graphs part by part

pub plain-same : {w v : List Sort} {e f : List Edge} {i j : List ℕ} {o p : List ℕ} → w ≡ v → e ≡ f → i ≡ j → o ≡ p
    → ◌≡◌ {A = PlainGraph} (record { wires = w; edges = e; inputs = i; outputs = o }) (record { wires = v; edges = f; inputs = j; outputs = p })
plain-same {v = v} {f = f} {i = i} {o = o} a b c d =
    ap₂ (λ x y. record { wires = x; edges = y; inputs = i; outputs = o }) a b ∙ ap₂ (λ x y. record { wires = v; edges = f; inputs = x; outputs = y }) c d

pub renamed-on : (f g : ℕ → ℕ) (e : Edge) → ((w : ℕ) → Member w e.sources → f w ≡ g w) → ((w : ℕ) → Member w e.targets → f w ≡ g w) → renamed f e ≡ renamed g e
renamed-on f g e a b = ap₂ (λ x y. record { name = e.name; sources = x; targets = y }) (map-same_on f g e.sources a) (map-same_on f g e.targets b)

pub renamed-renamed : (f g : ℕ → ℕ) (e : Edge) → renamed f (renamed g e) ≡ renamed (λ w. f (g w)) e
renamed-renamed f g e = ap₂ (λ x y. record { name = e.name; sources = x; targets = y }) (map-map f g e.sources) (map-map f g e.targets)

-- renaming twice is renaming once
pub edges-twice : (f g h : ℕ → ℕ) → ((w : ℕ) → f (g w) ≡ h w) → (es : List Edge) → map (renamed f) (map (renamed g) es) ≡ map (renamed h) es
edges-twice f g h q [] = refl
edges-twice f g h q (e ∷ es) = ap₂ (λ x y. x ∷ y) (renamed-renamed f g e ∙ renamed-on (λ w. f (g w)) h e (λ w _. q w) (λ w _. q w)) (edges-twice f g h q es)

pub wires-twice : (f g h : ℕ → ℕ) → ((w : ℕ) → f (g w) ≡ h w) → (ws : List ℕ) → map f (map g ws) ≡ map h ws
wires-twice f g h q [] = refl
wires-twice f g h q (w ∷ ws) = ap₂ (λ x y. x ∷ y) (q w) (wires-twice f g h q ws)

pub index-map : (f : ℕ → ℕ) (xs : List ℕ) (j : ℕ) → j < length xs → slice_index (map f xs) j ≡ f (slice_index xs j)
index-map f [] j h = absurd (omega arith)
index-map f (x ∷ xs) zero h = refl
index-map f (x ∷ xs) (suc j) h = index-map f xs j (omega arith)

pub place-below : (w : ℕ) (ks : List ℕ) (j : ℕ) → place_of w ks ≡ Some j → j < length ks
place-below w ks j q = slice_get-length ks j w (place-found w ks j q)

pub member-under : (n : ℕ) (ks : List ℕ) (w : ℕ) → Under n ks → Member w ks → w < n
member-under n [] w u h = absurd h
member-under n (k ∷ ks) w u (inl e) = subst (λ x. x < n) e u.0
member-under n (k ∷ ks) w u (inr h) = member-under n ks w u.1 h

pub place-none_of : (w : ℕ) (ks : List ℕ) → (Member w ks → ⊥) → place_of w ks ≡ None
place-none_of w ks n = apart-none ks w (not_member-apart ks w n)

pub filter-same_on : {A : Type 0} (p q : A → Bool) (xs : List A) → ((x : A) → Member x xs → p x ≡ q x) → filter p xs ≡ filter q xs
filter-same_on p q [] h = refl
filter-same_on p q (x ∷ xs) h = ap₂ (λ b r. cond b (x ∷ r) r) (h x (inl refl)) (filter-same_on p q xs (λ y k. h y (inr k)))

pub filter-map : {A B : Type 0} (p : B → Bool) (f : A → B) (xs : List A) → filter p (map f xs) ≡ map f (filter (λ x. p (f x)) xs)
filter-map p f [] = refl
filter-map p f (x ∷ xs) = go (p (f x)) (filter-map p f xs)
  where
    go : (b : Bool) → filter p (map f xs) ≡ map f (filter (λ x. p (f x)) xs)
        → cond b (f x ∷ filter p (map f xs)) (filter p (map f xs)) ≡ map f (cond b (x ∷ filter (λ x. p (f x)) xs) (filter (λ x. p (f x)) xs))
    go true ih = ap (λ r. f x ∷ r) ih
    go false ih = ih

pub member-count : (k n w : ℕ) → Member w (count_from k n) → k ≤ w
member-count k zero w h = absurd h
member-count k (suc n) w (inl e) = omega arith
member-count k (suc n) w (inr h) = let r = member-count (suc k) n w h in omega arith

-- numbers past all of ks count
pub inner-beyond : (ks : List ℕ) (n c : ℕ) → Under n ks → inner ks (n + c) ≡ inner ks n ++ count_from n c
inner-beyond ks n c u =
    ap (filter (is_apart ks)) (count_from-append 0 n c) ∙ filter-append (is_apart ks) (count_from 0 n) (count_from (0 + n) c)
    ∙ ap (λ r. inner ks n ++ r) (filter-all (is_apart ks) (count_from (0 + n) c)
    (λ w h. not_member-apart ks w (λ m. let a = member-under n ks w u m in let b = member-count (0 + n) c w h in omega arith))
    ∙ ap (λ k. count_from k c) (zero-add n))

pub length-beyond : (ks : List ℕ) (n c : ℕ) → Under n ks → length (inner ks (n + c)) ≡ length (inner ks n) + c
length-beyond ks n c u = ap length (inner-beyond ks n c u) ∙ length-append (inner ks n) (count_from n c) ∙ ap (λ m. length (inner ks n) + m) (length-count_from n c)

-- ## a graph behind another, which is behind a third

module _ (d : PlainGraph) (live : List ℕ) (g h : PlainGraph) (u : Under (length g.wires) g.inputs) (m : length g.outputs ≡ length h.inputs) where
  on : PlainGraph
  on = record d { outputs = live }

  first : PlainGraph
  first = followed (record d { outputs = [] }) live g

  joined-twice : (w : ℕ) → joined (record d { outputs = live }) (then_graph g h) (joined g h w) ≡ joined (followed (record d { outputs = [] }) live g) h w
  joined-twice w = go (place_of w h.inputs) refl
    where
      c : ℕ
      c = length (inner h.inputs w)

      go : (o : Option ℕ) → place_of w h.inputs ≡ o → joined (record d { outputs = live }) (then_graph g h) (joined g h w) ≡ joined (followed (record d { outputs = [] }) live g) h w
      go None q =
          let n = length g.wires in
          let a : joined g h w ≡ n + length (inner h.inputs w) = ap (joined_at g.outputs (n + length (inner h.inputs w))) q in
          let p : place_of (n + length (inner h.inputs w)) g.inputs ≡ None =
          place-none_of (n + length (inner h.inputs w)) g.inputs (λ k. let b = member-under n g.inputs (n + length (inner h.inputs w)) u k in omega arith) in
          let s : length (d.wires ++ permuted g.wires (inner_wires g)) ≡ length d.wires + length (inner_wires g) =
          length-append d.wires (permuted g.wires (inner_wires g)) ∙ ap (λ n. length d.wires + n) (length-inner g) in
          let b = length-beyond g.inputs n (length (inner h.inputs w)) u in
          ap (joined (record d { outputs = live }) (then_graph g h)) a
          ∙ ap (joined_at live (length d.wires + length (inner g.inputs (n + length (inner h.inputs w))))) p
          ∙ omega arith
          ∙ sym (ap (joined_at (map (joined (record d { outputs = live }) g) g.outputs) (length (d.wires ++ permuted g.wires (inner_wires g)) + length (inner h.inputs w))) q)
      go (Some j) q =
          let l = place-below w h.inputs j q in
          ap (λ o. joined (record d { outputs = live }) (then_graph g h) (joined_at g.outputs (length g.wires + length (inner h.inputs w)) o)) q
          ∙ sym (index-map (joined (record d { outputs = live }) g) g.outputs j (omega arith))
          ∙ sym (ap (joined_at (map (joined (record d { outputs = live }) g) g.outputs) (length (d.wires ++ permuted g.wires (inner_wires g)) + length (inner h.inputs w))) q)

  wires-twice_behind : (d.wires ++ permuted g.wires (inner_wires g)) ++ permuted h.wires (inner_wires h) ≡ d.wires ++ permuted (then_graph g h).wires (inner_wires (then_graph g h))
  wires-twice_behind =
      let n = length g.wires in
      let rest = permuted h.wires (inner_wires h) in
      let size : length (g.wires ++ permuted h.wires (inner_wires h)) ≡ n + length (permuted h.wires (inner_wires h)) = length-append g.wires (permuted h.wires (inner_wires h)) in
      append_assoc d.wires (permuted g.wires (inner_wires g)) (permuted h.wires (inner_wires h))
      ∙ ap (λ r. d.wires ++ r)
      (ap₂ (λ x y. x ++ y)
      (sym (permuted-append_left g.wires (permuted h.wires (inner_wires h)) (inner_wires g) (Under-filter (is_apart g.inputs) n 0 n (omega arith))))
      (sym (permuted-right g.wires (permuted h.wires (inner_wires h))))
      ∙ sym (permuted-append (g.wires ++ permuted h.wires (inner_wires h)) (inner_wires g) (count_from n (length (permuted h.wires (inner_wires h)))))
      ∙ ap (permuted (g.wires ++ permuted h.wires (inner_wires h))) (sym (ap (inner g.inputs) size ∙ inner-beyond g.inputs n (length (permuted h.wires (inner_wires h))) u)))

  pub follow_then : followed (record (followed (record d { outputs = [] }) live g) { outputs = d.outputs }) (followed (record d { outputs = [] }) live g).outputs h ≡ followed d live (then_graph g h)
  follow_then = plain-same
      wires-twice_behind
      (append_assoc d.edges (map (renamed (joined (record d { outputs = live }) g)) g.edges) _
      ∙ ap (λ r. d.edges ++ r)
      (ap (λ r. map (renamed (joined (record d { outputs = live }) g)) g.edges ++ r) (sym (edges-twice (joined (record d { outputs = live }) (then_graph g h)) (joined g h) _ joined-twice h.edges))
      ∙ sym (map-append (renamed (joined (record d { outputs = live }) (then_graph g h))) g.edges (map (renamed (joined g h)) h.edges))))
      refl
      (ap (λ r. d.outputs ++ r) (sym (wires-twice (joined (record d { outputs = live }) (then_graph g h)) (joined g h) _ joined-twice h.outputs)))

-- ## a graph behind another, which is beside a third

module _ (d g h : PlainGraph) (m : length g.outputs ≡ length h.inputs) where
  joined-beside : (w : ℕ) → length d.wires + joined g h w ≡ joined (beside_graph (record d { outputs = [] }) g) h w
  joined-beside w = go (place_of w h.inputs) refl
    where
      go : (o : Option ℕ) → place_of w h.inputs ≡ o → length d.wires + joined g h w ≡ joined (beside_graph (record d { outputs = [] }) g) h w
      go None q =
          let s = length-append d.wires g.wires in
          ap (λ o. length d.wires + joined_at g.outputs (length g.wires + length (inner h.inputs w)) o) q
          ∙ omega arith
          ∙ sym (ap (joined_at (shifted (length d.wires) g.outputs) (length (d.wires ++ g.wires) + length (inner h.inputs w))) q)
      go (Some j) q =
          let l = place-below w h.inputs j q in
          ap (λ o. length d.wires + joined_at g.outputs (length g.wires + length (inner h.inputs w)) o) q
          ∙ sym (index-map (λ w. length d.wires + w) g.outputs j (omega arith))
          ∙ sym (ap (joined_at (shifted (length d.wires) g.outputs) (length (d.wires ++ g.wires) + length (inner h.inputs w))) q)

  pub place_then : followed (record (beside_graph (record d { outputs = [] }) g) { outputs = d.outputs }) (beside_graph (record d { outputs = [] }) g).outputs h ≡ beside_graph d (then_graph g h)
  place_then = plain-same
      (append_assoc d.wires g.wires (permuted h.wires (inner_wires h)))
      (append_assoc d.edges (map (renamed (λ w. length d.wires + w)) g.edges) _
      ∙ ap (λ r. d.edges ++ r)
      (ap (λ r. map (renamed (λ w. length d.wires + w)) g.edges ++ r) (sym (edges-twice (λ w. length d.wires + w) (joined g h) _ joined-beside h.edges))
      ∙ sym (map-append (renamed (λ w. length d.wires + w)) g.edges (map (renamed (joined g h)) h.edges))))
      refl
      (ap (λ r. d.outputs ++ r) (sym (wires-twice (λ w. length d.wires + w) (joined g h) _ joined-beside h.outputs)))

-- ## graphs beside graphs

pub place_beside : (d g h : PlainGraph) → beside_graph (beside_graph d g) h ≡ beside_graph d (beside_graph g h)
place_beside d g h = plain-same
    (append_assoc d.wires g.wires h.wires)
    (append_assoc d.edges (map (renamed (λ w. length d.wires + w)) g.edges) _
    ∙ ap (λ r. d.edges ++ r)
    (ap (λ r. map (renamed (λ w. length d.wires + w)) g.edges ++ r) (sym (edges-twice (λ w. length d.wires + w) (λ w. length g.wires + w) _ on h.edges))
    ∙ sym (map-append (renamed (λ w. length d.wires + w)) g.edges (map (renamed (λ w. length g.wires + w)) h.edges))))
    (ends d.inputs g.inputs h.inputs)
    (ends d.outputs g.outputs h.outputs)
  where
    on : (w : ℕ) → length d.wires + (length g.wires + w) ≡ length (d.wires ++ g.wires) + w
    on w = let s = length-append d.wires g.wires in omega arith

    ends : (x y z : List ℕ) → (x ++ shifted (length d.wires) y) ++ shifted (length (d.wires ++ g.wires)) z ≡ x ++ shifted (length d.wires) (y ++ shifted (length g.wires) z)
    ends x y z = append_assoc x (shifted (length d.wires) y) _ ∙ ap (λ r. x ++ r)
        (ap (λ r. shifted (length d.wires) y ++ r) (sym (wires-twice (λ w. length d.wires + w) (λ w. length g.wires + w) _ on z))
        ∙ sym (map-append (λ w. length d.wires + w) y (shifted (length g.wires) z)))

-- ## graphs behind a graph, side by side

pub place-left : (w n : ℕ) (xs ys : List ℕ) → w < n → place_of w (xs ++ shifted n ys) ≡ place_of w xs
place-left w n [] ys h = place-none_of w (shifted n ys) (λ k. let r = map-member (λ y. n + y) ys w k in let e = r.2 in omega arith)
place-left w n (x ∷ xs) ys h = ap (λ o. cond (eqb x w) (Some 0) (option_map suc o)) (place-left w n xs ys h)

eqb-more : (n y w : ℕ) → eqb (n + y) (n + w) ≡ eqb y w
eqb-more n y w = go (cases_Bool (eqb y w))
  where
    go : (eqb y w ≡ true) ⊎ (eqb y w ≡ false) → eqb (n + y) (n + w) ≡ eqb y w
    go (inl e) = eq-eqb (n + y) (n + w) (ap (λ x. n + x) (eqb-true y w e)) ∙ sym e
    go (inr e) = ne_eqb (n + y) (n + w) (λ q. let r : y ≡ w = omega arith in let s = eq-eqb y w r in cc) ∙ sym e

pub place-right : (w n : ℕ) (xs ys : List ℕ) → Under n xs → place_of (n + w) (xs ++ shifted n ys) ≡ option_map (λ j. length xs + j) (place_of w ys)
place-right w n [] [] u = refl
place-right w n [] (y ∷ ys) u = ap₂ (λ b o. cond b (Some 0) (option_map suc o)) (eqb-more n y w) (place-right w n [] ys tt) ∙ go (eqb y w) (place_of w ys)
  where
    go : (b : Bool) (o : Option ℕ) → cond b (Some 0) (option_map suc (option_map (λ j. 0 + j) o)) ≡ option_map (λ j. 0 + j) (cond b (Some 0) (option_map suc o))
    go true o = refl
    go false None = refl
    go false (Some j) = ap (λ x. Some x) (omega arith)
place-right w n (x ∷ xs) ys u =
    ap (λ b. cond b (Some 0) (option_map suc (place_of (n + w) (xs ++ shifted n ys)))) (ne_eqb x (n + w) (λ q. let l = u.0 in omega arith))
    ∙ ap (option_map suc) (place-right w n xs ys u.1) ∙ go (place_of w ys)
  where
    go : (o : Option ℕ) → option_map suc (option_map (λ j. length xs + j) o) ≡ option_map (λ j. suc (length xs) + j) o
    go None = refl
    go (Some j) = ap (λ x. Some x) (omega arith)

apart-left : (w n : ℕ) (xs ys : List ℕ) → w < n → is_apart (xs ++ shifted n ys) w ≡ is_apart xs w
apart-left w n xs ys h = ap (λ o. not (is_there o)) (place-left w n xs ys h)

apart-right : (w n : ℕ) (xs ys : List ℕ) → Under n xs → is_apart (xs ++ shifted n ys) (n + w) ≡ is_apart ys w
apart-right w n xs ys u = ap (λ o. not (is_there o)) (place-right w n xs ys u) ∙ go (place_of w ys)
  where
    go : (o : Option ℕ) → not (is_there (option_map (λ j. length xs + j) o)) ≡ not (is_there o)
    go None = refl
    go (Some j) = refl

pub inner-left : (n w : ℕ) (xs ys : List ℕ) → w ≤ n → inner (xs ++ shifted n ys) w ≡ inner xs w
inner-left n w xs ys h = filter-same_on (is_apart (xs ++ shifted n ys)) (is_apart xs) (count_from 0 w) (λ v k. let b = member-below w v k in apart-left v n xs ys (omega arith))

pub inner-right : (n w : ℕ) (xs ys : List ℕ) → Under n xs → inner (xs ++ shifted n ys) (n + w) ≡ inner xs n ++ shifted n (inner ys w)
inner-right n w xs ys u =
    ap (filter (is_apart (xs ++ shifted n ys))) (count_from-append 0 n w ∙ ap (λ k. count_from 0 n ++ count_from k w) (zero-add n))
    ∙ filter-append (is_apart (xs ++ shifted n ys)) (count_from 0 n) (count_from n w)
    ∙ ap₂ (λ a b. a ++ b) (inner-left n n xs ys (omega arith))
    (ap (filter (is_apart (xs ++ shifted n ys))) (count_from-0 n w)
    ∙ filter-map (is_apart (xs ++ shifted n ys)) (λ k. n + k) (count_from 0 w)
    ∙ ap (shifted n) (filter-same_on (λ k. is_apart (xs ++ shifted n ys) (n + k)) (is_apart ys) (count_from 0 w) (λ v _. apart-right v n xs ys u)))

index-left : (xs ys : List ℕ) (j : ℕ) → j < length xs → slice_index (xs ++ ys) j ≡ slice_index xs j
index-left xs ys j h = index-get (xs ++ ys) j (slice_index xs j) (get-append_left xs ys j h ∙ get-index xs j h)

index-right : (xs ys : List ℕ) (j : ℕ) → j < length ys → slice_index (xs ++ ys) (length xs + j) ≡ slice_index ys j
index-right xs ys j h = index-get (xs ++ ys) (length xs + j) (slice_index ys j) (get-append_right xs ys j ∙ get-index ys j h)

module _ (d : PlainGraph) (l r : List ℕ) (g h : PlainGraph) (v : IsValid g) (hl : length l ≡ length g.inputs) (hr : length r ≡ length h.inputs) where
  under : Under (length g.wires) g.inputs
  under = go g.inputs (λ w k. member-below (length g.wires) w (Rearr-member w (Rearr-sym (permutation-Rearr (length g.wires) _ v.producers)) (member-left g.inputs _ w k)))
    where
      go : (xs : List ℕ) → ((w : ℕ) → Member w xs → w < length g.wires) → Under (length g.wires) xs
      go [] f = tt
      go (x ∷ xs) f = (f x (inl refl), go xs (λ w k. f w (inr k)))

  joined-left : (w : ℕ) → w < length g.wires → joined (record d { outputs = l ++ r }) (beside_graph g h) w ≡ joined (record d { outputs = l }) g w
  joined-left w b =
      ap₂ (λ n o. joined_at (l ++ r) (length d.wires + length n) o) (inner-left (length g.wires) w g.inputs h.inputs (omega arith)) (place-left w (length g.wires) g.inputs h.inputs b)
      ∙ go (place_of w g.inputs) refl
    where
      go : (o : Option ℕ) → place_of w g.inputs ≡ o → joined_at (l ++ r) (length d.wires + length (inner g.inputs w)) (place_of w g.inputs) ≡ joined_at l
          (length d.wires + length (inner g.inputs w)) (place_of w g.inputs)
      go None q = ap (joined_at (l ++ r) (length d.wires + length (inner g.inputs w))) q ∙ sym (ap (joined_at l (length d.wires + length (inner g.inputs w))) q)
      go (Some j) q =
          let b = place-below w g.inputs j q in
          ap (joined_at (l ++ r) (length d.wires + length (inner g.inputs w))) q ∙ index-left l r j (omega arith) ∙ sym (ap (joined_at l (length d.wires + length (inner g.inputs w))) q)

  joined-right : (w : ℕ) → joined (record d { outputs = l ++ r }) (beside_graph g h) (length g.wires + w) ≡ joined (record (followed d l g) { outputs = r }) h w
  joined-right w =
      ap₂ (λ n o. joined_at (l ++ r) (length d.wires + n) o)
      (ap length (inner-right (length g.wires) w g.inputs h.inputs under) ∙ length-append (inner_wires g) _ ∙ ap (λ n. length (inner_wires g) + n) (length-shifted (length g.wires) (inner h.inputs w)))
      (place-right w (length g.wires) g.inputs h.inputs under)
      ∙ go (place_of w h.inputs) refl
    where
      size : length (d.wires ++ permuted g.wires (inner_wires g)) ≡ length d.wires + length (inner_wires g)
      size = length-append d.wires (permuted g.wires (inner_wires g)) ∙ ap (λ n. length d.wires + n) (length-inner g)

      go : (o : Option ℕ) → place_of w h.inputs ≡ o
          → joined_at (l ++ r) (length d.wires + (length (inner_wires g) + length (inner h.inputs w)))
          (option_map (λ j. length g.inputs + j) (place_of w h.inputs)) ≡ joined (record (followed d l g) { outputs = r }) h w
      go None q =
          let s = size in
          ap (λ o. joined_at (l ++ r) (length d.wires + (length (inner_wires g) + length (inner h.inputs w))) (option_map (λ j. length g.inputs + j) o)) q
          ∙ omega arith
          ∙ sym (ap (joined_at r (length (d.wires ++ permuted g.wires (inner_wires g)) + length (inner h.inputs w))) q)
      go (Some j) q =
          let b = place-below w h.inputs j q in
          ap (λ o. joined_at (l ++ r) (length d.wires + (length (inner_wires g) + length (inner h.inputs w))) (option_map (λ j. length g.inputs + j) o)) q
          ∙ ap (λ n. slice_index (l ++ r) (n + j)) (sym hl)
          ∙ index-right l r j (omega arith)
          ∙ sym (ap (joined_at r (length (d.wires ++ permuted g.wires (inner_wires g)) + length (inner h.inputs w))) q)

  below-source : (e : Edge) → Member e g.edges → (w : ℕ) → Member w e.sources → w < length g.wires
  below-source e k w s =
      member-below (length g.wires) w (Rearr-member w (Rearr-sym (permutation-Rearr (length g.wires) _ v.consumers)) (member-right g.outputs _ w (member-flat (λ e. e.sources) g.edges e w k s)))

  below-target : (e : Edge) → Member e g.edges → (w : ℕ) → Member w e.targets → w < length g.wires
  below-target e k w s =
      member-below (length g.wires) w (Rearr-member w (Rearr-sym (permutation-Rearr (length g.wires) _ v.producers)) (member-right g.inputs _ w (member-flat (λ e. e.targets) g.edges e w k s)))

  below-output : (w : ℕ) → Member w g.outputs → w < length g.wires
  below-output w k = member-below (length g.wires) w (Rearr-member w (Rearr-sym (permutation-Rearr (length g.wires) _ v.consumers)) (member-left g.outputs _ w k))

  pub follow_beside : followed (followed d l g) r h ≡ followed d (l ++ r) (beside_graph g h)
  follow_beside = plain-same
      (append_assoc d.wires (permuted g.wires (inner_wires g)) (permuted h.wires (inner_wires h))
      ∙ ap (λ x. d.wires ++ x)
      (ap₂ (λ x y. x ++ y)
      (sym (permuted-append_left g.wires h.wires (inner_wires g) (Under-filter (is_apart g.inputs) (length g.wires) 0 (length g.wires) (omega arith))))
      (sym (permuted-shifted g.wires h.wires (inner_wires h)))
      ∙ sym (permuted-append (g.wires ++ h.wires) (inner_wires g) (shifted (length g.wires) (inner_wires h)))
      ∙ ap (permuted (g.wires ++ h.wires)) (sym (ap (inner (g.inputs ++ shifted (length g.wires) h.inputs)) (length-append g.wires h.wires)
      ∙ inner-right (length g.wires) (length h.wires) g.inputs h.inputs under))))
      (append_assoc d.edges (map (renamed (joined (record d { outputs = l }) g)) g.edges) _
      ∙ ap (λ x. d.edges ++ x)
      (ap₂ (λ x y. x ++ y)
      (map-same_on _ _ g.edges (λ e k. renamed-on (joined (record d { outputs = l }) g) (joined (record d { outputs = l ++ r }) (beside_graph g h)) e
      (λ w s. sym (joined-left w (below-source e k w s))) (λ w s. sym (joined-left w (below-target e k w s)))))
      (sym (edges-twice (joined (record d { outputs = l ++ r }) (beside_graph g h)) (λ w. length g.wires + w) _ joined-right h.edges))
      ∙ sym (map-append (renamed (joined (record d { outputs = l ++ r }) (beside_graph g h))) g.edges (map (renamed (λ w. length g.wires + w)) h.edges))))
      refl
      (append_assoc d.outputs (map (joined (record d { outputs = l }) g) g.outputs) _
      ∙ ap (λ x. d.outputs ++ x)
      (ap₂ (λ x y. x ++ y)
      (map-same_on _ _ g.outputs (λ w k. sym (joined-left w (below-output w k))))
      (sym (wires-twice (joined (record d { outputs = l ++ r }) (beside_graph g h)) (λ w. length g.wires + w) _ joined-right h.outputs))
      ∙ sym (map-append (joined (record d { outputs = l ++ r }) (beside_graph g h)) g.outputs (shifted (length g.wires) h.outputs))))
