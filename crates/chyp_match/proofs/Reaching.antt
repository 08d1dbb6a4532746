-- Which edges lead to which, from an edge backwards.
use Rattle.std.proofs.Common.{ℕ, zero, suc, ◌+◌, ◌<◌, ◌≤◌, ◌≡◌, Bool, true, false, cond, List, [], ◌∷◌, ◌++◌, length, replicate, Option, Some, None, slice_get, slice_set, get_or}
use Rattle.std.proofs.Common.{All, Contains, IsNone, ◌↔◌, ◌⊎◌, inl, inr, refl, sym, ◌∙◌, ap, subst, arith}
use Rattle.std.proofs.lemmas.Bool.{cases_eq, cases_lt}
use Rattle.std.proofs.lemmas.List.Sums.{count_by-le-length, sum_by-cons}
use Rattle.chyp_term.proofs.Closure.{get-item}
use Rattle.chyp_term.proofs.Members.{Member, Contains-member, get-member, member-Contains, member-flat, member-get, parts-apart}
use Rattle.chyp_term.proofs.Positions.{slice_get-length}
use Rattle.chyp_term.proofs.Slices.{get-set_other, get-set_same}
use Rattle.chyp_graph.specs.PlainGraph.{Edge, PlainGraph, targets_of}
use Rattle.chyp_graph.specs.Validity.{IsValid}
use Rattle.chyp_iso.specs.Port.{IsPortAt, the_sources, the_targets}
use Rattle.chyp_iso.proofs.Ports.{once, port-edge, port-is, wire-below}
use Rattle.chyp_match.specs.Reach.{AreMakersMarked, AreRows, IsMakerMarked, IsRow, IsRowOrNone, IsWalk, LeadsTo, MakersLead, here, marked, on}
use Rattle.chyp_match.specs.Row.{IsMarked, IsUnion, Marks}

-- ## marks

blank : (n j : ℕ) → IsMarked (replicate n false) j → ⊥
blank zero j e = cc
blank (suc n) zero e = let q : false ≡ true = cc in cc
blank (suc n) (suc j) e = blank n j e

pub set-size : (row : List Bool) (k : ℕ) → length (slice_set row k true) ≡ length row
set-size [] k = refl
set-size (b ∷ row) zero = refl
set-size (b ∷ row) (suc k) = ap suc (set-size row k)

set-marked : (row : List Bool) (k j : ℕ) → IsMarked (slice_set row k true) j → (j ≡ k) ⊎ IsMarked row j
set-marked [] k j e = inr e
set-marked (b ∷ row) zero zero e = inl refl
set-marked (b ∷ row) zero (suc j) e = inr e
set-marked (b ∷ row) (suc k) zero e = inr e
set-marked (b ∷ row) (suc k) (suc j) e = go (set-marked row k j e)
  where
    go : (j ≡ k) ⊎ IsMarked row j → (suc j ≡ suc k) ⊎ IsMarked (b ∷ row) (suc j)
    go (inl q) = inl (ap suc q)
    go (inr q) = inr q

pub marked-set : (row : List Bool) (k : ℕ) → k < length row → IsMarked (slice_set row k true) k
marked-set [] k h = absurd (omega arith)
marked-set (b ∷ row) zero h = refl
marked-set (b ∷ row) (suc k) h = marked-set row k (omega arith)

pub marked-keep : (row : List Bool) (k j : ℕ) → IsMarked row j → IsMarked (slice_set row k true) j
marked-keep [] k j e = e
marked-keep (b ∷ row) zero zero e = refl
marked-keep (b ∷ row) zero (suc j) e = e
marked-keep (b ∷ row) (suc k) zero e = e
marked-keep (b ∷ row) (suc k) (suc j) e = marked-keep row k j e

marked-below : (row : List Bool) (j : ℕ) → IsMarked row j → j < length row
marked-below row j e = slice_get-length row j true e

one-more : (xs : List Bool) → marked (true ∷ xs) ≡ 1 + marked xs
one-more xs = sum_by-cons (λ (m : Bool). cond m 1 0) true xs

no-other : (xs : List Bool) → marked (false ∷ xs) ≡ marked xs
no-other xs = refl

-- a mark that is new adds one
pub marked-more : (row : List Bool) (k : ℕ) → k < length row → slice_get row k ≡ Some false → marked (slice_set row k true) ≡ marked row + 1
marked-more [] k h e = absurd (omega arith)
marked-more (true ∷ row) zero h e = let q : true ≡ false = cc in cc
marked-more (false ∷ row) zero h e = omega (arith, one-more, no-other)
marked-more (true ∷ row) (suc k) h e = let r = marked-more row k (omega arith) e in omega (arith, one-more, no-other)
marked-more (false ∷ row) (suc k) h e = let r = marked-more row k (omega arith) e in omega (arith, one-more, no-other)

-- where one is marked, there is a mark
pub marked-some : (row : List Bool) (k : ℕ) → IsMarked row k → 0 < marked row
marked-some [] k e = cc
marked-some (true ∷ row) k e = omega (arith, one-more, no-other)
marked-some (false ∷ row) zero e = let q : false ≡ true = cc in cc
marked-some (false ∷ row) (suc k) e = let r = marked-some row k e in omega (arith, one-more, no-other)

-- one that isn't marked is left out
pub marked-few : (row : List Bool) (k : ℕ) → k < length row → slice_get row k ≡ Some false → marked row < length row
marked-few row k h e =
    let m = marked-more row k h e in
    let b = count_by-le-length (λ (mark : Bool). mark) (slice_set row k true) in
    let s = set-size row k in
    omega arith

marked-head : (b : Bool) (xs : List Bool) → marked xs ≤ marked (b ∷ xs)
marked-head true xs = omega (arith, one-more, no-other)
marked-head false xs = omega (arith, one-more, no-other)

-- more marks are no fewer
pub marked-union : (row more : List Bool) → ((j : ℕ) → IsMarked row j → IsMarked more j) → marked row ≤ marked more
marked-union [] more f = omega arith
marked-union (true ∷ row) [] f = let q : ◌≡◌ {A = Option Bool} None (Some true) = f 0 refl in cc
marked-union (false ∷ row) [] f = let r = marked-union row [] (λ j e. f (suc j) e) in omega (arith, one-more, no-other)
marked-union (true ∷ row) (true ∷ more) f = let r = marked-union row more (λ j e. f (suc j) e) in omega (arith, one-more, no-other)
marked-union (true ∷ row) (false ∷ more) f = let q : ◌≡◌ {A = Option Bool} (Some false) (Some true) = f 0 refl in let z : false ≡ true = cc in cc
marked-union (false ∷ row) (b ∷ more) f = let r = marked-union row more (λ j e. f (suc j) e) in let h = marked-head b more in omega (arith, one-more, no-other)

-- ## chains

module _ (g : PlainGraph) where
  leads-trans : (i j k : ℕ) → LeadsTo g i j → LeadsTo g j k → LeadsTo g i k
  leads-trans i j k x here = x
  leads-trans i j k x (on y p q dw ew) = on (leads-trans i j _ x y) p q dw ew

  -- what makes a source of an edge leads to it
  pub feeds : (p k w : ℕ) (d e : Edge) → slice_get g.edges p ≡ Some d → slice_get g.edges k ≡ Some e → Contains d.targets w → Contains e.sources w → LeadsTo g p k
  feeds p k w d e dp ek dw ew = on here dp ek dw ew

  pub makers-lead : (k root w : ℕ) (e : Edge) → slice_get g.edges k ≡ Some e → Contains e.sources w → LeadsTo g k root → MakersLead g w root
  makers-lead k root w e ek ew x p d dp dw = leads-trans p k root (feeds p k w d e dp ek dw ew) x

  -- marks to which all makers of theirs belong have all that leads to them
  closed-leads : (marks : List Bool) → ((j : ℕ) → IsMarked marks j → AreMakersMarked g marks j) → (j m : ℕ) → LeadsTo g j m → IsMarked marks m → IsMarked marks j
  closed-leads marks f j m here h = h
  closed-leads marks f j m (on {k = p} {d = d} {e = e} x dp em {w} dw ew) h = closed-leads marks f j p x (f m h p d e w dp em dw ew)

  -- the marks of a row are such
  row-closed : (k : ℕ) (marks : List Bool) → IsRow g k marks → (j : ℕ) → IsMarked marks j → AreMakersMarked g marks j
  row-closed k marks r j h p d e w dp ej dw ew =
      let s = r.size in
      let b = marked-below marks j h in
      let x = (r.marks j (omega arith)).0 h in
      (r.marks p (slice_get-length g.edges p d dp)).1 (leads-trans p j k (feeds p j w d e dp ej dw ew) x)

  makers-more : (marks more : List Bool) (j : ℕ) → ((i : ℕ) → IsMarked marks i → IsMarked more i) → AreMakersMarked g marks j → AreMakersMarked g more j
  makers-more marks more j f a p d e w dp ej dw ew = f p (a p d e w dp ej dw ew)

  -- ## the beginning

  pub walk-blank : (k : ℕ) (blanks marks : List Bool) → k < length g.edges → blanks ≡ replicate (length g.edges) false → length blanks ≡ length g.edges → marks ≡ slice_set blanks k true
      → IsWalk g k 0 marks (k ∷ [])
  walk-blank k blanks marks b e s q = record {
    begun = it;
    leads = λ j h. subst (λ z. LeadsTo g z k) (sym (one j h)) here;
    queued = λ i j h. at i j h;
    closed = λ j h. inl (0, omega arith, ap (λ z. Some z) (sym (one j h)));
  }
    where
      it : IsMarked marks k
      it = subst (λ z. IsMarked z k) (sym q) (marked-set blanks k (omega arith))

      one : (j : ℕ) → IsMarked marks j → j ≡ k
      one j h = go (set-marked blanks k j (subst (λ z. IsMarked z j) q h))
        where
          go : (j ≡ k) ⊎ IsMarked blanks j → j ≡ k
          go (inl x) = x
          go (inr x) = absurd (blank (length g.edges) j (subst (λ z. IsMarked z j) e x))

      at : (i j : ℕ) → slice_get (k ∷ []) i ≡ Some j → IsMarked marks j
      at zero j h = let x : k ≡ j = cc in subst (IsMarked marks) x it
      at (suc i) j h = cc

  pub walk-copy : (k p : ℕ) (row marks : List Bool) → k < length g.edges → IsRow g p row → LeadsTo g p k → marks ≡ slice_set row k true → IsWalk g k 0 marks (k ∷ [])
  walk-copy k p row marks b r l q = record {
    begun = it;
    leads = λ j h. lead j (one j h);
    queued = λ i j h. at i j h;
    closed = λ j h. done j (one j h);
  }
    where
      size : length row ≡ length g.edges
      size = r.size

      it : IsMarked marks k
      it = subst (λ z. IsMarked z k) (sym q) (marked-set row k (omega arith))

      keep : (j : ℕ) → IsMarked row j → IsMarked marks j
      keep j h = subst (λ z. IsMarked z j) (sym q) (marked-keep row k j h)

      one : (j : ℕ) → IsMarked marks j → (j ≡ k) ⊎ IsMarked row j
      one j h = set-marked row k j (subst (λ z. IsMarked z j) q h)

      lead : (j : ℕ) → (j ≡ k) ⊎ IsMarked row j → LeadsTo g j k
      lead j (inl x) = subst (λ z. LeadsTo g z k) (sym x) here
      lead j (inr x) = let c = marked-below row j x in leads-trans j p k ((r.marks j (omega arith)).0 x) l

      done : (j : ℕ) → (j ≡ k) ⊎ IsMarked row j → ((i : ℕ) × (0 ≤ i) × (slice_get (k ∷ []) i ≡ Some j)) ⊎ AreMakersMarked g marks j
      done j (inl x) = inl (0, omega arith, ap (λ z. Some z) (sym x))
      done j (inr x) = inr (makers-more row marks j keep (row-closed p row r j x))

      at : (i j : ℕ) → slice_get (k ∷ []) i ≡ Some j → IsMarked marks j
      at zero j h = let x : k ≡ j = cc in subst (IsMarked marks) x it
      at (suc i) j h = cc

  -- ## the maker of a wire

  is-none : (r : Option (ℕ × ℕ)) → r ≡ None → IsNone r
  is-none None e = refl
  is-none (Some x) e = cc

  -- an input has no maker
  pub maker-none : (w : ℕ) (marks : List Bool) (r : Option (ℕ × ℕ)) → IsValid g → (IsNone r ↔ Contains g.inputs w) → r ≡ None → IsMakerMarked g w marks
  maker-none w marks r v input e p d dp dw =
      absurd (parts-apart (length g.wires) g.inputs (targets_of g.edges) v.producers w (Contains-member g.inputs w (input.0 (is-none r e)))
      (flat (get-member g.edges p d dp) (Contains-member d.targets w dw)))
    where
      flat : Member d g.edges → Member w d.targets → Member w (targets_of g.edges)
      flat a b = member-flat (λ (e : Edge). e.targets) g.edges d w a b

  -- the others have one
  pub the-maker : (w p n : ℕ) (marks : List Bool) → IsValid g → IsPortAt g the_targets p n w → IsMarked marks p → IsMakerMarked g w marks
  the-maker w p n marks v at h q d dq dw =
      let i = member-get d.targets w (Contains-member d.targets w dw) in
      let o = once g v the_targets q i.0 p n w (port-is g the_targets q i.0 d dq ∙ i.1) at in
      subst (IsMarked marks) (sym o.0) h

  pub maker-leads : (w p n k : ℕ) → IsPortAt g the_targets p n w → MakersLead g w k → LeadsTo g p k
  maker-leads w p n k at f = let d = port-edge (λ e. e.targets) g.edges p n w at in f p d.0 d.1 (member-Contains d.0.targets w (get-member d.0.targets n w d.2))

  pub maker-below : (w p n : ℕ) → IsPortAt g the_targets p n w → p < length g.edges
  maker-below w p n at = let d = port-edge (λ e. e.targets) g.edges p n w at in slice_get-length g.edges p d.0 d.1

  -- ## more marks

  get-push : (q : List ℕ) (x i j : ℕ) → slice_get q i ≡ Some j → slice_get (q ++ x ∷ []) i ≡ Some j
  get-push [] x i j e = cc
  get-push (y ∷ q) x zero j e = e
  get-push (y ∷ q) x (suc i) j e = get-push q x i j e

  get-last : (q : List ℕ) (x : ℕ) → slice_get (q ++ x ∷ []) (length q) ≡ Some x
  get-last [] x = refl
  get-last (y ∷ q) x = get-last q x

  get-pushed : (q : List ℕ) (x i j : ℕ) → slice_get (q ++ x ∷ []) i ≡ Some j → (slice_get q i ≡ Some j) ⊎ (x ≡ j)
  get-pushed [] x zero j e = inr (cc)
  get-pushed [] x (suc i) j e = cc
  get-pushed (y ∷ q) x zero j e = inl e
  get-pushed (y ∷ q) x (suc i) j e = get-pushed q x i j e

  pub queue-push : (q r : List ℕ) (x : ℕ) → r ≡ q ++ x ∷ [] → (i j : ℕ) → slice_get q i ≡ Some j → slice_get r i ≡ Some j
  queue-push q r x e i j h = ap (λ z. slice_get z i) e ∙ get-push q x i j h

  pub walk-joined : (k next p : ℕ) (marks row more : List Bool) (queue : List ℕ) → IsRow g p row → LeadsTo g p k → IsUnion marks row more → IsWalk g k next marks queue → IsWalk g k next more queue
  walk-joined k next p marks row more queue r l u a = record {
    begun = old k a.begun;
    leads = λ j h. lead j ((u.marks j).0 h);
    queued = λ i j h. old j (a.queued i j h);
    closed = λ j h. done j ((u.marks j).0 h);
  }
    where
      size : length row ≡ length g.edges
      size = r.size

      old : (j : ℕ) → IsMarked marks j → IsMarked more j
      old j h = (u.marks j).1 (inl h)

      new : (j : ℕ) → IsMarked row j → IsMarked more j
      new j h = (u.marks j).1 (inr h)

      lead : (j : ℕ) → IsMarked marks j ⊎ IsMarked row j → LeadsTo g j k
      lead j (inl x) = a.leads j x
      lead j (inr x) = let c = marked-below row j x in leads-trans j p k ((r.marks j (omega arith)).0 x) l

      done : (j : ℕ) → IsMarked marks j ⊎ IsMarked row j → ((i : ℕ) × (next ≤ i) × (slice_get queue i ≡ Some j)) ⊎ AreMakersMarked g more j
      done j (inl x) = go (a.closed j x)
        where
          go : ((i : ℕ) × (next ≤ i) × (slice_get queue i ≡ Some j)) ⊎ AreMakersMarked g marks j → ((i : ℕ) × (next ≤ i) × (slice_get queue i ≡ Some j)) ⊎ AreMakersMarked g more j
          go (inl y) = inl y
          go (inr y) = inr (makers-more marks more j old y)
      done j (inr x) = inr (makers-more row more j new (row-closed p row r j x))

  pub walk-pushed : (k next p : ℕ) (marks more : List Bool) (queue longer : List ℕ) → p < length marks → LeadsTo g p k → more ≡ slice_set marks p true → longer ≡ queue ++ p ∷ []
      → next ≤ length queue → IsWalk g k next marks queue → IsWalk g k next more longer
  walk-pushed k next p marks more queue longer b l m q n a = record {
    begun = old k a.begun;
    leads = λ j h. lead j (one j h);
    queued = λ i j h. at i j (get-pushed queue p i j (sym (ap (λ z. slice_get z i) q) ∙ h));
    closed = λ j h. done j (one j h);
  }
    where
      it : IsMarked more p
      it = subst (λ z. IsMarked z p) (sym m) (marked-set marks p b)

      old : (j : ℕ) → IsMarked marks j → IsMarked more j
      old j h = subst (λ z. IsMarked z j) (sym m) (marked-keep marks p j h)

      one : (j : ℕ) → IsMarked more j → (j ≡ p) ⊎ IsMarked marks j
      one j h = set-marked marks p j (subst (λ z. IsMarked z j) m h)

      lead : (j : ℕ) → (j ≡ p) ⊎ IsMarked marks j → LeadsTo g j k
      lead j (inl x) = subst (λ z. LeadsTo g z k) (sym x) l
      lead j (inr x) = a.leads j x

      at : (i j : ℕ) → (slice_get queue i ≡ Some j) ⊎ (p ≡ j) → IsMarked more j
      at i j (inl x) = old j (a.queued i j x)
      at i j (inr x) = subst (IsMarked more) x it

      done : (j : ℕ) → (j ≡ p) ⊎ IsMarked marks j → ((i : ℕ) × (next ≤ i) × (slice_get longer i ≡ Some j)) ⊎ AreMakersMarked g more j
      done j (inl x) = inl (length queue, n, ap (λ z. slice_get z (length queue)) q ∙ get-last queue p ∙ ap (λ z. Some z) (sym x))
      done j (inr x) = go (a.closed j x)
        where
          go : ((i : ℕ) × (next ≤ i) × (slice_get queue i ≡ Some j)) ⊎ AreMakersMarked g marks j → ((i : ℕ) × (next ≤ i) × (slice_get longer i ≡ Some j)) ⊎ AreMakersMarked g more j
          go (inl y) = inl (y.0, y.1, queue-push queue longer p q y.0 j y.2)
          go (inr y) = inr (makers-more marks more j old y)

  -- ## an edge of the queue

  -- what makes the first n wires is marked
  abbrev pub AreMarkedTo : List ℕ → ℕ → List Bool → Type 0
  AreMarkedTo wires n marks = (i w : ℕ) → i < n → slice_get wires i ≡ Some w → IsMakerMarked g w marks

  pub marked-to : (wires : List ℕ) (n w : ℕ) (marks more : List Bool) → slice_get wires n ≡ Some w → ((j : ℕ) → IsMarked marks j → IsMarked more j) → AreMarkedTo wires n marks
      → IsMakerMarked g w more
      → AreMarkedTo wires (n + 1) more
  marked-to wires n w marks more at f a m i v b e = go (cases_lt i n)
    where
      go : (i < n) ⊎ (n ≤ i) → IsMakerMarked g v more
      go (inl c) = λ p d x y. f p (a i v c e p d x y)
      go (inr c) =
          let q : i ≡ n = omega arith in
          let both : ◌≡◌ {A = Option ℕ} (Some v) (Some w) = sym e ∙ ap (slice_get wires) q ∙ at in
          let one : w ≡ v = cc in
          subst (λ z. IsMakerMarked g z more) one m

  above : (i n : ℕ) → n ≤ i → (i ≡ n → ⊥) → n + 1 ≤ i
  above i n h c = pick (cases_lt n i)
    where
      pick : (n < i) ⊎ (i ≤ n) → n + 1 ≤ i
      pick (inl d) = omega arith
      pick (inr d) = absurd (c (omega arith))

  pub walk-visited : (root at k n : ℕ) (e : Edge) (marks : List Bool) (queue : List ℕ) → slice_get queue at ≡ Some k → slice_get g.edges k ≡ Some e → length e.sources ≤ n
      → AreMarkedTo e.sources n marks → IsWalk g root at marks queue → IsWalk g root (at + 1) marks queue
  walk-visited root at k n e marks queue is ek b f a = record { begun = a.begun; leads = a.leads; queued = a.queued; closed = λ j h. go j (a.closed j h) }
    where
      makers : AreMakersMarked g marks k
      makers p d x w dp xk dw xw =
          let both : ◌≡◌ {A = Option Edge} (Some x) (Some e) = sym xk ∙ ek in
          let one : x ≡ e = cc in
          let i = member-get e.sources w (Contains-member e.sources w (subst (λ (z : Edge). Contains z.sources w) one xw)) in
          let c = slice_get-length e.sources i.0 w i.1 in
          f i.0 w (omega arith) i.1 p d dp dw

      go : (j : ℕ) → ((i : ℕ) × (at ≤ i) × (slice_get queue i ≡ Some j)) ⊎ AreMakersMarked g marks j
          → ((i : ℕ) × (at + 1 ≤ i) × (slice_get queue i ≡ Some j)) ⊎ AreMakersMarked g marks j
      go j (inr x) = inr x
      go j (inl x) = split (cases_eq x.0 at)
        where
          split : (x.0 ≡ at) ⊎ (x.0 ≡ at → ⊥) → ((i : ℕ) × (at + 1 ≤ i) × (slice_get queue i ≡ Some j)) ⊎ AreMakersMarked g marks j
          split (inl c) =
              let both : ◌≡◌ {A = Option ℕ} (Some k) (Some j) = sym is ∙ ap (slice_get queue) (sym c) ∙ x.2 in
              let one : k ≡ j = cc in
              inr (subst (AreMakersMarked g marks) one makers)
          split (inr c) = let h = x.1 in inl (x.0, above x.0 at h c, x.2)

  -- ## the end

  pub walk-row : (k n : ℕ) (marks : List Bool) (queue : List ℕ) → length marks ≡ length g.edges → length queue ≤ n → IsWalk g k n marks queue → IsRow g k marks
  walk-row k n marks queue s b a = record { size = s; marks = λ j h. (λ x. a.leads j x, λ x. closed-leads marks all j k x a.begun) }
    where
      all : (j : ℕ) → IsMarked marks j → AreMakersMarked g marks j
      all j h = go (a.closed j h)
        where
          go : ((i : ℕ) × (n ≤ i) × (slice_get queue i ≡ Some j)) ⊎ AreMakersMarked g marks j → AreMakersMarked g marks j
          go (inl x) = let c = slice_get-length queue x.0 j x.2 in let d = x.1 in absurd (omega arith)
          go (inr x) = x

  -- ## rows

  pub row-there : (rows : List Marks) (i p : ℕ) (row : Marks) → AreRows g rows → i ≡ p → p < length g.edges → row ≡ get_or rows i row → slice_get rows p ≡ Some row
  row-there rows i p row a e b q = let s = a.size in ap (slice_get rows) (sym e) ∙ get-item rows i row (omega arith) q

  pub row-known : (rows : List Marks) (i p : ℕ) (row : Marks) → AreRows g rows → i ≡ p → p < length g.edges → row ≡ get_or rows i row → 0 < length row.marks → IsRow g p row.marks
  row-known rows i p row a e b q h = (a.each p row (row-there rows i p row a e b q)).known h

  -- the same row, read twice
  pub row-again : (rows : List Marks) (i p : ℕ) (row again : Marks) → AreRows g rows → i ≡ p → p < length g.edges → row ≡ get_or rows i row → again ≡ get_or rows i again → 0 < length row.marks
      → IsRow g p again.marks
  row-again rows i p row again a e b q r h =
      let both : ◌≡◌ {A = Option Marks} (Some row) (Some again) = sym (row-there rows i p row a e b q) ∙ row-there rows i p again a e b r in
      let one : row ≡ again = cc in
      subst (λ (x : Marks). IsRow g p x.marks) one (row-known rows i p row a e b q h)

  pub known-there : (rows : List Marks) (i p : ℕ) (row again : Marks) → AreRows g rows → i ≡ p → p < length g.edges → row ≡ get_or rows i row → slice_get rows p ≡ Some again → 0 < length row.marks
      → IsRow g p again.marks
  known-there rows i p row again a e b q r h =
      let both : ◌≡◌ {A = Option Marks} (Some row) (Some again) = sym (row-there rows i p row a e b q) ∙ r in
      let one : row ≡ again = cc in
      subst (λ (x : Marks). IsRow g p x.marks) one (row-known rows i p row a e b q h)

  pub rows-set : (rows : List Marks) (k : ℕ) (row : Marks) → AreRows g rows → row.room ≡ length g.edges → IsRow g k row.marks → AreRows g (slice_set rows k row)
  rows-set rows k row a m r = record { size = size rows k ∙ a.size; each = λ j other h. go j other h (cases_eq j k) }
    where
      size : (xs : List Marks) (n : ℕ) → length (slice_set xs n row) ≡ length xs
      size [] n = refl
      size (x ∷ xs) zero = refl
      size (x ∷ xs) (suc n) = ap suc (size xs n)

      go : (j : ℕ) (other : Marks) → slice_get (slice_set rows k row) j ≡ Some other → (j ≡ k) ⊎ (j ≡ k → ⊥) → IsRowOrNone g j other
      go j other h (inl e) =
          let b = slice_get-length (slice_set rows k row) j other h in
          let s = size rows k in
          let both : ◌≡◌ {A = Option Marks} (Some row) (Some other) = sym (get-set_same rows k row (omega arith)) ∙ ap (slice_get (slice_set rows k row)) (sym e) ∙ h in
          let one : row ≡ other = cc in
          subst (λ z. IsRowOrNone g z other) (sym e) (subst (IsRowOrNone g k) one (record { room = m; known = λ _. r }))
      go j other h (inr e) = a.each j other (sym (get-set_other rows k j row e) ∙ h)

  pub rows-empty : (rows : List Marks) (count : ℕ) → count ≡ length g.edges → length rows ≡ count → All (λ row. row ≡ record { marks = []; room = count }) rows → AreRows g rows
  rows-empty rows count e s a = record { size = s ∙ e; each = λ k row h. one k row (item k row h) }
    where
      item : (k : ℕ) (row : Marks) → slice_get rows k ≡ Some row → row ≡ record { marks = []; room = count }
      item k row h = subst (λ z. z ≡ record { marks = []; room = count }) (get-get_or rows k row h) (a k row (slice_get-length rows k row h))
        where
          get-get_or : (xs : List Marks) (n : ℕ) (x : Marks) → slice_get xs n ≡ Some x → get_or xs n x ≡ x
          get-get_or [] n x e = cc
          get-get_or (y ∷ xs) zero x e = cc
          get-get_or (y ∷ xs) (suc n) x e = get-get_or xs n x e

      one : (k : ℕ) (row : Marks) → row ≡ record { marks = []; room = count } → IsRowOrNone g k row
      one k row q = record { room = ap (λ (x : Marks). x.room) q ∙ e; known = λ h. let n = ap (λ (x : Marks). length x.marks) q in absurd (omega arith) }

  -- ## the sources of an edge

  pub item-within : (k : ℕ) (e : Edge) (i w : ℕ) → IsValid g → slice_get g.edges k ≡ Some e → slice_get e.sources i ≡ Some w → w < length g.wires
  item-within k e i w v at is = wire-below g v the_sources k i w (port-is g the_sources k i e at ∙ is)
