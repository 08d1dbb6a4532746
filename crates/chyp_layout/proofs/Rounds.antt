-- The column of an edge is the round in which it is taken away.
use Rattle.std.proofs.Common.{ℕ, zero, suc, ◌+◌, ◌<◌, ◌≤◌, ◌≡◌, Bool, true, false, cond, List, [], ◌∷◌, map, length, Option, Some, None, option_map, slice_get, ◌⊎◌, inl, inr, refl, sym, ◌∙◌, ap, subst, arith}
use Rattle.std.specs.List.{find}
use Rattle.std.specs.Option.{unwrap_or}
use Rattle.std.proofs.lemmas.Bool.{cases_Bool, cases_lt}
use Rattle.std.proofs.lemmas.List.{length-map}
use Rattle.chyp_term.specs.Positions.{is_among}
use Rattle.chyp_term.proofs.Permuted.{get-map, found}
use Rattle.chyp_term.proofs.Positions.{slice_get-length}
use Rattle.chyp_graph.specs.PlainGraph.{Edge, PlainGraph, targets_of}
use Rattle.chyp_graph.specs.Removal.{IsLiveFrom}
use Rattle.chyp_graph.specs.Rounds.{AreRounds, IsRound, is_taken_within}
use Rattle.chyp_graph.specs.Validity.{IsValid, is_ready, taken_within}
use Rattle.chyp_graph.proofs.Levelling.{among-later, round-few, target-live}
use Rattle.chyp_term.proofs.Members.{Member, all-members, among-member, filter-member, flat-member, get-member, map-member, member-among, member-get, member-left, member-map, member-split, members-all, All-from_get_members}
use Rattle.chyp_graph.proofs.Rounds.{live_after}
use Rattle.chyp_layout.specs.Columns.{AreKept, column_along, columns_of, greatest, producer_of}
use Rattle.chyp_layout.proofs.Numbers.{greatest-above, greatest-least, same-items}

-- what a search finds is there and passes
found-passes : {A : Type 0} (p : A → Bool) (xs : List A) (x : A) → find p xs ≡ Some x → (Member x xs) × (p x ≡ true)
found-passes p [] x h = cc
found-passes {A} p (y ∷ ys) x h = go (cases_Bool (p y)) (found-passes p ys x)
  where
    go : (p y ≡ true) ⊎ (p y ≡ false) → (find p ys ≡ Some x → (Member x ys) × (p x ≡ true)) → (Member x (y ∷ ys)) × (p x ≡ true)
    go (inl t) ih = let e : Some y ≡ Some x = sym (ap (λ b. cond b (Some y) (find p ys)) t) ∙ h in let d : y ≡ x = cc in (inl d, subst (λ z. p z ≡ true) d t)
    go (inr f) ih = let r = ih (sym (ap (λ b. cond b (Some y) (find p ys)) f) ∙ h) in (inr r.0, r.1)

-- where nothing is found, nothing passes
none-passes : {A : Type 0} (p : A → Bool) (xs : List A) → find p xs ≡ None → (x : A) → Member x xs → p x ≡ true → ⊥
none-passes p [] h x m t = m
none-passes {A} p (y ∷ ys) h x m t = go (cases_Bool (p y)) m (none-passes p ys)
  where
    go : (p y ≡ true) ⊎ (p y ≡ false) → (y ≡ x) ⊎ (Member x ys) → (find p ys ≡ None → (x : A) → Member x ys → p x ≡ true → ⊥) → ⊥
    go (inl u) k ih = let e : Some y ≡ None = sym (ap (λ b. cond b (Some y) (find p ys)) u) ∙ h in cc
    go (inr f) (inl e) ih = let u : p y ≡ true = subst (λ z. p z ≡ true) (sym e) t in cc
    go (inr f) (inr k) ih = ih (sym (ap (λ b. cond b (Some y) (find p ys)) f) ∙ h) x k t

-- the column in which a wire is made, as `column_along` counts it
abbrev date : PlainGraph → ℕ → ℕ → ℕ
date g n w = unwrap_or (option_map (column_along g n) (producer_of g w)) 0

module _ (g : PlainGraph) (v : IsValid g) (rounds : List ℕ) (t : AreRounds g rounds) where
  -- the round of an edge
  round : (e : Edge) → Member e g.edges → (k r : ℕ) × (slice_get g.edges k ≡ Some e) × (slice_get rounds k ≡ Some r) × (IsRound g e r)
  round e m =
      let k = member-get g.edges e m in
      let l = slice_get-length g.edges k.0 e k.1 in
      let s = t.size in
      let r = found rounds k.0 (omega arith) in
      (k.0, r.0, k.1, r.1, t.each k.0 e r.0 k.1 r.1)

  -- a wire that is live within n rounds is so from the round of the edge that makes it
  dated : (n : ℕ) → ((e : Edge) → Member e g.edges → (r : ℕ) → IsRound g e r → r ≤ n → column_along g n e ≡ r) → (w m : ℕ) → is_among (live_after g m) w ≡ true → m ≤ n → IsLiveFrom g w (date g n w)
  dated n ih w m h l = go (producer_of g w) refl
    where
      inside : (q : ℕ) (d : Edge) → Member d (taken_within g q) → Member d g.edges
      inside zero d a = absurd a
      inside (suc q) d a = (filter-member (is_ready (live_after g q)) g.edges d a).0

      go : (o : Option Edge) → producer_of g w ≡ o → IsLiveFrom g w (date g n w)
      go None e = subst (IsLiveFrom g w) (sym (ap (λ o. unwrap_or (option_map (column_along g n) o) 0) e)) (record {
        by_then = start (member-split g.inputs (targets_of
            (taken_within g m)) w (among-member (live_after g m) w h));
        not_before = λ q b. absurd (omega arith);
      })
        where
          start : (Member w g.inputs) ⊎ (Member w (targets_of (taken_within g m))) → is_among (live_after g 0) w ≡ true
          start (inl a) = member-among (live_after g 0) w (member-left g.inputs [] w a)
          start (inr a) =
              let d = flat-member (λ e. e.targets) (taken_within g m) w a in
              absurd (none-passes (λ d. is_among d.targets w) g.edges e d.0 (inside m d.0 d.1) (member-among d.0.targets w d.2))
      go (Some d) e =
          let p = found-passes (λ d. is_among d.targets w) g.edges d e in
          let r = round d p.0 in
          let f = target-live g v r.0 d r.1 w r.2 r.4 (among-member d.targets w p.1) in
          let c = ih d p.0 r.1 r.4 (early r.1 f (cases_lt m r.1)) in
          subst (IsLiveFrom g w) (sym (ap (λ o. unwrap_or (option_map (column_along g n) o) 0) e ∙ c)) f
        where
          early : (r : ℕ) → IsLiveFrom g w r → (m < r) ⊎ (r ≤ m) → r ≤ n
          early r f (inl a) = let z = f.not_before m a in absurd (cc)
          early r f (inr a) = omega arith

  -- a wire is not live before its date
  date-early : (w d m : ℕ) → IsLiveFrom g w d → is_among (live_after g m) w ≡ true → d ≤ m
  date-early w d m f h = go (cases_lt m d)
    where
      go : (m < d) ⊎ (d ≤ m) → d ≤ m
      go (inl a) = let z = f.not_before m a in absurd (cc)
      go (inr a) = a

  -- the column of an edge, from those of the edges that make its sources
  next : (n : ℕ) → ((e : Edge) → Member e g.edges → (r : ℕ) → IsRound g e r → r ≤ n → column_along g n e ≡ r) → (e : Edge) (m : ℕ) → IsRound g e (suc m) → m ≤ n → column_along g (suc n) e ≡ suc m
  next n ih e m q l = equal (cases_lt last m)
    where
      dates : List ℕ
      dates = map (date g n) e.sources

      last : ℕ
      last = greatest dates

      live : (w : ℕ) → Member w e.sources → IsLiveFrom g w (date g n w)
      live w a = dated n ih w m (members-all (is_among (live_after g m)) e.sources q.by_then w a) l

      low : last ≤ m
      low = greatest-least dates m (λ d a.
          let w = map-member (date g n) e.sources d a in
          let z = date-early w.0 (date g n w.0) m (live w.0 w.1) (members-all (is_among (live_after g m)) e.sources q.by_then w.0 w.1) in
          let s = w.2 in
          omega arith)

      ready : is_ready (live_after g last) e ≡ true
      ready = all-members (is_among (live_after g last)) e.sources (λ w a.
          among-later g (date g n w) last w (greatest-above dates (date g n w) (member-map (date g n) e.sources w a)) (live w a).by_then)

      equal : (last < m) ⊎ (m ≤ last) → last + 1 ≡ suc m
      equal (inl a) = let z = q.not_before (suc last) (omega arith) in let y : is_taken_within g e (suc last) ≡ true = ready in absurd (cc)
      equal (inr a) = let z = low in omega arith

  pub column-round : (n : ℕ) (e : Edge) → Member e g.edges → (r : ℕ) → IsRound g e r → r ≤ n → column_along g n e ≡ r
  column-round n e h zero q l = let z = q.by_then in absurd (cc)
  column-round zero e h (suc m) q l = absurd (omega arith)
  column-round (suc n) e h (suc m) q l = next n (column-round n) e m q (omega arith)

  -- the rounds are the columns
  pub rounds-columns : rounds ≡ columns_of g
  rounds-columns = same-items rounds (columns_of g) (t.size ∙ sym (length-map g.edges (column_along g (length g.edges)))) at
    where
      at : (i x y : ℕ) → slice_get rounds i ≡ Some x → slice_get (columns_of g) i ≡ Some y → x ≡ y
      at i x y a b =
          let l = slice_get-length rounds i x a in
          let s = t.size in
          let e = found g.edges i (omega arith) in
          let r = t.each i e.0 x e.1 a in
          let c = column-round (length g.edges) e.0 (get-member g.edges i e.0 e.1) x r (round-few g v i e.0 x e.1 r) in
          let f : Some (column_along g (length g.edges) e.0) ≡ Some y = sym (get-map (column_along g (length g.edges)) g.edges i
          ∙ ap (λ o. option_map (column_along g (length g.edges)) o) e.1) ∙ b in
          let d : column_along g (length g.edges) e.0 ≡ y = cc in
          sym c ∙ d

  round-at : (i x : ℕ) → slice_get rounds i ≡ Some x → (0 < x) × (x ≤ length g.edges)
  round-at i x a =
      let l = slice_get-length rounds i x a in
      let s = t.size in
      let e = found g.edges i (omega arith) in
      let r = t.each i e.0 x e.1 a in
      (positive x r, round-few g v i e.0 x e.1 r)
    where
      positive : (x : ℕ) {e : Edge} → IsRound g e x → 0 < x
      positive zero r = let z = r.by_then in absurd (cc)
      positive (suc x) r = omega arith

  -- the rounds with the greatest of them are columns to be kept
  pub rounds-kept : length g.edges < 2147483648 → (last : ℕ) → last ≡ greatest rounds → AreKept rounds last
  rounds-kept few last e = record {
    greatest = e;
    few = let s = t.size in omega arith;
    low = let l = greatest-least rounds (length g.edges) (λ x m. let i = member-get rounds x m in (round-at i.0 x i.1).1) in omega arith;
    each = All-from_get_members {P = λ n. (0 < n) × (n ≤ last)} rounds (λ x m. let i = member-get rounds x m in ((round-at i.0 x i.1).0, let z = greatest-above rounds x m in omega arith));
  }
