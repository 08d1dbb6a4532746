-- The wires of a stack that aren't used, and the measures of the parts.
use Rattle.std.proofs.Common.{ℕ, zero, suc, ◌+◌, ◌-◌, ◌<◌, ◌≤◌, ◌≡◌, Bool, true, false, not, ◌&&◌, cond, eqb, List, [], ◌∷◌, ◌++◌, length, take, drop, filter, map, reverse, Some, slice_get, All, ◌⊎◌, inl, inr, refl, sym, ◌∙◌, ap, ap₂, subst, arith}
use Rattle.std.proofs.Common.{add-one, append_assoc, append-nil, zero-add, length-append, drop-cons, eq-eqb, eqb-true}
use Rattle.std.proofs.lemmas.Bool.{and_parts, cases_Bool}
use Rattle.std.proofs.lemmas.List.{map-append, reverse-append, reverse-reverse, take_all}
use Rattle.std.proofs.lemmas.Option.{get_or_from_slice_get}
use Rattle.std.proofs.lemmas.List.Elements.{All-append, All-take, filter-append}
use Rattle.chyp_term.specs.Perm.{IsPermutation, count_from}
use Rattle.chyp_term.specs.Positions.{is_apart, place_of}
use Rattle.chyp_term.proofs.Members.{All-members, Member, Rearr-member, among-member, filter-all, filter-member, filter-none, flat-member, member-among, member-flat, member-left, member-not_apart, member-right, member-split, not_member-apart, parts-apart, place-first}
use Rattle.chyp_term.proofs.Rearrangement.{Rearr-length}
use Rattle.chyp_term.proofs.Slices.{take-suc}
use Rattle.chyp_term.proofs.Positions.{slice_get-length}
use Rattle.chyp_graph.specs.PlainGraph.{Edge, PlainGraph, sources_of, targets_of}
use Rattle.chyp_graph.specs.Validity.{IsValid, is_ready, taken_within}
use Rattle.chyp_graph.specs.Rounds.{is_taken_within}
use Rattle.chyp_extract.specs.Extraction.{counts_from, passed_by, places_in}
use Rattle.chyp_extract.specs.Measuring.{Measures as TermMeasures, measures_from, of_crossing, of_layer, of_wires}
use Rattle.chyp_extract.specs.Placing.{left_after, placed_after}
use Rattle.chyp_extract.proofs.Layers.{places-counted, straight}
use Rattle.chyp_extract.proofs.Placing.{IsAt, later-is, ready-is}
use Rattle.chyp_extractor.specs.declared.measures.Measures.{Measures}
use Rattle.chyp_extractor.specs.Measures.{kept}
use Rattle.chyp_extractor.specs.Fronts.{is_used_within, live_at, others_at, wanted_at}
use Rattle.chyp_extractor.specs.Tally.{AreWires, KeepsUnused, begins, first_of, measures_at, unused_in}
use Rattle.chyp_extractor.proofs.Fronts.{at-front, both_ways, done_at, end-split, others-are, round-reordered, wanted-split}
use Rattle.chyp_extractor.proofs.Lists.{All-member}
use Rattle.chyp_extractor.proofs.Sorting.{in-taken, taken-in, taken-on}

-- ## stacks

filter-inner : (p q : ℕ → Bool) (xs : List ℕ) → ((x : ℕ) → q x ≡ false → p x ≡ false) → filter p (filter q xs) ≡ filter p xs
filter-inner p q [] h = refl
filter-inner p q (x ∷ xs) h = go (cases_Bool (q x)) (filter-inner p q xs h)
  where
    go : (q x ≡ true) ⊎ (q x ≡ false) → filter p (filter q xs) ≡ filter p xs → filter p (cond (q x) (x ∷ filter q xs) (filter q xs)) ≡ cond (p x) (x ∷ filter p xs) (filter p xs)
    go (inl t) ih = ap (λ b. filter p (cond b (x ∷ filter q xs) (filter q xs))) t ∙ ap (λ l. cond (p x) (x ∷ l) l) ih
    go (inr f) ih = ap (λ b. filter p (cond b (x ∷ filter q xs) (filter q xs))) f ∙ ih ∙ sym (ap (λ b. cond b (x ∷ filter p xs) (filter p xs)) (h x f))

popped : {A : Type 0} (xs : List A) (x : A) → slice_get xs (length xs - 1) ≡ Some x → xs ≡ take (length xs - 1) xs ++ x ∷ []
popped xs x e =
    let l = slice_get-length xs (length xs - 1) x e in
    sym (take_all (length xs - 1 + 1) xs (omega arith)) ∙ take-suc xs (length xs - 1) x e

pub unused-popped : (g : PlainGraph) (m w : ℕ) (old new : List ℕ) → first_of old ≡ Some w → new ≡ take (length old - 1) old
    → unused_in g m old ≡ cond (not (is_used_within g m w)) (w ∷ unused_in g m new) (unused_in g m new)
unused-popped g m w old new e n =
    ap (λ l. filter (λ w. not (is_used_within g m w)) (reverse l)) (popped old w e ∙ ap (λ l. l ++ w ∷ []) (sym n))
    ∙ ap (filter (λ w. not (is_used_within g m w))) (reverse-append new (w ∷ []))

pub unused-dropped : (g : PlainGraph) (m w : ℕ) (old new : List ℕ) → first_of old ≡ Some w → new ≡ take (length old - 1) old → is_used_within g m w ≡ true → unused_in g m new ≡ unused_in g m old
unused-dropped g m w old new e n u = sym (unused-popped g m w old new e n ∙ ap (λ b. cond (not b) (w ∷ unused_in g m new) (unused_in g m new)) u)

pub used-more : (g : PlainGraph) (n m w : ℕ) → n ≤ m → is_used_within g n w ≡ true → is_used_within g m w ≡ true
used-more g n m w l u =
    let d = flat-member (λ e. e.sources) (taken_within g n) w (among-member (sources_of (taken_within g n)) w u) in
    let t = in-taken g d.0 n d.1 in
    member-among (sources_of (taken_within g m)) w (member-flat (λ e. e.sources) (taken_within g m) d.0 w
    (taken-in g d.0 m t.0 (taken-on g d.0 n m (m - n) (omega arith) t.1)) d.2)

-- a used wire is taken from the top
pub keeps-dropped : (g : PlainGraph) (n w : ℕ) (start old new : List ℕ) → first_of old ≡ Some w → new ≡ take (length old - 1) old → is_used_within g n w ≡ true
    → KeepsUnused g n [] start old → KeepsUnused g n [] start new
keeps-dropped g n w start old new e r u k = λ m l a. unused-dropped g m w old new e r (used-more g n m w l u) ∙ k m l a

none-given : (P : ℕ → Type 0) → All P []
none-given P = λ k d l. absurd (omega arith)

pub wires-popped : (g : PlainGraph) (old new : List ℕ) (n : ℕ) → AreWires g old → new ≡ take n old → AreWires g new
wires-popped g old new n a e = subst (AreWires g) (sym e) (All-take (λ w. w < length g.wires) n old a)

-- ## beginnings

begins-rest : (w : ℕ) (ws live : List ℕ) → begins (w ∷ ws) (w ∷ live) ≡ begins ws live
begins-rest w ws live = ap (λ b. b && begins ws live) (eq-eqb w w refl)

begins-is : (w : ℕ) (live : List ℕ) → begins (w ∷ []) live ≡ true → (rest : List ℕ) × (live ≡ w ∷ rest)
begins-is w [] e = cc
begins-is w (v ∷ live) e = (live, ap (λ x. x ∷ live) (eqb-true v w (and_parts (eqb v w) true e).0))

pub drop-first : (ws : List ℕ) (i w : ℕ) → slice_get ws i ≡ Some w → drop i ws ≡ w ∷ drop (i + 1) ws
drop-first ws i w e =
    let l = slice_get-length ws i w e in
    drop-cons ws i w l ∙ ap₂ (λ x k. x ∷ drop k ws) (get_or_from_slice_get ws i w w e) (sym (add-one i))

-- one wire more is found at the top, and taken
pub begins-next : (g : PlainGraph) (n w : ℕ) (ws start cur now new : List ℕ) → begins (w ∷ []) (unused_in g n cur) ≡ true → KeepsUnused g n [] cur now → first_of now ≡ Some w
    → new ≡ take (length now - 1) now → begins (w ∷ ws) (unused_in g n cur) ≡ begins ws (unused_in g n new)
begins-next g n w ws start cur now new b k e r = go (begins-is w (unused_in g n cur) b)
  where
    go : (rest : List ℕ) × (unused_in g n cur ≡ w ∷ rest) → begins (w ∷ ws) (unused_in g n cur) ≡ begins ws (unused_in g n new)
    go (rest, q) =
        let m : Member w (unused_in g n cur) = subst (Member w) (sym q) (inl refl) in
        let u : not (is_used_within g n w) ≡ true = (filter-member (λ w. not (is_used_within g n w)) (reverse cur) w m).1 in
        ap (begins (w ∷ ws)) (sym (k n (omega arith) (none-given _)) ∙ unused-popped g n w now new e r ∙ ap (λ b. cond b (w ∷ unused_in g n new) (unused_in g n new)) u)
        ∙ begins-rest w ws (unused_in g n new)

pub keeps-next : (g : PlainGraph) (n w i : ℕ) (wanted start cur now new : List ℕ) → slice_get wanted i ≡ Some w → KeepsUnused g n (take i wanted) start cur → KeepsUnused g n [] cur now
    → first_of now ≡ Some w → new ≡ take (length now - 1) now → KeepsUnused g n (take (i + 1) wanted) start new
keeps-next g n w i wanted start cur now new q a k e r = λ m l h.
    let all = subst (All (λ w. is_used_within g m w ≡ true)) (take-suc wanted i w q) h in
    let each = All-member (λ w. is_used_within g m w ≡ true) (take i wanted ++ w ∷ []) all in
    unused-dropped g m w now new e r (each w (member-right (take i wanted) (w ∷ []) w (inl refl)))
    ∙ k m l (none-given _)
    ∙ a m l (All-members {P = λ w. is_used_within g m w ≡ true} (take i wanted) (λ v j. each v (member-left (take i wanted) (w ∷ []) v j)))

-- what a list begins with
begun : (ws live : List ℕ) → begins ws live ≡ true → (rest : List ℕ) × (live ≡ ws ++ rest)
begun [] live e = (live, refl)
begun (w ∷ ws) [] e = cc
begun (w ∷ ws) (v ∷ live) e =
    let h = and_parts (eqb v w) (begins ws live) e in
    let r = begun ws live h.1 in
    (r.0, ap₂ (λ x l. x ∷ l) (eqb-true v w h.0) r.1)

begins-self : (ws rest : List ℕ) → begins ws (ws ++ rest) ≡ true
begins-self [] rest = refl
begins-self (w ∷ ws) rest = begins-rest w ws (ws ++ rest) ∙ begins-self ws rest

counts-on : (k n : ℕ) → counts_from k (count_from k n) ≡ true
counts-on k zero = refl
counts-on k (suc n) = ap₂ (λ a b. a && b) (eq-eqb k k refl) (counts-on (suc k) n)

module _ (g : PlainGraph) (v : IsValid g) where
  -- no live wire is used so far
  pub live-unused : (n w : ℕ) → Member w (live_at g n) → is_used_within g n w ≡ false
  live-unused n w m = go (cases_Bool (is_used_within g n w))
    where
      s : IsAt g (live_at g n) (done_at g n) n
      s = at-front g v n

      go : (is_used_within g n w ≡ true) ⊎ (is_used_within g n w ≡ false) → is_used_within g n w ≡ false
      go (inr f) = f
      go (inl u) =
          let d = flat-member (λ e. e.sources) (taken_within g n) w (among-member (sources_of (taken_within g n)) w u) in
          let t = in-taken g d.0 n d.1 in
          absurd (on d.0 d.2 t.1 (member-split (done_at g n) (left_after g n) d.0 (Rearr-member d.0 s.before.edges t.0)))
        where
          on : (e : Edge) → Member w e.sources → is_taken_within g e n ≡ true → (Member e (done_at g n)) ⊎ (Member e (left_after g n)) → ⊥
          on e q t (inl d) =
              parts-apart (length g.wires) (live_at g n) (sources_of (done_at g n) ++ targets_of (left_after g n)) s.before.made w m
              (member-left (sources_of (done_at g n)) (targets_of (left_after g n)) w (member-flat (λ e. e.sources) (done_at g n) e w d q))
          on e q t (inr l) = let k = (filter-member (λ d. not (is_taken_within g d n)) g.edges e l).1 in let z : not (is_taken_within g e n) ≡ false = ap not t in absurd (cc)

  pub all-unused : (n : ℕ) → filter (λ w. not (is_used_within g n w)) (live_at g n) ≡ live_at g n
  all-unused n = filter-all (λ w. not (is_used_within g n w)) (live_at g n) (λ w m. ap not (live-unused n w m))

  -- the sources of a round are used behind it
  pub sources-used : (n : ℕ) → All (λ w. is_used_within g (suc n) w ≡ true) (sources_of (placed_after g n))
  sources-used n = All-members {P = λ w. is_used_within g (suc n) w ≡ true} (sources_of (placed_after g n)) (λ w m.
      let d = flat-member (λ e. e.sources) (placed_after g n) w m in
      let k = filter-member (λ e. is_taken_within g e (suc n) && not (is_taken_within g e n)) g.edges d.0 d.1 in
      member-among (sources_of (taken_within g (suc n))) w (member-flat (λ e. e.sources) (taken_within g (suc n)) d.0 w
      (taken-in g d.0 (suc n) k.0 (and_parts (is_taken_within g d.0 (suc n)) (not (is_taken_within g d.0 n)) k.1).0) d.2))

  -- ## identities

  pub length-split : (n : ℕ) → length (live_at g n) ≡ length (sources_of (placed_after g n)) + length (others_at g n)
  length-split n = Rearr-length (wanted-split g v n) ∙ length-append (sources_of (placed_after g n)) (others_at g n)

  made : (n : ℕ) → IsPermutation (length g.wires) (live_at g n ++ (sources_of (done_at g n) ++ targets_of (left_after g n)))
  made n = (at-front g v n).before.made

  same-counts : (n : ℕ) (wanted : List ℕ) → live_at g n ≡ wanted → counts_from 0 (places_in (live_at g n) wanted) ≡ true
  same-counts n wanted e =
      let live = live_at g n in
      ap (λ ws. counts_from 0 (places_in live ws)) (sym e)
      ∙ ap (counts_from 0) (places-counted (λ w. place_of w live) live 0 (λ i h. place-first (length g.wires) live _ (made n) i h ∙ ap Some (sym (zero-add i))))
      ∙ counts-on 0 (length live)

  -- the crossing of a round is the identity where the live wires begin with the sources
  pub begins-counts : (n : ℕ) → begins (sources_of (placed_after g n)) (live_at g n) ≡ counts_from 0 (places_in (live_at g n) (wanted_at g n))
  begins-counts n = both_ways (begins sources live) (counts_from 0 (places_in live (wanted_at g n)))
      (λ b. let r = begun sources live b in same-counts n (wanted_at g n) (r.1 ∙ ap (λ l. sources ++ l) (rest-is r.0 r.1)))
      (λ c. let e = straight g live (wanted_at g n) _ (made n) (wanted-split g v n) c in ap (begins sources) e ∙ begins-self sources (others_at g n))
    where
      live : List ℕ
      live = live_at g n

      sources : List ℕ
      sources = sources_of (placed_after g n)

      rest-is : (rest : List ℕ) → live_at g n ≡ sources_of (placed_after g n) ++ rest → rest ≡ others_at g n
      rest-is rest e =
          let us : List ℕ = sources_of (done_at g n) ++ targets_of (left_after g n) in
          let t : IsPermutation (length g.wires) (sources_of (placed_after g n) ++ (rest ++ us)) =
          subst (IsPermutation (length g.wires)) (ap (λ l. l ++ us) e ∙ append_assoc (sources_of (placed_after g n)) rest us) (made n) in
          sym (ap (filter (is_apart (sources_of (placed_after g n)))) e ∙ filter-append (is_apart (sources_of (placed_after g n))) (sources_of (placed_after g n)) rest
          ∙ ap₂ (λ a b. a ++ b) (filter-none (is_apart (sources_of (placed_after g n))) (sources_of (placed_after g n)) (λ w m. member-not_apart (sources_of (placed_after g n)) w m))
          (filter-all (is_apart (sources_of (placed_after g n))) rest (λ w m. not_member-apart (sources_of (placed_after g n)) w (λ k.
          parts-apart (length g.wires) (sources_of (placed_after g n)) (rest ++ us) t w k (member-left rest us w m)))))

  pub end-counts : (n : ℕ) → left_after g n ≡ [] → begins g.outputs (live_at g n) ≡ counts_from 0 (places_in (live_at g n) g.outputs)
  end-counts n none = both_ways (begins g.outputs (live_at g n)) (counts_from 0 (places_in (live_at g n) g.outputs))
      (λ b. let r = begun g.outputs (live_at g n) b in same-counts n g.outputs (r.1 ∙ ap (λ l. g.outputs ++ l) (nothing r.0 r.1) ∙ append-nil g.outputs))
      (λ c.
      let e = straight g (live_at g n) g.outputs _ (made n) (end-split g v n none) c in
      ap (begins g.outputs) (e ∙ sym (append-nil g.outputs)) ∙ begins-self g.outputs [])
    where
      nothing : (rest : List ℕ) → live_at g n ≡ g.outputs ++ rest → rest ≡ []
      nothing [] e = refl
      nothing (x ∷ rest) e = let a = Rearr-length (end-split g v n none) in let b = ap length e in let c = length-append g.outputs (x ∷ rest) in absurd (omega arith)

  -- ## the stack

  pub stack-first : (stack : List ℕ) → stack ≡ reverse g.inputs → unused_in g 0 stack ≡ live_at g 0
  stack-first stack e = ap (λ l. filter (λ w. not (is_used_within g 0 w)) (reverse l)) e ∙ ap (filter (λ w. not (is_used_within g 0 w))) (reverse-reverse g.inputs) ∙ all-unused 0

  pub stack-next : (n : ℕ) (old mid new sources targets : List ℕ) → unused_in g n old ≡ live_at g n → sources ≡ sources_of (placed_after g n) → KeepsUnused g n sources old mid
      → targets ≡ targets_of (placed_after g n) → new ≡ mid ++ reverse targets → unused_in g (n + 1) new ≡ live_at g (n + 1)
  stack-next n old mid new sources targets u s k t e =
      subst (λ m. unused_in g m new ≡ live_at g m) (sym (add-one n))
      (ap (λ l. filter p (reverse l)) e ∙ ap (filter p) (reverse-append mid (reverse targets) ∙ ap (λ l. l ++ reverse mid) (reverse-reverse targets))
      ∙ filter-append p targets (reverse mid) ∙ ap₂ (λ a b. a ++ b) new-unused old-unused)
    where
      p : ℕ → Bool
      p w = not (is_used_within g (suc n) w)

      new-unused : filter p targets ≡ targets_of (placed_after g n)
      new-unused = ap (filter p) t ∙ filter-all p (targets_of (placed_after g n)) (λ w m. ap not (live-unused (suc n) w (member-left (targets_of (placed_after g n)) (others_at g n) w m)))

      old-unused : filter p (reverse mid) ≡ others_at g n
      old-unused =
          k (suc n) (omega arith) (subst (All (λ w. is_used_within g (suc n) w ≡ true)) (sym s) (sources-used n))
          ∙ sym (filter-inner p (λ w. not (is_used_within g n w)) (reverse old) (λ w q. ap not (used-more g n (suc n) w (omega arith) (turned (is_used_within g n w) q))))
          ∙ ap (filter p) u ∙ others-are g v n
        where
          turned : (b : Bool) → not b ≡ false → b ≡ true
          turned true q = refl
          turned false q = cc

  pub stack-wires : (n : ℕ) (mid new targets : List ℕ) → AreWires g mid → AreWires g targets → new ≡ mid ++ reverse targets → AreWires g new
  stack-wires n mid new targets a b e =
      subst (AreWires g) (sym e) (All-append (λ w. w < length g.wires) mid (reverse targets) a
      (All-members {P = λ w. w < length g.wires} (reverse targets) (λ w m. All-member (λ w. w < length g.wires) targets b w (reversed targets w m))))
    where
      reversed : (xs : List ℕ) (w : ℕ) → Member w (reverse xs) → Member w xs
      reversed [] w m = absurd m
      reversed (x ∷ xs) w m = go (member-split (reverse xs) (x ∷ []) w (subst (Member w) (reverse-append (x ∷ []) xs) m)) (reversed xs w)
        where
          go : (Member w (reverse xs)) ⊎ (Member w (x ∷ [])) → (Member w (reverse xs) → Member w xs) → Member w (x ∷ xs)
          go (inl k) f = inr (f k)
          go (inr (inl q)) f = inl q
          go (inr (inr k)) f = absurd k

  pub targets-wires : length g.wires < 2147483648 → (n : ℕ) → AreWires g (targets_of (placed_after g n))
  targets-wires few n = All-members {P = λ w. w < length g.wires} (targets_of (placed_after g n)) (λ w m.
      All-member (λ w. w < length g.wires) (live_at g (suc n)) (round-reordered g v few (suc n)).within w (member-left (targets_of (placed_after g n)) (others_at g n) w m))

  -- ## measures

  -- those of a round, and behind it
  pub measures-at : (n k : ℕ) → (left_after g n ≡ [] → ⊥)
      → measures_from g (suc k) (live_at g n) (left_after g n) ≡ measures_at g n ++ measures_from g k (live_at g (suc n)) (left_after g (suc n))
  measures-at n k some =
      unrolled (left_after g n) some
      ∙ ap₂ (λ ready later. of_crossing live (sources_of ready ++ passed_by ready live) ++ of_layer ready (passed_by ready live) ∷ measures_from g k (targets_of ready ++ passed_by ready live) later)
      (ready-is g v live (done_at g n) n (at-front g v n)) (later-is g v live (done_at g n) n (at-front g v n))
      ∙ sym (append_assoc (of_crossing live (wanted_at g n)) (of_layer (placed_after g n) (others_at g n) ∷ []) (measures_from g k (live_at g (suc n)) (left_after g (suc n))))
    where
      live : List ℕ
      live = live_at g n

      unrolled : (es : List Edge) → (es ≡ [] → ⊥) → measures_from g (suc k) (live_at g n) es
          ≡ of_crossing (live_at g n) (sources_of (filter (is_ready (live_at g n)) es) ++ passed_by (filter (is_ready (live_at g n)) es) (live_at g n))
          ++ of_layer (filter (is_ready (live_at g n)) es) (passed_by (filter (is_ready (live_at g n)) es) (live_at g n))
          ∷ measures_from g k (targets_of (filter (is_ready (live_at g n)) es) ++ passed_by (filter (is_ready (live_at g n)) es) (live_at g n)) (filter (λ e. not (is_ready (live_at g n) e)) es)
      unrolled [] q = absurd (q refl)
      unrolled (e ∷ es) q = refl

  pub measures-first : measures_from g (length g.edges) g.inputs g.edges ≡ measures_from g (length g.edges - 0) (live_at g 0) (left_after g 0)
  measures-first =
      let z : length g.edges ≡ length g.edges - 0 = omega arith in
      ap₂ (λ k es. measures_from g k g.inputs es) z (sym (filter-all (λ e. not (is_taken_within g e 0)) g.edges (λ e m. refl)))

  pub measures-more : (n : ℕ) (whole before after : List Measures) → (left_after g n ≡ [] → ⊥) → n < length g.edges
      → whole ≡ before ++ map kept (measures_from g (length g.edges - n) (live_at g n) (left_after g n)) → after ≡ before ++ map kept (measures_at g n)
      → whole ≡ after ++ map kept (measures_from g (length g.edges - (n + 1)) (live_at g (n + 1)) (left_after g (n + 1)))
  measures-more n whole before after some l e a =
      let z : length g.edges - n ≡ suc (length g.edges - (n + 1)) = omega arith in
      let rest : List TermMeasures = measures_from g (length g.edges - (n + 1)) (live_at g (suc n)) (left_after g (suc n)) in
      e ∙ ap (λ k. before ++ map kept (measures_from g k (live_at g n) (left_after g n))) z
      ∙ ap (λ ms. before ++ map kept ms) (measures-at n (length g.edges - (n + 1)) some)
      ∙ ap (λ ms. before ++ ms) (map-append kept (measures_at g n) rest)
      ∙ sym (append_assoc before (map kept (measures_at g n)) (map kept rest))
      ∙ ap₂ (λ ms m. ms ++ map kept (measures_from g (length g.edges - (n + 1)) (live_at g m) (left_after g m))) (sym a) (sym (add-one n))

  -- the crossing of a round, by what the live wires begin with
  pub crossing-at : (n : ℕ) (b : Bool) → b ≡ counts_from 0 (places_in (live_at g n) (wanted_at g n))
      → cond b [] (kept (of_wires (length (live_at g n))) ∷ []) ≡ map kept (of_crossing (live_at g n) (wanted_at g n))
  crossing-at n b e = ap (λ c. cond c [] (kept (of_wires (length (live_at g n))) ∷ [])) e ∙ mapped (counts_from 0 (places_in (live_at g n) (wanted_at g n)))
    where
      mapped : (c : Bool) → cond c [] (kept (of_wires (length (live_at g n))) ∷ []) ≡ map kept (cond c [] (of_wires (length (live_at g n)) ∷ []))
      mapped true = refl
      mapped false = refl

  pub crossing-end : (n k : ℕ) → left_after g n ≡ []
      → cond (begins g.outputs (live_at g n)) [] (kept (of_wires (length (live_at g n))) ∷ []) ≡ map kept (measures_from g k (live_at g n) (left_after g n))
  crossing-end n k e =
      ap (λ c. cond c [] (kept (of_wires (length (live_at g n))) ∷ [])) (end-counts n e) ∙ mapped (counts_from 0 (places_in (live_at g n) g.outputs))
      ∙ ap (λ es. map kept (measures_from g k (live_at g n) es)) (sym e)
    where
      mapped : (c : Bool) → cond c [] (kept (of_wires (length (live_at g n))) ∷ []) ≡ map kept (cond c [] (of_wires (length (live_at g n)) ∷ []))
      mapped true = refl
      mapped false = refl
