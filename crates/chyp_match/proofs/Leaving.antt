-- The occurrences before the images of a search, where these go on.
use Rattle.std.proofs.Common.{ℕ, ◌+◌, ◌<◌, ◌≤◌, ◌≡◌, Bool, true, false, List, [], ◌∷◌, ◌++◌, length, take, Option, Some, option_map, slice_get, ◌⊎◌, inl, inr, refl, sym}
use Rattle.std.proofs.Common.{◌∙◌, ap, subst, arith, append_assoc}
use Rattle.std.specs.Bool.{MatchBool}
use Rattle.std.proofs.lemmas.Bool.{cases_eq, cases_lt}
use Rattle.std.proofs.lemmas.List.{length-map}
use Rattle.chyp_term.proofs.Permuted.{found, get-map, take-left}
use Rattle.chyp_term.proofs.Positions.{slice_get-length}
use Rattle.chyp_graph.specs.PlainGraph.{PlainGraph}
use Rattle.chyp_pattern.specs.Pattern.{IsPattern, Parts}
use Rattle.chyp_pattern.specs.Occurrence.{IsOccurrence}
use Rattle.chyp_pattern.specs.Occurrences.{IsLess}
use Rattle.chyp_pattern.specs.declared.anchor.Anchor.{Anchor}
use Rattle.chyp_pattern.specs.declared.occurrence.Occurrence.{Occurrence}
use Rattle.chyp_pairs.specs.declared.pair.Pair.{Pair}
use Rattle.chyp_pairs.specs.Pairs.{Pairs}
use Rattle.chyp_iso.specs.Following.{Leads}
use Rattle.chyp_match.specs.Levels.{Stack}
use Rattle.chyp_pattern.specs.Placements.{IsThere}
use Rattle.chyp_match.specs.Search.{AreRuledOut, BeginsWith, HoldAlike, IsDropped, IsEarlier, IsExhausted, IsMoved, IsOver, IsPast, IsPlaced, IsSearch, IsStep, IsTried}
use Rattle.chyp_match.specs.Search.{choices, chosen, image_of, images_of}
use Rattle.chyp_match.specs.declared.level.Level.{Level}
use Rattle.chyp_match.specs.declared.search.Search.{Search}
use Rattle.chyp_match.proofs.Counting.{anchor-there}
use Rattle.chyp_match.proofs.Choices.{choices-all, choices-increase}
use Rattle.chyp_match.proofs.Lexicographic.{begins-join, begins-less, begins-more, begins-split, left, less-cut, less-left, less-more, less-split, less-trans}
use Rattle.chyp_match.proofs.Placing.{chosen-below, chosen-length, chosen-push, placed-few, placed-last}

-- what is taken away leaves what was there
undone : (g h : PlainGraph) (seeds : List Pair) (s u : Pairs) (n : ℕ) → n ≡ length s.pairs → Leads g h seeds s u → record u { pairs = take n u.pairs } ≡ s
undone g h seeds s u n q l =
    let p : take n u.pairs ≡ s.pairs = ap (take n) l.more.1 ∙ take-left s.pairs l.more.0 n (sym q) in
    same (take n u.pairs) s.pairs u.edges s.edges u.wires s.wires p l.edges l.wires
  where
    same : (ps qs : List Pair) (a b c d : ℕ) → ps ≡ qs → a ≡ b → c ≡ d → ◌≡◌ {A = Pairs} (record { pairs = ps; edges = a; wires = c }) (record { pairs = qs; edges = b; wires = d })
    same ps qs a b c d x y z =
        ap (λ r. record { pairs = r; edges = a; wires = c }) x ∙ ap (λ r. record { pairs = qs; edges = r; wires = c }) y ∙ ap (λ r. record { pairs = qs; edges = b; wires = r }) z

pub less-at : (ns ms : List ℕ) (y x : ℕ) → y < x → IsLess ((ns ++ y ∷ []) ++ ms) (ns ++ x ∷ [])
less-at [] ms y x l = inl l
less-at (n ∷ ns) ms y x l = inr (refl, less-at ns ms y x l)

pub less-longer : (ns : List ℕ) (x : ℕ) → IsLess ns (ns ++ x ∷ [])
less-longer [] x = tt
less-longer (n ∷ ns) x = inr (refl, less-longer ns x)

module _ (l : Parts) (g : PlainGraph) where
  pub alike-trans : (P Q R : Occurrence → Type 0) → HoldAlike l g P Q → HoldAlike l g Q R → HoldAlike l g P R
  alike-trans P Q R a b o q = let x = a o q in let y = b o q in (λ p. y.0 (x.0 p), λ r. x.1 (y.1 r))

  pub alike-same : (P : Occurrence → Type 0) → HoldAlike l g P P
  alike-same P o q = (λ p. p, λ p. p)

  images-length : (o : Occurrence) → length (images_of l o) ≡ length l.anchors
  images-length o = length-map l.anchors (image_of o)

  -- the next anchor behind some levels, and where its choices come
  module _ (p : IsPattern l) (levels : List Level) (a : Anchor) (at : slice_get l.anchors (length levels) ≡ Some a) where
    next_there : IsThere l.graph a
    next_there = anchor-there l.graph l.anchors p.anchors (length levels) a at

    next_image : (o : Occurrence) → slice_get (images_of l o) (length (chosen levels)) ≡ Some (image_of o a)
    next_image o = ap (slice_get (images_of l o)) (chosen-length l g levels) ∙ get-map (image_of o) l.anchors (length levels) ∙ ap (option_map (image_of o)) at

    next_within : (o : Occurrence) → length (chosen levels) < length (images_of l o)
    next_within o = slice_get-length (images_of l o) (length (chosen levels)) (image_of o a) (next_image o)

    is_image : (o : Occurrence) (y : ℕ) → slice_get (images_of l o) (length (chosen levels)) ≡ Some y → y ≡ image_of o a
    is_image o y e = let both : ◌≡◌ {A = Option ℕ} (Some y) (Some (image_of o a)) = sym e ∙ next_image o in cc

    -- to the first choice that is left, where the ones before it are ruled out
    pub earlier-first : (place x : ℕ) → slice_get (choices l.graph g a) place ≡ Some x → AreRuledOut l g (chosen levels) a 0 place
        → HoldAlike l g (IsEarlier l (chosen levels)) (IsEarlier l (chosen levels ++ x ∷ []))
    earlier-first place x e r o q = (λ b. less-more (images_of l o) (chosen levels) (x ∷ []) b, λ b. back (less-split (images_of l o) (chosen levels) x (next_within o) b))
      where
        back : IsLess (images_of l o) (chosen levels) ⊎ (BeginsWith (chosen levels) (images_of l o) × ((y : ℕ) × (slice_get (images_of l o) (length (chosen levels)) ≡ Some y) × (y < x)))
            → IsLess (images_of l o) (chosen levels)
        back (inl b) = b
        back (inr b) = absurd (out (choices-all l.graph g o q a next_there) (cases_lt (choices-all l.graph g o q a next_there).0 place))
          where
            same : b.1.0 ≡ image_of o a
            same = is_image o b.1.0 b.1.1

            out : (j : (j : ℕ) × (slice_get (choices l.graph g a) j ≡ Some (image_of o a))) → (j.0 < place) ⊎ (place ≤ j.0) → ⊥
            out j (inl m) = r o q b.0 j.0 (omega arith) m j.1
            out j (inr m) = later (cases_eq place j.0)
              where
                later : (place ≡ j.0) ⊎ (place ≡ j.0 → ⊥) → ⊥
                later (inl z) = let both : ◌≡◌ {A = Option ℕ} (Some x) (Some (image_of o a)) = sym e ∙ ap (slice_get (choices l.graph g a)) z ∙ j.1 in let one : x ≡ image_of o a = cc in
                    let less = b.1.2 in let k = same in omega arith
                later (inr z) = let less = b.1.2 in let up = choices-increase l.graph g a next_there place j.0 x (image_of o a) (omega arith) e j.1 in let k = same in omega arith

    -- where no choice is left, those that begin so are none
    pub earlier-none : AreRuledOut l g (chosen levels) a 0 (length (choices l.graph g a)) → HoldAlike l g (IsEarlier l (chosen levels)) (IsPast l (chosen levels))
    earlier-none r o q = (λ b. inl b, λ b. back b)
      where
        back : IsPast l (chosen levels) o → IsEarlier l (chosen levels) o
        back (inl b) = b
        back (inr b) = let j = choices-all l.graph g o q a next_there in absurd (r o q b j.0 (omega arith) (slice_get-length (choices l.graph g a) j.0 (image_of o a) j.1) j.1)

    -- from one choice to a later one, where those between are ruled out
    module _ (place y : ℕ) (is : slice_get (choices l.graph g a) place ≡ Some y) where
      -- an occurrence that begins so has one of the earlier choices, this one, or one that is ruled out
      past-begun : (upto : ℕ) → AreRuledOut l g (chosen levels) a (place + 1) upto → (o : Occurrence) (q : IsOccurrence l.graph g o.edges o.wires) → BeginsWith (chosen levels) (images_of l o)
          → (j : ℕ) → slice_get (choices l.graph g a) j ≡ Some (image_of o a) → j < upto → IsPast l (chosen levels ++ y ∷ []) o
      past-begun upto r o q b j e m = go (cases_lt j place) (cases_eq j place)
        where
          go : (j < place) ⊎ (place ≤ j) → (j ≡ place) ⊎ (j ≡ place → ⊥) → IsPast l (chosen levels ++ y ∷ []) o
          go (inl f) k = inl (begins-less (images_of l o) (chosen levels) y (image_of o a) b (next_image o) (choices-increase l.graph g a next_there j place (image_of o a) y f e is))
          go (inr f) (inl k) =
              let both : ◌≡◌ {A = Option ℕ} (Some (image_of o a)) (Some y) = sym e ∙ ap (slice_get (choices l.graph g a)) k ∙ is in
              let one : image_of o a ≡ y = cc in
              inr (begins-join (images_of l o) (chosen levels) y b (next_image o ∙ ap (λ v. Some v) one))
          go (inr f) (inr k) = absurd (r o q b j (omega arith) m e)

      pub past-next : (next x : ℕ) → place < next → slice_get (choices l.graph g a) next ≡ Some x → AreRuledOut l g (chosen levels) a (place + 1) next
          → HoldAlike l g (IsPast l (chosen levels ++ y ∷ [])) (IsEarlier l (chosen levels ++ x ∷ []))
      past-next next x after e r o q = (there, λ b. back (less-split (images_of l o) (chosen levels) x (next_within o) b))
        where
          up : y < x
          up = choices-increase l.graph g a next_there place next y x after is e

          there : IsPast l (chosen levels ++ y ∷ []) o → IsEarlier l (chosen levels ++ x ∷ []) o
          there (inl b) = first (less-split (images_of l o) (chosen levels) y (next_within o) b)
            where
              first : IsLess (images_of l o) (chosen levels) ⊎ (BeginsWith (chosen levels) (images_of l o) × ((z : ℕ) × (slice_get (images_of l o) (length (chosen levels)) ≡ Some z) × (z < y)))
                  → IsEarlier l (chosen levels ++ x ∷ []) o
              first (inl c) = less-more (images_of l o) (chosen levels) (x ∷ []) c
              first (inr c) = let s = c.1.2 in let v = up in begins-less (images_of l o) (chosen levels) x c.1.0 c.0 c.1.1 (omega arith)
          there (inr b) = let c = begins-split (images_of l o) (chosen levels) y b in begins-less (images_of l o) (chosen levels) x y c.0 c.1 up

          back : IsLess (images_of l o) (chosen levels) ⊎ (BeginsWith (chosen levels) (images_of l o) × ((z : ℕ) × (slice_get (images_of l o) (length (chosen levels)) ≡ Some z) × (z < x)))
              → IsPast l (chosen levels ++ y ∷ []) o
          back (inl b) = inl (less-more (images_of l o) (chosen levels) (y ∷ []) b)
          back (inr b) = within (choices-all l.graph g o q a next_there) (cases_lt (choices-all l.graph g o q a next_there).0 next)
            where
              same : b.1.0 ≡ image_of o a
              same = is_image o b.1.0 b.1.1

              within : (j : (j : ℕ) × (slice_get (choices l.graph g a) j ≡ Some (image_of o a))) → (j.0 < next) ⊎ (next ≤ j.0) → IsPast l (chosen levels ++ y ∷ []) o
              within j (inl m) = past-begun next r o q b.0 j.0 j.1 m
              within j (inr m) = absurd (later (cases_eq next j.0))
                where
                  later : (next ≡ j.0) ⊎ (next ≡ j.0 → ⊥) → ⊥
                  later (inl z) = let both : ◌≡◌ {A = Option ℕ} (Some x) (Some (image_of o a)) = sym e ∙ ap (slice_get (choices l.graph g a)) z ∙ j.1 in let one : x ≡ image_of o a = cc in
                      let less = b.1.2 in let k = same in omega arith
                  later (inr z) = let less = b.1.2 in let more = choices-increase l.graph g a next_there next j.0 x (image_of o a) (omega arith) e j.1 in let k = same in omega arith

      pub past-none : AreRuledOut l g (chosen levels) a (place + 1) (length (choices l.graph g a)) → HoldAlike l g (IsPast l (chosen levels ++ y ∷ [])) (IsPast l (chosen levels))
      past-none r o q = (there, back)
        where
          there : IsPast l (chosen levels ++ y ∷ []) o → IsPast l (chosen levels) o
          there (inl b) = less-cut (chosen levels) (y ∷ []) (images_of l o) b
          there (inr b) = inr (begins-more (chosen levels) (y ∷ []) (images_of l o) b)

          back : IsPast l (chosen levels) o → IsPast l (chosen levels ++ y ∷ []) o
          back (inl b) = inl (less-more (images_of l o) (chosen levels) (y ∷ []) b)
          back (inr b) = let j = choices-all l.graph g o q a next_there in
              past-begun (length (choices l.graph g a)) r o q b j.0 j.1 (slice_get-length (choices l.graph g a) j.0 (image_of o a) j.1)

  -- ## a level that is dropped

  pub last-pairs : (s : Search) → IsSearch l g s → (levels : List Level) (level : Level) → s.levels.levels ≡ levels ++ level ∷ [] → level.pairs ≤ length s.pairing.pairs
  last-pairs s q levels level e =
      let r = placed-last l g s.pairing s.levels.levels levels level q.placed e in
      let m = r.step.leads.more in
      let n = ap length m.1 in
      let k = r.step.pairs in
      let c = length-both r.below.pairs m.0 in
      omega arith
    where
      length-both : {A : Type 0} (xs ys : List A) → length xs ≤ length (xs ++ ys)
      length-both [] ys = omega arith
      length-both (x ∷ xs) ys = let r = length-both xs ys in omega arith

  pub record IsBehind (level : Level) (s t : Search) : Type 0 where
    pub search : IsSearch l g t
    pub levels : s.levels.levels ≡ t.levels.levels ++ level ∷ []
    pub step : IsStep l g t.pairing s.pairing t.levels.levels level

  pub dropped : (level : Level) (s t : Search) → IsSearch l g s → IsDropped level s t → IsBehind level s t
  dropped level s t q d =
      let levels : s.levels.levels ≡ t.levels.levels ++ level ∷ [] = ap (λ (x : Stack). x.levels) d.levels in
      let r = placed-last l g s.pairing s.levels.levels t.levels.levels level q.placed levels in
      let same : r.below ≡ t.pairing = sym (undone l.graph g _ r.below s.pairing level.pairs r.step.pairs r.step.leads) ∙ sym d.pairing in
      record {
        search = record {
          pattern = q.pattern;
          placed = subst (λ x. IsPlaced l g x t.levels.levels) same r.placed;
          room = subst (λ n. length l.anchors ≤ n) (ap (λ (x : Stack). x.room) d.levels) q.room;
        };
        levels = levels;
        step = subst (λ x. IsStep l g x s.pairing t.levels.levels level) same r.step;
      }

  -- the levels of s before the last one are those of d, and t has a later choice
  pub past-tried : (level : Level) (s d t : Search) → IsBehind level s d → IsTried l g level.next d t
      → HoldAlike l g (IsPast l (chosen s.levels.levels)) (IsEarlier l (chosen t.levels.levels))
      × ((y x : ℕ) × (y < x) × (chosen s.levels.levels ≡ chosen d.levels.levels ++ y ∷ []) × (chosen t.levels.levels ≡ chosen d.levels.levels ++ x ∷ []))
  past-tried level s d t b i =
      let u = b.step in
      let r = placed-last l g t.pairing t.levels.levels d.levels.levels i.level i.search.placed i.levels in
      let v = r.step in
      let both : ◌≡◌ {A = Option Anchor} (Some v.anchor) (Some u.anchor) = sym v.next ∙ u.next in
      let one : v.anchor ≡ u.anchor = cc in
      let c : slice_get (choices l.graph g u.anchor) v.place ≡ Some i.level.image = subst (λ a. slice_get (choices l.graph g a) v.place ≡ Some i.level.image) one v.choice in
      let behind = u.behind in
      let after = v.behind in
      let on = i.from_on in
      let ruled : AreRuledOut l g (chosen d.levels.levels) u.anchor (u.place + 1) v.place = subst (λ n. AreRuledOut l g (chosen d.levels.levels) u.anchor n v.place) behind
      (i.before u.anchor v.place u.next (sym after)) in
      let e = ap chosen b.levels ∙ chosen-push l g d.levels.levels level in
      let f = ap chosen i.levels ∙ chosen-push l g d.levels.levels i.level in
      let less : u.place < v.place = omega arith in
      let h = past-next b.search.pattern d.levels.levels u.anchor u.next u.place level.image u.choice v.place i.level.image less c ruled in (
        subst (λ n. HoldAlike l g (IsPast l n) (IsEarlier l (chosen t.levels.levels))) (sym e)
            (subst (λ n. HoldAlike l g (IsPast l (chosen d.levels.levels ++ level.image ∷ [])) (IsEarlier l n)) (sym f) h),
        (
          level.image,
          i.level.image,
          choices-increase l.graph g u.anchor (anchor-there l.graph l.anchors b.search.pattern.anchors (length d.levels.levels) u.anchor u.next) u.place v.place
              level.image i.level.image less u.choice c,
          e,
          f,
        ),
      )

  pub past-exhausted : (level : Level) (s d t : Search) → IsBehind level s d → IsExhausted l g level.next d t
      → HoldAlike l g (IsPast l (chosen s.levels.levels)) (IsPast l (chosen d.levels.levels)) × (chosen s.levels.levels ≡ chosen d.levels.levels ++ level.image ∷ [])
  past-exhausted level s d t b i =
      let u = b.step in
      let e = ap chosen b.levels ∙ chosen-push l g d.levels.levels level in
      let ruled = subst (λ n. AreRuledOut l g (chosen d.levels.levels) u.anchor n (length (choices l.graph g u.anchor))) u.behind (i.none u.anchor u.next) in
      (subst (λ n. HoldAlike l g (IsPast l n) (IsPast l (chosen d.levels.levels))) (sym e) (past-none b.search.pattern d.levels.levels u.anchor u.next u.place level.image u.choice ruled), e)

  -- ## a level that comes

  pub earlier-tried : (s t : Search) → IsTried l g 0 s t → IsMoved l g (IsEarlier l (chosen s.levels.levels)) t × IsLess (chosen s.levels.levels) (chosen t.levels.levels)
  earlier-tried s t i =
      let r = placed-last l g t.pairing t.levels.levels s.levels.levels i.level i.search.placed i.levels in
      let v = r.step in
      let f = ap chosen i.levels ∙ chosen-push l g s.levels.levels i.level in
      let h = earlier-first i.search.pattern s.levels.levels v.anchor v.next v.place i.level.image v.choice (i.before v.anchor v.place v.next (sym v.behind)) in (
        record { search = i.search; alike = subst (λ n. HoldAlike l g (IsEarlier l (chosen s.levels.levels)) (IsEarlier l n)) (sym f) h },
        subst (IsLess (chosen s.levels.levels)) (sym f) (less-longer (chosen s.levels.levels) i.level.image),
      )

  pub earlier-exhausted : (s t : Search) (a : Anchor) → IsSearch l g s → slice_get l.anchors (length s.levels.levels) ≡ Some a → IsExhausted l g 0 s t
      → HoldAlike l g (IsEarlier l (chosen s.levels.levels)) (IsPast l (chosen t.levels.levels))
  earlier-exhausted s t a q at i =
      subst (λ (x : Search). HoldAlike l g (IsEarlier l (chosen s.levels.levels)) (IsPast l (chosen x.levels.levels))) (sym i.same)
      (earlier-none q.pattern s.levels.levels a at (i.none a at))

  -- ## one step of leaving

  pub moved-past : (P : Occurrence → Type 0) (first : List ℕ) (level : Level) (s d t : Search) → IsSearch l g s → HoldAlike l g P (IsPast l (chosen s.levels.levels))
      → (more : List ℕ) × (first ≡ chosen s.levels.levels ++ more) → IsDropped level s d → IsTried l g level.next d t → IsMoved l g P t × IsLess first (chosen t.levels.levels)
  moved-past P first level s d t q a m k i =
      let b = dropped level s d q k in
      let r = past-tried level s d t b i in
      let y = r.1.0 in
      let x = r.1.1 in
      let e : first ≡ (chosen d.levels.levels ++ y ∷ []) ++ m.0 = m.1 ∙ ap (λ n. n ++ m.0) r.1.3 in (
        record { search = i.search; alike = alike-trans P (IsPast l (chosen s.levels.levels)) (IsEarlier l (chosen t.levels.levels)) a r.0 },
        subst (λ n. IsLess n (chosen t.levels.levels)) (sym e) (subst (IsLess ((chosen d.levels.levels ++ y ∷ []) ++ m.0)) (sym r.1.4) (less-at (chosen d.levels.levels) m.0 y x r.1.2)),
      )

  pub still-search : (level : Level) (s d t : Search) → IsBehind level s d → IsExhausted l g level.next d t → IsSearch l g t
  still-search level s d t b i = subst (IsSearch l g) (sym i.same) b.search

  pub still-alike : (P : Occurrence → Type 0) (level : Level) (s d t : Search) → IsBehind level s d → HoldAlike l g P (IsPast l (chosen s.levels.levels)) → IsExhausted l g level.next d t
      → HoldAlike l g P (IsPast l (chosen t.levels.levels))
  still-alike P level s d t b a i =
      subst (λ (x : Search). HoldAlike l g P (IsPast l (chosen x.levels.levels))) (sym i.same)
      (alike-trans P (IsPast l (chosen s.levels.levels)) (IsPast l (chosen d.levels.levels)) a (past-exhausted level s d t b i).0)

  pub still-begun : (first : List ℕ) (level : Level) (s d t : Search) → IsBehind level s d → (more : List ℕ) × (first ≡ chosen s.levels.levels ++ more) → IsExhausted l g level.next d t
      → (more : List ℕ) × (first ≡ chosen t.levels.levels ++ more)
  still-begun first level s d t b m i = (
    level.image ∷ m.0,
    m.1 ∙ ap (λ n. n ++ m.0) (past-exhausted level s d t b i).1 ∙ append_assoc (chosen d.levels.levels) (level.image ∷ []) m.0
        ∙ ap (λ (x : Search). chosen x.levels.levels ++ level.image ∷ m.0) (sym i.same),
  )

  -- what a step down or past answers
  pub descend-answer : (s t u : Search) (b : Bool) → IsSearch l g s → length s.levels.levels < length l.anchors → IsExhausted l g 0 s t
      → MatchBool b (IsMoved l g (IsPast l (chosen t.levels.levels)) u × IsLess (chosen t.levels.levels) (chosen u.levels.levels)) (IsOver l g (IsPast l (chosen t.levels.levels)) u)
      → MatchBool b (IsMoved l g (IsEarlier l (chosen s.levels.levels)) u × IsLess (chosen s.levels.levels) (chosen u.levels.levels)) (IsOver l g (IsEarlier l (chosen s.levels.levels)) u)
  descend-answer s t u true q h i m =
      let a = found l.anchors (length s.levels.levels) h in (
        record {
          search = m.0.search;
          alike = alike-trans (IsEarlier l (chosen s.levels.levels)) (IsPast l (chosen t.levels.levels)) (IsEarlier l (chosen u.levels.levels))
              (earlier-exhausted s t a.0 q a.1 i) m.0.alike;
        },
        subst (λ (x : Search). IsLess (chosen x.levels.levels) (chosen u.levels.levels)) i.same m.1,
      )
  descend-answer s t u false q h i m =
      let a = found l.anchors (length s.levels.levels) h in
      record {
        search = m.search;
        none = m.none;
        alike = alike-trans (IsEarlier l (chosen s.levels.levels)) (IsPast l (chosen t.levels.levels)) (IsPast l []) (earlier-exhausted s t a.0 q a.1 i)
            m.alike;
      }

  pub tried-answer : (s t : Search) (b : Bool) → b ≡ true → IsTried l g 0 s t
      → MatchBool b (IsMoved l g (IsEarlier l (chosen s.levels.levels)) t × IsLess (chosen s.levels.levels) (chosen t.levels.levels)) (IsOver l g (IsEarlier l (chosen s.levels.levels)) t)
  tried-answer s t true e i = earlier-tried s t i
  tried-answer s t false e i = absurd (cc)

  -- ## filling

  pub fill-smaller : (s t : Search) → IsSearch l g t → IsLess (chosen s.levels.levels) (chosen t.levels.levels)
      → left (length g.edges + length g.wires) (length l.anchors) (chosen t.levels.levels) < left (length g.edges + length g.wires) (length l.anchors) (chosen s.levels.levels)
  fill-smaller s t q r =
      less-left (length g.edges + length g.wires) (length l.anchors) (chosen s.levels.levels) (chosen t.levels.levels) r
      (subst (λ n. n ≤ length l.anchors) (sym (chosen-length l g t.levels.levels)) (placed-few l g t.pairing t.levels.levels q.placed))
      (chosen-below l g t.pairing t.levels.levels q.placed)

  pub moved-more : (P : Occurrence → Type 0) (s t : Search) → IsMoved l g P s → IsMoved l g (IsEarlier l (chosen s.levels.levels)) t → IsMoved l g P t
  moved-more P s t a b = record { search = b.search; alike = alike-trans P (IsEarlier l (chosen s.levels.levels)) (IsEarlier l (chosen t.levels.levels)) a.alike b.alike }

  pub moved-over : (P : Occurrence → Type 0) (s t : Search) → IsMoved l g P s → IsOver l g (IsEarlier l (chosen s.levels.levels)) t → IsOver l g P t
  moved-over P s t a b = record { search = b.search; none = b.none; alike = alike-trans P (IsEarlier l (chosen s.levels.levels)) (IsPast l []) a.alike b.alike }

  pub order-more : (xs ys zs : List ℕ) → (xs ≡ ys) ⊎ IsLess xs ys → IsLess ys zs → (xs ≡ zs) ⊎ IsLess xs zs
  order-more xs ys zs (inl e) b = inr (subst (λ n. IsLess n zs) (sym e) b)
  order-more xs ys zs (inr a) b = inr (less-trans xs ys zs a b)
