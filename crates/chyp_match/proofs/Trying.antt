-- One more component with an image, or none.
use Rattle.std.proofs.Common.{ℕ, ◌+◌, ◌-◌, ◌<◌, ◌≤◌, ◌≡◌, [], ◌∷◌, ◌++◌, length, Option, Some, None, option_map, slice_get, refl, sym, ◌∙◌, ap, subst, arith}
use Rattle.std.specs.Option.{option_map_or}
use Rattle.chyp_term.proofs.Permuted.{found}
use Rattle.chyp_term.proofs.Positions.{slice_get-length}
use Rattle.chyp_graph.specs.PlainGraph.{PlainGraph}
use Rattle.chyp_pattern.specs.Pattern.{Parts}
use Rattle.chyp_pattern.specs.declared.anchor.Anchor.{Anchor}
use Rattle.chyp_pattern.specs.declared.anchor.Anchor.TheVariants.{Edge as AtEdge, Wire as AtWire}
use Rattle.chyp_pairs.specs.declared.pair.Pair.{Pair}
use Rattle.chyp_pairs.specs.Pairs.{Has, Pairs}
use Rattle.chyp_iso.specs.Following.{Fits, Leads}
use Rattle.chyp_match.specs.Following.{IsComplete, Refutes}
use Rattle.chyp_match.specs.Levels.{Stack}
use Rattle.chyp_match.specs.Search.{AreRuledOut, AreThere, IsExhausted, IsSearch, IsTried, choices, chosen, second, seed_of, step}
use Rattle.chyp_match.specs.declared.level.Level.{Level}
use Rattle.chyp_match.specs.declared.search.Search.{Search}
use Rattle.chyp_match.proofs.Counting.{anchor-there}
use Rattle.chyp_match.proofs.Choices.{choice-there, ruled-end, ruled-more}

pub second-seed : (a : Anchor) (x : ℕ) → second (seed_of a x) ≡ x
second-seed (AtEdge k) x = refl
second-seed (AtWire w) x = refl

pub fits-along : (l m g h : PlainGraph) (s t : Pairs) → m ≡ l → h ≡ g → t ≡ s → Fits l g s → Fits m h t
fits-along l m g h s t a b c f = subst (λ x. Fits x h t) (sym a) (subst (λ x. Fits l x t) (sym b) (subst (Fits l g) (sym c) f))

module _ (l : Parts) (g : PlainGraph) where
  -- a seed is the anchor of the component k with the choice at a place
  pub record IsOffered (k place : ℕ) (seed : Pair) : Type 0 where
    pub anchor : Anchor
    pub at : slice_get l.anchors k ≡ Some anchor
    pub image : ℕ
    pub choice : slice_get (choices l.graph g anchor) place ≡ Some image
    pub is : seed ≡ seed_of anchor image

  pub offered : (k place : ℕ) (r : Option Pair) (seed : Pair) → k < length l.anchors
      → ((a : Anchor) → slice_get l.anchors k ≡ Some a → r ≡ option_map (seed_of a) (slice_get (choices l.graph g a) place)) → r ≡ Some seed → IsOffered k place seed
  offered k place r seed h f e = by (slice_get (choices l.graph g a.0) place) refl (sym e ∙ f a.0 a.1)
    where
      a : (x : Anchor) × (slice_get l.anchors k ≡ Some x)
      a = found l.anchors k h

      by : (o : Option ℕ) → slice_get (choices l.graph g a.0) place ≡ o → ◌≡◌ {A = Option Pair} (Some seed) (option_map (seed_of a.0) (slice_get (choices l.graph g a.0) place))
          → IsOffered k place seed
      by None q d = let c = rw q at d in absurd (cc)
      by (Some x) q d = let c = rw q at d in record { anchor = a.0; at = a.1; image = x; choice = q; is = cc }

  pub unoffered : (k place : ℕ) (r : Option Pair) (a : Anchor) → slice_get l.anchors k ≡ Some a
      → ((a : Anchor) → slice_get l.anchors k ≡ Some a → r ≡ option_map (seed_of a) (slice_get (choices l.graph g a) place)) → r ≡ None → slice_get (choices l.graph g a) place ≡ None
  unoffered k place r a at f e = by (slice_get (choices l.graph g a) place) refl (sym e ∙ f a at)
    where
      by : (o : Option ℕ) → slice_get (choices l.graph g a) place ≡ o → ◌≡◌ {A = Option Pair} None (option_map (seed_of a) (slice_get (choices l.graph g a) place))
          → slice_get (choices l.graph g a) place ≡ None
      by None q d = q
      by (Some x) q d = let c = rw q at d in absurd (cc)

  pub offered-smaller : (k place : ℕ) (seed : Pair) → IsOffered k place seed
      → option_map_or (λ a. length (choices l.graph g a)) (slice_get l.anchors k) 0 - (place + 1) < option_map_or (λ a. length (choices l.graph g a)) (slice_get l.anchors k) 0 - place
  offered-smaller k place seed t = let b = slice_get-length (choices l.graph g t.anchor) place t.image t.choice in rw t.at (omega arith)

  pub offered-there : (m h : PlainGraph) (k place : ℕ) (seed : Pair) (s : Search) → IsSearch l g s → m ≡ l.graph → h ≡ g → IsOffered k place seed → AreThere m h seed
  offered-there m h k place seed s q a b t =
      subst (λ x. AreThere x h seed) (sym a) (subst (λ x. AreThere l.graph x seed) (sym b) (subst (AreThere l.graph g) (sym t.is)
      (choice-there l.graph g t.anchor place t.image (anchor-there l.graph l.anchors q.pattern.anchors k t.anchor t.at) t.choice)))

  module _ (m h : PlainGraph) (graphs : m ≡ l.graph) (targets : h ≡ g) (s now : Search) (search : IsSearch l g s) (same : now ≡ s) (from k place : ℕ) (count : k ≡ length s.levels.levels)
      (from_on : from ≤ place)
      (ruled : (a : Anchor) → slice_get l.anchors (length s.levels.levels) ≡ Some a → AreRuledOut l g (chosen s.levels.levels) a from place) (seed : Pair) (t : IsOffered k place seed) where
    at_next : slice_get l.anchors (length s.levels.levels) ≡ Some t.anchor
    at_next = ap (slice_get l.anchors) (sym count) ∙ t.at

    pub tried : (after : Pairs) (stack : Stack) (level : Level) → (Leads m h (seed ∷ []) now.pairing after) × Has after.pairs seed × IsComplete m h after.pairs
        → level.image ≡ second seed → level.next ≡ place + 1 → level.pairs ≡ length now.pairing.pairs
        → stack ≡ record now.levels { levels = now.levels.levels ++ level ∷ [] } → IsTried l g from s (record { pairing = after; levels = stack })
    tried after stack level o image next pairs added =
        record {
          search = record {
            pattern = search.pattern;
            placed = step search.placed (record {
              anchor = t.anchor;
              next = at_next;
              place = place;
              behind = next;
              choice = t.choice ∙ ap (λ x. Some x) (sym image_is);
              pairs = pairs ∙ ap (λ (x : Search). length x.pairing.pairs) same;
              leads = subst (λ x. Leads l.graph g (x ∷ []) s.pairing after) seed_is (subst (λ x. Leads l.graph g (seed ∷ []) x after) (ap (λ (x : Search). x.pairing) same)
                  (subst (λ x. Leads x g (seed ∷ []) now.pairing after) graphs (subst (λ x. Leads m x (seed ∷ []) now.pairing after) targets o.0)));
              has = subst (Has after.pairs) seed_is o.1;
              complete = subst (λ x. IsComplete x g after.pairs) graphs (subst (λ x. IsComplete m x after.pairs) targets o.2);
            }) levels_are;
            room = subst (λ n. length l.anchors ≤ n) (sym room_is) search.room;
          };
          level = level;
          levels = levels_are;
          from_on = omega arith;
          before = λ a j at e. let i : j ≡ place = omega arith in subst (AreRuledOut l g (chosen s.levels.levels) a from) (sym i) (ruled a at);
        }
      where
        image_is : level.image ≡ t.image
        image_is = image ∙ ap second t.is ∙ second-seed t.anchor t.image

        seed_is : seed ≡ seed_of t.anchor level.image
        seed_is = t.is ∙ ap (seed_of t.anchor) (sym image_is)

        levels_are : stack.levels ≡ s.levels.levels ++ level ∷ []
        levels_are = ap (λ (x : Stack). x.levels) added ∙ ap (λ (x : Search). x.levels.levels ++ level ∷ []) same

        room_is : stack.room ≡ s.levels.room
        room_is = ap (λ (x : Stack). x.room) added ∙ ap (λ (x : Search). x.levels.room) same

    pub still_ruled : (after : Pairs) → (after ≡ now.pairing) × Refutes m h (seed ∷ []) now.pairing.pairs
        → (a : Anchor) → slice_get l.anchors (length s.levels.levels) ≡ Some a → AreRuledOut l g (chosen s.levels.levels) a from (place + 1)
    still_ruled after o a at =
        let both : ◌≡◌ {A = Option Anchor} (Some t.anchor) (Some a) = sym at_next ∙ at in
        let one : t.anchor ≡ a = cc in
        subst (λ x. AreRuledOut l g (chosen s.levels.levels) x from (place + 1)) one
        (ruled-more l g s.pairing s.levels.levels t.anchor from place t.image search.placed t.choice
        (subst (λ x. Refutes l.graph g (x ∷ []) s.pairing.pairs) t.is (subst (λ (x : Search). Refutes l.graph g (seed ∷ []) x.pairing.pairs) same
        (subst (λ x. Refutes x g (seed ∷ []) now.pairing.pairs) graphs (subst (λ x. Refutes m x (seed ∷ []) now.pairing.pairs) targets o.1))))
        (ruled t.anchor at_next))

  pub same_search : (s now : Search) (after : Pairs) → now ≡ s → after ≡ now.pairing → ◌≡◌ {A = Search} (record { pairing = after; levels = now.levels }) s
  same_search s now after e p = ap (λ x. record { pairing = x; levels = now.levels }) p ∙ e

  pub exhausted : (s now : Search) (from k place : ℕ) (r : Option Pair) → now ≡ s → k ≡ length s.levels.levels
      → ((a : Anchor) → slice_get l.anchors k ≡ Some a → r ≡ option_map (seed_of a) (slice_get (choices l.graph g a) place)) → r ≡ None
      → ((a : Anchor) → slice_get l.anchors (length s.levels.levels) ≡ Some a → AreRuledOut l g (chosen s.levels.levels) a from place) → IsExhausted l g from s now
  exhausted s now from k place r same count f e ruled = record {
    same = same;
    none = λ a at. ruled-end l g (chosen s.levels.levels) a from place (unoffered k place r a (ap (slice_get l.anchors) count ∙ at) f e) (ruled a at);
  }
