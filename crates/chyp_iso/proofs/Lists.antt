-- Lists of wires, paired place by place.
use Rattle.std.proofs.Common.{ℕ, zero, suc, ◌+◌, ◌<◌, ◌≤◌, ◌≡◌, Bool, true, false, All, List, [], ◌∷◌, length, Option, Some, slice_get, ◌⊎◌, inl, inr, refl, sym, ◌∙◌, ap, subst, arith}
use Rattle.std.specs.Bool.{MatchBool}
use Rattle.std.proofs.lemmas.Bool.{cases_lt}
use Rattle.chyp_term.proofs.Permuted.{found, get-append_left}
use Rattle.chyp_term.proofs.Positions.{slice_get-length}
use Rattle.chyp_graph.specs.PlainGraph.{Edge, PlainGraph}
use Rattle.chyp_graph.specs.Isomorphism.{Isomorphic}
use Rattle.chyp_graph.specs.Validity.{IsValid}
use Rattle.chyp_term.proofs.Members.{member-get, All-members}
use Rattle.chyp_pairs.specs.declared.pair.Pair.{Pair}
use Rattle.chyp_pairs.specs.declared.pair.Pair.TheVariants.{Wires, Edges}
use Rattle.chyp_iso.specs.Pair.{AreAlike, EdgesFit, wire_pairs}
use Rattle.chyp_pairs.specs.Pairs.{Has, Pairs}
use Rattle.chyp_iso.specs.Port.{Side, ports_on, the_sources, the_targets}
use Rattle.chyp_iso.specs.Following.{AreFollowed, Fits, Includes, IsClosedUnder, IsComplete, IsFollowed, IsFollowedDown, IsFollowedUp, Leads, Maps, Passes, Refutes}
use Rattle.chyp_pairs.proofs.PairLists.{has-get}
use Rattle.chyp_iso.proofs.Followed.{Leads-has, Leads-seeds, Leads-trans, Refutes-after, down-more, followed-more, made-closed, made-maps, made_by, maps-made, maps-one, passes-none, passes-one}
use Rattle.chyp_iso.proofs.Followed.{up-more}
use Rattle.chyp_iso.proofs.Ports.{port-is, wire-below}

-- the wires at one place are a pair
pub pairs-get : (vs ws : List ℕ) (i v w : ℕ) → slice_get vs i ≡ Some v → slice_get ws i ≡ Some w → Has (wire_pairs vs ws) (Wires v w)
pairs-get [] ws i v w a b = cc
pairs-get (x ∷ vs) [] i v w a b = cc
pairs-get (x ∷ vs) (y ∷ ws) zero v w a b = let p : x ≡ v = cc in let q : y ≡ w = cc in inl (subst (λ z. Wires x y ≡ Wires z y) p refl ∙ ap (λ z. Wires v z) q)
pairs-get (x ∷ vs) (y ∷ ws) (suc i) v w a b = inr (pairs-get vs ws i v w a b)

-- and each pair is one of them
pub pairs-place : (vs ws : List ℕ) (p : Pair) → Has (wire_pairs vs ws) p → (i v w : ℕ) × (slice_get vs i ≡ Some v) × (slice_get ws i ≡ Some w) × (Wires v w ≡ p)
pairs-place [] ws p h = absurd h
pairs-place (x ∷ vs) [] p h = absurd h
pairs-place (x ∷ vs) (y ∷ ws) p (inl e) = (0, x, y, refl, refl, e)
pairs-place (x ∷ vs) (y ∷ ws) p (inr h) = let r = pairs-place vs ws p h in (suc r.0, r.1, r.2, r.3, r.4, r.5)

pub lists-step : (g h : PlainGraph) (vs ws : List ℕ) (s t u : Pairs) (i v w : ℕ) → slice_get vs i ≡ Some v → slice_get ws i ≡ Some w
    → Leads g h (wire_pairs vs ws) s t → Leads g h (Wires v w ∷ []) t u → Leads g h (wire_pairs vs ws) s u
lists-step g h vs ws s t u i v w a b l m =
    Leads-trans g h (wire_pairs vs ws) s t u l (Leads-seeds g h (wire_pairs vs ws) (Wires v w ∷ []) t u m (λ test c p q. passes-one test (Wires v w) (q (Wires v w) (pairs-get vs ws i v w a b))))

pub lists-refute : (g h : PlainGraph) (vs ws : List ℕ) (s t : Pairs) (i v w : ℕ) → IsValid h → slice_get vs i ≡ Some v → slice_get ws i ≡ Some w
    → Leads g h (wire_pairs vs ws) s t → Refutes g h (Wires v w ∷ []) t.pairs → Refutes g h (wire_pairs vs ws) s.pairs
lists-refute g h vs ws s t i v w k a b l r =
    Refutes-after g h (wire_pairs vs ws) (Wires v w ∷ []) s t k l (λ iso m n. maps-one iso (Wires v w) (n (Wires v w) (pairs-get vs ws i v w a b))) r

-- the wires at the places below i are pairs
abbrev pub ArePaired : List ℕ → List ℕ → List Pair → ℕ → Type 0
ArePaired vs ws ps i = (j v w : ℕ) → j < i → slice_get vs j ≡ Some v → slice_get ws j ≡ Some w → Has ps (Wires v w)

pub lists-paired : (g h : PlainGraph) (vs ws : List ℕ) (t u : Pairs) (seeds : List Pair) (i v w : ℕ) → slice_get vs i ≡ Some v → slice_get ws i ≡ Some w
    → Leads g h seeds t u → ArePaired vs ws t.pairs i → Has u.pairs (Wires v w) → ArePaired vs ws u.pairs (i + 1)
lists-paired g h vs ws t u seeds i v w a b l p k j x y d e f = go (cases_lt j i)
  where
    go : (j < i) ⊎ (i ≤ j) → Has u.pairs (Wires x y)
    go (inl c) = Leads-has g h seeds t u l (Wires x y) (p j x y c e f)
    go (inr c) =
        let q : j ≡ i = omega arith in
        let r : ◌≡◌ {A = Option ℕ} (Some x) (Some v) = sym e ∙ ap (slice_get vs) q ∙ a in
        let s : ◌≡◌ {A = Option ℕ} (Some y) (Some w) = sym f ∙ ap (slice_get ws) q ∙ b in
        let m : x ≡ v = cc in
        let n : y ≡ w = cc in
        subst (λ z. Has u.pairs (Wires z y)) (sym m) (subst (λ z. Has u.pairs (Wires v z)) (sym n) k)

pub lists-all : (vs ws : List ℕ) (ps : List Pair) (n : ℕ) → length vs ≤ n → ArePaired vs ws ps n → Includes (wire_pairs vs ws) ps
lists-all vs ws ps n l a p h =
    let r = pairs-place vs ws p h in
    let b = slice_get-length vs r.0 r.1 r.3 in
    subst (Has ps) r.5 (a r.0 r.1 r.2 (omega arith) r.3 r.4)

-- ## the ports of two edges

pub all-ports : (g : PlainGraph) → IsValid g → (side : Side) (e : ℕ) (d : Edge) → slice_get g.edges e ≡ Some d → All (λ w. w < length g.wires) (ports_on side d)
all-ports g t side e d q = All-members (ports_on side d) (λ w m.
    let i = member-get (ports_on side d) w m in
    wire-below g t side e i.0 w (port-is g side e i.0 d q ∙ i.1))

pub down-seeds : (g h : PlainGraph) (ps : List Pair) (side : Side) (e f : ℕ) (first second : Edge) → slice_get g.edges e ≡ Some first
    → slice_get h.edges f ≡ Some second → Has ps (Edges e f) → (test : Pair → Bool) → IsClosedUnder g h test → Passes test ps → Passes test []
    → Passes test (wire_pairs (ports_on side first) (ports_on side second))
down-seeds g h ps side e f first second a b k test c p n q m =
    let r = pairs-place (ports_on side first) (ports_on side second) q m in
    ap test (sym r.5) ∙ c.down side e f r.0 r.1 r.2 (p (Edges e f) k) (port-is g side e r.0 first a ∙ r.3) (port-is h side f r.0 second b ∙ r.4)

pub down-maps : (g h : PlainGraph) (ps : List Pair) (side : Side) (e f : ℕ) (first second : Edge) → IsValid h → slice_get g.edges e ≡ Some first
    → slice_get h.edges f ≡ Some second → Has ps (Edges e f) → (iso : Isomorphic g h) → Maps iso ps → Maps iso [] → Maps iso (wire_pairs (ports_on side first) (ports_on side second))
down-maps g h ps side e f first second t a b k iso m n p l =
    made-maps g h iso p (down-seeds g h ps side e f first second a b k (made_by iso) (made-closed g h t iso) (λ x y. maps-made g h iso x (m x y)) (passes-none (made_by iso)) p l)

pub down-followed : (g h : PlainGraph) (ps : List Pair) (side : Side) (e f : ℕ) (first second : Edge) → slice_get g.edges e ≡ Some first
    → slice_get h.edges f ≡ Some second → length (ports_on side first) ≡ length (ports_on side second)
    → Includes (wire_pairs (ports_on side first) (ports_on side second)) ps → IsFollowedDown g h ps side e f
down-followed g h ps side e f first second a b l k = record {
  there = λ i v p.
      let q : slice_get (ports_on side first) i ≡ Some v = sym (port-is g side e i first a) ∙ p in
      let n = slice_get-length (ports_on side first) i v q in
      let w = found (ports_on side second) i (omega arith) in
      (w.0, port-is h side f i second b ∙ w.1, k (Wires v w.0) (pairs-get (ports_on side first) (ports_on side second) i v w.0 q w.1));
  back = λ i w p.
      let q : slice_get (ports_on side second) i ≡ Some w = sym (port-is h side f i second b) ∙ p in
      let n = slice_get-length (ports_on side second) i w q in
      let v = found (ports_on side first) i (omega arith) in
      (v.0, port-is g side e i first a ∙ v.1, k (Wires v.0 w) (pairs-get (ports_on side first) (ports_on side second) i v.0 w v.1 q));
}

-- two paired edges are alike
pub alike-length : (g h : PlainGraph) (s : Pairs) (side : Side) (e f : ℕ) (first second : Edge) → Fits g h s → slice_get g.edges e ≡ Some first
    → slice_get h.edges f ≡ Some second → Has s.pairs (Edges e f) → length (ports_on side first) ≡ length (ports_on side second)
alike-length g h s side e f first second fits a b k =
    let fit : EdgesFit g h e f = fits.pairs (Edges e f) k in
    let p : ◌≡◌ {A = Option Edge} (Some fit.first) (Some first) = sym fit.first_is ∙ a in
    let q : ◌≡◌ {A = Option Edge} (Some fit.second) (Some second) = sym fit.second_is ∙ b in
    let x : fit.first ≡ first = cc in
    let y : fit.second ≡ second = cc in
    same side fit.first fit.second first second x y fit.alike
  where
    same : (side : Side) (c d first second : Edge) → c ≡ first → d ≡ second → AreAlike c d → length (ports_on side first) ≡ length (ports_on side second)
    same the_sources c d first second x y k = ap (λ z. length z.sources) (sym x) ∙ sym k.source_count ∙ ap (λ z. length z.sources) y
    same the_targets c d first second x y k = ap (λ z. length z.targets) (sym x) ∙ sym k.target_count ∙ ap (λ z. length z.targets) y

pub down-leads : (g h : PlainGraph) (s t : Pairs) (side : Side) (e f : ℕ) (first second : Edge) → slice_get g.edges e ≡ Some first
    → slice_get h.edges f ≡ Some second → Has s.pairs (Edges e f) → Leads g h (wire_pairs (ports_on side first) (ports_on side second)) s t → Leads g h [] s t
down-leads g h s t side e f first second a b k l = Leads-seeds g h [] (wire_pairs (ports_on side first) (ports_on side second)) s t l (down-seeds g h s.pairs side e f first second a b k)

pub down-refute : (g h : PlainGraph) (ps : List Pair) (side : Side) (e f : ℕ) (first second : Edge) → IsValid h → slice_get g.edges e ≡ Some first
    → slice_get h.edges f ≡ Some second → Has ps (Edges e f) → Refutes g h (wire_pairs (ports_on side first) (ports_on side second)) ps → Refutes g h [] ps
down-refute g h ps side e f first second t a b k r iso m n = r iso m (down-maps g h ps side e f first second t a b k iso m n)

pub refute-then : (g h : PlainGraph) (s t : Pairs) → IsValid h → Leads g h [] s t → Refutes g h [] t.pairs → Refutes g h [] s.pairs
refute-then g h s t k l r = Refutes-after g h [] [] s t k l (λ iso m n. n) r

-- what the steps to both sides answer
pub ports-answer : (g h : PlainGraph) (s t u : Pairs) (e f : ℕ) (first second : Edge) (b : Bool) → Fits g h s → slice_get g.edges e ≡ Some first
    → slice_get h.edges f ≡ Some second → Has s.pairs (Edges e f)
    → Leads g h (wire_pairs first.sources second.sources) s t → Includes (wire_pairs first.sources second.sources) t.pairs
    → Leads g h (wire_pairs first.targets second.targets) t u → MatchBool b (Includes (wire_pairs first.targets second.targets) u.pairs) (Refutes g h (wire_pairs first.targets second.targets) t.pairs)
    → MatchBool b (IsFollowed g h u.pairs (Edges e f)) (Refutes g h [] s.pairs)
ports-answer g h s t u e f first second true fits p q k l i m r = both
  where
    both : (side : Side) → IsFollowedDown g h u.pairs side e f
    both the_sources =
        down-more g h t.pairs u.pairs the_sources e f (Leads-has g h _ t u m)
        (down-followed g h t.pairs the_sources e f first second p q (alike-length g h s the_sources e f first second fits p q k) i)
    both the_targets = down-followed g h u.pairs the_targets e f first second p q (alike-length g h s the_targets e f first second fits p q k) r
ports-answer g h s t u e f first second false fits p q k l i m r =
    refute-then g h s t fits.second_valid (down-leads g h s t the_sources e f first second p q k l)
    (down-refute g h t.pairs the_targets e f first second fits.second_valid p q (Leads-has g h _ s t l (Edges e f) k) r)

pub ports-leads : (g h : PlainGraph) (s t u : Pairs) (e f : ℕ) (first second : Edge) → slice_get g.edges e ≡ Some first → slice_get h.edges f ≡ Some second → Has s.pairs (Edges e f)
    → Leads g h (wire_pairs first.sources second.sources) s t → Leads g h (wire_pairs first.targets second.targets) t u → Leads g h [] s u
ports-leads g h s t u e f first second p q k l m =
    Leads-trans g h [] s t u (down-leads g h s t the_sources e f first second p q k l) (down-leads g h t u the_targets e f first second p q (Leads-has g h _ s t l (Edges e f) k) m)

-- what the steps to both ends of two wires answer
pub ends-answer : (g h : PlainGraph) (s t u : Pairs) (v w : ℕ) (b : Bool) → IsValid h → Leads g h [] s t → IsFollowedUp g h t.pairs the_targets v w
    → Leads g h [] t u → MatchBool b (IsFollowedUp g h u.pairs the_sources v w) (Refutes g h [] t.pairs)
    → MatchBool b (IsFollowed g h u.pairs (Wires v w)) (Refutes g h [] s.pairs)
ends-answer g h s t u v w true k l a m r = both
  where
    both : (side : Side) → IsFollowedUp g h u.pairs side v w
    both the_sources = r
    both the_targets = up-more g h t.pairs u.pairs the_targets v w (Leads-has g h [] t u m) a
ends-answer g h s t u v w false k l a m r = refute-then g h s t k l r

-- of the pair at a place
pub at-place : (g h : PlainGraph) (s u : Pairs) (at : ℕ) (p q : Pair) (b : Bool) → slice_get s.pairs at ≡ Some p → p ≡ q
    → MatchBool b (IsFollowed g h u.pairs q) (Refutes g h [] s.pairs) → MatchBool b ((x : Pair) → slice_get s.pairs at ≡ Some x → IsFollowed g h u.pairs x) (Refutes g h [] s.pairs)
at-place g h s u at p q true e f m = λ x d. let y : ◌≡◌ {A = Option Pair} (Some x) (Some p) = sym d ∙ e in let z : x ≡ p = cc in subst (IsFollowed g h u.pairs) (sym (z ∙ f)) m
at-place g h s u at p q false e f m = m

-- ## the pairs in a row

pub get-more : (g h : PlainGraph) (seeds : List Pair) (s t : Pairs) → Leads g h seeds s t → (i : ℕ) (p : Pair) → i < length s.pairs → slice_get t.pairs i ≡ Some p → slice_get s.pairs i ≡ Some p
get-more g h seeds s t l i p b e = sym (get-append_left s.pairs l.more.0 i b) ∙ ap (λ ps. slice_get ps i) (sym l.more.1) ∙ e

pub row-next : (g h : PlainGraph) (s t : Pairs) (n : ℕ) → n < length s.pairs → Leads g h [] s t → AreFollowed g h s.pairs n
    → ((p : Pair) → slice_get s.pairs n ≡ Some p → IsFollowed g h t.pairs p) → AreFollowed g h t.pairs (n + 1)
row-next g h s t n b l a f i p c e = go (cases_lt i n)
  where
    go : (i < n) ⊎ (n ≤ i) → IsFollowed g h t.pairs p
    go (inl d) = followed-more g h s.pairs t.pairs p (Leads-has g h [] s t l) (a i p d (get-more g h [] s t l i p (omega arith) e))
    go (inr d) = let q : i ≡ n = omega arith in f p (ap (slice_get s.pairs) (sym q) ∙ get-more g h [] s t l i p (omega arith) e)

pub row-all : (g h : PlainGraph) (ps : List Pair) (n : ℕ) → length ps ≤ n → AreFollowed g h ps n → IsComplete g h ps
row-all g h ps n l a p k = let i = has-get ps p k in let b = slice_get-length ps i.0 p i.1 in a i.0 p (omega arith) i.1
