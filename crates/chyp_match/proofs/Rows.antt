-- Lists of wires, paired place by place, and pairs in a row.
use Rattle.std.proofs.Common.{ℕ, ◌+◌, ◌<◌, ◌≤◌, ◌≡◌, Bool, true, false, List, [], ◌∷◌, length, Option, Some, slice_get, ◌⊎◌, inl, inr, sym, ◌∙◌, ap, subst, arith}
use Rattle.std.specs.Bool.{MatchBool}
use Rattle.std.proofs.lemmas.Bool.{cases_lt}
use Rattle.chyp_term.proofs.Positions.{slice_get-length}
use Rattle.chyp_graph.specs.PlainGraph.{Edge, PlainGraph}
use Rattle.chyp_graph.specs.Validity.{IsValid}
use Rattle.chyp_pairs.specs.declared.pair.Pair.{Pair}
use Rattle.chyp_pairs.specs.declared.pair.Pair.TheVariants.{Wires, Edges}
use Rattle.chyp_iso.specs.Pair.{wire_pairs}
use Rattle.chyp_pairs.specs.Pairs.{Has, IsMatching, Pairs}
use Rattle.chyp_iso.specs.Port.{Side, ports_on, the_sources, the_targets}
use Rattle.chyp_iso.specs.Following.{Fits, Includes, IsFollowedDown, Leads}
use Rattle.chyp_iso.proofs.Followed.{Leads-has, down-more, passes-none}
use Rattle.chyp_iso.proofs.Lists.{alike-length, down-followed, down-leads, down-seeds, get-more, pairs-get}
use Rattle.chyp_pairs.proofs.PairLists.{get-has, has-get}
use Rattle.chyp_match.specs.Embedding.{Embedding}
use Rattle.chyp_match.specs.Following.{AreFollowed, IsComplete, IsFollowed, IsFollowedUp, Maps, Refutes}
use Rattle.chyp_match.proofs.Embedded.{Refutes-after, followed-more, made-closed, made-maps, made_by, maps-made, maps-one, up-more}

pub lists-refute : (g h : PlainGraph) (vs ws : List ℕ) (s t : Pairs) (i v w : ℕ) → IsValid h → slice_get vs i ≡ Some v → slice_get ws i ≡ Some w → Leads g h (wire_pairs vs ws) s t
    → Refutes g h (Wires v w ∷ []) t.pairs → Refutes g h (wire_pairs vs ws) s.pairs
lists-refute g h vs ws s t i v w k a b l r =
    Refutes-after g h (wire_pairs vs ws) (Wires v w ∷ []) s t k l (λ iso m n. maps-one iso (Wires v w) (n (Wires v w) (pairs-get vs ws i v w a b))) r

pub down-maps : (g h : PlainGraph) (ps : List Pair) (side : Side) (e f : ℕ) (first second : Edge) → IsValid h → slice_get g.edges e ≡ Some first → slice_get h.edges f ≡ Some second
    → Has ps (Edges e f) → (iso : Embedding g h) → Maps iso ps → Maps iso [] → Maps iso (wire_pairs (ports_on side first) (ports_on side second))
down-maps g h ps side e f first second t a b k iso m n p l =
    made-maps g h iso p (down-seeds g h ps side e f first second a b k (made_by iso) (made-closed g h t iso) (λ x y. maps-made g h iso x (m x y)) (passes-none (made_by iso)) p l)

pub down-refute : (g h : PlainGraph) (ps : List Pair) (side : Side) (e f : ℕ) (first second : Edge) → IsValid h → slice_get g.edges e ≡ Some first → slice_get h.edges f ≡ Some second
    → Has ps (Edges e f) → Refutes g h (wire_pairs (ports_on side first) (ports_on side second)) ps → Refutes g h [] ps
down-refute g h ps side e f first second t a b k r iso m n = r iso m (down-maps g h ps side e f first second t a b k iso m n)

pub refute-then : (g h : PlainGraph) (s t : Pairs) → IsValid h → Leads g h [] s t → Refutes g h [] t.pairs → Refutes g h [] s.pairs
refute-then g h s t k l r = Refutes-after g h [] [] s t k l (λ iso m n. n) r

pub ports-answer : (g h : PlainGraph) (s t u : Pairs) (e f : ℕ) (first second : Edge) (b : Bool) → Fits g h s → slice_get g.edges e ≡ Some first → slice_get h.edges f ≡ Some second
    → Has s.pairs (Edges e f)
    → Leads g h (wire_pairs first.sources second.sources) s t → Includes (wire_pairs first.sources second.sources) t.pairs
    → Leads g h (wire_pairs first.targets second.targets) t u
    → MatchBool b (Includes (wire_pairs first.targets second.targets) u.pairs) (Refutes g h (wire_pairs first.targets second.targets) t.pairs)
    → MatchBool b (IsFollowed g h u.pairs (Edges e f)) (Refutes g h [] s.pairs)
ports-answer g h s t u e f first second true fits p q k l i m r = both
  where
    both : (side : Side) → IsFollowedDown g h u.pairs side e f
    both the_sources = down-more g h t.pairs u.pairs the_sources e f (Leads-has g h _ t u m)
        (down-followed g h t.pairs the_sources e f first second p q (alike-length g h s the_sources e f first second fits p q k) i)
    both the_targets = down-followed g h u.pairs the_targets e f first second p q (alike-length g h s the_targets e f first second fits p q k) r
ports-answer g h s t u e f first second false fits p q k l i m r =
    refute-then g h s t fits.second_valid (down-leads g h s t the_sources e f first second p q k l)
    (down-refute g h t.pairs the_targets e f first second fits.second_valid p q (Leads-has g h _ s t l (Edges e f) k) r)

pub ends-answer : (g h : PlainGraph) (s t u : Pairs) (v w : ℕ) (b : Bool) → IsValid h → Leads g h [] s t → IsFollowedUp g h t.pairs the_targets v w → Leads g h [] t u
    → MatchBool b (IsFollowedUp g h u.pairs the_sources v w) (Refutes g h [] t.pairs)
    → MatchBool b (IsFollowed g h u.pairs (Wires v w)) (Refutes g h [] s.pairs)
ends-answer g h s t u v w true k l a m r = both
  where
    both : (side : Side) → IsFollowedUp g h u.pairs side v w
    both the_sources = r
    both the_targets = up-more g h t.pairs u.pairs the_targets v w (Leads-has g h [] t u m) a
ends-answer g h s t u v w false k l a m r = refute-then g h s t k l r

pub at-place : (g h : PlainGraph) (s u : Pairs) (at : ℕ) (p q : Pair) (b : Bool) → slice_get s.pairs at ≡ Some p → p ≡ q → MatchBool b (IsFollowed g h u.pairs q) (Refutes g h [] s.pairs)
    → MatchBool b ((x : Pair) → slice_get s.pairs at ≡ Some x → IsFollowed g h u.pairs x) (Refutes g h [] s.pairs)
at-place g h s u at p q true e f m = λ x d. let y : ◌≡◌ {A = Option Pair} (Some x) (Some p) = sym d ∙ e in let z : x ≡ p = cc in subst (IsFollowed g h u.pairs) (sym (z ∙ f)) m
at-place g h s u at p q false e f m = m

pub row-next : (g h : PlainGraph) (s t : Pairs) (n : ℕ) → n < length s.pairs → Leads g h [] s t → AreFollowed g h s.pairs n
    → ((p : Pair) → slice_get s.pairs n ≡ Some p → IsFollowed g h t.pairs p) → AreFollowed g h t.pairs (n + 1)
row-next g h s t n b l a f i p c e = go (cases_lt i n)
  where
    go : (i < n) ⊎ (n ≤ i) → IsFollowed g h t.pairs p
    go (inl d) = followed-more g h s.pairs t.pairs p (Leads-has g h [] s t l) (a i p d (get-more g h [] s t l i p (omega arith) e))
    go (inr d) = let q : i ≡ n = omega arith in f p (ap (slice_get s.pairs) (sym q) ∙ get-more g h [] s t l i p (omega arith) e)

pub row-all : (g h : PlainGraph) (ps : List Pair) (n : ℕ) → length ps ≤ n → AreFollowed g h ps n → IsComplete g h ps
row-all g h ps n l a p k = let i = has-get ps p k in let b = slice_get-length ps i.0 p i.1 in a i.0 p (omega arith) i.1

pub followed-start : (g h : PlainGraph) (seeds : List Pair) (s t : Pairs) (n : ℕ) → n ≡ length s.pairs → IsComplete g h s.pairs → Leads g h seeds s t → AreFollowed g h t.pairs n
followed-start g h seeds s t n q c l i p b e =
    let d = get-more g h seeds s t l i p (omega arith) e in
    followed-more g h s.pairs t.pairs p (Leads-has g h seeds s t l) (c p (get-has s.pairs i p d))

-- what a seed and all that follows from it answer
pub component-answer : (g h : PlainGraph) (seed : Pair) (s t u : Pairs) (b : Bool) → Fits g h s → Leads g h (seed ∷ []) s t → Has t.pairs seed → Leads g h [] t u
    → MatchBool b (IsComplete g h u.pairs × IsMatching u.pairs) (Refutes g h [] t.pairs)
    → MatchBool b (Has u.pairs seed × IsComplete g h u.pairs) (Refutes g h (seed ∷ []) s.pairs)
component-answer g h seed s t u true f l k m r = (Leads-has g h [] t u m seed k, r.0)
component-answer g h seed s t u false f l k m r = Refutes-after g h (seed ∷ []) [] s t f.second_valid l (λ iso x y p z. absurd z) r
