-- How a search goes through all occurrences.
use Rattle.std.proofs.Common.{ℕ, ◌+◌, ◌-◌, ◌<◌, ◌≡◌, List, length, Some, slice_get, refl, sym, ◌∙◌, ap, subst, arith}
use Rattle.std.proofs.Common.{inl, inr}
use Rattle.std.proofs.lemmas.Bool.{cases_lt}
use Rattle.chyp_term.proofs.Members.{Contains-member, get-member, member-Contains, member-get}
use Rattle.chyp_term.proofs.Positions.{slice_get-length, some-same}
use Rattle.chyp_graph.specs.PlainGraph.{PlainGraph}
use Rattle.chyp_iso.proofs.Finishing.{same-size}
use Rattle.chyp_match.specs.Matcher.{GivesNext, HasGivenAll, Matcher, after}
use Rattle.chyp_pattern.specs.Occurrence.{IsOccurrence}
use Rattle.chyp_pattern.specs.Occurrences.{AreOccurrences}
use Rattle.chyp_pattern.specs.Pattern.{Parts}
use Rattle.chyp_pattern.specs.declared.occurrence.Occurrence.{Occurrence}
use Rattle.chyp_pattern.proofs.Listed.{are-listed, listed}
use Rattle.chyp_replace.proofs.Sizes.{replaced-edges, replaced-wires}
use Rattle.chyp_judge.specs.Rewrite.{AreAll, AreOf, HaveSizes, IsBegun, IsGiven, IsRewrite, IsTried, NoneReaches, Reaches, missed}
use Rattle.chyp_judge.specs.declared.judged.Judged.TheVariants.{NoRewrite}
use Rattle.chyp_judge.specs.declared.rewrite.Rewrite.{Rewrite}

-- a search that has given nothing
pub none-given : (b : Matcher) → IsBegun b → IsGiven b 0 b
none-given b begun = record { pattern = refl; graph = refl; given = begun.none; within = λ os a. omega arith }

module _ (b : Matcher) (n : ℕ) (m : Matcher) (given : IsGiven b n m) where
  there : (os : List Occurrence) → AreOccurrences b.pattern.graph b.graph os → AreOccurrences m.pattern.graph m.graph os
  there os a =
      subst (λ (l : Parts). AreOccurrences l.graph m.graph os) (sym given.pattern)
      (subst (λ (g : PlainGraph). AreOccurrences b.pattern.graph g os) (sym given.graph) a)

  -- after the last one all are given
  pub all-given : HasGivenAll m → AreAll b n
  all-given done os a =
      let h = done os (there os a) in
      let w = given.within os a in
      let g = given.given in
      omega arith

  module _ (o : Occurrence) (next : GivesNext m o) where
    next-at : (os : List Occurrence) → AreOccurrences b.pattern.graph b.graph os → slice_get os n ≡ Some o
    next-at os a = subst (λ (k : ℕ). slice_get os k ≡ Some o) given.given (next os (there os a))

    next-below : (os : List Occurrence) → AreOccurrences b.pattern.graph b.graph os → n < length os
    next-below os a = slice_get-length os n o (next-at os a)

    -- their number can be counted
    pub next-fits : IsBegun b → n + 1 < 18446744073709551616
    next-fits begun =
        let a = are-listed b.pattern.graph b.graph in
        let h = begun.few (listed b.pattern.graph b.graph) a in
        let l = next-below (listed b.pattern.graph b.graph) a in
        omega arith

    -- one more is given
    pub next-given : (m' : Matcher) → m' ≡ after m (Some o) → IsGiven b (n + 1) m'
    next-given m' e =
        let g = ap (λ (x : Matcher). x.given) e in
        let h = given.given in
        record {
          pattern = ap (λ (x : Matcher). x.pattern) e ∙ given.pattern;
          graph = ap (λ (x : Matcher). x.graph) e ∙ given.graph;
          given = omega arith;
          within = λ os a. let l = next-below os a in omega arith;
        }

    -- fewer are left
    pub next-less : (m' : Matcher) → m' ≡ after m (Some o)
        → length (listed m'.pattern.graph m'.graph) - m'.given < length (listed m.pattern.graph m.graph) - m.given
    next-less m' e =
        let s = ap (λ (x : Matcher). length (listed x.pattern.graph x.graph)) e in
        let g = ap (λ (x : Matcher). x.given) e in
        let l = slice_get-length (listed m.pattern.graph m.graph) m.given o (next (listed m.pattern.graph m.graph) (are-listed m.pattern.graph m.graph)) in
        omega arith

    module _ (s : Rewrite) (pattern : b.pattern ≡ s.left) (graph : b.graph ≡ s.from) where
      back : (os : List Occurrence) → AreOf s os → AreOccurrences b.pattern.graph b.graph os
      back os a =
          subst (λ (l : Parts). AreOccurrences l.graph b.graph os) (sym pattern)
          (subst (λ (g : PlainGraph). AreOccurrences s.left.graph g os) (sym graph) a)

      -- what is given is an occurrence
      pub next-occurs : IsOccurrence s.left.graph s.from o.edges o.wires
      next-occurs =
          let a = are-listed s.left.graph s.from in
          let os = listed s.left.graph s.from in
          (a.members o).0 (member-Contains os o (get-member os n o (next-at os (back os a))))

      -- it is one more that does not reach
      pub none-more : NoneReaches s n → (Reaches s o → ⊥) → NoneReaches s (n + 1)
      none-more none not os i p a l e r = elim (cases_lt i n) [
        | inl h ↦ none os i p a h e r
        | inr h ↦
            let q : i ≡ n = omega arith in
            let same : p ≡ o = some-same p o (sym e ∙ ap (slice_get os) q ∙ next-at os (back os a)) in
            not (subst (Reaches s) same r)
      ]

-- where all are given and none reaches the graph that is to come out, none does
pub none-reaches : (s : Rewrite) (b : Matcher) (n : ℕ) → b.pattern ≡ s.left → b.graph ≡ s.from → AreAll b n → NoneReaches s n → IsTried s (NoRewrite n)
none-reaches s b n pattern graph all none =
    let a = are-listed s.left.graph s.from in
    let os = listed s.left.graph s.from in
    let size : length os ≡ n = all os (subst (λ (l : Parts). AreOccurrences l.graph b.graph os) (sym pattern)
    (subst (λ (g : PlainGraph). AreOccurrences s.left.graph g os) (sym graph) a)) in
    missed os a size (λ o c r.
    let f = member-get os o (Contains-member os o c) in
    let l = slice_get-length os f.0 o f.1 in
    none os f.0 o a (omega arith) f.1 r)

-- a search for the occurrences of the left side
abbrev start : Rewrite → PlainGraph → Matcher
start s g = record { pattern = s.left; graph = g; given = 0 }

pub begun : (s : Rewrite) → IsRewrite s → (b : Matcher) (g : PlainGraph) → g ≡ s.from → b ≡ start s g → IsBegun b
begun s is b g q e =
    subst IsBegun (sym (e ∙ ap (start s) q)) (record { none = refl; few = is.few })

-- where one reaches it, it has the size of the graph with an occurrence replaced
same-sizes : (s : Rewrite) (o : Occurrence) → IsOccurrence s.left.graph s.from o.edges o.wires → Reaches s o → HaveSizes s
same-sizes s o at iso =
    let e = same-size _ _ _ _ iso.edges in
    let w = same-size _ _ _ _ iso.wires in
    let f = replaced-edges s.left.graph s.right s.from o.edges o.wires at in
    let v = replaced-wires s.left.graph s.right s.from o.edges o.wires at in
    record { edges = omega arith; wires = omega arith }

-- where sizes differ none reaches the graph that is to come out
pub counted : (s : Rewrite) (b : Matcher) (g : PlainGraph) → g ≡ s.from → b ≡ start s g → (n : ℕ) → AreAll b n → (HaveSizes s → ⊥) → IsTried s (NoRewrite n)
counted s b g q e n all other =
    let a = are-listed s.left.graph s.from in
    let os = listed s.left.graph s.from in
    let size : length os ≡ n = subst (λ (m : Matcher). AreAll m n) (e ∙ ap (start s) q) all os a in
    missed os a size (λ o c r. other (same-sizes s o ((a.members o).0 c) r))
