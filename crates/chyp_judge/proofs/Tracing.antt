-- How the path to a difference is traced back.
use Rattle.std.proofs.Common.{ℕ, zero, suc, ◌<◌, ◌≡◌, Bool, true, false, List, length, Option, Some, None, IfSome, slice_get, slice_set, sym, ◌∙◌, subst, arith}
use Rattle.std.specs.Prelude.{⊤}
use Rattle.std.specs.Bool.{MatchBool}
use Rattle.chyp_term.specs.Positions.{is_apart}
use Rattle.chyp_term.proofs.Members.{Member, member-get, not_member-apart}
use Rattle.chyp_term.proofs.Positions.{some-same}
use Rattle.chyp_term.proofs.Slices.{get-set_same}
use Rattle.chyp_graph.proofs.Removing.{lit}
use Rattle.chyp_pattern.specs.Occurrence.{IsOccurrence}
use Rattle.chyp_pattern.specs.declared.occurrence.Occurrence.{Occurrence}
use Rattle.chyp_judge.specs.Rewrite.{Reaches}
use Rattle.chyp_judge.specs.Walk.{AreLinked, IsDifference, IsTraced, IsWalk, Meets, Reaching, Spares, SparesAll}
use Rattle.chyp_judge.specs.declared.partners.Partners.{Partners}
use Rattle.chyp_judge.specs.declared.rewrite.Rewrite.{Rewrite}
use Rattle.chyp_judge.specs.declared.walk.Walk.{Walk}

-- how far it is back at most
abbrev pub left_to : Option ℕ → ℕ
left_to None = zero
left_to (Some j) = suc j

-- fewer marks spare as much
more-marked : (s : Rewrite) (r : Reaching s) (marks : List Bool) (w : ℕ) → w < length marks → SparesAll r (slice_set marks w true) → SparesAll r marks
more-marked s r marks w l all v e = all v (lit marks w v l e)

-- one step back
pub traced-more : (w : Walk) → IsWalk w → (marks : List Bool) (i : ℕ) (p : Partners) → slice_get w.partners.items i ≡ Some p → p.wire < length marks
    → IsTraced w.rewrite.now w.partners.items marks (Some i) → IsTraced w.rewrite.now w.partners.items (slice_set marks p.wire true) p.origin
traced-more w is marks i p e b traced = go p.origin (is.linked i p e)
  where
    go : (o : Option ℕ) → AreLinked w.rewrite.now w.partners.items o p.partner p.wire → IsTraced w.rewrite.now w.partners.items (slice_set marks p.wire true) o
    go None begins = λ r all.
        let a = all p.wire (get-set_same marks p.wire true b) in
        traced p e r (more-marked w.rewrite.now r marks p.wire b all) a (begins r a)
    go (Some j) link = λ q h r all c m.
        let a = all p.wire (get-set_same marks p.wire true b) in
        let same : link.0 ≡ q = some-same link.0 q (sym link.1 ∙ h) in
        let d = subst (λ (x : Partners). Spares r x.wire) (sym same) c in
        let n = subst (λ (x : Partners). Meets r x.partner x.wire) (sym same) m in
        traced p e r (more-marked w.rewrite.now r marks p.wire b all) a (link.2 r d n a)

-- what was before is earlier, and among the partners
pub back-less : (w : Walk) → IsWalk w → (i : ℕ) (p : Partners) → slice_get w.partners.items i ≡ Some p → left_to p.origin < suc i
back-less w is i p e = go p.origin (is.earlier i p e)
  where
    go : (o : Option ℕ) → IfSome o (λ j. j < i) → left_to o < suc i
    go None h = omega arith
    go (Some j) h = omega arith

pub back-there : (w : Walk) → IsWalk w → (i : ℕ) (p : Partners) → slice_get w.partners.items i ≡ Some p → i < length w.partners.items → IfSome p.origin (λ j. j < length w.partners.items)
back-there w is i p e b = go p.origin (is.earlier i p e)
  where
    go : (o : Option ℕ) → IfSome o (λ j. j < i) → IfSome o (λ j. j < length w.partners.items)
    go None h = h
    go (Some j) h = omega arith

-- wires of which none is marked spare the marks
pub spared-all : (marks : List Bool) (ws : List ℕ) → ((i w : ℕ) → slice_get ws i ≡ Some w → slice_get marks w ≡ Some false) → (w : ℕ) → slice_get marks w ≡ Some true → is_apart ws w ≡ true
spared-all marks ws none w e = not_member-apart ws w not
  where
    not : Member w ws → ⊥
    not m =
        let i = member-get ws w m in
        let f = none i.0 w i.1 in
        let c : ◌≡◌ {A = Option Bool} (Some true) (Some false) = sym e ∙ f in
        cc

-- an occurrence that has no wire on the path leaves the difference
pub spared-left : (s : Rewrite) (o : Occurrence) → IsOccurrence s.left.graph s.from o.edges o.wires → (marks : List Bool) → IsDifference s marks → (b : Bool)
    → MatchBool b ((w : ℕ) → slice_get marks w ≡ Some true → is_apart o.wires w ≡ true) ⊤ → MatchBool b (Reaches s o → ⊥) ⊤
spared-left s o at marks d true h = λ reaches. d.differ (record { at = o; occurs = at; reaches = reaches }) h
spared-left s o at marks d false h = tt
