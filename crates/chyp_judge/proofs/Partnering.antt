-- How walks along two graphs go on, and where they end.
use Rattle.std.proofs.Common.{ℕ, ◌<◌, ◌≤◌, ◌≡◌, ◌⊎◌, inl, inr, Bool, true, false, not, List, [], ◌∷◌, ◌++◌, length, length-append, Option, Some, None, IfSome, IsNone, Contains, ◌↔◌, slice_get, refl, sym, ◌∙◌, ap, subst, arith}
use Rattle.std.specs.Prelude.{⊤}
use Rattle.std.specs.Bool.{MatchBool}
use Rattle.std.specs.Option.{is_some}
use Rattle.std.proofs.lemmas.Bool.{cases_lt}
use Rattle.chyp_term.proofs.Members.{get-member}
use Rattle.chyp_term.proofs.Permuted.{found, get-append_left}
use Rattle.chyp_term.proofs.Positions.{get-last, slice_get-length, some-same}
use Rattle.chyp_graph.specs.Graph.{source_at, target_at}
use Rattle.chyp_graph.specs.PlainGraph.{Edge, PlainGraph}
use Rattle.chyp_graph.specs.Validity.{IsValid}
use Rattle.chyp_graph.proofs.Numbering.{input-below, output-below}
use Rattle.chyp_iso.specs.Pair.{AreAlike}
use Rattle.chyp_iso.specs.Port.{IsPortAt, Side, ports_on, the_sources, the_targets}
use Rattle.chyp_iso.proofs.Ports.{below-edge, port-edge, port-is, wire-below}
use Rattle.chyp_judge.specs.Rewrite.{IsRewrite}
use Rattle.chyp_judge.specs.Walk.{AreAtOnePort, AreEnds, AreLinked, AreWithin, Begins, Differs, Follows, GoesOn, IsEnd, IsWalk, MayBegin, MayPartner, ends_on}
use Rattle.chyp_judge.specs.declared.partners.Partners.{Partners}
use Rattle.chyp_judge.specs.declared.rewrite.Rewrite.{Rewrite}
use Rattle.chyp_judge.specs.declared.walk.Walk.{Walk}
use Rattle.chyp_judge.proofs.Walking.{edges-meet, end-no_port, ends-meet, meeting-alike, port-no_other_end, ports-meet}

-- what is among the items of a longer list
longer : {A : Type 0} (xs : List A) (y : A) (i : ℕ) (x : A) → slice_get (xs ++ y ∷ []) i ≡ Some x
    → ((i < length xs) × (slice_get xs i ≡ Some x)) ⊎ ((i ≡ length xs) × (x ≡ y))
longer xs y i x e = go (cases_lt i (length xs))
  where
    go : (i < length xs) ⊎ (length xs ≤ i) → ((i < length xs) × (slice_get xs i ≡ Some x)) ⊎ ((i ≡ length xs) × (x ≡ y))
    go (inl h) = inl (h, sym (get-append_left xs (y ∷ []) i h) ∙ e)
    go (inr h) =
        let l = slice_get-length (xs ++ y ∷ []) i x e in
        let n = length-append xs (y ∷ []) in
        let q : i ≡ length xs = omega arith in
        inr (q, some-same x y (sym e ∙ ap (slice_get (xs ++ y ∷ [])) q ∙ get-last xs y []))

-- links stay where partners are added
link-kept : (s : Rewrite) (ps qs : List Partners) → ((i : ℕ) (p : Partners) → slice_get ps i ≡ Some p → slice_get qs i ≡ Some p) → (o : Option ℕ) (v w : ℕ)
    → AreLinked s ps o v w → AreLinked s qs o v w
link-kept s ps qs kept None v w h = h
link-kept s ps qs kept (Some j) v w h = (h.0, kept j h.0 h.1, h.2)

-- one more pair of partners
pub one-more : (a b : Walk) (p : Partners) → IsWalk a → AreWithin a.rewrite.now p.partner p.wire
    → AreLinked a.rewrite.now a.partners.items p.origin p.partner p.wire → IfSome p.origin (λ j. j < length a.partners.items) → b.rewrite ≡ a.rewrite
    → b.partners.items ≡ a.partners.items ++ p ∷ [] → length b.wires.items ≡ length a.wires.items → length b.edges.items ≡ length a.edges.items → GoesOn a b
one-more a b p is within linked earlier same items ws es = record {
  walk = record {
    rewrite = subst (λ r. IsRewrite r.now) (sym same) is.rewrite;
    from_valid = subst (λ r. IsValid r.now.from) (sym same) is.from_valid;
    to_valid = subst (λ r. IsValid r.now.to) (sym same) is.to_valid;
    wires = ws ∙ is.wires ∙ ap (λ r. length r.now.from.wires) (sym same);
    edges = es ∙ is.edges ∙ ap (λ r. length r.now.from.edges) (sym same);
    within = λ i q e. subst (λ r. AreWithin r.now q.partner q.wire) (sym same) (at-within i q (was i q e));
    linked = λ i q e. subst (λ r. AreLinked r.now b.partners.items q.origin q.partner q.wire) (sym same) (at-linked i q (was i q e));
    earlier = λ i q e. at-earlier i q (was i q e);
  };
  rewrite = same;
  kept = kept;
}
  where
    kept : (i : ℕ) (q : Partners) → slice_get a.partners.items i ≡ Some q → slice_get b.partners.items i ≡ Some q
    kept i q e = ap (λ l. slice_get l i) items ∙ get-append_left a.partners.items (p ∷ []) i (slice_get-length a.partners.items i q e) ∙ e

    was : (i : ℕ) (q : Partners) → slice_get b.partners.items i ≡ Some q → ((i < length a.partners.items) × (slice_get a.partners.items i ≡ Some q)) ⊎ ((i ≡ length a.partners.items) × (q ≡ p))
    was i q e = longer a.partners.items p i q (sym (ap (λ l. slice_get l i) items) ∙ e)

    at-within : (i : ℕ) (q : Partners) → (((i < length a.partners.items) × (slice_get a.partners.items i ≡ Some q)) ⊎ ((i ≡ length a.partners.items) × (q ≡ p)))
        → AreWithin a.rewrite.now q.partner q.wire
    at-within i q (inl h) = is.within i q h.1
    at-within i q (inr h) = subst (λ x. AreWithin a.rewrite.now x.partner x.wire) (sym h.1) within

    at-linked : (i : ℕ) (q : Partners) → (((i < length a.partners.items) × (slice_get a.partners.items i ≡ Some q)) ⊎ ((i ≡ length a.partners.items) × (q ≡ p)))
        → AreLinked a.rewrite.now b.partners.items q.origin q.partner q.wire
    at-linked i q (inl h) = link-kept a.rewrite.now a.partners.items b.partners.items kept q.origin q.partner q.wire (is.linked i q h.1)
    at-linked i q (inr h) =
        subst (λ x. AreLinked a.rewrite.now b.partners.items x.origin x.partner x.wire) (sym h.1)
        (link-kept a.rewrite.now a.partners.items b.partners.items kept p.origin p.partner p.wire linked)

    at-earlier : (i : ℕ) (q : Partners) → (((i < length a.partners.items) × (slice_get a.partners.items i ≡ Some q)) ⊎ ((i ≡ length a.partners.items) × (q ≡ p))) → IfSome q.origin (λ j. j < i)
    at-earlier i q (inl h) = is.earlier i q h.1
    at-earlier i q (inr h) = subst (λ n. IfSome q.origin (λ j. j < n)) (sym h.0) (subst (λ x. IfSome x.origin (λ j. j < length a.partners.items)) (sym h.1) earlier)

-- what may be made partners still may when the walk has gone on
pub may-still : (a b : Walk) (o : Option ℕ) (vs ws : List ℕ) → GoesOn a b → MayPartner a o vs ws → MayPartner b o vs ws
may-still a b o vs ws on may = record {
  within = λ i v w e q. subst (λ r. AreWithin r.now v w) (sym on.rewrite) (may.within i v w e q);
  linked = λ i v w e q. subst (λ r. AreLinked r.now b.partners.items o v w) (sym on.rewrite)
      (link-kept a.rewrite.now a.partners.items b.partners.items on.kept o v w (may.linked i v w e q));
  earlier = still o may.earlier;
}
  where
    more : length a.partners.items ≤ length b.partners.items
    more = elim (cases_lt (length b.partners.items) (length a.partners.items)) [
      | inl h ↦
          let x = found a.partners.items (length b.partners.items) h in
          let l = slice_get-length b.partners.items (length b.partners.items) x.0 (on.kept (length b.partners.items) x.0 x.1) in
          absurd (omega arith)
      | inr h ↦ h
    ]

    still : (x : Option ℕ) → IfSome x (λ j. j < length a.partners.items) → IfSome x (λ j. j < length b.partners.items)
    still None h = h
    still (Some j) h = let m = more in omega arith

-- ## two edges at one port

module _ (s : Rewrite) (rewrite : IsRewrite s) (from_valid : IsValid s.from) (to_valid : IsValid s.to) (p : Partners)
    (k n : ℕ) (at : AreAtOnePort s p k n) (e f : Edge) (q : slice_get s.from.edges k ≡ Some e) (t : slice_get s.to.edges n ≡ Some f) where
  -- the wires at each port follow
  pub port-follows : (side : Side) (i v w : ℕ) → slice_get (ports_on side f) i ≡ Some v → slice_get (ports_on side e) i ≡ Some w → Follows s p v w
  port-follows side i v w x y r a m b =
      let d = edges-meet s rewrite to_valid r p.partner p.wire a m at.side k at.place e q (sym (port-is s.from at.side k at.place e q) ∙ at.of_wire) n at.place f t
      (sym (port-is s.to at.side n at.place f t) ∙ at.of_partner) in
      ports-meet s rewrite to_valid r e f d.1 side i v w x y b

  -- so they may be partners
  pub ports-may : (walk : Walk) → walk.rewrite.now ≡ s → (j : ℕ) → slice_get walk.partners.items j ≡ Some p → (side : Side) → MayPartner walk (Some j) (ports_on side f) (ports_on side e)
  ports-may walk is j h side = record {
    within = λ i v w x y. subst (λ z. AreWithin z v w) (sym is) (record {
      wire = wire-below s.from from_valid side k i w (port-is s.from side k i e q ∙ y);
      partner = wire-below s.to to_valid side n i v (port-is s.to side n i f t ∙ x);
    });
    linked = λ i v w x y. (p, h, subst (λ z. Follows z p v w) (sym is) (port-follows side i v w x y));
    earlier = slice_get-length walk.partners.items j p h;
  }

  -- edges that are not alike differ
  pub unlike-differ : (AreAlike f e → ⊥) → Differs s p
  unlike-differ unlike r a m =
      let d = edges-meet s rewrite to_valid r p.partner p.wire a m at.side k at.place e q (sym (port-is s.from at.side k at.place e q) ∙ at.of_wire) n at.place f t
      (sym (port-is s.to at.side n at.place f t) ∙ at.of_partner) in
      unlike (meeting-alike s rewrite to_valid r e f d.1)

-- ## two ends

module _ (s : Rewrite) (rewrite : IsRewrite s) (to_valid : IsValid s.to) (p : Partners) (x y : Option (ℕ × ℕ)) (ends : AreEnds s p x y) where
  of-wire : (a : Option (ℕ × ℕ)) → x ≡ a → IsEnd s.from ends.side p.wire a
  of-wire a q = subst (IsEnd s.from ends.side p.wire) q ends.of_wire

  of-partner : (b : Option (ℕ × ℕ)) → y ≡ b → IsEnd s.to ends.side p.partner b
  of-partner b t = subst (IsEnd s.to ends.side p.partner) t ends.of_partner

  -- an end of the one graph, and a port of the other
  pub none-some : x ≡ None → (b : ℕ × ℕ) → y ≡ Some b → Differs s p
  none-some q b t r a m = end-no_port s rewrite to_valid r p.partner p.wire a m ends.side (of-wire None q) b.0 b.1 (of-partner (Some b) t)

  pub some-none : (a : ℕ × ℕ) → x ≡ Some a → y ≡ None → Differs s p
  some-none a q t r b m =
      let e = port-edge (ports_on ends.side) s.from.edges a.0 a.1 p.wire (of-wire (Some a) q) in
      port-no_other_end s rewrite to_valid r p.partner p.wire b m ends.side a.0 a.1 e.0 e.1 e.2 (of-partner None t)

  -- ports at two places
  pub places-differ : (a : ℕ × ℕ) → x ≡ Some a → (b : ℕ × ℕ) → y ≡ Some b → (a.1 ≡ b.1 → ⊥) → Differs s p
  places-differ a q b t other r c m =
      let e = port-edge (ports_on ends.side) s.from.edges a.0 a.1 p.wire (of-wire (Some a) q) in
      let f = port-edge (ports_on ends.side) s.to.edges b.0 b.1 p.partner (of-partner (Some b) t) in
      other (edges-meet s rewrite to_valid r p.partner p.wire c m ends.side a.0 a.1 e.0 e.1 e.2 b.0 b.1 f.0 f.1 f.2).0

  -- ports at one place
  pub at-one-port : (a : ℕ × ℕ) → x ≡ Some a → (b : ℕ × ℕ) → y ≡ Some b → a.1 ≡ b.1 → AreAtOnePort s p a.0 b.0
  at-one-port a q b t same = record {
    side = ends.side;
    place = a.1;
    of_wire = of-wire (Some a) q;
    of_partner = subst (λ i. IsPortAt s.to ends.side b.0 i p.partner) (sym same) (of-partner (Some b) t);
  }

  pub first-below : (a : ℕ × ℕ) → x ≡ Some a → a.0 < length s.from.edges
  first-below a q = below-edge s.from ends.side a.0 a.1 p.wire (of-wire (Some a) q)

  pub second-below : (b : ℕ × ℕ) → y ≡ Some b → b.0 < length s.to.edges
  second-below b t = below-edge s.to ends.side b.0 b.1 p.partner (of-partner (Some b) t)

-- an end by what a graph says of it
pub is-end : (g : PlainGraph) (side : Side) (w : ℕ) (port : Option (ℕ × ℕ)) → IfSome port (λ a. IsPortAt g side a.0 a.1 w) → IsNone port ↔ Contains (ends_on side g) w
    → IsEnd g side w port
is-end g side w None some none = none.0 refl
is-end g side w (Some a) some none = some

-- where the one is an end of its graph, the other has to be one too
pub none-answer : (s : Rewrite) → IsRewrite s → IsValid s.to → (x y : Option (ℕ × ℕ)) (b : Bool) → is_some y ≡ not b → x ≡ None → (ps : List Partners) (at : ℕ)
    → ((p : Partners) → slice_get ps at ≡ Some p → AreEnds s p x y) → MatchBool b ⊤ ((p : Partners) → slice_get ps at ≡ Some p → Differs s p)
none-answer s rewrite valid x y true e q ps at ends = tt
none-answer s rewrite valid x None false e q ps at ends = cc
none-answer s rewrite valid x (Some b) false e q ps at ends = λ p h. none-some s rewrite valid p x (Some b) (ends p h) q b refl

-- the ends of partners where they are used, and where they are made
pub ends-of_users : (s : Rewrite) (p : Partners) (x y : Option (ℕ × ℕ)) → IfSome x (λ a. source_at s.from a.0 a.1 ≡ Some p.wire) → IsNone x ↔ Contains s.from.outputs p.wire
    → IfSome y (λ a. source_at s.to a.0 a.1 ≡ Some p.partner) → IsNone y ↔ Contains s.to.outputs p.partner → AreEnds s p x y
ends-of_users s p x y a b c d = record { side = the_sources; of_wire = is-end s.from the_sources p.wire x a b; of_partner = is-end s.to the_sources p.partner y c d }

pub ends-of_makers : (s : Rewrite) (p : Partners) (x y : Option (ℕ × ℕ)) → IfSome x (λ a. target_at s.from a.0 a.1 ≡ Some p.wire) → IsNone x ↔ Contains s.from.inputs p.wire
    → IfSome y (λ a. target_at s.to a.0 a.1 ≡ Some p.partner) → IsNone y ↔ Contains s.to.inputs p.partner → AreEnds s p x y
ends-of_makers s p x y a b c d = record { side = the_targets; of_wire = is-end s.from the_targets p.wire x a b; of_partner = is-end s.to the_targets p.partner y c d }

-- what is told of the walk behind is told of the one before
pub told-before : (a b : Walk) (at : ℕ) (x : Bool) → GoesOn a b → MatchBool x ⊤ ((p : Partners) → slice_get b.partners.items at ≡ Some p → Differs b.rewrite.now p)
    → MatchBool x ⊤ ((p : Partners) → slice_get a.partners.items at ≡ Some p → Differs a.rewrite.now p)
told-before a b at true on h = tt
told-before a b at false on h = λ p e. subst (λ r. Differs r.now p) on.rewrite (h p (on.kept at p e))

pub still-there : (a b : Walk) (at : ℕ) → GoesOn a b → at < length a.partners.items → at < length b.partners.items
still-there a b at on h = let p = found a.partners.items at h in slice_get-length b.partners.items at p.0 (on.kept at p.0 p.1)

-- what is told of the walk before is told of the one behind
pub told-behind : (a b : Walk) (at : ℕ) → GoesOn a b → at < length a.partners.items → ((p : Partners) → slice_get a.partners.items at ≡ Some p → Differs a.rewrite.now p)
    → (p : Partners) → slice_get b.partners.items at ≡ Some p → Differs b.rewrite.now p
told-behind a b at on l told p e =
    let q = found a.partners.items at l in
    let same : q.0 ≡ p = some-same q.0 p (sym (on.kept at q.0 q.1) ∙ e) in
    subst (λ r. Differs r.now p) (sym on.rewrite) (subst (Differs a.rewrite.now) same (told q.0 q.1))

-- ## the ends of the graphs

pub ends-may : (walk : Walk) (s : Rewrite) → walk.rewrite.now ≡ s → (vs ws : List ℕ) → MayBegin s vs ws → MayPartner walk None vs ws
ends-may walk s is vs ws may = record {
  within = λ i v w x y. subst (λ z. AreWithin z v w) (sym is) (may.within i v w x y);
  linked = λ i v w x y. subst (λ z. Begins z v w) (sym is) (may.begins i v w x y);
  earlier = tt;
}

pub ends-begin : (s : Rewrite) → IsRewrite s → IsValid s.from → IsValid s.to → (side : Side) → MayBegin s (ends_on side s.to) (ends_on side s.from)
ends-begin s rewrite from_valid to_valid side = record {
  within = λ i v w x y. record { wire = end-below s.from from_valid side i w y; partner = end-below s.to to_valid side i v x };
  begins = λ i v w x y r a. ends-meet s rewrite to_valid r side i v w x y a;
}
  where
    end-below : (g : PlainGraph) → IsValid g → (e : Side) (i w : ℕ) → slice_get (ends_on e g) i ≡ Some w → w < length g.wires
    end-below g valid the_sources i w h = output-below g valid w (get-member g.outputs i w h)
    end-below g valid the_targets i w h = input-below g valid w (get-member g.inputs i w h)
