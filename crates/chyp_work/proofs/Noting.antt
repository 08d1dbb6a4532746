-- Ends of wires that are noted.
use Rattle.std.proofs.Common.{ℕ, zero, suc, ◌+◌, ◌≡◌, ◌≢◌, Bool, true, false, cond, eqb, List, [], ◌∷◌, ◌++◌, take, Option, Some, None, slice_get, ◌⊎◌}
use Rattle.std.proofs.Common.{inl, inr, refl, sym, ◌∙◌, ap, subst, arith, append-nil, eq-eqb, ne_eqb}
use Rattle.std.specs.Option.{option_map_or}
use Rattle.std.proofs.lemmas.Bool.{cases_eq}
use Rattle.chyp_term.proofs.Members.{Member, member-not_apart, member-split}
use Rattle.chyp_term.proofs.Slices.{get-take, take-suc}
use Rattle.std.specs.Str.{bytes_eq}
use Rattle.chyp_base.specs.declared.sort.Sort.{Sort}
use Rattle.chyp_store.specs.Items.{item_at, with_item}
use Rattle.chyp_store.specs.Lists.{list_of}
use Rattle.chyp_match.specs.Listed.{ids_where}
use Rattle.chyp_graph.specs.PlainGraph.{Edge}
use Rattle.chyp_match.specs.View.{Net, named_in}
use Rattle.std.specs.Prelude.{Vec}
use Rattle.std.specs.Global.{Global}
use Rattle.chyp_store.specs.Store.{Store}
use Rattle.chyp_work.specs.Board.{IsConsumer, IsFiled, IsProducer, edge_of, net, wires_of}
use Rattle.chyp_work.specs.Filling.{AreNoted, IsMade, IsNoted, IsUsed, KeepsEnds, KnowsMaker, KnowsUser, end_of}
use Rattle.chyp_work.specs.declared.board.Board.{Board}
use Rattle.chyp_work.specs.declared.board.EdgeItem.{EdgeItem}
use Rattle.chyp_work.specs.declared.board.WireItem.{WireItem}
use Rattle.chyp_work.specs.declared.end.End.{End}
use Rattle.chyp_work.specs.declared.end.End.TheVariants.{Outside, Port}
use Rattle.chyp_work.proofs.Boards.{apart-more}
use Rattle.chyp_work.proofs.Nets.{item-map}

-- ## items that are written

pub item-with_same : {X : Type 0} (k : ℕ) (x y : X) (items : List (ℕ × X)) → item_at k items ≡ Some x → item_at k (with_item k items y) ≡ Some y
item-with_same k x y [] h = absurd (cc)
item-with_same {X} k x y (e ∷ es) h = by (cases_eq k e.0) (item-with_same k x y es)
  where
    by : (k ≡ e.0) ⊎ (k ≢ e.0) → (item_at k es ≡ Some x → item_at k (with_item k es y) ≡ Some y) → item_at k (cond (eqb k e.0) (e.0, y) e ∷ with_item k es y) ≡ Some y
    by (inl q) r = rw (eq-eqb k e.0 q, eq-eqb k e.0 q) refl
    by (inr n) r = let a = rw (ne_eqb k e.0 n) at h in rw (ne_eqb k e.0 n, ne_eqb k e.0 n) (r a)

pub item-with_other : {X : Type 0} (j k : ℕ) (y : X) (items : List (ℕ × X)) → j ≢ k → item_at j (with_item k items y) ≡ item_at j items
item-with_other j k y [] n = refl
item-with_other {X} j k y (e ∷ es) n = by (cases_eq k e.0) (item-with_other j k y es n)
  where
    by : (k ≡ e.0) ⊎ (k ≢ e.0) → item_at j (with_item k es y) ≡ item_at j es → item_at j (cond (eqb k e.0) (e.0, y) e ∷ with_item k es y) ≡ item_at j (e ∷ es)
    by (inl q) r = let d = ne_eqb j e.0 (λ p. n (p ∙ sym q)) in rw (eq-eqb k e.0 q, d) r
    by (inr d) r = rw (ne_eqb k e.0 d) (on (eqb j e.0) refl)
      where
        on : (b : Bool) → eqb j e.0 ≡ b → item_at j (e ∷ with_item k es y) ≡ item_at j (e ∷ es)
        on true q = rw q refl
        on false q = rw q r

pub item-left : {X : Type 0} (k : ℕ) (x : X) (items more : List (ℕ × X)) → item_at k items ≡ Some x → item_at k (items ++ more) ≡ Some x
item-left k x [] more h = absurd (cc)
item-left {X} k x (e ∷ es) more h = by (eqb k e.0) refl (item-left k x es more)
  where
    by : (b : Bool) → eqb k e.0 ≡ b → (item_at k es ≡ Some x → item_at k (es ++ more) ≡ Some x) → item_at k (e ∷ (es ++ more)) ≡ Some x
    by true q r = let a = rw q at h in rw q a
    by false q r = let a = rw q at h in rw q (r a)

get-left : {A : Type 0} (xs ys : List A) (i : ℕ) (x : A) → slice_get xs i ≡ Some x → slice_get (xs ++ ys) i ≡ Some x
get-left [] ys i x h = absurd (cc)
get-left (y ∷ xs) ys zero x h = h
get-left (y ∷ xs) ys (suc i) x h = get-left xs ys i x h

-- ## one side of the ends

module _ (here there : WireItem → End) where
  -- nothing is noted yet
  pub none-noted : (end : ℕ → End) (items : List (ℕ × WireItem)) → AreNoted (IsNoted here there end []) items items
  none-noted end items = record { sorts = refl; each = λ w item h. (item, h, inl (refl, refl)) }

  -- what is noted of x is noted
  abbrev Was : (ℕ → End) → List ℕ → List (ℕ × WireItem) → ℕ → WireItem → Type 0
  Was end ports old x item = (was : WireItem) × (item_at x old ≡ Some was) × IsNoted here there end ports x was item

  module _ (write : End → WireItem → WireItem) (writes : (e : End) (x : WireItem) → here (write e x) ≡ e) (keeps : (e : End) (x : WireItem) → there (write e x) ≡ there x) where
    abbrev written : ℕ → End → List (ℕ × WireItem) → List (ℕ × WireItem)
    written w e items = option_map_or (λ item. with_item w items (write e item)) (item_at w items) items

    -- the end at one more port is noted
    pub noted-more : (end : ℕ → End) (ports : List ℕ) (i w : ℕ) (old items new : List (ℕ × WireItem)) → slice_get ports i ≡ Some w
        → AreNoted (IsNoted here there end (take i ports)) old items → new ≡ written w (end i) items → wires_of new ≡ wires_of items
        → AreNoted (IsNoted here there end (take (i + 1) ports)) old new
    noted-more end ports i w old items new g n e s = record { sorts = s ∙ n.sorts; each = λ x item h. on x item (rw e at h) (cases_eq x w) (item_at w items) refl }
      where
        other : (x : ℕ) (item : WireItem) → x ≢ w → item_at x items ≡ Some item → Was end (take (i + 1) ports) old x item
        other x item d h = let a = n.each x item h in (a.0, a.1, more a.2)
          where
            more : IsNoted here there end (take i ports) x (n.each x item h).0 item → IsNoted here there end (take (i + 1) ports) x (n.each x item h).0 item
            more (inl p) = inl (p.0, rw (take-suc ports i w g) (apart-more x (take i ports) w p.1 (λ q. d (sym q))))
            more (inr p) = inr (p.0, rw (take-suc ports i w g) (get-left (take i ports) (w ∷ []) p.0 x p.1), p.2, p.3)

        there-was : (x : ℕ) (was item : WireItem) → IsNoted here there end (take i ports) x was item → there item ≡ there was
        there-was x was item (inl p) = ap there p.0
        there-was x was item (inr p) = p.3

        on : (x : ℕ) (item : WireItem) → item_at x (written w (end i) items) ≡ Some item → (x ≡ w) ⊎ (x ≢ w) → (o : Option WireItem) → item_at w items ≡ o → Was end (take (i + 1) ports) old x item
        on x item h (inl q) None f = let a = rw f at h in let b : item_at x items ≡ None = ap (λ k. item_at k items) q ∙ f in absurd (cc)
        on x item h (inr d) None f = let a = rw f at h in other x item d a
        on x item h (inr d) (Some y) f = let a = rw f at h in other x item d (sym (item-with_other x w (write (end i) y) items d) ∙ a)
        on x item h (inl q) (Some y) f =
            let a = rw f at h in
            let b : item_at w (with_item w items (write (end i) y)) ≡ Some item = ap (λ k. item_at k (with_item w items (write (end i) y))) (sym q) ∙ a in
            let c = item-with_same w y (write (end i) y) items f in
            let z : item ≡ write (end i) y = cc in
            let u = n.each w y f in
            let t : slice_get (take (i + 1) ports) i ≡ Some x = get-take ports (i + 1) i (omega arith) ∙ g ∙ ap (λ k. Some k) (sym q) in
            (u.0, ap (λ k. item_at k old) q ∙ u.1, inr (i, t, ap here z ∙ writes (end i) y, ap there z ∙ keeps (end i) y ∙ there-was w u.0 y u.2))

  module _ (right : ℕ → End → Type 0) (end : ℕ → End) (ports : List ℕ) (old new : List (ℕ × WireItem)) (n : AreNoted (IsNoted here there end ports) old new) where
    -- what is known of the other side is known
    pub other-known : (w : ℕ) → ((item : WireItem) → item_at w old ≡ Some item → right w (there item)) → (item : WireItem) → item_at w new ≡ Some item → right w (there item)
    other-known w k item h = let a = n.each w item h in by a.2
      where
        by : IsNoted here there end ports w (n.each w item h).0 item → right w (there item)
        by (inl p) = subst (λ x. right w (there x)) (sym p.0) (k (n.each w item h).0 (n.each w item h).1)
        by (inr p) = subst (right w) (sym p.3) (k (n.each w item h).0 (n.each w item h).1)

    module _ (ends : (i w : ℕ) → slice_get ports i ≡ Some w → right w (end i)) where
      -- what is known is known
      pub still-known : (w : ℕ) → ((item : WireItem) → item_at w old ≡ Some item → right w (here item)) → (item : WireItem) → item_at w new ≡ Some item → right w (here item)
      still-known w k item h = let a = n.each w item h in by a.2
        where
          by : IsNoted here there end ports w (n.each w item h).0 item → right w (here item)
          by (inl p) = subst (λ x. right w (here x)) (sym p.0) (k (n.each w item h).0 (n.each w item h).1)
          by (inr p) = subst (right w) (sym p.2) (ends p.0 w p.1)

      -- and so is what is noted
      pub now-known : (w : ℕ) → Member w ports → (item : WireItem) → item_at w new ≡ Some item → right w (here item)
      now-known w m item h = let a = n.each w item h in by a.2
        where
          by : IsNoted here there end ports w (n.each w item h).0 item → right w (here item)
          by (inl p) = let x = member-not_apart ports w m in let y = p.1 in absurd (cc)
          by (inr p) = subst (right w) (sym p.2) (ends p.0 w p.1)

-- ## what doesn't change an end

pub producer-more : (n m : Net) (more : List (ℕ × Edge)) → m.edges ≡ n.edges ++ more → m.inputs ≡ n.inputs → (w : ℕ) (e : End) → IsProducer n w e → IsProducer m w e
producer-more n m more p q w (Outside i) h = rw q h
producer-more n m more p q w (Port k i) h = by (item_at k n.edges) refl
  where
    by : (o : Option Edge) → item_at k n.edges ≡ o → IsProducer m w (Port k i)
    by None e = let x = rw e at h in absurd (cc)
    by (Some x) e = let a = rw e at h in rw (p, item-left k x n.edges more e) a

pub consumer-more : (n m : Net) (more : List (ℕ × Edge)) → m.edges ≡ n.edges ++ more → m.outputs ≡ n.outputs → (w : ℕ) (e : End) → IsConsumer n w e → IsConsumer m w e
consumer-more n m more p q w (Outside i) h = rw q h
consumer-more n m more p q w (Port k i) h = by (item_at k n.edges) refl
  where
    by : (o : Option Edge) → item_at k n.edges ≡ o → IsConsumer m w (Port k i)
    by None e = let x = rw e at h in absurd (cc)
    by (Some x) e = let a = rw e at h in rw (p, item-left k x n.edges more e) a

-- ## the ends at the ports of an edge

abbrev producer : WireItem → End
producer item = item.producer

abbrev consumer : WireItem → End
consumer item = item.consumer

module _ (b : Board) (k : ℕ) (e : EdgeItem) (there : item_at k b.edges.items ≡ Some e) (made used : Store WireItem)
    (m : AreNoted (IsMade (end_of (Some k)) e.targets.items) b.wires.items made.items) (u : AreNoted (IsUsed (end_of (Some k)) e.sources.items) made.items used.items)
  where
    abbrev after : Board
    after = record b { wires = used }

    targets : (i w : ℕ) → slice_get e.targets.items i ≡ Some w → IsProducer (net after) w (Port k i)
    targets i w g = rw (item-map edge_of k b.edges.items, there) g

    sources : (i w : ℕ) → slice_get e.sources.items i ≡ Some w → IsConsumer (net after) w (Port k i)
    sources i w g = rw (item-map edge_of k b.edges.items, there) g

    pub edge-makers : (w : ℕ) → Member w e.targets.items → KnowsMaker after w
    edge-makers w t = other-known consumer producer (IsProducer (net after)) (end_of (Some k)) e.sources.items made.items used.items u w
        (now-known producer consumer (IsProducer (net after)) (end_of (Some k)) e.targets.items b.wires.items made.items m targets w t)

    pub edge-users : (w : ℕ) → Member w e.sources.items → KnowsUser after w
    edge-users w s = now-known consumer producer (IsConsumer (net after)) (end_of (Some k)) e.sources.items made.items used.items u sources w s

    pub edge-kept : KeepsEnds b after
    edge-kept = record {
      rest = refl;
      sorts = u.sorts ∙ m.sorts;
      makers = λ w known. other-known consumer producer (IsProducer (net after)) (end_of (Some k)) e.sources.items made.items used.items u w
          (still-known producer consumer (IsProducer (net after)) (end_of (Some k)) e.targets.items b.wires.items made.items m targets w
          (λ item h. producer-more (net b) (net after) [] (sym (append-nil _)) refl w item.producer (known item h)));
      users = λ w known. still-known consumer producer (IsConsumer (net after)) (end_of (Some k)) e.sources.items made.items used.items u sources w
          (other-known producer consumer (IsConsumer (net after)) (end_of (Some k)) e.targets.items b.wires.items made.items m w
          (λ item h. consumer-more (net b) (net after) [] (sym (append-nil _)) refl w item.consumer (known item h)));
    }

pub keeps-both : (a b c : Board) → KeepsEnds a b → KeepsEnds b c → KeepsEnds a c
keeps-both a b c p q = record {
  rest = q.rest ∙ ap (λ (d : Board). record d { wires = c.wires }) p.rest;
  sorts = q.sorts ∙ p.sorts;
  makers = λ w k. q.makers w (p.makers w k);
  users = λ w k. q.users w (p.users w k);
}

-- notes of ends change no list by name or by sort
pub filed-noted : (b c : Board) → KeepsEnds b c → IsFiled b → IsFiled c
filed-noted b c k f = record {
  named = λ name. ap (λ (x : Board). list_of name x.named) k.rest ∙ f.named name ∙ ap (λ (x : Board). named_in (net x) name) (sym k.rest);
  sorted = λ name. ap (λ (x : Board). list_of name x.sorted) k.rest ∙ f.sorted name ∙ ap (λ items. ids_where (λ (sort : Sort). bytes_eq name sort.name) items) (sym k.sorts);
}

-- what holds for each of the first, and for the next one, holds for each of them
pub each-more : (P : ℕ → Type 0) (ks : List ℕ) (i k : ℕ) → slice_get ks i ≡ Some k → ((j : ℕ) → Member j (take i ks) → P j) → P k → (j : ℕ) → Member j (take (i + 1) ks) → P j
each-more P ks i k g before here j m = by (member-split (take i ks) (k ∷ []) j (rw (take-suc ks i k g) at m))
  where
    by : (Member j (take i ks)) ⊎ (Member j (k ∷ [])) → P j
    by (inl m) = before j m
    by (inr (inl q)) = subst P q here
    by (inr (inr n)) = absurd n

-- ## the ends at the inputs and the outputs

pub inputs-known : (b : Board) (inputs : Vec ℕ Global) (noted : Store WireItem) → AreNoted (IsMade (end_of None) inputs.items) b.wires.items noted.items
    → (w : ℕ) → Member w inputs.items → KnowsMaker (record b { wires = noted; inputs = inputs }) w
inputs-known b inputs noted m w t = now-known producer consumer (IsProducer (net (record b { wires = noted; inputs = inputs }))) (end_of None) inputs.items b.wires.items noted.items m (λ i v g. g) w t

pub outputs-known : (b : Board) (outputs : Vec ℕ Global) (noted : Store WireItem) → AreNoted (IsUsed (end_of None) outputs.items) b.wires.items noted.items
    → (w : ℕ) → Member w outputs.items → KnowsUser (record b { wires = noted; outputs = outputs }) w
outputs-known b outputs noted m w t = now-known consumer producer (IsConsumer (net (record b { wires = noted; outputs = outputs })))
    (end_of None) outputs.items b.wires.items noted.items m (λ i v g. g) w t
