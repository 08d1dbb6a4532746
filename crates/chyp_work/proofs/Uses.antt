-- Ends of wires that are given to others, one after the other: what uses them.
use Rattle.std.proofs.Common.{ℕ, ◌+◌, ◌<◌, ◌≤◌, ◌≡◌, ◌≢◌, true, List, [], ◌∷◌, ◌++◌, length, map, take, flat_map, Option, Some, None, slice_get, slice_index}
use Rattle.std.proofs.Common.{◌⊎◌, inl, inr, refl, sym, ◌∙◌, ap, subst, arith, eq-eqb}
use Rattle.std.specs.Prelude.{IfSome}
use Rattle.std.proofs.lemmas.Bool.{cases_eq}
use Rattle.std.proofs.lemmas.List.{map-append}
use Rattle.chyp_term.specs.Positions.{is_apart}
use Rattle.chyp_term.proofs.Members.{Member, decide-member, get-member, member-not_apart, member-split, not_member-apart}
use Rattle.chyp_term.proofs.Positions.{slice_get-length, some-same}
use Rattle.chyp_term.proofs.Slices.{get-take, take-suc}
use Rattle.chyp_term.proofs.Closure.{get-index, index-get}
use Rattle.chyp_term.proofs.Deciding.{Decided}
use Rattle.chyp_graph.specs.PlainGraph.{Edge}
use Rattle.chyp_match.specs.View.{IsIn, Net}
use Rattle.chyp_store.specs.Items.{AreDistinct, ids, item_at, with_item}
use Rattle.chyp_work.specs.Board.{IsProducer, IsFiled, IsConsumer, MayConsume, edge_of, net, consumed, with_consumer}
use Rattle.chyp_work.specs.Net.{AreUsedOnce, used_for, put}
use Rattle.chyp_work.specs.Filling.{KnowsUser, KnowsMaker}
use Rattle.chyp_work.specs.declared.board.Board.{Board}
use Rattle.chyp_work.specs.declared.board.EdgeItem.{EdgeItem}
use Rattle.chyp_work.specs.declared.board.WireItem.{WireItem}
use Rattle.chyp_work.specs.Rerouting.{used_by, used_in, moved_by}
use Rattle.chyp_work.specs.declared.end.End.{End}
use Rattle.chyp_work.specs.declared.end.End.TheVariants.{Outside, Port}
use Rattle.chyp_work.proofs.Nets.{item-map}
use Rattle.chyp_work.proofs.Boards.{ids-map}
use Rattle.chyp_work.proofs.Turns.{apart-front, member-front, moved-none, moved-turn, put-cases, put-distinct, put-fresh, take-whole}
use Rattle.chyp_work.proofs.Taking.{apart-before}
use Rattle.chyp_work.proofs.Noting.{item-with_other, item-with_same}
use Rattle.chyp_work.proofs.Rerouting.{reroutes-consumers}
use Rattle.chyp_work.proofs.Putting.{get-map}

-- ## one more

edges-none : (ends : List ℕ) (es : List (ℕ × Edge)) → map (λ (e : ℕ × Edge). (e.0, record e.1 { sources = map (moved_by [] ends) e.1.sources })) es ≡ es
edges-none ends [] = refl
edges-none ends (e ∷ es) = let a = moved-none ends e.1.sources in let b = edges-none ends es in λ i. (e.0, record { name = e.1.name; targets = e.1.targets; sources = a i }) ∷ b i

pub used-none : (ends : List ℕ) (n : Net) → n ≡ used_by [] ends n
used-none ends n = let a = sym (edges-none ends n.edges) in let b = sym (moved-none ends n.outputs) in λ i. record { edges = a i; wires = n.wires; outputs = b i; inputs = n.inputs }

module _ (images ends : List ℕ) (i w v : ℕ) (g : slice_get images i ≡ Some w) (e : slice_index ends i ≡ v) (fresh : (j : ℕ) → j < i → slice_index ends j ≢ w) where
  all-turn : (xs : List ℕ) → map (put w v) (map (moved_by (take i images) ends) xs) ≡ map (moved_by (take (i + 1) images) ends) xs
  all-turn [] = refl
  all-turn (x ∷ xs) = let a = moved-turn images ends i w v g e fresh x in let b = all-turn xs in λ j. a j ∷ b j

  edges-turn : (es : List (ℕ × Edge)) → map {B = ℕ × Edge} (λ (e : ℕ × Edge). (e.0, record e.1 { sources = map (put w v) e.1.sources })) (map {B = ℕ × Edge} (λ (e : ℕ × Edge).
      (e.0, record e.1 { sources = map (moved_by (take i images) ends) e.1.sources })) es)
      ≡ map {B = ℕ × Edge} (λ (e : ℕ × Edge). (e.0, record e.1 { sources = map (moved_by (take (i + 1) images) ends) e.1.sources })) es
  edges-turn [] = refl
  edges-turn (e ∷ es) = let a = all-turn e.1.sources in let b = edges-turn es in λ j. (e.0, record { name = e.1.name; targets = e.1.targets; sources = a j }) ∷ b j

  pub used-turn : (n : Net) → used_for (used_by (take i images) ends n) w v ≡ used_by (take (i + 1) images) ends n
  used-turn n = let a = edges-turn n.edges in let b = all-turn n.outputs in λ j. record { edges = a j; wires = n.wires; outputs = b j; inputs = n.inputs }

-- ## what is used

flat-put : (w v : ℕ) (es : List (ℕ × Edge)) → flat_map (λ (e : ℕ × Edge). e.1.sources) (map (λ (e : ℕ × Edge). (e.0, record e.1 { sources = map (put w v) e.1.sources })) es)
    ≡ map (put w v) (flat_map (λ (e : ℕ × Edge). e.1.sources) es)
flat-put w v [] = refl
flat-put w v (e ∷ es) = ap (λ l. map (put w v) e.1.sources ++ l) (flat-put w v es) ∙ sym (map-append (put w v) e.1.sources (flat_map (λ (e : ℕ × Edge). e.1.sources) es))

pub used-list : (n : Net) (w v : ℕ) → used_in (used_for n w v) ≡ map (put w v) (used_in n)
used-list n w v = ap (λ l. map (put w v) n.outputs ++ l) (flat-put w v n.edges) ∙ sym (map-append (put w v) n.outputs (flat_map (λ (e : ℕ × Edge). e.1.sources) n.edges))

-- ## ends

pub consumer-put : (n : Net) (w v x : ℕ) (e : End) → IsConsumer n x e → IsConsumer (used_for n w v) (put w v x) e
consumer-put n w v x (Outside i) h = get-map (put w v) n.outputs i x h
consumer-put n w v x (Port k i) h = by (item_at k n.edges) refl
  where
    by : (o : Option Edge) → item_at k n.edges ≡ o → IsConsumer (used_for n w v) (put w v x) (Port k i)
    by None e = let a = rw e at h in absurd (cc)
    by (Some y) e = let a = rw e at h in rw (item-map (λ (e : Edge). record e { sources = map (put w v) e.sources }) k n.edges, e) (get-map (put w v) y.sources i x a)

pub producer-put : (n : Net) (w v x : ℕ) (e : End) → IsProducer n x e → IsProducer (used_for n w v) x e
producer-put n w v x (Outside i) h = h
producer-put n w v x (Port k i) h = by (item_at k n.edges) refl
  where
    by : (o : Option Edge) → item_at k n.edges ≡ o → IsProducer (used_for n w v) x (Port k i)
    by None e = let a = rw e at h in absurd (cc)
    by (Some y) e = let a = rw e at h in rw (item-map (λ (e : Edge). record e { sources = map (put w v) e.sources }) k n.edges, e) a

-- what is written is the item of before, with this end where it is that of v
abbrev Written : ℕ → ℕ → End → List (ℕ × WireItem) → WireItem → Type 0
Written u v e items i = (j : WireItem) × (item_at u items ≡ Some j) × (i.producer ≡ j.producer) × (((u ≡ v) × (i.consumer ≡ e)) ⊎ ((u ≢ v) × (i ≡ j)))

written-item : (u v : ℕ) (e : End) (items : List (ℕ × WireItem)) (i : WireItem) → item_at u (consumed v e items) ≡ Some i → Written u v e items i
written-item u v e items i h = by (cases_eq u v) (item_at v items) refl
  where
    same : u ≢ v → item_at u items ≡ Some i → Written u v e items i
    same n g = (i, g, refl, inr (n, refl))

    by : (u ≡ v) ⊎ (u ≢ v) → (o : Option WireItem) → item_at v items ≡ o → Written u v e items i
    by (inl q) None f = let a = rw f at h in let b : item_at u items ≡ None = ap (λ k. item_at k items) q ∙ f in absurd (cc)
    by (inr n) None f = let a = rw f at h in same n a
    by (inr n) (Some y) f = let a = rw f at h in same n (sym (item-with_other u v (record y { consumer = e }) items n) ∙ a)
    by (inl q) (Some y) f =
        let a = rw f at h in
        let b : item_at v (with_item v items (record y { consumer = e })) ≡ Some i = ap (λ k. item_at k (with_item v items (record y { consumer = e }))) (sym q) ∙ a in
        let c = item-with_same v y (record y { consumer = e }) items f in
        let z : i ≡ record y { consumer = e } = some-same i (record y { consumer = e }) (sym b ∙ c) in
        (y, ap (λ k. item_at k items) q ∙ f, ap (λ (x : WireItem). x.producer) z, inl (q, ap (λ (x : WireItem). x.consumer) z))

pub written-in : (u v : ℕ) (e : End) (items : List (ℕ × WireItem)) → IsIn u items → IsIn u (consumed v e items)
written-in u v e items t = by (cases_eq u v) (item_at v items) refl
  where
    by : (u ≡ v) ⊎ (u ≢ v) → (o : Option WireItem) → item_at v items ≡ o → IsIn u (consumed v e items)
    by p None f = rw f t
    by (inr n) (Some y) f = rw (f, item-with_other u v (record y { consumer = e }) items n) t
    by (inl q) (Some y) f = rw (f, q, item-with_same v y (record y { consumer = e }) items f) refl

-- ## one end is given to another wire

module _ (b c : Board) (w v : ℕ) (x : WireItem) (here : item_at w b.wires.items ≡ Some x) (graph : net c ≡ with_consumer (net b) x.consumer v)
    (items : c.wires.items ≡ consumed v x.consumer b.wires.items)
    (apart : AreDistinct (ids b.edges.items)) (once : AreUsedOnce (net b)) (known : KnowsUser b w)
  where
    pub used : net c ≡ used_for (net b) w v
    used = graph ∙ reroutes-consumers (net b) x.consumer w v (rw (ids-map edge_of b.edges.items) apart) once (known x here)

    pub user-kept : (u : ℕ) → u ≢ w → u ≢ v → KnowsUser b u → KnowsUser c u
    user-kept u n m k i h = by (written-item u v x.consumer b.wires.items i (rw items at h))
      where
        put-same : put w v u ≡ u
        put-same = on (put-cases w v u)
          where
            on : ((u ≡ w) × (put w v u ≡ v)) ⊎ ((u ≢ w) × (put w v u ≡ u)) → put w v u ≡ u
            on (inl p) = absurd (n p.0)
            on (inr p) = p.1

        by : Written u v x.consumer b.wires.items i → IsConsumer (net c) u i.consumer
        by (j, g, p, inl q) = absurd (m q.0)
        by (j, g, p, inr q) = rw (used, q.1) (subst (λ y. IsConsumer (used_for (net b) w v) y j.consumer) put-same (consumer-put (net b) w v u j.consumer (k j g)))

    pub user-new : KnowsUser c v
    user-new i h = by (written-item v v x.consumer b.wires.items i (rw items at h))
      where
        put-w : put w v w ≡ v
        put-w = rw (eq-eqb w w refl) refl

        new : IsConsumer (used_for (net b) w v) v x.consumer
        new = subst (λ y. IsConsumer (used_for (net b) w v) y x.consumer) put-w (consumer-put (net b) w v w x.consumer (known x here))

        by : Written v v x.consumer b.wires.items i → IsConsumer (net c) v i.consumer
        by (j, g, p, inl q) = rw (used, q.1) new
        by (j, g, p, inr q) = absurd (q.0 refl)

    pub maker-kept : (u : ℕ) → KnowsMaker b u → KnowsMaker c u
    maker-kept u k i h = by (written-item u v x.consumer b.wires.items i (rw items at h))
      where
        by : Written u v x.consumer b.wires.items i → IsProducer (net c) u i.producer
        by (j, g, p, q) = rw (used, p) (producer-put (net b) w v u j.producer (k j g))

    pub kept-rest : c.inputs ≡ b.inputs → (c.named ≡ b.named) × (c.sorted ≡ b.sorted) → c ≡ record b { wires = c.wires; edges = c.edges; outputs = c.outputs }
    kept-rest o l = let m = l.0 in let s = l.1 in λ i. record { edges = c.edges; wires = c.wires; outputs = c.outputs; inputs = o i; named = m i; sorted = s i }

-- ## the turns of a loop

-- c is a, where the ends have been given to the first i
pub record IsUsedInTurn (a c : Board) (images ends : List ℕ) (i : ℕ) : Type 0 where
  pub graph : net c ≡ used_by (take i images) ends (net a)
  pub rest : c ≡ record a { wires = c.wires; edges = c.edges; outputs = c.outputs }
  pub once : AreUsedOnce (net c)
  pub there : (w : ℕ) → IsIn w a.wires.items → IsIn w c.wires.items
  pub fresh : (j v : ℕ) → i ≤ j → slice_get ends j ≡ Some v → is_apart (used_in (net c)) v ≡ true
  pub kept : (w : ℕ) → is_apart (take i images) w ≡ true → is_apart (take i ends) w ≡ true → KnowsUser a w → KnowsUser c w
  pub users : (v : ℕ) → Member v (take i ends) → KnowsUser c v
  pub makers : (w : ℕ) → KnowsMaker a w → KnowsMaker c w
  pub filed : IsFiled a → IsFiled c

pub none-turned : (a : Board) (images ends : List ℕ) → AreUsedOnce (net a) → ((v : ℕ) → Member v ends → is_apart (used_in (net a)) v ≡ true) → IsUsedInTurn a a images ends 0
none-turned a images ends once fresh = record {
  graph = used-none ends (net a);
  rest = refl;
  once = once;
  there = λ w h. h;
  fresh = λ j v h g. fresh v (get-member ends j v g);
  kept = λ w p q k. k;
  users = λ v m. absurd m;
  makers = λ w k. k;
  filed = λ f. f;
}

module _ (a b c : Board) (images ends : List ℕ) (i w v : ℕ) (g : slice_get images i ≡ Some w) (e : slice_get ends i ≡ Some v) (t : IsUsedInTurn a b images ends i)
    (images_apart : AreDistinct images) (ends_apart : AreDistinct ends) (other : (v : ℕ) → Member v ends → is_apart images v ≡ true) (known : (w : ℕ) → Member w images → KnowsUser a w)
  where
    -- it is still known what uses the image
    pub image-known : KnowsUser b w
    image-known = t.kept w (apart-before images i w images_apart g) (not_member-apart (take i ends) w (λ m. let x = other w (member-front ends i w m) in let y = member-not_apart images w
        (get-member images i w g) in absurd (cc)))
        (known w (get-member images i w g))

    module _ (x : WireItem) (here : item_at w b.wires.items ≡ Some x) (graph : net c ≡ with_consumer (net b) x.consumer v) (items : c.wires.items ≡ consumed v x.consumer b.wires.items)
        (apart : AreDistinct (ids b.edges.items)) (inputs : c.inputs ≡ b.inputs) (lists : (c.named ≡ b.named) × (c.sorted ≡ b.sorted)) (filed : IsFiled b → IsFiled c)
      where
        is : net c ≡ used_for (net b) w v
        is = used b c w v x here graph items apart t.once image-known

        other-ends : (j : ℕ) → j < i → slice_index ends j ≢ w
        other-ends j h q =
            let n = slice_get-length ends i v e in
            let x = other (slice_index ends j) (get-member ends j (slice_index ends j) (get-index ends j (omega arith))) in
            let y = member-not_apart images (slice_index ends j) (subst (λ k. Member k images) (sym q) (get-member images i w g)) in
            absurd (cc)

        pub turned : IsUsedInTurn a c images ends (i + 1)
        turned = record {
          graph = is ∙ ap (λ n. used_for n w v) t.graph ∙ used-turn images ends i w v g (index-get ends i v e) other-ends (net a);
          rest = kept-rest b c w v x here graph items apart t.once image-known inputs lists ∙ ap (λ (d : Board). record d { wires = c.wires; edges = c.edges; outputs = c.outputs }) t.rest;
          once = subst AreUsedOnce (sym is) (subst AreDistinct (sym (used-list (net b) w v)) (put-distinct w v (used_in (net b)) t.once (t.fresh i v (omega arith) e)));
          there = λ u h. rw items (written-in u v x.consumer b.wires.items (t.there u h));
          fresh = λ j u h k. subst (λ n. is_apart (used_in n) u ≡ true) (sym is)
              (subst (λ l. is_apart l u ≡ true) (sym (used-list (net b) w v)) (put-fresh w v u (used_in (net b)) (later j u (omega arith) k) (t.fresh j u (omega arith) k)));
          kept = λ u p q k. let pp = apart-front (take i images) w u (rw (take-suc images i w g) at p) in let qq = apart-front (take i ends) v u (rw (take-suc ends i v e) at q) in
              user-kept b c w v x here graph items apart t.once image-known u pp.1 qq.1 (t.kept u pp.0 qq.0 k);
          users = λ u m. by u (member-split (take i ends) (v ∷ []) u (rw (take-suc ends i v e) at m));
          makers = λ u k. maker-kept b c w v x here graph items apart t.once image-known u (t.makers u k);
          filed = λ f. filed (t.filed f);
        }
          where
            later : (j u : ℕ) → i < j → slice_get ends j ≡ Some u → u ≢ v
            later j u h k q =
                let x = apart-before ends j u ends_apart k in
                let y = member-not_apart (take j ends) u (subst (λ z. Member z (take j ends)) (sym q) (get-member (take j ends) i v (get-take ends j i h ∙ e))) in
                absurd (cc)

            not-image : (u : ℕ) → Member u (take i ends) → u ≢ w
            not-image u m q = let x = other u (member-front ends i u m) in let y = member-not_apart images u (subst (λ z. Member z images) (sym q) (get-member images i w g)) in absurd (cc)

            not-end : (u : ℕ) → Member u (take i ends) → u ≢ v
            not-end u m q = let x = apart-before ends i v ends_apart e in let y = member-not_apart (take i ends) v (subst (λ z. Member z (take i ends)) q m) in absurd (cc)

            by : (u : ℕ) → (Member u (take i ends)) ⊎ (Member u (v ∷ [])) → KnowsUser c u
            by u (inl m) = user-kept b c w v x here graph items apart t.once image-known u (not-image u m) (not-end u m) (t.users u m)
            by u (inr (inl q)) = subst (KnowsUser c) q (user-new b c w v x here graph items apart t.once image-known)
            by u (inr (inr n)) = absurd n

    -- one more turn
    pub turn-more : IsIn w b.wires.items → IfSome (item_at w b.wires.items) (λ item. net c ≡ with_consumer (net b) item.consumer v)
        → IfSome (item_at w b.wires.items) (λ item. c.wires.items ≡ consumed v item.consumer b.wires.items) → AreDistinct (ids b.edges.items) → c.inputs ≡ b.inputs
        → (c.named ≡ b.named) × (c.sorted ≡ b.sorted) → (IsFiled b → IsFiled c) → IsUsedInTurn a c images ends (i + 1)
    turn-more there graph items apart inputs lists filed = by (item_at w b.wires.items) refl
      where
        by : (o : Option WireItem) → item_at w b.wires.items ≡ o → IsUsedInTurn a c images ends (i + 1)
        by None h = let x = rw h at there in absurd (cc)
        by (Some x) h = turned x h (rw h at graph) (rw h at items) apart inputs lists filed

-- an end that is known to use a wire may use another one
pub may-produce : (b : Board) (w : ℕ) → KnowsUser b w → IfSome (item_at w b.wires.items) (λ item. MayConsume b item.consumer)
may-produce b w known = by (item_at w b.wires.items) refl
  where
    may : (e : End) → IsConsumer (net b) w e → MayConsume b e
    may (Outside i) h = slice_get-length b.outputs.items i w h
    may (Port k i) h = on (item_at k b.edges.items) refl
      where
        on : (o : Option EdgeItem) → item_at k b.edges.items ≡ o → IfSome (item_at k b.edges.items) (λ e. i < length e.sources.items)
        on None f = rw f tt
        on (Some e) f = let a = rw (item-map edge_of k b.edges.items, f) at h in rw f (slice_get-length e.sources.items i w a)

    by : (o : Option WireItem) → item_at w b.wires.items ≡ o → IfSome (item_at w b.wires.items) (λ item. MayConsume b item.consumer)
    by None h = rw h tt
    by (Some x) h = rw h (may x.consumer (known x h))

-- after all turns, what is none of the images is known as before
pub all-kept : (a c : Board) (images ends : List ℕ) (i : ℕ) → IsUsedInTurn a c images ends i → i ≡ length images → length images ≡ length ends → (w : ℕ) → is_apart images w ≡ true
    → KnowsUser a w → KnowsUser c w
all-kept a c images ends i t h l w p k = by (decide-member w ends)
  where
    by : Decided (Member w ends) → KnowsUser c w
    by (inl m) = t.users w (rw (take-whole ends i (h ∙ l)) m)
    by (inr n) = t.kept w (rw (take-whole images i h) p) (rw (take-whole ends i (h ∙ l)) (not_member-apart ends w n)) k
