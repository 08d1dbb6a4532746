-- Ends of wires that are given to others, one after the other.
use Rattle.std.proofs.Common.{ℕ, zero, suc, ◌+◌, ◌<◌, ◌≤◌, ◌≡◌, ◌≢◌, Bool, true, false, cond, eqb, List, [], ◌∷◌, ◌++◌, length, map, take, flat_map, Option, Some, None, slice_get, slice_index}
use Rattle.std.proofs.Common.{◌⊎◌, inl, inr, refl, sym, ◌∙◌, ap, subst, arith, eq-eqb, ne_eqb}
use Rattle.std.specs.Option.{option_map_or}
use Rattle.std.specs.Prelude.{IfSome}
use Rattle.std.proofs.lemmas.Bool.{cases_eq}
use Rattle.std.proofs.lemmas.List.{map-append}
use Rattle.chyp_term.specs.Positions.{is_apart, place_of}
use Rattle.chyp_term.proofs.Members.{Member, decide-member, get-member, map-member, member-left, member-not_apart, member-right, member-split, not_member-apart}
use Rattle.chyp_term.proofs.Positions.{slice_get-length, some-same}
use Rattle.chyp_term.proofs.Slices.{get-take, take-suc}
use Rattle.chyp_term.proofs.Closure.{get-index, index-get}
use Rattle.chyp_term.proofs.Deciding.{Decided}
use Rattle.chyp_term.proofs.Inverses.{place-found}
use Rattle.chyp_graph.specs.PlainGraph.{Edge}
use Rattle.chyp_match.specs.View.{IsIn, Net}
use Rattle.chyp_store.specs.Items.{AreDistinct, ids, item_at, with_item}
use Rattle.chyp_work.specs.Board.{IsConsumer, IsFiled, IsProducer, MayProduce, edge_of, net, produced, with_producer}
use Rattle.chyp_work.specs.Net.{AreMadeOnce, made_for, put}
use Rattle.chyp_work.specs.Filling.{KnowsMaker, KnowsUser}
use Rattle.chyp_work.specs.declared.board.Board.{Board}
use Rattle.chyp_work.specs.declared.board.EdgeItem.{EdgeItem}
use Rattle.chyp_work.specs.declared.board.WireItem.{WireItem}
use Rattle.chyp_work.specs.Rerouting.{made_by, made_in, moved_by}
use Rattle.chyp_work.specs.declared.end.End.{End}
use Rattle.chyp_work.specs.declared.end.End.TheVariants.{Outside, Port}
use Rattle.chyp_work.proofs.Moving.{length-front, place-push, place_with}
use Rattle.chyp_work.proofs.Nets.{item-map}
use Rattle.chyp_work.proofs.Boards.{ids-map}
use Rattle.chyp_work.proofs.Taking.{apart-before}
use Rattle.chyp_work.proofs.Noting.{item-with_other, item-with_same}
use Rattle.chyp_work.proofs.Rerouting.{reroutes-producers}
use Rattle.chyp_work.proofs.Putting.{get-map}

-- ## one more

pub moved-none : (ends : List ℕ) (ws : List ℕ) → map (moved_by [] ends) ws ≡ ws
moved-none ends [] = refl
moved-none ends (w ∷ ws) = ap (λ l. w ∷ l) (moved-none ends ws)

edges-none : (ends : List ℕ) (es : List (ℕ × Edge)) → map (λ (e : ℕ × Edge). (e.0, record e.1 { targets = map (moved_by [] ends) e.1.targets })) es ≡ es
edges-none ends [] = refl
edges-none ends (e ∷ es) = let a = moved-none ends e.1.targets in let b = edges-none ends es in λ i. (e.0, record { name = e.1.name; sources = e.1.sources; targets = a i }) ∷ b i

pub made-none : (ends : List ℕ) (n : Net) → n ≡ made_by [] ends n
made-none ends n = let a = sym (edges-none ends n.edges) in let b = sym (moved-none ends n.inputs) in λ i. record { edges = a i; wires = n.wires; inputs = b i; outputs = n.outputs }

pub moved-turn : (images ends : List ℕ) (i w v : ℕ) → slice_get images i ≡ Some w → slice_index ends i ≡ v → ((j : ℕ) → j < i → slice_index ends j ≢ w) → (x : ℕ)
    → put w v (moved_by (take i images) ends x) ≡ moved_by (take (i + 1) images) ends x
moved-turn images ends i w v g e fresh x =
    let l = length-front images i w g in
    rw (take-suc images i w g, place-push x w (take i images), l, ← e) (by (place_of x (take i images)) refl)
  where
    by : (o : Option ℕ) → place_of x (take i images) ≡ o → put w (slice_index ends i) (option_map_or (slice_index ends) o x) ≡ option_map_or (slice_index ends) (place_with x w i o) x
    by (Some j) h = let k = slice_get-length (take i images) j x (place-found x (take i images) j h) in let l = length-front images i w g in rw (ne_eqb w (slice_index ends j)
        (λ q. fresh j (omega arith) (sym q))) refl
    by None h = on (eqb w x) refl
      where
        on : (b : Bool) → eqb w x ≡ b → cond (eqb w x) (slice_index ends i) x ≡ option_map_or (slice_index ends) (cond (eqb w x) (Some i) None) x
        on true e = rw e refl
        on false e = rw e refl

module _ (images ends : List ℕ) (i w v : ℕ) (g : slice_get images i ≡ Some w) (e : slice_index ends i ≡ v) (fresh : (j : ℕ) → j < i → slice_index ends j ≢ w) where
  all-turn : (xs : List ℕ) → map (put w v) (map (moved_by (take i images) ends) xs) ≡ map (moved_by (take (i + 1) images) ends) xs
  all-turn [] = refl
  all-turn (x ∷ xs) = let a = moved-turn images ends i w v g e fresh x in let b = all-turn xs in λ j. a j ∷ b j

  edges-turn : (es : List (ℕ × Edge)) → map {B = ℕ × Edge} (λ (e : ℕ × Edge). (e.0, record e.1 { targets = map (put w v) e.1.targets })) (map {B = ℕ × Edge} (λ (e : ℕ × Edge).
      (e.0, record e.1 { targets = map (moved_by (take i images) ends) e.1.targets })) es)
      ≡ map {B = ℕ × Edge} (λ (e : ℕ × Edge). (e.0, record e.1 { targets = map (moved_by (take (i + 1) images) ends) e.1.targets })) es
  edges-turn [] = refl
  edges-turn (e ∷ es) = let a = all-turn e.1.targets in let b = edges-turn es in λ j. (e.0, record { name = e.1.name; sources = e.1.sources; targets = a j }) ∷ b j

  pub made-turn : (n : Net) → made_for (made_by (take i images) ends n) w v ≡ made_by (take (i + 1) images) ends n
  made-turn n = let a = edges-turn n.edges in let b = all-turn n.inputs in λ j. record { edges = a j; wires = n.wires; inputs = b j; outputs = n.outputs }

-- ## what is made

flat-put : (w v : ℕ) (es : List (ℕ × Edge)) → flat_map (λ (e : ℕ × Edge). e.1.targets) (map (λ (e : ℕ × Edge). (e.0, record e.1 { targets = map (put w v) e.1.targets })) es)
    ≡ map (put w v) (flat_map (λ (e : ℕ × Edge). e.1.targets) es)
flat-put w v [] = refl
flat-put w v (e ∷ es) = ap (λ l. map (put w v) e.1.targets ++ l) (flat-put w v es) ∙ sym (map-append (put w v) e.1.targets (flat_map (λ (e : ℕ × Edge). e.1.targets) es))

pub made-list : (n : Net) (w v : ℕ) → made_in (made_for n w v) ≡ map (put w v) (made_in n)
made-list n w v = ap (λ l. map (put w v) n.inputs ++ l) (flat-put w v n.edges) ∙ sym (map-append (put w v) n.inputs (flat_map (λ (e : ℕ × Edge). e.1.targets) n.edges))

-- what v is put for, or what stays
pub put-cases : (w v x : ℕ) → ((x ≡ w) × (put w v x ≡ v)) ⊎ ((x ≢ w) × (put w v x ≡ x))
put-cases w v x = by (cases_eq w x)
  where
    by : (w ≡ x) ⊎ (w ≢ x) → ((x ≡ w) × (put w v x ≡ v)) ⊎ ((x ≢ w) × (put w v x ≡ x))
    by (inl q) = inl (sym q, rw (eq-eqb w x q) refl)
    by (inr n) = inr (λ q. n (sym q), rw (ne_eqb w x n) refl)

pub put-fresh : (w v u : ℕ) (xs : List ℕ) → u ≢ v → is_apart xs u ≡ true → is_apart (map (put w v) xs) u ≡ true
put-fresh w v u xs n a = not_member-apart (map (put w v) xs) u (λ m. let x = map-member (put w v) xs u m in on x.0 x.1 x.2 (put-cases w v x.0))
  where
    on : (x : ℕ) → Member x xs → put w v x ≡ u → ((x ≡ w) × (put w v x ≡ v)) ⊎ ((x ≢ w) × (put w v x ≡ x)) → ⊥
    on x m p (inl c) = n (sym p ∙ c.1)
    on x m p (inr c) = let y = member-not_apart xs u (subst (λ y. Member y xs) (sym c.1 ∙ p) m) in absurd (cc)

pub put-distinct : (w v : ℕ) (xs : List ℕ) → AreDistinct xs → is_apart xs v ≡ true → AreDistinct (map (put w v) xs)
put-distinct w v [] d a = tt
put-distinct w v (x ∷ xs) d a = (
  not_member-apart (map (put w v) xs) (put w v x) (λ m. let y = map-member (put w v) xs (put w v x) m in on y.0 y.1 y.2 (put-cases w v y.0)
      (put-cases w v x)),
  put-distinct w v xs d.1 tail,
)
  where
    tail : is_apart xs v ≡ true
    tail = not_member-apart xs v (λ m. let b = member-not_apart (x ∷ xs) v (inr m) in absurd (cc))

    on : (y : ℕ) → Member y xs → put w v y ≡ put w v x → ((y ≡ w) × (put w v y ≡ v)) ⊎ ((y ≢ w) × (put w v y ≡ y)) → ((x ≡ w) × (put w v x ≡ v)) ⊎ ((x ≢ w) × (put w v x ≡ x)) → ⊥
    on y m p (inl b) (inl c) = let z = member-not_apart xs x (subst (λ y. Member y xs) (b.0 ∙ sym c.0) m) in let q = d.0 in absurd (cc)
    on y m p (inl b) (inr c) = let z = member-not_apart (x ∷ xs) v (inl (sym c.1 ∙ sym p ∙ b.1)) in absurd (cc)
    on y m p (inr b) (inl c) = let z = member-not_apart (x ∷ xs) v (inr (subst (λ y. Member y xs) (sym b.1 ∙ p ∙ c.1) m)) in absurd (cc)
    on y m p (inr b) (inr c) = let z = member-not_apart xs x (subst (λ y. Member y xs) (sym b.1 ∙ p ∙ c.1) m) in let q = d.0 in absurd (cc)

-- ## ends

pub producer-put : (n : Net) (w v x : ℕ) (e : End) → IsProducer n x e → IsProducer (made_for n w v) (put w v x) e
producer-put n w v x (Outside i) h = get-map (put w v) n.inputs i x h
producer-put n w v x (Port k i) h = by (item_at k n.edges) refl
  where
    by : (o : Option Edge) → item_at k n.edges ≡ o → IsProducer (made_for n w v) (put w v x) (Port k i)
    by None e = let a = rw e at h in absurd (cc)
    by (Some y) e = let a = rw e at h in rw (item-map (λ (e : Edge). record e { targets = map (put w v) e.targets }) k n.edges, e) (get-map (put w v) y.targets i x a)

pub consumer-put : (n : Net) (w v x : ℕ) (e : End) → IsConsumer n x e → IsConsumer (made_for n w v) x e
consumer-put n w v x (Outside i) h = h
consumer-put n w v x (Port k i) h = by (item_at k n.edges) refl
  where
    by : (o : Option Edge) → item_at k n.edges ≡ o → IsConsumer (made_for n w v) x (Port k i)
    by None e = let a = rw e at h in absurd (cc)
    by (Some y) e = let a = rw e at h in rw (item-map (λ (e : Edge). record e { targets = map (put w v) e.targets }) k n.edges, e) a

-- what is written is the item of before, with this end where it is that of v
abbrev Written : ℕ → ℕ → End → List (ℕ × WireItem) → WireItem → Type 0
Written u v e items i = (j : WireItem) × (item_at u items ≡ Some j) × (i.consumer ≡ j.consumer) × (((u ≡ v) × (i.producer ≡ e)) ⊎ ((u ≢ v) × (i ≡ j)))

written-item : (u v : ℕ) (e : End) (items : List (ℕ × WireItem)) (i : WireItem) → item_at u (produced v e items) ≡ Some i → Written u v e items i
written-item u v e items i h = by (cases_eq u v) (item_at v items) refl
  where
    same : u ≢ v → item_at u items ≡ Some i → Written u v e items i
    same n g = (i, g, refl, inr (n, refl))

    by : (u ≡ v) ⊎ (u ≢ v) → (o : Option WireItem) → item_at v items ≡ o → Written u v e items i
    by (inl q) None f = let a = rw f at h in let b : item_at u items ≡ None = ap (λ k. item_at k items) q ∙ f in absurd (cc)
    by (inr n) None f = let a = rw f at h in same n a
    by (inr n) (Some y) f = let a = rw f at h in same n (sym (item-with_other u v (record y { producer = e }) items n) ∙ a)
    by (inl q) (Some y) f =
        let a = rw f at h in
        let b : item_at v (with_item v items (record y { producer = e })) ≡ Some i = ap (λ k. item_at k (with_item v items (record y { producer = e }))) (sym q) ∙ a in
        let c = item-with_same v y (record y { producer = e }) items f in
        let z : i ≡ record y { producer = e } = some-same i (record y { producer = e }) (sym b ∙ c) in
        (y, ap (λ k. item_at k items) q ∙ f, ap (λ (x : WireItem). x.consumer) z, inl (q, ap (λ (x : WireItem). x.producer) z))

pub written-in : (u v : ℕ) (e : End) (items : List (ℕ × WireItem)) → IsIn u items → IsIn u (produced v e items)
written-in u v e items t = by (cases_eq u v) (item_at v items) refl
  where
    by : (u ≡ v) ⊎ (u ≢ v) → (o : Option WireItem) → item_at v items ≡ o → IsIn u (produced v e items)
    by p None f = rw f t
    by (inr n) (Some y) f = rw (f, item-with_other u v (record y { producer = e }) items n) t
    by (inl q) (Some y) f = rw (f, q, item-with_same v y (record y { producer = e }) items f) refl

-- ## one end is given to another wire

module _ (b c : Board) (w v : ℕ) (x : WireItem) (here : item_at w b.wires.items ≡ Some x) (graph : net c ≡ with_producer (net b) x.producer v)
    (items : c.wires.items ≡ produced v x.producer b.wires.items)
    (apart : AreDistinct (ids b.edges.items)) (once : AreMadeOnce (net b)) (known : KnowsMaker b w)
  where
    pub made : net c ≡ made_for (net b) w v
    made = graph ∙ reroutes-producers (net b) x.producer w v (rw (ids-map edge_of b.edges.items) apart) once (known x here)

    pub maker-kept : (u : ℕ) → u ≢ w → u ≢ v → KnowsMaker b u → KnowsMaker c u
    maker-kept u n m k i h = by (written-item u v x.producer b.wires.items i (rw items at h))
      where
        put-same : put w v u ≡ u
        put-same = on (put-cases w v u)
          where
            on : ((u ≡ w) × (put w v u ≡ v)) ⊎ ((u ≢ w) × (put w v u ≡ u)) → put w v u ≡ u
            on (inl p) = absurd (n p.0)
            on (inr p) = p.1

        by : Written u v x.producer b.wires.items i → IsProducer (net c) u i.producer
        by (j, g, p, inl q) = absurd (m q.0)
        by (j, g, p, inr q) = rw (made, q.1) (subst (λ y. IsProducer (made_for (net b) w v) y j.producer) put-same (producer-put (net b) w v u j.producer (k j g)))

    pub maker-new : KnowsMaker c v
    maker-new i h = by (written-item v v x.producer b.wires.items i (rw items at h))
      where
        put-w : put w v w ≡ v
        put-w = rw (eq-eqb w w refl) refl

        new : IsProducer (made_for (net b) w v) v x.producer
        new = subst (λ y. IsProducer (made_for (net b) w v) y x.producer) put-w (producer-put (net b) w v w x.producer (known x here))

        by : Written v v x.producer b.wires.items i → IsProducer (net c) v i.producer
        by (j, g, p, inl q) = rw (made, q.1) new
        by (j, g, p, inr q) = absurd (q.0 refl)

    pub user-kept : (u : ℕ) → KnowsUser b u → KnowsUser c u
    user-kept u k i h = by (written-item u v x.producer b.wires.items i (rw items at h))
      where
        by : Written u v x.producer b.wires.items i → IsConsumer (net c) u i.consumer
        by (j, g, p, q) = rw (made, p) (consumer-put (net b) w v u j.consumer (k j g))

    pub kept-rest : c.outputs ≡ b.outputs → (c.named ≡ b.named) × (c.sorted ≡ b.sorted) → c ≡ record b { wires = c.wires; edges = c.edges; inputs = c.inputs }
    kept-rest o l = let m = l.0 in let s = l.1 in λ i. record { edges = c.edges; wires = c.wires; inputs = c.inputs; outputs = o i; named = m i; sorted = s i }

-- ## the turns of a loop

-- c is a, where the ends have been given to the first i
pub record IsTurned (a c : Board) (images ends : List ℕ) (i : ℕ) : Type 0 where
  pub graph : net c ≡ made_by (take i images) ends (net a)
  pub rest : c ≡ record a { wires = c.wires; edges = c.edges; inputs = c.inputs }
  pub once : AreMadeOnce (net c)
  pub there : (w : ℕ) → IsIn w a.wires.items → IsIn w c.wires.items
  pub fresh : (j v : ℕ) → i ≤ j → slice_get ends j ≡ Some v → is_apart (made_in (net c)) v ≡ true
  pub kept : (w : ℕ) → is_apart (take i images) w ≡ true → is_apart (take i ends) w ≡ true → KnowsMaker a w → KnowsMaker c w
  pub makers : (v : ℕ) → Member v (take i ends) → KnowsMaker c v
  pub users : (w : ℕ) → KnowsUser a w → KnowsUser c w
  pub filed : IsFiled a → IsFiled c

pub none-turned : (a : Board) (images ends : List ℕ) → AreMadeOnce (net a) → ((v : ℕ) → Member v ends → is_apart (made_in (net a)) v ≡ true) → IsTurned a a images ends 0
none-turned a images ends once fresh = record {
  graph = made-none ends (net a);
  rest = refl;
  once = once;
  there = λ w h. h;
  fresh = λ j v h g. fresh v (get-member ends j v g);
  kept = λ w p q k. k;
  makers = λ v m. absurd m;
  users = λ w k. k;
  filed = λ f. f;
}

pub member-front : (xs : List ℕ) (i x : ℕ) → Member x (take i xs) → Member x xs
member-front [] zero x m = absurd m
member-front [] (suc i) x m = absurd m
member-front (y ∷ xs) zero x m = absurd m
member-front (y ∷ xs) (suc i) x (inl q) = inl q
member-front (y ∷ xs) (suc i) x (inr m) = inr (member-front xs i x m)

pub apart-front : (xs : List ℕ) (x u : ℕ) → is_apart (xs ++ x ∷ []) u ≡ true → (is_apart xs u ≡ true) × (u ≢ x)
apart-front xs x u a = (
  not_member-apart xs u (λ m. let y = member-not_apart (xs ++ x ∷ []) u (member-left xs (x ∷ []) u m) in absurd (cc)),
  λ q. let y = member-not_apart (xs ++ x ∷ []) u (member-right xs (x ∷ []) u (inl (sym q))) in absurd (cc),
)

module _ (a b c : Board) (images ends : List ℕ) (i w v : ℕ) (g : slice_get images i ≡ Some w) (e : slice_get ends i ≡ Some v) (t : IsTurned a b images ends i)
    (images_apart : AreDistinct images) (ends_apart : AreDistinct ends) (other : (v : ℕ) → Member v ends → is_apart images v ≡ true) (known : (w : ℕ) → Member w images → KnowsMaker a w)
  where
    -- it is still known what makes the image
    pub image-known : KnowsMaker b w
    image-known = t.kept w (apart-before images i w images_apart g) (not_member-apart (take i ends) w (λ m. let x = other w (member-front ends i w m) in let y = member-not_apart images w
        (get-member images i w g) in absurd (cc)))
        (known w (get-member images i w g))

    module _ (x : WireItem) (here : item_at w b.wires.items ≡ Some x) (graph : net c ≡ with_producer (net b) x.producer v) (items : c.wires.items ≡ produced v x.producer b.wires.items)
        (apart : AreDistinct (ids b.edges.items)) (outputs : c.outputs ≡ b.outputs) (lists : (c.named ≡ b.named) × (c.sorted ≡ b.sorted)) (filed : IsFiled b → IsFiled c)
      where
        is : net c ≡ made_for (net b) w v
        is = made b c w v x here graph items apart t.once image-known

        other-ends : (j : ℕ) → j < i → slice_index ends j ≢ w
        other-ends j h q =
            let n = slice_get-length ends i v e in
            let x = other (slice_index ends j) (get-member ends j (slice_index ends j) (get-index ends j (omega arith))) in
            let y = member-not_apart images (slice_index ends j) (subst (λ k. Member k images) (sym q) (get-member images i w g)) in
            absurd (cc)

        pub turned : IsTurned a c images ends (i + 1)
        turned = record {
          graph = is ∙ ap (λ n. made_for n w v) t.graph ∙ made-turn images ends i w v g (index-get ends i v e) other-ends (net a);
          rest = kept-rest b c w v x here graph items apart t.once image-known outputs lists ∙ ap (λ (d : Board). record d { wires = c.wires; edges = c.edges; inputs = c.inputs }) t.rest;
          once = subst AreMadeOnce (sym is) (subst AreDistinct (sym (made-list (net b) w v)) (put-distinct w v (made_in (net b)) t.once (t.fresh i v (omega arith) e)));
          there = λ u h. rw items (written-in u v x.producer b.wires.items (t.there u h));
          fresh = λ j u h k. subst (λ n. is_apart (made_in n) u ≡ true) (sym is)
              (subst (λ l. is_apart l u ≡ true) (sym (made-list (net b) w v)) (put-fresh w v u (made_in (net b)) (later j u (omega arith) k) (t.fresh j u (omega arith) k)));
          kept = λ u p q k. let pp = apart-front (take i images) w u (rw (take-suc images i w g) at p) in let qq = apart-front (take i ends) v u (rw (take-suc ends i v e) at q) in
              maker-kept b c w v x here graph items apart t.once image-known u pp.1 qq.1 (t.kept u pp.0 qq.0 k);
          makers = λ u m. by u (member-split (take i ends) (v ∷ []) u (rw (take-suc ends i v e) at m));
          users = λ u k. user-kept b c w v x here graph items apart t.once image-known u (t.users u k);
          filed = λ f. filed (t.filed f);
        }
          where
            later : (j u : ℕ) → i < j → slice_get ends j ≡ Some u → u ≢ v
            later j u h k q =
                let x = apart-before ends j u ends_apart k in
                let y = member-not_apart (take j ends) u (subst (λ z. Member z (take j ends)) (sym q) (get-member (take j ends) i v (get-take ends j i h ∙ e))) in
                absurd (cc)

            not-image : (u : ℕ) → Member u (take i ends) → u ≢ w
            not-image u m q = let x = other u (member-front ends i u m) in let y = member-not_apart images u (subst (λ z. Member z images) (sym q) (get-member images i w g)) in absurd (cc)

            not-end : (u : ℕ) → Member u (take i ends) → u ≢ v
            not-end u m q = let x = apart-before ends i v ends_apart e in let y = member-not_apart (take i ends) v (subst (λ z. Member z (take i ends)) q m) in absurd (cc)

            by : (u : ℕ) → (Member u (take i ends)) ⊎ (Member u (v ∷ [])) → KnowsMaker c u
            by u (inl m) = maker-kept b c w v x here graph items apart t.once image-known u (not-image u m) (not-end u m) (t.makers u m)
            by u (inr (inl q)) = subst (KnowsMaker c) q (maker-new b c w v x here graph items apart t.once image-known)
            by u (inr (inr n)) = absurd n

    -- one more turn
    pub turn-more : IsIn w b.wires.items → IfSome (item_at w b.wires.items) (λ item. net c ≡ with_producer (net b) item.producer v)
        → IfSome (item_at w b.wires.items) (λ item. c.wires.items ≡ produced v item.producer b.wires.items) → AreDistinct (ids b.edges.items) → c.outputs ≡ b.outputs
        → (c.named ≡ b.named) × (c.sorted ≡ b.sorted) → (IsFiled b → IsFiled c) → IsTurned a c images ends (i + 1)
    turn-more there graph items apart outputs lists filed = by (item_at w b.wires.items) refl
      where
        by : (o : Option WireItem) → item_at w b.wires.items ≡ o → IsTurned a c images ends (i + 1)
        by None h = let x = rw h at there in absurd (cc)
        by (Some x) h = turned x h (rw h at graph) (rw h at items) apart outputs lists filed

-- an end that is known to make a wire may make another one
pub may-produce : (b : Board) (w : ℕ) → KnowsMaker b w → IfSome (item_at w b.wires.items) (λ item. MayProduce b item.producer)
may-produce b w known = by (item_at w b.wires.items) refl
  where
    may : (e : End) → IsProducer (net b) w e → MayProduce b e
    may (Outside i) h = slice_get-length b.inputs.items i w h
    may (Port k i) h = on (item_at k b.edges.items) refl
      where
        on : (o : Option EdgeItem) → item_at k b.edges.items ≡ o → IfSome (item_at k b.edges.items) (λ e. i < length e.targets.items)
        on None f = rw f tt
        on (Some e) f = let a = rw (item-map edge_of k b.edges.items, f) at h in rw f (slice_get-length e.targets.items i w a)

    by : (o : Option WireItem) → item_at w b.wires.items ≡ o → IfSome (item_at w b.wires.items) (λ item. MayProduce b item.producer)
    by None h = rw h tt
    by (Some x) h = rw h (may x.producer (known x h))

pub take-length : {A : Type 0} (xs : List A) → take (length xs) xs ≡ xs
take-length [] = refl
take-length (x ∷ xs) = ap (λ l. x ∷ l) (take-length xs)

pub take-whole : (xs : List ℕ) (n : ℕ) → n ≡ length xs → take n xs ≡ xs
take-whole xs n h = rw h (take-length xs)

-- after all turns, what is none of the images is known as before
pub all-kept : (a c : Board) (images ends : List ℕ) (i : ℕ) → IsTurned a c images ends i → i ≡ length images → length images ≡ length ends → (w : ℕ) → is_apart images w ≡ true
    → KnowsMaker a w → KnowsMaker c w
all-kept a c images ends i t h l w p k = by (decide-member w ends)
  where
    by : Decided (Member w ends) → KnowsMaker c w
    by (inl m) = t.makers w (rw (take-whole ends i (h ∙ l)) m)
    by (inr n) = t.kept w (rw (take-whole images i h) p) (rw (take-whole ends i (h ∙ l)) (not_member-apart ends w n)) k
