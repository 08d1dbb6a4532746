-- To reroute one wire is to put another one for it.
use Rattle.std.proofs.Common.{ℕ, zero, suc, ◌≡◌, ◌≢◌, true, cond, eqb, List, [], ◌∷◌, ◌++◌, map, flat_map, Option, Some, None, slice_get, slice_set, ◌⊎◌, inl, inr, refl, sym, ◌∙◌, ap, subst}
use Rattle.std.proofs.Common.{eq-eqb, ne_eqb}
use Rattle.std.proofs.lemmas.Bool.{cases_eq}
use Rattle.chyp_term.specs.Positions.{is_apart}
use Rattle.chyp_graph.specs.PlainGraph.{Edge}
use Rattle.chyp_term.proofs.Members.{Member, get-member, member-flat, member-left, member-not_apart, member-right, not_member-apart}
use Rattle.chyp_work.specs.Board.{with_consumer, with_producer}
use Rattle.chyp_store.specs.Items.{AreDistinct, ids, item_at, with_item}
use Rattle.chyp_work.specs.Net.{made_for, put, used_for}
use Rattle.chyp_work.specs.Rerouting.{ReroutesConsumers, ReroutesProducers}
use Rattle.chyp_work.specs.declared.end.End.TheVariants.{Outside, Port}
use Rattle.chyp_work.proofs.Items.{with-absent}
use Rattle.chyp_work.proofs.Nets.{item-member}

pub put-absent : (w v : ℕ) (xs : List ℕ) → is_apart xs w ≡ true → map (put w v) xs ≡ xs
put-absent w v [] h = refl
put-absent w v (x ∷ xs) h = by (cases_eq w x) (put-absent w v xs)
  where
    by : (w ≡ x) ⊎ (w ≢ x) → (is_apart xs w ≡ true → map (put w v) xs ≡ xs) → cond (eqb w x) v x ∷ map (put w v) xs ≡ x ∷ xs
    by (inl q) r = let a = member-not_apart (x ∷ xs) w (inl (sym q)) in absurd (cc)
    by (inr n) r = rw (ne_eqb w x n) (ap (λ l. x ∷ l) (r (not_member-apart xs w (λ m. let a = member-not_apart (x ∷ xs) w (inr m) in absurd (cc)))))

pub set-put : (w v : ℕ) (xs : List ℕ) (i : ℕ) → AreDistinct xs → slice_get xs i ≡ Some w → slice_set xs i v ≡ map (put w v) xs
set-put w v [] i d h = absurd (cc)
set-put w v (x ∷ xs) zero d h =
    let q : x ≡ w = cc in
    let a = put-absent w v xs (subst (λ j. is_apart xs j ≡ true) q d.0) in
    rw (eq-eqb w x (sym q)) (ap (λ l. v ∷ l) (sym a))
set-put w v (x ∷ xs) (suc i) d h = by (cases_eq w x) (set-put w v xs i d.1 h)
  where
    by : (w ≡ x) ⊎ (w ≢ x) → slice_set xs i v ≡ map (put w v) xs → x ∷ slice_set xs i v ≡ cond (eqb w x) v x ∷ map (put w v) xs
    by (inl q) r = let a = member-not_apart xs x (subst (λ j. Member j xs) q (get-member xs i w h)) in let b = d.0 in absurd (cc)
    by (inr n) r = rw (ne_eqb w x n) (ap (λ l. x ∷ l) r)

pub distinct-left : (xs ys : List ℕ) → AreDistinct (xs ++ ys) → AreDistinct xs
distinct-left [] ys d = tt
distinct-left (x ∷ xs) ys d = (not_member-apart xs x (λ m. let a = member-not_apart (xs ++ ys) x (member-left xs ys x m) in let b = d.0 in absurd (cc)), distinct-left xs ys d.1)

pub distinct-right : (xs ys : List ℕ) → AreDistinct (xs ++ ys) → AreDistinct ys
distinct-right [] ys d = d
distinct-right (x ∷ xs) ys d = distinct-right xs ys d.1

pub distinct-apart : (xs ys : List ℕ) → AreDistinct (xs ++ ys) → (w : ℕ) → Member w xs → Member w ys → ⊥
distinct-apart [] ys d w m k = absurd m
distinct-apart (x ∷ xs) ys d w (inl q) k = let a = member-not_apart (xs ++ ys) x (member-right xs ys x (subst (λ j. Member j ys) (sym q) k)) in let b = d.0 in absurd (cc)
distinct-apart (x ∷ xs) ys d w (inr m) k = distinct-apart xs ys d.1 w m k

-- ## what an edge makes

made-absent : (w v : ℕ) (edges : List (ℕ × Edge)) → is_apart (flat_map (λ (e : ℕ × Edge). e.1.targets) edges) w ≡ true
    → map (λ (e : ℕ × Edge). (e.0, record e.1 { targets = map (put w v) e.1.targets })) edges ≡ edges
made-absent w v [] h = refl
made-absent w v (e ∷ es) h =
    let a = put-absent w v e.1.targets (not_member-apart e.1.targets w
    (λ m. let x = member-not_apart (e.1.targets ++ flat_map (λ (e : ℕ × Edge). e.1.targets) es) w (member-left e.1.targets (flat_map (λ (e : ℕ × Edge). e.1.targets) es) w m) in absurd (cc))) in
    let b = made-absent w v es (not_member-apart (flat_map (λ (e : ℕ × Edge). e.1.targets) es) w
    (λ m. let x = member-not_apart (e.1.targets ++ flat_map (λ (e : ℕ × Edge). e.1.targets) es) w (member-right e.1.targets (flat_map (λ (e : ℕ × Edge). e.1.targets) es) w m) in absurd (cc))) in
    λ i. (e.0, record { name = e.1.name; sources = e.1.sources; targets = a i }) ∷ b i

made-edges : (w v k i : ℕ) (e : Edge) (edges : List (ℕ × Edge)) → AreDistinct (ids edges) → AreDistinct (flat_map (λ (e : ℕ × Edge). e.1.targets) edges) → item_at k edges ≡ Some e
    → slice_get e.targets i ≡ Some w
    → with_item k edges (record e { targets = slice_set e.targets i v }) ≡ map (λ (e : ℕ × Edge). (e.0, record e.1 { targets = map (put w v) e.1.targets })) edges
made-edges w v k i e [] d o h g = refl
made-edges w v k i e (f ∷ fs) d o h g = by (cases_eq k f.0) (made-edges w v k i e fs d.1 (distinct-right f.1.targets (flat_map (λ (e : ℕ × Edge). e.1.targets) fs) o))
  where
    by : (k ≡ f.0) ⊎ (k ≢ f.0)
        → (item_at k fs ≡ Some e → slice_get e.targets i ≡ Some w
        → with_item k fs (record e { targets = slice_set e.targets i v }) ≡ map (λ (e : ℕ × Edge). (e.0, record e.1 { targets = map (put w v) e.1.targets })) fs)
        → cond (eqb k f.0) (f.0, record e { targets = slice_set e.targets i v }) f ∷ with_item k fs (record e { targets = slice_set e.targets i v })
        ≡ (f.0, record f.1 { targets = map (put w v) f.1.targets }) ∷ map (λ (e : ℕ × Edge). (e.0, record e.1 { targets = map (put w v) e.1.targets })) fs
    by (inl q) r =
        let a = rw (eq-eqb k f.0 q) at h in
        let z : e ≡ f.1 = cc in
        let t : slice_get f.1.targets i ≡ Some w = rw (← z) g in
        let s = set-put w v f.1.targets i (distinct-left f.1.targets (flat_map (λ (e : ℕ × Edge). e.1.targets) fs) o) t in
        let m = with-absent k (record e { targets = slice_set e.targets i v }) fs (subst (λ j. is_apart (ids fs) j ≡ true) (sym q) d.0) in
        let b = made-absent w v fs (not_member-apart (flat_map (λ (e : ℕ × Edge). e.1.targets) fs) w
        (distinct-apart f.1.targets (flat_map (λ (e : ℕ × Edge). e.1.targets) fs) o w (get-member f.1.targets i w t))) in
        let x : record e { targets = slice_set e.targets i v } ≡ record f.1 { targets = map (put w v) f.1.targets } = rw z (λ j. record { name = f.1.name; sources = f.1.sources; targets = s j }) in
        rw (eq-eqb k f.0 q) ((λ j. (f.0, x j) ∷ m j) ∙ ap (λ l. (f.0, record f.1 { targets = map (put w v) f.1.targets }) ∷ l) (sym b))
    by (inr n) r =
        let a = rw (ne_eqb k f.0 n) at h in
        let m = member-flat (λ (e : ℕ × Edge). e.1.targets) fs (k, e) w (item-member k e fs a) (get-member e.targets i w g) in
        let b = put-absent w v f.1.targets (not_member-apart f.1.targets w (λ j. distinct-apart f.1.targets (flat_map (λ (e : ℕ × Edge). e.1.targets) fs) o w j m)) in
        let bb = sym b in
        let c = r a g in
        rw (ne_eqb k f.0 n) (λ j. (f.0, record { name = f.1.name; sources = f.1.sources; targets = bb j }) ∷ c j)

pub reroutes-producers : ReroutesProducers
reroutes-producers n (Outside i) w v d o h =
    let a = set-put w v n.inputs i (distinct-left n.inputs (flat_map (λ (e : ℕ × Edge). e.1.targets) n.edges) o) h in
    let b = made-absent w v n.edges (not_member-apart (flat_map (λ (e : ℕ × Edge). e.1.targets) n.edges) w
    (distinct-apart n.inputs (flat_map (λ (e : ℕ × Edge). e.1.targets) n.edges) o w (get-member n.inputs i w h))) in
    let c = sym b in
    λ j. record { edges = c j; wires = n.wires; inputs = a j; outputs = n.outputs }
reroutes-producers n (Port k i) w v d o h = by (item_at k n.edges) refl
  where
    by : (p : Option Edge) → item_at k n.edges ≡ p → with_producer n (Port k i) v ≡ made_for n w v
    by None e = let x = rw e at h in absurd (cc)
    by (Some edge) e =
        let g : slice_get edge.targets i ≡ Some w = rw e at h in
        let a = made-edges w v k i edge n.edges d (distinct-right n.inputs (flat_map (λ (e : ℕ × Edge). e.1.targets) n.edges) o) e g in
        let m = member-flat (λ (e : ℕ × Edge). e.1.targets) n.edges (k, edge) w (item-member k edge n.edges e) (get-member edge.targets i w g) in
        let b = sym (put-absent w v n.inputs (not_member-apart n.inputs w (λ j. distinct-apart n.inputs (flat_map (λ (e : ℕ × Edge). e.1.targets) n.edges) o w j m))) in
        rw e (λ j. record { edges = a j; wires = n.wires; inputs = b j; outputs = n.outputs })

-- ## what an edge uses

used-absent : (w v : ℕ) (edges : List (ℕ × Edge)) → is_apart (flat_map (λ (e : ℕ × Edge). e.1.sources) edges) w ≡ true
    → map (λ (e : ℕ × Edge). (e.0, record e.1 { sources = map (put w v) e.1.sources })) edges ≡ edges
used-absent w v [] h = refl
used-absent w v (e ∷ es) h =
    let a = put-absent w v e.1.sources (not_member-apart e.1.sources w
    (λ m. let x = member-not_apart (e.1.sources ++ flat_map (λ (e : ℕ × Edge). e.1.sources) es) w (member-left e.1.sources (flat_map (λ (e : ℕ × Edge). e.1.sources) es) w m) in absurd (cc))) in
    let b = used-absent w v es (not_member-apart (flat_map (λ (e : ℕ × Edge). e.1.sources) es) w
    (λ m. let x = member-not_apart (e.1.sources ++ flat_map (λ (e : ℕ × Edge). e.1.sources) es) w (member-right e.1.sources (flat_map (λ (e : ℕ × Edge). e.1.sources) es) w m) in absurd (cc))) in
    λ i. (e.0, record { name = e.1.name; sources = a i; targets = e.1.targets }) ∷ b i

used-edges : (w v k i : ℕ) (e : Edge) (edges : List (ℕ × Edge)) → AreDistinct (ids edges) → AreDistinct (flat_map (λ (e : ℕ × Edge). e.1.sources) edges) → item_at k edges ≡ Some e
    → slice_get e.sources i ≡ Some w
    → with_item k edges (record e { sources = slice_set e.sources i v }) ≡ map (λ (e : ℕ × Edge). (e.0, record e.1 { sources = map (put w v) e.1.sources })) edges
used-edges w v k i e [] d o h g = refl
used-edges w v k i e (f ∷ fs) d o h g = by (cases_eq k f.0) (used-edges w v k i e fs d.1 (distinct-right f.1.sources (flat_map (λ (e : ℕ × Edge). e.1.sources) fs) o))
  where
    by : (k ≡ f.0) ⊎ (k ≢ f.0)
        → (item_at k fs ≡ Some e → slice_get e.sources i ≡ Some w
        → with_item k fs (record e { sources = slice_set e.sources i v }) ≡ map (λ (e : ℕ × Edge). (e.0, record e.1 { sources = map (put w v) e.1.sources })) fs)
        → cond (eqb k f.0) (f.0, record e { sources = slice_set e.sources i v }) f ∷ with_item k fs (record e { sources = slice_set e.sources i v })
        ≡ (f.0, record f.1 { sources = map (put w v) f.1.sources }) ∷ map (λ (e : ℕ × Edge). (e.0, record e.1 { sources = map (put w v) e.1.sources })) fs
    by (inl q) r =
        let a = rw (eq-eqb k f.0 q) at h in
        let z : e ≡ f.1 = cc in
        let t : slice_get f.1.sources i ≡ Some w = rw (← z) g in
        let s = set-put w v f.1.sources i (distinct-left f.1.sources (flat_map (λ (e : ℕ × Edge). e.1.sources) fs) o) t in
        let m = with-absent k (record e { sources = slice_set e.sources i v }) fs (subst (λ j. is_apart (ids fs) j ≡ true) (sym q) d.0) in
        let b = used-absent w v fs (not_member-apart (flat_map (λ (e : ℕ × Edge). e.1.sources) fs) w
        (distinct-apart f.1.sources (flat_map (λ (e : ℕ × Edge). e.1.sources) fs) o w (get-member f.1.sources i w t))) in
        let x : record e { sources = slice_set e.sources i v } ≡ record f.1 { sources = map (put w v) f.1.sources } = rw z (λ j. record { name = f.1.name; sources = s j; targets = f.1.targets }) in
        rw (eq-eqb k f.0 q) ((λ j. (f.0, x j) ∷ m j) ∙ ap (λ l. (f.0, record f.1 { sources = map (put w v) f.1.sources }) ∷ l) (sym b))
    by (inr n) r =
        let a = rw (ne_eqb k f.0 n) at h in
        let m = member-flat (λ (e : ℕ × Edge). e.1.sources) fs (k, e) w (item-member k e fs a) (get-member e.sources i w g) in
        let b = put-absent w v f.1.sources (not_member-apart f.1.sources w (λ j. distinct-apart f.1.sources (flat_map (λ (e : ℕ × Edge). e.1.sources) fs) o w j m)) in
        let bb = sym b in
        let c = r a g in
        rw (ne_eqb k f.0 n) (λ j. (f.0, record { name = f.1.name; sources = bb j; targets = f.1.targets }) ∷ c j)

pub reroutes-consumers : ReroutesConsumers
reroutes-consumers n (Outside i) w v d o h =
    let a = set-put w v n.outputs i (distinct-left n.outputs (flat_map (λ (e : ℕ × Edge). e.1.sources) n.edges) o) h in
    let b = used-absent w v n.edges (not_member-apart (flat_map (λ (e : ℕ × Edge). e.1.sources) n.edges) w
    (distinct-apart n.outputs (flat_map (λ (e : ℕ × Edge). e.1.sources) n.edges) o w (get-member n.outputs i w h))) in
    let c = sym b in
    λ j. record { edges = c j; wires = n.wires; inputs = n.inputs; outputs = a j }
reroutes-consumers n (Port k i) w v d o h = by (item_at k n.edges) refl
  where
    by : (p : Option Edge) → item_at k n.edges ≡ p → with_consumer n (Port k i) v ≡ used_for n w v
    by None e = let x = rw e at h in absurd (cc)
    by (Some edge) e =
        let g : slice_get edge.sources i ≡ Some w = rw e at h in
        let a = used-edges w v k i edge n.edges d (distinct-right n.outputs (flat_map (λ (e : ℕ × Edge). e.1.sources) n.edges) o) e g in
        let m = member-flat (λ (e : ℕ × Edge). e.1.sources) n.edges (k, edge) w (item-member k edge n.edges e) (get-member edge.sources i w g) in
        let b = sym (put-absent w v n.outputs (not_member-apart n.outputs w (λ j. distinct-apart n.outputs (flat_map (λ (e : ℕ × Edge). e.1.sources) n.edges) o w j m))) in
        rw e (λ j. record { edges = a j; wires = n.wires; inputs = n.inputs; outputs = b j })
