-- Derivations that say where one generator goes.
use Rattle.std.proofs.Common.{◌≡◌, List, inl, inr, refl, sym, ◌∙◌, ap, subst}
use Rattle.chyp_base.specs.declared.sort.Sort.{Sort}
use Rattle.chyp_term.specs.Morphism.{Morphism, then, beside, dom}
use Rattle.chyp_term.specs.Derivation.{identity, then_left, then_right, back, chain, in_then, in_beside, by_law}
use Rattle.chyp_term.proofs.Permuted.{permuted-all}
use Rattle.chyp_term.proofs.Inverses.{id_perm}
use Rattle.chyp_theory.proofs.Running.{EdgeOf, Alike}
use Rattle.chyp_theory.proofs.Congruence.{Alike-refl, Alike-sym, Alike-trans, Alike-then, Alike-beside}
use Rattle.chyp_theory.proofs.Soundness.{assoc, unit_left, unit_right, exchange, sound}
use Rattle.chyp_theory.proofs.Arrows.{Equal, Arrow, id_arrow, equal-same, equal-assoc, equal-exchange, equal-left, equal-right}

-- s and t are equal by the laws, so that the generator k of s becomes l of t
pub record Tracked (s t : Morphism) (k : EdgeOf s) (l : EdgeOf t) : Type 1 where
  pub equal : Equal s t
  pub alike : Alike s t
  pub at : alike.to k ≡ l

pub tracked-same : {s : Morphism} {a b : List Sort} → Arrow s a b → (k : EdgeOf s) → Tracked s s k k
unfolding Alike-refl
tracked-same {s} f k = record { equal = equal-same f; alike = Alike-refl s; at = refl }

pub tracked-chain : {s t u : Morphism} {k : EdgeOf s} {l : EdgeOf t} {m : EdgeOf u} → Tracked s t k l → Tracked t u l m → Tracked s u k m
unfolding Alike-trans
tracked-chain a b = record { equal = chain a.equal b.equal; alike = Alike-trans a.alike b.alike; at = ap b.alike.to a.at ∙ b.at }

pub tracked-back : {s t : Morphism} {k : EdgeOf s} {l : EdgeOf t} → Tracked s t k l → Tracked t s l k
unfolding Alike-sym
tracked-back {k = k} a = record { equal = back a.equal; alike = Alike-sym a.alike; at = ap a.alike.from (sym a.at) ∙ a.alike.from_to k }

pub tracked-left : {s t u v : Morphism} {k : EdgeOf s} {l : EdgeOf t} {a b c : List Sort} → Tracked s t k l → Equal u v → Arrow s a b → Arrow u b c → Tracked (then s u) (then t v) (inl k) (inl l)
unfolding Alike-then
tracked-left d e f g = record {
  equal = in_then d.equal e (f.to ∙ sym g.from);
  alike = Alike-then d.alike (sound e).alike f.typed (f.to ∙ sym g.from);
  at = ap inl d.at;
}

pub tracked-right : {s t u v : Morphism} {k : EdgeOf u} {l : EdgeOf v} {a b c : List Sort} → Equal s t → Tracked u v k l → Arrow s a b → Arrow u b c → Tracked (then s u) (then t v) (inr k) (inr l)
unfolding Alike-then
tracked-right d e f g = record {
  equal = in_then d e.equal (f.to ∙ sym g.from);
  alike = Alike-then (sound d).alike e.alike f.typed (f.to ∙ sym g.from);
  at = ap inr e.at;
}

pub tracked-beside_left : {s t u v : Morphism} {k : EdgeOf s} {l : EdgeOf t} → Tracked s t k l → Equal u v → Tracked (beside s u) (beside t v) (inl k) (inl l)
unfolding Alike-beside
tracked-beside_left d e = record { equal = in_beside d.equal e; alike = Alike-beside d.alike (sound e).alike; at = ap inl d.at }

pub tracked-assoc_first : {s t u : Morphism} {a b c d : List Sort} → Arrow s a b → Arrow t b c → Arrow u c d → (k : EdgeOf s) → Tracked (then (then s t) u) (then s (then t u)) (inl (inl k)) (inl k)
unfolding assoc
tracked-assoc_first {s} {t} {u} f g h k = record { equal = equal-assoc f g h; alike = assoc s t u; at = refl }

pub tracked-assoc_second : {s t u : Morphism} {a b c d : List Sort} → Arrow s a b → Arrow t b c → Arrow u c d → (k : EdgeOf t)
    → Tracked (then (then s t) u) (then s (then t u)) (inl (inr k)) (inr (inl k))
unfolding assoc
tracked-assoc_second {s} {t} {u} f g h k = record { equal = equal-assoc f g h; alike = assoc s t u; at = refl }

pub tracked-assoc_third : {s t u : Morphism} {a b c d : List Sort} → Arrow s a b → Arrow t b c → Arrow u c d → (k : EdgeOf u) → Tracked (then (then s t) u) (then s (then t u)) (inr k) (inr (inr k))
unfolding assoc
tracked-assoc_third {s} {t} {u} f g h k = record { equal = equal-assoc f g h; alike = assoc s t u; at = refl }

pub tracked-unit_left : {s : Morphism} {a b : List Sort} → Arrow s a b → (k : EdgeOf s) → Tracked (then (identity a) s) s (inr k) k
unfolding unit_left
tracked-unit_left {s} f k = subst (λ x. Tracked (then (identity x) s) s (inr k) k) f.from
    (record { equal = by_law (then_left s) (id_perm _, f.typed, permuted-all (dom s)) f.typed; alike = unit_left s; at = refl })

pub tracked-unit_right : {s : Morphism} {a b : List Sort} → Arrow s a b → (k : EdgeOf s) → Tracked (then s (identity b)) s (inl k) k
unfolding unit_right
tracked-unit_right {s} f k = subst (λ x. Tracked (then s (identity x)) s (inl k) k) f.to
    (record { equal = by_law (then_right s) (f.typed, id_perm _, refl) f.typed; alike = unit_right s f.typed; at = refl })

pub tracked-exchange : {s t u v : Morphism} {a b c d e f : List Sort} → Arrow s a b → Arrow t c d → Arrow u b e → Arrow v d f → (k : EdgeOf u)
    → Tracked (then (beside s t) (beside u v)) (beside (then s u) (then t v)) (inr (inl k)) (inl (inr k))
unfolding exchange
tracked-exchange {s} {t} {u} {v} f g h k e = record { equal = equal-exchange f g h k; alike = exchange s t u v f.typed g.typed (f.to ∙ sym h.from) (g.to ∙ sym k.from); at = refl }

pub tracked-exchange_first : {s t u v : Morphism} {a b c d e f : List Sort} → Arrow s a b → Arrow t c d → Arrow u b e → Arrow v d f → (k : EdgeOf s)
    → Tracked (then (beside s t) (beside u v)) (beside (then s u) (then t v)) (inl (inl k)) (inl (inl k))
unfolding exchange
tracked-exchange_first {s} {t} {u} {v} f g h k e = record { equal = equal-exchange f g h k; alike = exchange s t u v f.typed g.typed (f.to ∙ sym h.from) (g.to ∙ sym k.from); at = refl }

-- a generator passes what stands beside it
pub tracked-pass : {g s : Morphism} {a b c d : List Sort} → Arrow g a b → Arrow s c d → (k : EdgeOf g)
    → Tracked (then (beside (identity a) s) (beside g (identity d))) (then (beside g (identity c)) (beside (identity b) s)) (inr (inl k)) (inl (inl k))
tracked-pass {g} {s} {a} {b} {c} {d} f h k =
    tracked-chain (tracked-exchange (id_arrow a) h f (id_arrow d) k)
    (tracked-chain (tracked-beside_left (tracked-unit_left f k) (equal-right h))
    (tracked-chain (tracked-back (tracked-beside_left (tracked-unit_right f k) (equal-left h)))
    (tracked-back (tracked-exchange_first f (id_arrow c) (id_arrow b) h k))))
