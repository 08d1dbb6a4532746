-- Being alike is an equivalence, and a congruence of composition and tensor.
use Rattle.std.proofs.Common.{ℕ, ◌+◌, ◌≡◌, List, ◌++◌, length, take, drop, ◌⊎◌, inl, inr, refl, sym, ◌∙◌, ap, ap₂, subst, arith, length-append, length-take, length-drop}
use Rattle.std.proofs.lemmas.List.{length-map}
use mathlib.Core.Path.{fun_ext}
use Rattle.chyp_term.specs.Perm.{count_from}
use Rattle.chyp_term.specs.Morphism.{Morphism, generator, permutation, then, beside, dom, cod, IsTyped}
use Rattle.chyp_term.proofs.Closure.{Under-perm}
use Rattle.chyp_theory.proofs.Running.{EdgeOf, label_of, run, src, Alike}
use Rattle.chyp_term.proofs.Permuted.{Under, length-permuted, length-count_from}

-- as many wires come out as the codomain has
pub length-run : {V : Type 0} (t : Morphism) → IsTyped t → (mk : EdgeOf t → ℕ → V) (live : List V) → length live ≡ length (dom t) → length (run t mk live) ≡ length (cod t)
length-run (generator n a b) ty mk live h = length-map (count_from 0 (length b)) (mk tt) ∙ length-count_from 0 (length b)
length-run (permutation a p) ty mk live h =
    length-permuted live p (subst (λ m. Under m p) (sym h) (Under-perm _ p ty)) ∙ sym (length-permuted a p (Under-perm _ p ty))
length-run (then s t) ty mk live h = length-run t ty.1 _ _ (length-run s ty.0 _ live h ∙ ap length ty.2)
length-run (beside s t) ty mk live h =
    let e = length-append (dom s) (dom t) in
    length-append (run s (λ e. mk (inl e)) (take (length (dom s)) live)) _
    ∙ ap₂ (λ m n. m + n) (length-run s ty.0 _ _ (length-take (length (dom s)) live ∙ omega arith)) (length-run t ty.1 _ _ (length-drop (length (dom s)) live ∙ omega arith))
    ∙ sym (length-append (cod s) (cod t))

unfoldable pub Alike-refl : (s : Morphism) → Alike s s
Alike-refl s = record { doms = refl; cods = refl; to = λ e. e; from = λ e. e; to_from = λ e. refl; from_to = λ e. refl; labels = λ e. refl; runs = λ mk live h. refl; srcs = λ mk live h e. refl }

unfoldable pub Alike-sym : {s t : Morphism} → Alike s t → Alike t s
Alike-sym {s} {t} a = record {
  doms = sym a.doms;
  cods = sym a.cods;
  to = a.from;
  from = a.to;
  to_from = a.from_to;
  from_to = a.to_from;
  labels = λ e. sym (a.labels (a.from e)) ∙ ap (label_of t) (a.to_from e);
  runs = λ mk live h. sym (a.runs (λ e. mk (a.from e)) live (h ∙ ap length (sym a.doms)) ∙ ap (λ f. run s f live) (fun_ext (λ e. ap mk (a.from_to e))));
  srcs = λ mk live h e. sym (sym (ap (src t (λ e. mk (a.from e)) live) (a.to_from e)) ∙ a.srcs (λ e. mk (a.from e)) live (h ∙ ap length (sym a.doms)) (a.from e)
      ∙ ap (λ f. src s f live (a.from e)) (fun_ext (λ e. ap mk (a.from_to e))));
}

unfoldable pub Alike-trans : {s t u : Morphism} → Alike s t → Alike t u → Alike s u
Alike-trans {s} {t} {u} a b = record {
  doms = a.doms ∙ b.doms;
  cods = a.cods ∙ b.cods;
  to = λ e. b.to (a.to e);
  from = λ e. a.from (b.from e);
  to_from = λ e. ap b.to (a.to_from (b.from e)) ∙ b.to_from e;
  from_to = λ e. ap a.from (b.from_to (a.to e)) ∙ a.from_to e;
  labels = λ e. b.labels (a.to e) ∙ a.labels e;
  runs = λ mk live h. b.runs mk live (h ∙ ap length a.doms) ∙ a.runs (λ e. mk (b.to e)) live h;
  srcs = λ mk live h e. b.srcs mk live (h ∙ ap length a.doms) (a.to e) ∙ a.srcs (λ e. mk (b.to e)) live h e;
}

abbrev pub both : {A B C D : Type 0} → (A → B) → (C → D) → A ⊎ C → B ⊎ D
both f g (inl x) = inl (f x)
both f g (inr y) = inr (g y)

unfoldable pub Alike-then : {a b c d : Morphism} → Alike a b → Alike c d → IsTyped a → cod a ≡ dom c → Alike (then a c) (then b d)
Alike-then {a} {b} {c} {d} f g ty m = record {
  doms = f.doms;
  cods = g.cods;
  to = both f.to g.to;
  from = both f.from g.from;
  to_from = elim [ inl e ↦ ap inl (f.to_from e) | inr e ↦ ap inr (g.to_from e) ];
  from_to = elim [ inl e ↦ ap inl (f.from_to e) | inr e ↦ ap inr (g.from_to e) ];
  labels = elim [ inl e ↦ f.labels e | inr e ↦ g.labels e ];
  runs = λ mk live h. rw (f.runs (λ e. mk (inl e)) live h) (g.runs (λ e. mk (inr e)) _ (length-run a ty _ live h ∙ ap length m));
  srcs = λ mk live h. elim [ inl e ↦ f.srcs (λ e. mk (inl e)) live h e | inr e ↦ rw (f.runs (λ e. mk (inl e)) live h) (g.srcs (λ e. mk (inr e)) _ (length-run a ty _ live h ∙ ap length m) e) ];
}

pub length-take_dom : {V : Type 0} (a c : Morphism) (live : List V) → length live ≡ length (dom a ++ dom c) → length (take (length (dom a)) live) ≡ length (dom a)
length-take_dom a c live h = let e = length-append (dom a) (dom c) in length-take (length (dom a)) live ∙ omega arith

pub length-drop_dom : {V : Type 0} (a c : Morphism) (live : List V) → length live ≡ length (dom a ++ dom c) → length (drop (length (dom a)) live) ≡ length (dom c)
length-drop_dom a c live h = let e = length-append (dom a) (dom c) in length-drop (length (dom a)) live ∙ omega arith

unfoldable pub Alike-beside : {a b c d : Morphism} → Alike a b → Alike c d → Alike (beside a c) (beside b d)
Alike-beside {a} {b} {c} {d} f g = record {
  doms = ap₂ (λ x y. x ++ y) f.doms g.doms;
  cods = ap₂ (λ x y. x ++ y) f.cods g.cods;
  to = both f.to g.to;
  from = both f.from g.from;
  to_from = elim [ inl e ↦ ap inl (f.to_from e) | inr e ↦ ap inr (g.to_from e) ];
  from_to = elim [ inl e ↦ ap inl (f.from_to e) | inr e ↦ ap inr (g.from_to e) ];
  labels = elim [ inl e ↦ f.labels e | inr e ↦ g.labels e ];
  runs = λ mk live h. rw (← f.doms) (ap₂ (λ x y. x ++ y) (f.runs _ _ (length-take_dom a c live h)) (g.runs _ _ (length-drop_dom a c live h)));
  srcs = λ mk live h. elim [ inl e ↦ rw (← f.doms) (f.srcs (λ e. mk (inl e)) _ (length-take_dom a c live h) e) | inr e ↦ rw (← f.doms) (g.srcs (λ e. mk (inr e)) _ (length-drop_dom a c live h) e) ];
}
