-- An occurrence gives a context.
use Rattle.std.proofs.Common.{ℕ, ◌≡◌, true, false, List, ◌++◌, length, drop, ◌⊎◌, inl, inr, refl, sym, ◌∙◌, ap, subst}
use Rattle.chyp_base.specs.declared.sort.Sort.{Sort}
use Rattle.chyp_term.specs.Derivation.{identity, chain, IsEquation}
use Rattle.chyp_term.specs.Morphism.{Morphism, permutation, then, beside, dom, cod, IsTyped}
use Rattle.chyp_term.specs.Perm.{permuted}
use Rattle.chyp_term.specs.Positions.{is_apart}
use Rattle.chyp_term.specs.Rewriting.{RewritesInContext}
use Rattle.chyp_theory.proofs.Arrows.{Arrow, then_arrow}
use Rattle.chyp_theory.proofs.Layers.{arrow_of}
use Rattle.chyp_theory.proofs.Renaming.{Target, same-run}
use Rattle.chyp_theory.proofs.Running.{EdgeOf}
use Rattle.chyp_theory.proofs.Soundness.{sound}
use Rattle.chyp_graph.specs.GraphOf.{graph_of}
use Rattle.chyp_graph.specs.PlainGraph.{PlainGraph}
use Rattle.chyp_laws.proofs.Draws.{Draws, draw_s, draws_along, along_edge}
use Rattle.chyp_laws.specs.Rewriting.{IsRewritten, RewritesAreGraphs, GivesContext}
use Rattle.chyp_pattern.specs.Occurrence.{IsReached, IsOccurrence}
use Rattle.chyp_laws.proofs.Coloured.{Coloured, colour, named-from}
use Rattle.chyp_laws.proofs.Context.{HasContext, context_occurrence, other_side}
use Rattle.chyp_laws.proofs.Image.{Parted, to_at, target, mouth_is}
use Rattle.chyp_laws.proofs.Middle.{to_mid, im, p, q, K, PA, XA, QA, form, form_named, mouth_drop}
use Rattle.chyp_theory.proofs.Naming.{Named, either, named-chain, named-then, named-assoc, named-rename, named-back, named-same, none}
use Rattle.chyp_laws.proofs.Placed.{context, Placed}

module _ {l : Morphism} {lG g : PlainGraph} {dl : Draws l lG} {es ws : List ℕ} (parts : Parted l lG g dl es ws) where
  open parts use {first as A, middle as M, last as L, typed as ty, pattern_typed as tl, draws as d, occurs as o, is_first as hA, is_middle as hM, is_last as hL}

  -- the wires beside l
  abbrev pub kept : List Sort
  kept = K parts

  abbrev pub P : Morphism
  P = permutation (dom M) (p parts)

  abbrev pub Q : Morphism
  Q = permutation (kept ++ cod l) (q parts)

  abbrev pub X : Morphism
  X = beside (identity kept) l

  abbrev pub EdgeT : Type 0
  EdgeT = EdgeOf A ⊎ (EdgeOf M ⊎ EdgeOf L)

  abbrev pub at_A : EdgeOf A → EdgeT
  at_A e = inl e

  abbrev pub at_M : EdgeOf M → EdgeT
  at_M e = inr (inl e)

  abbrev pub at_L : EdgeOf L → EdgeT
  at_L e = inr (inr e)

  abbrev pub at_X : ⊥ ⊎ EdgeOf l → EdgeT
  at_X = either none (λ e. inr (inl (im parts e)))

  AA : Arrow A (dom A) (cod A)
  AA = arrow_of ty.0

  MA : Arrow M (cod A) (cod M)
  MA = record { typed = ty.1.0; from = sym ty.2; to = refl }

  LA : Arrow L (cod M) (cod L)
  LA = record { typed = ty.1.1; from = sym ty.1.2; to = refl }

  PA' : Arrow P (cod A) (kept ++ dom l)
  PA' = record { typed = (PA parts).typed; from = sym ty.2; to = (PA parts).to }

  XQ : Arrow (then X Q) (kept ++ dom l) (cod M)
  XQ = then_arrow (XA parts) (QA parts)

  QL : Arrow (then Q L) (kept ++ cod l) (cod L)
  QL = then_arrow (QA parts) LA

  form_at : Named M (form parts) at_M (either none (either at_X none))
  form_at = record {
    equal = (form_named parts).equal;
    alike =
        (form_named parts).alike;
    same = λ m. at ((form_named parts).alike.to m)
        ∙ ap at_M ((form_named parts).same m);
  }
    where
      at : (x : EdgeOf (form parts))
          → either none (either at_X none) x ≡ at_M (to_mid (im parts) x)
      at (inl e) = absurd e
      at (inr (inl (inl e))) = absurd e
      at (inr (inl (inr e))) = refl
      at (inr (inr e)) = absurd e

  inner : Named (then M L) (then P (then X (then Q L))) (either at_M at_L) (either none (either at_X (either none at_L)))
  inner =
      named-chain (named-then form_at (named-same LA at_L) MA LA)
      (named-chain (named-assoc PA' XQ LA none (either at_X none) at_L)
      (named-then (named-same PA' none)
      (named-assoc (XA parts) (QA parts) LA at_X none at_L) PA' (then_arrow XQ LA)))

  abbrev pub new_name : (EdgeOf A ⊎ ⊥) ⊎ ((⊥ ⊎ EdgeOf l) ⊎ (⊥ ⊎ EdgeOf L)) → EdgeT
  new_name = either (either at_A none) (either at_X (either none at_L))

  -- the term is the context of l
  pub whole : Named (then A (then M L)) (context kept (then A P) (then Q L) l) (λ e. e) new_name
  whole = named-rename
      (named-chain (named-then (named-same AA at_A) inner AA (then_arrow MA LA))
      (named-back (named-assoc AA PA' (then_arrow (XA parts) QL) at_A none (either at_X (either none at_L)))))
      (elim [ inl e ↦ refl | inr (inl e) ↦ refl | inr (inr e) ↦ refl ]) (λ e. refl)

  new-from : (x : EdgeOf (context kept (then A P) (then Q L) l)) → whole.alike.from x ≡ new_name x
  new-from x = named-from {s = then A (then M L)} {t = context kept (then A P) (then Q L) l} {B = new_name} whole x

  -- where l stands at the occurrence
  pub whole_placed : Placed kept (then A P) (then Q L) l lG g dl es ws
  unfolding draws_along
  whole_placed = record {
    d = draws_along whole.alike d;
    es_size = o.edge_count;
    ws_size = o.wire_count;
    es_at = λ e. sym (ap d.edge (new-from (inr (inl (inr e)))) ∙ to_at parts e);
    ws_target = λ e i h. sym (ap (λ z. d.wire (Target z i)) (new-from (inr (inl (inr e)))) ∙ target parts e i h);
    ws_in = mouth_is parts ∙ sym (
        ap (λ z. drop (length kept) (permuted z (p parts)))
        (same-run A _ (λ e i. d.wire (Target (inl e) i)) (λ e i h. ap (λ z. d.wire (Target z i)) (new-from (inl (inl e)))) g.inputs)
        ∙ mouth_drop parts);
  }

-- an occurrence in a graph that t draws gives a context of l that equals t
pub occurrence_context : {l t : Morphism} (tl : IsTyped l) (ty : IsTyped t) {lG g : PlainGraph} (dl : Draws l lG) (dt : Draws t g) {es ws : List ℕ}
    → IsOccurrence lG g es ws → HasContext l t lG g dl es ws
occurrence_context {l} {t} tl ty {lG} {g} dl dt {es} {ws} o =
    record {
      kept = kept parts;
      before = then c.first (P parts);
      after = then (Q parts) c.last;
      left = chain c.named.equal (whole parts).equal;
      placed = whole_placed parts;
    }
  where
    c : Coloured t g dt es ws
    c = colour ty tl dt dl o

    d : Draws (then c.first (then c.middle c.last)) g
    d = draws_along c.named.alike dt

    edge_is : (x : EdgeOf (then c.first (then c.middle c.last))) → d.edge x ≡ dt.edge (c.name x)
    edge_is x = along_edge c.named.alike dt x ∙ ap dt.edge (named-from c.named x)

    first_at : (e : EdgeOf c.first) → (¬ (IsReached g es ws (d.edge (inl e)))) × (is_apart es (d.edge (inl e)) ≡ true)
    first_at e = ((λ r. (c.is_first e).0 (subst (IsReached g es ws) (edge_is (inl e)) r)), ap (is_apart es) (edge_is (inl e)) ∙ (c.is_first e).1)

    middle_at : (e : EdgeOf c.middle) → is_apart es (d.edge (inr (inl e))) ≡ false
    middle_at e = ap (is_apart es) (edge_is (inr (inl e))) ∙ c.is_middle e

    last_at : (e : EdgeOf c.last) → IsReached g es ws (d.edge (inr (inr e)))
    last_at e = subst (IsReached g es ws) (sym (edge_is (inr (inr e)))) (c.is_last e)

    parts : Parted l lG g dl es ws
    parts = record {
      first = c.first;
      middle = c.middle;
      last = c.last;
      typed = (sound c.named.equal).right;
      pattern_typed = tl;
      draws = d;
      occurs = o;
      is_first = first_at;
      is_middle = middle_at;
      is_last = last_at;
    }

-- an occurrence gives a context
pub occurrence_gives : (l r t : Morphism) → IsEquation l r → IsTyped t → (es ws : List ℕ) → IsOccurrence (graph_of l) (graph_of t) es ws
    → GivesContext l r t es ws
occurrence_gives l r t rule ty es ws o =
    let dl = draw_s l rule.left in
    let h = occurrence_context rule.left ty dl (draw_s t ty) o in
    record {
      kept = h.kept;
      before = h.before;
      after = h.after;
      left = h.left;
      right = λ u tu m. other_side rule (draw_s r rule.right) h u tu m;
    }

-- rewriting in a context is rewriting of graphs
pub rewrites_are_graphs : RewritesAreGraphs
rewrites_are_graphs l r t u rule goal = (context_occurrence l r t u rule, λ w. there w (occurrence_gives l r t rule goal.left w.es w.ws w.occurs))
  where
    there : (w : IsRewritten l r t u) → GivesContext l r t w.es w.ws → RewritesInContext l r t u
    there w h = record { kept = h.kept; before = h.before; after = h.after; left = h.left; right = h.right u goal.right w.same }
