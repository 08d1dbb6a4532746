use Rattle.std.proofs.Common.{◌≡◌, ◌++◌, ◌∷◌, [], ◌∙◌, ap, subst, arith}
use Rattle.std.specs.Vec.{vec_capacity}
use Rattle.chyp_pairs.specs.Pairing.{IsKept}
use Rattle.chyp_pairs.specs.declared.pair.Pair.TheVariants.{Wires, Edges}
use Rattle.chyp_pairs.proofs.Tables.{kept-drop_edges, kept-drop_wires, kept-edges_within, kept-wires_within, looked-within}
use Rattle.chyp_pairs.proofs.pairing.Pairing.drop_last.Goals as goal

pub index_mut-requires : goal.index_mut-requires
index_mut-requires c =
    let s = c.self.inside in
    let x = c.in-Wires.v in
    let y = c.in-Wires.w in
    let items : s.trail.items ≡ c.pop.new.self.items ++ Wires x y ∷ [] = c.in-Some.ensures.items ∙ ap (λ p. c.pop.new.self.items ++ p ∷ []) c.in-Wires.is in
    let k = subst (λ ps. IsKept ps s.wires.items s.wires_back.items s.edges.items s.edges_back.items (vec_capacity s.trail)) items c.self.invariant in
    let r = kept-wires_within c.pop.new.self.items s.wires.items s.wires_back.items s.edges.items s.edges_back.items _ x y k in
    let l = looked-within s.wires.items x y r.0 in
    let e = c.v.view_is in
    let n = s.wires.ok.0 in
    omega arith

pub index_mut-requires-in-Wires : goal.index_mut-requires-in-Wires
index_mut-requires-in-Wires c =
    let s = c.self.inside in
    let x = c.in-Wires.v in
    let y = c.in-Wires.w in
    let items : s.trail.items ≡ c.pop.new.self.items ++ Wires x y ∷ [] = c.in-Some.ensures.items ∙ ap (λ p. c.pop.new.self.items ++ p ∷ []) c.in-Wires.is in
    let k = subst (λ ps. IsKept ps s.wires.items s.wires_back.items s.edges.items s.edges_back.items (vec_capacity s.trail)) items c.self.invariant in
    let r = kept-wires_within c.pop.new.self.items s.wires.items s.wires_back.items s.edges.items s.edges_back.items _ x y k in
    let l = looked-within s.wires_back.items y x r.1 in
    let e = c.w.view_is in
    let n = s.wires_back.ok.0 in
    omega arith

pub invariant_of-self-in-Wires : goal.invariant_of-self-in-Wires
invariant_of-self-in-Wires c =
    let s = c.self.inside in
    let x = c.in-Wires.v in
    let y = c.in-Wires.w in
    let items : s.trail.items ≡ c.pop.new.self.items ++ Wires x y ∷ [] = c.in-Some.ensures.items ∙ ap (λ p. c.pop.new.self.items ++ p ∷ []) c.in-Wires.is in
    let k = subst (λ ps. IsKept ps s.wires.items s.wires_back.items s.edges.items s.edges_back.items (vec_capacity s.trail)) items c.self.invariant in
    rw (c.v.view_is, c.w.view_is, c.pop.ensures.capacity)
    (kept-drop_wires c.pop.new.self.items s.wires.items s.wires_back.items s.edges.items s.edges_back.items _ x y k)

pub index_mut-requires-in-Edges : goal.index_mut-requires-in-Edges
index_mut-requires-in-Edges c =
    let s = c.self.inside in
    let x = c.in-Edges.e in
    let y = c.in-Edges.f in
    let items : s.trail.items ≡ c.pop.new.self.items ++ Edges x y ∷ [] = c.in-Some.ensures.items ∙ ap (λ p. c.pop.new.self.items ++ p ∷ []) c.in-Edges.is in
    let k = subst (λ ps. IsKept ps s.wires.items s.wires_back.items s.edges.items s.edges_back.items (vec_capacity s.trail)) items c.self.invariant in
    let r = kept-edges_within c.pop.new.self.items s.wires.items s.wires_back.items s.edges.items s.edges_back.items _ x y k in
    let l = looked-within s.edges.items x y r.0 in
    let e = c.e.view_is in
    let n = s.edges.ok.0 in
    omega arith

pub index_mut-requires-in-Edges-2 : goal.index_mut-requires-in-Edges-2
index_mut-requires-in-Edges-2 c =
    let s = c.self.inside in
    let x = c.in-Edges.e in
    let y = c.in-Edges.f in
    let items : s.trail.items ≡ c.pop.new.self.items ++ Edges x y ∷ [] = c.in-Some.ensures.items ∙ ap (λ p. c.pop.new.self.items ++ p ∷ []) c.in-Edges.is in
    let k = subst (λ ps. IsKept ps s.wires.items s.wires_back.items s.edges.items s.edges_back.items (vec_capacity s.trail)) items c.self.invariant in
    let r = kept-edges_within c.pop.new.self.items s.wires.items s.wires_back.items s.edges.items s.edges_back.items _ x y k in
    let l = looked-within s.edges_back.items y x r.1 in
    let e = c.f.view_is in
    let n = s.edges_back.ok.0 in
    omega arith

pub invariant_of-self-in-Edges : goal.invariant_of-self-in-Edges
invariant_of-self-in-Edges c =
    let s = c.self.inside in
    let x = c.in-Edges.e in
    let y = c.in-Edges.f in
    let items : s.trail.items ≡ c.pop.new.self.items ++ Edges x y ∷ [] = c.in-Some.ensures.items ∙ ap (λ p. c.pop.new.self.items ++ p ∷ []) c.in-Edges.is in
    let k = subst (λ ps. IsKept ps s.wires.items s.wires_back.items s.edges.items s.edges_back.items (vec_capacity s.trail)) items c.self.invariant in
    rw (c.e.view_is, c.f.view_is, c.pop.ensures.capacity)
    (kept-drop_edges c.pop.new.self.items s.wires.items s.wires_back.items s.edges.items s.edges_back.items _ x y k)
