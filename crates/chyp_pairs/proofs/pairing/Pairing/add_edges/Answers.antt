use Rattle.std.proofs.Common.{◌≡◌, ◌<◌, None, length, sym, subst, arith}
use Rattle.chyp_pairs.specs.Pairs.{edge_back, edge_there, image}
use Rattle.chyp_pairs.proofs.Tables.{kept-add_edges, kept-more, kept-room_edges}
use Rattle.chyp_pairs.proofs.pairing.Pairing.add_edges.Goals as goal

pub unwrap-requires : goal.unwrap-requires
unwrap-requires c =
    let s = c.self.inside in
    let n : image edge_there s.trail.items c.args.e ≡ None = subst (λ p. image edge_there p.pairs c.args.e ≡ None) (sym c.self.view_is) c.requires.new in
    let a : c.args.e < length s.edges.items = subst (λ p. c.args.e < p.edges) (sym c.self.view_is) c.requires.there in
    let r = kept-room_edges s.trail.items s.wires.items s.wires_back.items s.edges.items s.edges_back.items _ c.args.e c.self.invariant a n in
    let l = s.trail.ok.0 in
    c.push.ensures.succeeds (omega arith)

pub invariant_of-self : goal.invariant_of-self
invariant_of-self c =
    let s = c.self.inside in
    let n : image edge_there s.trail.items c.args.e ≡ None = subst (λ p. image edge_there p.pairs c.args.e ≡ None) (sym c.self.view_is) c.requires.new in
    let m : image edge_back s.trail.items c.args.f ≡ None = subst (λ p. image edge_back p.pairs c.args.f ≡ None) (sym c.self.view_is) c.requires.untaken in
    let a : c.args.e < length s.edges.items = subst (λ p. c.args.e < p.edges) (sym c.self.view_is) c.requires.there in
    let b : c.args.f < length s.edges.items = subst (λ p. c.args.f < p.edges) (sym c.self.view_is) c.requires.within in
    let items = rw c.unwrap.ensures at c.push.ensures.items in
    rw (c.e.view_is, c.f.view_is, items)
    (kept-more _ _ _ _ _ _ _ c.push.ensures.capacity (kept-add_edges s.trail.items s.wires.items s.wires_back.items s.edges.items s.edges_back.items _ c.args.e c.args.f c.self.invariant a b n m))
