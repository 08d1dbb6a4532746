use Rattle.std.proofs.Common.{◌≡◌, ◌<◌, None, length, sym, subst, arith}
use Rattle.chyp_pairs.specs.Pairs.{wire_back, wire_there, image}
use Rattle.chyp_pairs.proofs.Tables.{kept-add_wires, kept-more, kept-room_wires}
use Rattle.chyp_pairs.proofs.pairing.Pairing.add_wires.Goals as goal

pub unwrap-requires : goal.unwrap-requires
unwrap-requires c =
    let s = c.self.inside in
    let n : image wire_there s.trail.items c.args.v ≡ None = subst (λ p. image wire_there p.pairs c.args.v ≡ None) (sym c.self.view_is) c.requires.new in
    let a : c.args.v < length s.wires.items = subst (λ p. c.args.v < p.wires) (sym c.self.view_is) c.requires.there in
    let r = kept-room_wires s.trail.items s.wires.items s.wires_back.items s.edges.items s.edges_back.items _ c.args.v c.self.invariant a n in
    let l = s.trail.ok.0 in
    c.push.ensures.succeeds (omega arith)

pub invariant_of-self : goal.invariant_of-self
invariant_of-self c =
    let s = c.self.inside in
    let n : image wire_there s.trail.items c.args.v ≡ None = subst (λ p. image wire_there p.pairs c.args.v ≡ None) (sym c.self.view_is) c.requires.new in
    let m : image wire_back s.trail.items c.args.w ≡ None = subst (λ p. image wire_back p.pairs c.args.w ≡ None) (sym c.self.view_is) c.requires.untaken in
    let a : c.args.v < length s.wires.items = subst (λ p. c.args.v < p.wires) (sym c.self.view_is) c.requires.there in
    let b : c.args.w < length s.wires.items = subst (λ p. c.args.w < p.wires) (sym c.self.view_is) c.requires.within in
    let items = rw c.unwrap.ensures at c.push.ensures.items in
    rw (c.v.view_is, c.w.view_is, items)
    (kept-more _ _ _ _ _ _ _ c.push.ensures.capacity (kept-add_wires s.trail.items s.wires.items s.wires_back.items s.edges.items s.edges_back.items _ c.args.v c.args.w c.self.invariant a b n m))
