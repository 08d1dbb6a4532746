use Rattle.std.proofs.Common.{ℕ, ◌≡◌, ◌<◌, ◌∙◌, All, IfOk, List, length, map, slice_index, subst, sym, ap}
use Rattle.std.proofs.lemmas.Result.{IfOk-weaker}
use Rattle.chyp_match.specs.View.{IsIn, Net}
use Rattle.chyp_work.specs.Board.{edge_of, net}
use Rattle.chyp_work.specs.Step.{edge_places, wire_places}
use Rattle.chyp_work.proofs.Boards.{ids-map}
use Rattle.chyp_work.proofs.Joining.{net-ids}
use Rattle.chyp_work.proofs.Numbers.{numbers-back, numbers-there}
use Rattle.chyp_work.proofs.work.Work.numbered.Goals as goal

pub returns-clause-edges_there : goal.returns-clause-edges_there
returns-clause-edges_there c =
    let b = c.self.inside.board in
    let ks = c.args.at.now.edges in
    let within = subst (λ (n : Net). All (λ k. k < length n.edges) ks) (sym c.self.view_is) c.requires.edges in
    let same = ap (λ (l : List ℕ). map (slice_index l) ks) (sym (ids-map edge_of b.edges.items)) in
    subst (λ (n : Net). IfOk c.numbered_in.result (λ o. All (λ k. IsIn k n.edges) o.edges)) c.self.view_is
    (IfOk-weaker c.numbered_in.result _ _ (λ o e. subst (All (λ k. IsIn k (net b).edges)) (sym (e ∙ same)) (numbers-there (net b).edges ks within)) c.numbered_in.ensures.edges)

pub returns-clause-wires_there : goal.returns-clause-wires_there
returns-clause-wires_there c =
    let b = c.self.inside.board in
    let ws = c.args.at.now.wires in
    let within = subst (λ (n : Net). All (λ k. k < length n.wires) ws) (sym c.self.view_is) c.requires.wires in
    let same = ap (λ (l : List ℕ). map (slice_index l) ws) (sym (net-ids b)) in
    subst (λ (n : Net). IfOk c.numbered_in.result (λ o. All (λ w. IsIn w n.wires) o.wires)) c.self.view_is
    (IfOk-weaker c.numbered_in.result _ _ (λ o e. subst (All (λ w. IsIn w (net b).wires)) (sym (e ∙ same)) (numbers-there (net b).wires ws within)) c.numbered_in.ensures.wires)

pub returns-clause-edges : goal.returns-clause-edges
returns-clause-edges c =
    let b = c.self.inside.board in
    let ks = c.args.at.now.edges in
    let within = subst (λ (n : Net). All (λ k. k < length n.edges) ks) (sym c.self.view_is) c.requires.edges in
    let same = ap (λ (l : List ℕ). map (slice_index l) ks) (sym (ids-map edge_of b.edges.items)) in
    subst (λ (n : Net). IfOk c.numbered_in.result (λ o. edge_places n o.edges ≡ ks)) c.self.view_is
    (IfOk-weaker c.numbered_in.result _ _ (λ o e. ap (edge_places (net b)) (e ∙ same) ∙ numbers-back (net b).edges ks within c.self.invariant.sound.edges_apart) c.numbered_in.ensures.edges)

pub returns-clause-wires : goal.returns-clause-wires
returns-clause-wires c =
    let b = c.self.inside.board in
    let ws = c.args.at.now.wires in
    let within = subst (λ (n : Net). All (λ k. k < length n.wires) ws) (sym c.self.view_is) c.requires.wires in
    let same = ap (λ (l : List ℕ). map (slice_index l) ws) (sym (net-ids b)) in
    subst (λ (n : Net). IfOk c.numbered_in.result (λ o. wire_places n o.wires ≡ ws)) c.self.view_is
    (IfOk-weaker c.numbered_in.result _ _ (λ o e. ap (wire_places (net b)) (e ∙ same) ∙ numbers-back (net b).wires ws within c.self.invariant.sound.wires_apart) c.numbered_in.ensures.wires)
