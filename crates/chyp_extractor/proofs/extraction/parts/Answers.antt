use Rattle.std.proofs.Common.{◌≡◌, ◌-◌, ◌++◌, [], ◌∙◌, ap, arith, length, subst, sym}
use Rattle.chyp_term.specs.Term.{morphisms_of}
use Rattle.chyp_extract.specs.Extraction.{parts_from}
use Rattle.chyp_extract.specs.Placing.{left_after}
use Rattle.chyp_extractor.specs.Crossing.{IsReordered}
use Rattle.chyp_extractor.specs.Fronts.{live_at}
use Rattle.chyp_extractor.proofs.Fronts.{end-reordered, parts-first, parts-more}
use Rattle.chyp_extractor.proofs.extraction.parts.Goals as goal

pub loop-n-init : goal.loop-n-init
loop-n-init c =
    let g = c.args.graph.now in
    record {
      front = c.in_ok-front.ensures.front;
      parts = parts-first g c.valid.ensures.valid ∙ ap (λ ps. morphisms_of ps ++ parts_from g (length g.edges - 0) (live_at g 0) (left_after g 0)) (sym c.in_ok-front.ensures.parts);
    }

pub loop-n-preserved : goal.loop-n-preserved
loop-n-preserved c =
    let g = c.args.graph.now in
    let l = c.loop-n in
    let r = c.in_ok-rounds.ensures in
    let size = c.len-n-end.ensures in
    let t = c.loop-n-test.true in
    let few = r.few in
    let k = c.in_ok-rounds.rounds.edges.ok.0 in
    record {
      front = c.in_ok-place.ensures.front;
      parts =
          parts-more g c.valid.ensures.valid l.n (parts_from g (length g.edges) g.inputs g.edges) (morphisms_of l.front.parts.items) (morphisms_of c.place.new.self.parts.items)
          (r.some l.n (omega arith)) (omega arith) l.invariant.parts c.in_ok-place.ensures.parts;
    }

pub cross-requires-clause-reordered : goal.cross-requires-clause-reordered
cross-requires-clause-reordered c =
    let g = c.args.graph.now in
    let l = c.loop-n in
    let r = c.in_ok-rounds.ensures in
    let size = c.len-n-end.ensures in
    let t = c.loop-n-test.false in
    let end = l.auto.n-end in
    let k = c.in_ok-rounds.rounds.edges.ok.0 in
    let q : length c.in_ok-rounds.rounds.edges.items ≡ l.n = omega arith in
    subst (λ live. IsReordered g live c.outputs.result.now) (sym l.invariant.front.live)
    (subst (IsReordered g (live_at g l.n)) (sym c.outputs.ensures.outputs)
    (end-reordered g c.valid.ensures.valid c.valid.ensures.few_wires l.n (subst (λ n. left_after g n ≡ []) q r.none)))
