use Rattle.std.proofs.Common.{◌≡◌, ◌-◌, ◌++◌, [], ◌∷◌, ◌∙◌, ap, ap₂, arith, cond, length, map, subst, sym}
use Rattle.chyp_extract.specs.Measuring.{measures_from, of_wires}
use Rattle.chyp_extract.specs.Placing.{left_after}
use Rattle.chyp_extractor.specs.Fronts.{live_at}
use Rattle.chyp_extractor.specs.Measures.{kept}
use Rattle.chyp_extractor.specs.Tally.{begins}
use Rattle.chyp_extractor.proofs.Tallies.{crossing-end, measures-first, measures-more}
use Rattle.chyp_extractor.proofs.measuring.parts.Goals as goal

pub loop-n-init : goal.loop-n-init
loop-n-init c =
    let g = c.args.graph.now in
    record {
      tally = c.in_ok-tally.ensures.tally;
      parts = ap (map kept) (measures-first g c.valid.ensures.valid)
          ∙ ap (λ ps. ps ++ map kept (measures_from g (length g.edges - 0) (live_at g 0) (left_after g 0))) (sym c.in_ok-tally.ensures.parts);
    }

pub loop-n-preserved : goal.loop-n-preserved
loop-n-preserved c =
    let g = c.args.graph.now in
    let l = c.loop-n in
    let r = c.in_ok-rounds.ensures in
    let size = c.len-n-end.ensures in
    let t = c.loop-n-test.true in
    let few = r.few in
    let k = c.in_ok-rounds.rounds.edges.ok.0 in
    record {
      tally = c.in_ok-place.ensures.tally;
      parts =
          measures-more g c.valid.ensures.valid l.n (map kept (measures_from g (length g.edges) g.inputs g.edges)) l.tally.parts.items c.place.new.self.parts.items
          (r.some l.n (omega arith)) (omega arith) l.invariant.parts c.in_ok-place.ensures.parts;
    }

pub returns : goal.returns
returns c =
    let g = c.args.graph.now in
    let l = c.loop-n in
    let r = c.in_ok-rounds.ensures in
    let size = c.len-n-end.ensures in
    let size' = c.len.ensures in
    let t = c.loop-n-test.false in
    let end = l.auto.n-end in
    let k = c.in_ok-rounds.rounds.edges.ok.0 in
    let q : length c.in_ok-rounds.rounds.edges.items ≡ l.n = omega arith in
    let q' : c.len.result ≡ l.n = omega arith in
    c.in_ok-cross.ensures.parts
    ∙ ap₂ (λ m outs. l.tally.parts.items ++ cond (begins outs (live_at g m)) [] (kept (of_wires (length (live_at g m))) ∷ [])) q' c.outputs.ensures.outputs
    ∙ ap (λ ms. l.tally.parts.items ++ ms) (crossing-end g c.valid.ensures.valid l.n (length g.edges - l.n) (subst (λ n. left_after g n ≡ []) q r.none))
    ∙ sym l.invariant.parts
