use Rattle.chyp_term.specs.Term.{morphisms_of}
use Rattle.chyp_term.proofs.Closure.{get-item}
use Rattle.chyp_extract.specs.Extraction.{generator_of}
use Rattle.chyp_extractor.proofs.Lists.{row-next}
use Rattle.chyp_extractor.proofs.layer.push_generators.Goals as goal

pub loop-k-preserved : goal.loop-k-preserved
loop-k-preserved c =
    let g = c.args.graph.now in
    let ks = c.args.edges.now in
    let i = c.loop-k.k-index in
    row-next (generator_of g) g.edges ks i c.k-item.result (morphisms_of c.args.row.now.items) c.loop-k.row.items c.push.new.self.items c.in_ok-generator_of.field-0
    (get-item ks i c.k-item.result c.loop-k-test.true c.k-item.is) c.in_ok-generator_of.ensures c.loop-k.invariant c.in_ok-push.ensures.items
