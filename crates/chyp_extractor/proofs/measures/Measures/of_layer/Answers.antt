use Rattle.std.proofs.Common.{◌≡◌, ◌+◌, ◌<◌, ◌∙◌, arith, length, refl, subst, sym}
use Rattle.chyp_term.specs.Perm.{permuted}
use Rattle.chyp_term.proofs.Blocks.{under-members}
use Rattle.chyp_term.proofs.Permuted.{length-permuted}
use Rattle.chyp_extractor.specs.Measures.{IsHalvedDepth}
use Rattle.chyp_extractor.proofs.Capped.{kept-layer, measures_same}
use Rattle.chyp_extractor.proofs.Lists.{All-member}
use Rattle.chyp_extractor.proofs.measures.Measures.of_layer.Goals as goal

pub returns : goal.returns
returns c = λ others e.
    let g = c.args.graph.now in
    let ks = c.args.edges.now in
    let es = permuted g.edges ks in
    let p : length es ≡ length ks = length-permuted g.edges ks (under-members (length g.edges) ks (All-member (λ k. k < length g.edges) ks c.requires.within)) in
    let few = c.requires.few in
    let fits = c.ranges.wires.fits in
    let some = c.if-count-eq0.false in
    let from = c.from.ensures in
    let from' = c.from-2.ensures in
    let a = c.size_of_edges.ensures in
    let b = c.saturating_add.ensures in
    let d = c.saturating_add-2.ensures in
    let count : length ks + c.from.result ≡ length es + length others = omega arith in
    measures_same _ _ _ _ _ _ refl refl (sym p)
    ∙ kept-layer es others c.saturating_add-2.result c.halved_depth.result (omega arith) (omega arith) (omega arith) (subst (λ n. IsHalvedDepth n c.halved_depth.result) count c.halved_depth.ensures)
