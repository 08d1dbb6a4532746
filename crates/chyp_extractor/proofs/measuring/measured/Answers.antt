use Rattle.std.proofs.Common.{◌≡◌, ◌≤◌, ◌∙◌, ap, arith, length, sym, vec_len}
use Rattle.std.proofs.lemmas.Bool.{eqb-false}
use Rattle.chyp_term.specs.Halving.{halved_in}
use Rattle.chyp_extract.specs.Measuring.{of_wires}
use Rattle.chyp_extractor.specs.Measures.{both, kept}
use Rattle.chyp_extractor.proofs.Capped.{measured-some}
use Rattle.chyp_extractor.proofs.measuring.measured.Goals as goal

pub returns : goal.returns
returns c =
    let parts = c.in_ok-parts.parts.items in
    let ok = c.in_ok-parts.parts.ok.0 in
    let not_none : vec_len c.in_ok-parts.parts ≡ 0 → ⊥ = eqb-false (vec_len c.in_ok-parts.parts) 0 (sym c.if-is_empty.ensures) in
    let some : 1 ≤ length parts = omega arith in
    c.halved.ensures ∙ ap (halved_in (kept (of_wires 0)) both) c.deref.ensures.value ∙ measured-some c.args.graph.now parts c.in_ok-parts.ensures some
