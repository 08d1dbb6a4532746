use Rattle.chyp_extract.specs.Extraction.{extracted}
use Rattle.chyp_extract.specs.Measuring.{measures_of}
use Rattle.chyp_extractor.specs.declared.measures.Measures.{Measures}
use Rattle.chyp_extractor.specs.Measures.{kept}
use Rattle.chyp_extractor.proofs.Capped.{of_ok, told}
use Rattle.chyp_extractor.proofs.measuring.measure.Goals as goal

pub returns-clause-size : goal.returns-clause-size
returns-clause-size c =
    let g = c.args.graph.now in
    of_ok (λ (m : Measures). m.size) c.measured.result (kept (measures_of (extracted g))) (told g c.valid.ensures.valid c.measured.result c.measured.ensures)

pub returns-clause-depth : goal.returns-clause-depth
returns-clause-depth c =
    let g = c.args.graph.now in
    of_ok (λ (m : Measures). m.depth) c.measured.result (kept (measures_of (extracted g))) (told g c.valid.ensures.valid c.measured.result c.measured.ensures)

pub returns-clause-gens : goal.returns-clause-gens
returns-clause-gens c =
    let g = c.args.graph.now in
    of_ok (λ (m : Measures). m.gens) c.measured.result (kept (measures_of (extracted g))) (told g c.valid.ensures.valid c.measured.result c.measured.ensures)
