use Rattle.std.proofs.Common.{◌∙◌, ap, map}
use Rattle.chyp_term.specs.Equation.{equations_of}
use Rattle.chyp_term.specs.Term.{morphism_of}
use Rattle.chyp_iso.proofs.Steps.{when-false, when-true}
use Rattle.chyp_simp.specs.Comparing.{different, equal, first_at_limit, first_wide, second_at_limit, second_wide}
use Rattle.chyp_simp.specs.declared.ending.Ending.TheVariants.{AtLimit, NormalForm, TooWide}
use Rattle.chyp_simplifier.specs.Rule.{graphs_of}
use Rattle.chyp_simplifier.proofs.Rules.{ends-from}
use Rattle.chyp_simplifier.proofs.comparing.compare.Goals as goal

pub returns-in-TooWide : goal.returns-in-TooWide
returns-in-TooWide c =
    first_wide
    (ends-from (equations_of c.args.equations.now) (map graphs_of c.deref.result.now) (ap (map graphs_of) c.deref.ensures.value ∙ c.in_ok-rules.ensures.graphs)
    (morphism_of c.args.from.now) c.in_ok-form.field-0 (TooWide c.in-TooWide.placements) c.in-TooWide.is c.in_ok-form.ensures)

pub returns-in-AtLimit : goal.returns-in-AtLimit
returns-in-AtLimit c =
    first_at_limit
    (ends-from (equations_of c.args.equations.now) (map graphs_of c.deref.result.now) (ap (map graphs_of) c.deref.ensures.value ∙ c.in_ok-rules.ensures.graphs)
    (morphism_of c.args.from.now) c.in_ok-form.field-0 AtLimit c.in-AtLimit.is c.in_ok-form.ensures)

pub returns-in-TooWide-2 : goal.returns-in-TooWide-2
returns-in-TooWide-2 c =
    second_wide
    (ends-from (equations_of c.args.equations.now) (map graphs_of c.deref.result.now) (ap (map graphs_of) c.deref.ensures.value ∙ c.in_ok-rules.ensures.graphs)
    (morphism_of c.args.from.now) c.in_ok-form.field-0 (NormalForm c.in-NormalForm.form) c.in-NormalForm.is c.in_ok-form.ensures)
    (ends-from (equations_of c.args.equations.now) (map graphs_of c.deref-2.result.now) (ap (map graphs_of) c.deref-2.ensures.value ∙ c.in_ok-rules.ensures.graphs)
    (morphism_of c.args.to.now) c.in_ok-form-2.field-0 (TooWide c.in-TooWide-2.placements) c.in-TooWide-2.is c.in_ok-form-2.ensures)

pub returns-in-AtLimit-2 : goal.returns-in-AtLimit-2
returns-in-AtLimit-2 c =
    second_at_limit
    (ends-from (equations_of c.args.equations.now) (map graphs_of c.deref.result.now) (ap (map graphs_of) c.deref.ensures.value ∙ c.in_ok-rules.ensures.graphs)
    (morphism_of c.args.from.now) c.in_ok-form.field-0 (NormalForm c.in-NormalForm.form) c.in-NormalForm.is c.in_ok-form.ensures)
    (ends-from (equations_of c.args.equations.now) (map graphs_of c.deref-2.result.now) (ap (map graphs_of) c.deref-2.ensures.value ∙ c.in_ok-rules.ensures.graphs)
    (morphism_of c.args.to.now) c.in_ok-form-2.field-0 AtLimit c.in-AtLimit-2.is c.in_ok-form-2.ensures)

pub returns-then-branch : goal.returns-then-branch
returns-then-branch c =
    let both = c.extracted_decides_graphs.ensures.graphs c.in-NormalForm.form c.in-NormalForm-2.form c.in_ok-are_same.ensures.first c.in_ok-are_same.ensures.second in
    equal
    (ends-from (equations_of c.args.equations.now) (map graphs_of c.deref.result.now) (ap (map graphs_of) c.deref.ensures.value ∙ c.in_ok-rules.ensures.graphs)
    (morphism_of c.args.from.now) c.in_ok-form.field-0 (NormalForm c.in-NormalForm.form) c.in-NormalForm.is c.in_ok-form.ensures)
    (ends-from (equations_of c.args.equations.now) (map graphs_of c.deref-2.result.now) (ap (map graphs_of) c.deref-2.ensures.value ∙ c.in_ok-rules.ensures.graphs)
    (morphism_of c.args.to.now) c.in_ok-form-2.field-0 (NormalForm c.in-NormalForm-2.form) c.in-NormalForm-2.is c.in_ok-form-2.ensures)
    (both.1 (when-true c.in_ok-are_same.field-0 _ _ c.in_ok-are_same.ensures.outcome c.if-branch.true))

pub returns : goal.returns
returns c =
    let both = c.extracted_decides_graphs.ensures.graphs c.in-NormalForm.form c.in-NormalForm-2.form c.in_ok-are_same.ensures.first c.in_ok-are_same.ensures.second in
    different
    (ends-from (equations_of c.args.equations.now) (map graphs_of c.deref.result.now) (ap (map graphs_of) c.deref.ensures.value ∙ c.in_ok-rules.ensures.graphs)
    (morphism_of c.args.from.now) c.in_ok-form.field-0 (NormalForm c.in-NormalForm.form) c.in-NormalForm.is c.in_ok-form.ensures)
    (ends-from (equations_of c.args.equations.now) (map graphs_of c.deref-2.result.now) (ap (map graphs_of) c.deref-2.ensures.value ∙ c.in_ok-rules.ensures.graphs)
    (morphism_of c.args.to.now) c.in_ok-form-2.field-0 (NormalForm c.in-NormalForm-2.form) c.in-NormalForm-2.is c.in_ok-form-2.ensures)
    (λ d. when-false c.in_ok-are_same.field-0 _ _ c.in_ok-are_same.ensures.outcome c.if-branch.false (both.0 d))
