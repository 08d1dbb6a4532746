use Rattle.std.proofs.Common.{[], map, ◌∙◌, ap, sym, subst}
use Rattle.std.proofs.lemmas.List.{take_all}
use Rattle.chyp_syntax.specs.declared.step.StepAst.{StepAst}
use Rattle.chyp_term.specs.Step.{reason_of}
use Rattle.chyp_names.specs.Elaboration.{reason_at}
use Rattle.chyp_names.specs.Equations.{RestsOnEquations}
use Rattle.chyp_names.proofs.Equations.{reasons_of_steps}
use Rattle.chyp_names.proofs.steps.step_list.Goals as goal

pub step-requires : goal.step-requires
step-requires c =
    subst (λ (step : StepAst). RestsOnEquations c.args.scope.now step.reason) (sym c.ast-item.is) (c.requires c.loop-ast.ast-index c.ast-item.result c.loop-ast-test.true)

pub returns : goal.returns
returns c =
    ap (map reason_of) c.from_vec.ensures ∙ c.loop-ast.invariant
    ∙ ap (map (λ (step : StepAst). reason_at c.args.scope.now step.reason)) (take_all c.loop-ast.ast-index c.args.steps.now c.loop-ast-test.false)
    ∙ reasons_of_steps c.args.scope.now c.args.steps.now
