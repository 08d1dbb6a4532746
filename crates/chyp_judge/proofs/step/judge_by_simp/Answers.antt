use Rattle.std.proofs.Common.{subst}
use Rattle.chyp_term.specs.Equation.{equations_of}
use Rattle.chyp_term.specs.Term.{morphism_of}
use Rattle.chyp_simp.specs.Comparing.{IsComparison}
use Rattle.chyp_judge.specs.Judged.{simp_limit, simp_wide, simplifies, simplifies_not}
use Rattle.chyp_judge.proofs.step.judge_by_simp.Goals as goal

pub returns-in-Equal : goal.returns-in-Equal
returns-in-Equal c =
    simplifies
    (subst (IsComparison (equations_of c.args.rules.now) (morphism_of c.args.from.now) (morphism_of c.args.to.now)) c.in-Equal.is c.in_ok-compare.ensures)

pub returns-in-Different : goal.returns-in-Different
returns-in-Different c =
    simplifies_not
    (subst (IsComparison (equations_of c.args.rules.now) (morphism_of c.args.from.now) (morphism_of c.args.to.now)) c.in-Different.is c.in_ok-compare.ensures)

pub returns-in-TooWide : goal.returns-in-TooWide
returns-in-TooWide c =
    simp_wide
    (subst (IsComparison (equations_of c.args.rules.now) (morphism_of c.args.from.now) (morphism_of c.args.to.now)) c.in-TooWide.is c.in_ok-compare.ensures)

pub returns-in-AtLimit : goal.returns-in-AtLimit
returns-in-AtLimit c =
    simp_limit
    (subst (IsComparison (equations_of c.args.rules.now) (morphism_of c.args.from.now) (morphism_of c.args.to.now)) c.in-AtLimit.is c.in_ok-compare.ensures)
