use Rattle.std.proofs.Common.{◌≡◌, All, map, take}
use Rattle.chyp_term.specs.Equation.{equations_of}
use Rattle.chyp_simp.specs.Run as run
use Rattle.chyp_simplifier.specs.Rule.{IsRule, graphs_of}
use Rattle.chyp_simplifier.proofs.rule.rules_of.Given as goal

abbrev pub invariant-loop-equation : goal.invariant-loop-equation
invariant-loop-equation l = record {
  graphs : map graphs_of l.rules.items ≡ run.rules_of (equations_of (take l.equation-index l.equations));
  rules : All IsRule l.rules.items;
}
