-- The trees of a rewrite's steps, as contracts see them.
use Rattle.std.specs.Prelude.{ℕ, Option, option_map}
use Rattle.chyp_syntax.specs.declared.step.ReasonAst.{ReasonAst}
use Rattle.chyp_syntax.specs.declared.step.StepAst.{StepAst}
use Rattle.chyp_syntax.specs.Term.{TermTree, tree_of}

-- a step: the number of its `=`, the term that it leads to (none for a hole), and what it rests on
pub record StepTree : Type 0 where
  pub equals : ℕ
  pub goal : Option TermTree
  pub reason : ReasonAst

-- the tree that a `StepAst` holds
abbrev pub step_of : StepAst → StepTree
step_of step = record { equals = step.equals; goal = option_map tree_of step.goal; reason = step.reason }
