-- The trees of a statement: one behind its name, and one behind each of its `=`.
use Rattle.std.specs.Prelude.{List, [], ◌∷◌, Option, None, Some}
use Rattle.std.specs.List.{cons_option, filter_map}
use Rattle.chyp_syntax.specs.declared.step.ReasonAst.TheVariants.{Plain}
use Rattle.chyp_syntax.specs.Statement.{StatementTree, abbreviation, rule, rewrite}
use Rattle.chyp_syntax.specs.Step.{StepTree}
use Rattle.chyp_syntax.specs.Term.{TermTree}

-- the first tree of a statement, None where it has none
abbrev pub first_tree : StatementTree → Option TermTree
first_tree (abbreviation name tree) = Some tree
first_tree (rule name left equals right) = Some left
first_tree (rewrite name first steps) = Some first
first_tree _ = None

-- what stands behind each `=`: the steps of a rewrite, and the right side of a rule, as a step without a `by`
abbrev pub steps_of : StatementTree → List StepTree
steps_of (rule name left equals right) = record { equals = equals; goal = Some right; reason = Plain } ∷ []
steps_of (rewrite name first steps) = steps
steps_of _ = []

-- the trees to which steps lead; a hole is none
abbrev pub goals_of : List StepTree → List TermTree
goals_of steps = filter_map (λ step. step.goal) steps

-- all trees of a statement, in the order of the text
abbrev pub trees_of : StatementTree → List TermTree
trees_of tree = cons_option (first_tree tree) (goals_of (steps_of tree))
