-- The trees of statements, as contracts see them.
use Rattle.std.specs.Prelude.{ℕ, List, map, Option}
use Rattle.chyp_syntax.specs.declared.statement.Ast.{Ast}
use Rattle.chyp_syntax.specs.declared.statement.Ast.TheVariants.{GenDecl, LetDecl, RuleDecl, RewriteDecl, ImportDecl, ShowDecl}
use Rattle.chyp_syntax.specs.Step.{StepTree, step_of}
use Rattle.chyp_syntax.specs.Term.{TermTree, tree_of}

-- a statement; a name, a module, a prefix or an `=` stands for its token's number within the chunk
pub data StatementTree : Type 0 where
  generator : (name dom cod : ℕ) → StatementTree
  abbreviation : (name : ℕ) (term : TermTree) → StatementTree
  rule : (name : ℕ) (left : TermTree) (equals : ℕ) (right : TermTree) → StatementTree
  rewrite : (name : ℕ) (first : TermTree) (steps : List StepTree) → StatementTree
  inclusion : (imported : ℕ) (prefix : Option ℕ) → StatementTree
  showing : (name : ℕ) → StatementTree

-- the tree that an `Ast` holds
abbrev pub statement_of : Ast → StatementTree
statement_of (GenDecl name dom cod) = generator name dom cod
statement_of (LetDecl name term) = abbreviation name (tree_of term)
statement_of (RuleDecl name left equals right) = rule name (tree_of left) equals (tree_of right)
statement_of (RewriteDecl name first steps) = rewrite name (tree_of first) (map step_of steps)
statement_of (ImportDecl imported prefix) = inclusion imported prefix
statement_of (ShowDecl name) = showing name
