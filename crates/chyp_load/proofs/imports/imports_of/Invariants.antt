use Rattle.chyp_verdicts.specs.Texts.{statements_of}
use Rattle.chyp_load.proofs.Texts.{HaveImports}
use Rattle.chyp_load.proofs.imports.imports_of.Given as goal

abbrev pub invariant-loop-number : goal.invariant-loop-number
invariant-loop-number l =
    HaveImports l.statements.text (statements_of l.statements.text l.statements.tokens l.statements.chunks) l.number l.names.items
