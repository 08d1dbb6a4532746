use Rattle.std.proofs.Common.{sym, subst}
use Rattle.std.specs.Str.{IsUtf8}
use Rattle.chyp_syntax.specs.Statement.{statement_of}
use Rattle.chyp_load.proofs.Importing.{module_spelled, other_keyword}
use Rattle.chyp_load.proofs.imports.imported_name.Goals as goal

-- src/imports.rt:60:9
pub returns-then-not-begins_with_import-clause-none : goal.returns-then-not-begins_with_import-clause-none
returns-then-not-begins_with_import-clause-none c =
    other_keyword c.args.chunk.now (λ e. let t = c.begins_with_import.ensures.1 e in let f = c.if-not-begins_with_import.true in cc)

-- src/imports.rt:70:13
pub name_of-requires : goal.name_of-requires
name_of-requires c =
    subst IsUtf8 (sym c.bytes_at.ensures)
    (module_spelled c.args.chunk.now (statement_of c.in-Ok.ast) c.in-Some.word c.spelled.ensures c.in-Ok.ensures.tree (sym c.in-Some.ensures))
