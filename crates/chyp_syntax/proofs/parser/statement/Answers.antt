use Rattle.std.proofs.Common.{◌≡◌, subst, arith}
use Rattle.chyp_syntax.specs.Expected.{statement}
use Rattle.chyp_syntax.specs.Beginning.{tokens_from}
use Rattle.chyp_syntax.specs.Reads.{StopsAt}
use Rattle.chyp_syntax.proofs.Numbered.{terminal, tokens_from-more, tokens_from-past}
use Rattle.chyp_syntax.proofs.Statements.{no_statement_there, nothing_there}
use Rattle.chyp_syntax.proofs.parser.statement.Goals as goal

pub returns-in_default-clause-stops : goal.returns-in_default-clause-stops
returns-in_default-clause-stops c k is =
    let tokens = c.args.tokens.now in
    let same : 0 ≡ k = cc in
    subst (λ n. StopsAt statement tokens 0 n) same (omega arith, nothing_there (tokens_from tokens 0) (tokens_from-past tokens 0 c.in_default.ensures.item.3))

pub returns-in_default-kind : goal.returns-in_default-kind
returns-in_default-kind c =
    let tokens = c.args.tokens.now in
    let word = c.in-Some.word.now in
    let here = tokens_from-more tokens 0 word c.in-Some.ensures.item.3.0 c.in-Some.ensures.item.1 in
    record {
      tree = tt;
      stops = λ k is. let same : 0 ≡ k = cc in
          subst (λ n. StopsAt statement tokens 0 n) same (
            omega arith,
            no_statement_there (tokens_from tokens 0) (tokens_from tokens 1) (0, terminal word) here
                c.in_default-kind.not-WordGen c.in_default-kind.not-WordLet c.in_default-kind.not-WordRule c.in_default-kind.not-WordRewrite c.in_default-kind.not-WordImport
                c.in_default-kind.not-WordShow,
          );
    }
