use Rattle.std.proofs.Common.{◌≡◌, ◌≤◌, length, sym, ◌∙◌, ap, subst}
use Rattle.std.specs.List.{enumerate_from}
use Rattle.chyp_syntax.specs.Expected.{statement, stopped, verdict}
use Rattle.chyp_syntax.specs.Beginning.{words_from, tokens_from}
use Rattle.chyp_syntax.specs.Sentence.{IsStatement}
use Rattle.chyp_syntax.specs.Words.{words_of}
use Rattle.chyp_syntax.proofs.Failures.{fails_words, is_sentence_of}
use Rattle.chyp_syntax.proofs.parser.parse.Goals as goal

pub returns-clause-tree : goal.returns-clause-tree
returns-clause-tree c = is_sentence_of c.args.tokens.now c.statement.result c.statement.ensures.tree

pub returns-clause-syntax : goal.returns-clause-syntax
returns-clause-syntax c k is text = let stops = c.statement.ensures.stops k is in fails_words text c.args.tokens.now k stops.0 stops.1
