use Rattle.chyp_syntax.proofs.Failures.{is_sentence_or_fails}
use Rattle.chyp_syntax.proofs.laws.each_chunk_is_a_sentence_or_fails.Goals as goal

pub returns : goal.returns
returns c = is_sentence_or_fails
