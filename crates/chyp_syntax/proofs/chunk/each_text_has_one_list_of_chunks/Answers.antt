use Rattle.chyp_syntax.proofs.Tiling.{has_one_list_of_chunks}
use Rattle.chyp_syntax.proofs.chunk.each_text_has_one_list_of_chunks.Goals as goal

pub returns : goal.returns
returns c = has_one_list_of_chunks
