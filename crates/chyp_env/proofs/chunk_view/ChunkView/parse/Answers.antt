use Rattle.chyp_env.proofs.Lent.{tokens_few}
use Rattle.chyp_env.proofs.chunk_view.ChunkView.parse.Goals as goal

pub parse-requires : goal.parse-requires
parse-requires c = tokens_few c.self.inside.tokens.now c.self.inside.first.now c.self.inside.second.now c.self.invariant
