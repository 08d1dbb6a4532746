use Rattle.chyp_env.proofs.Lent.{words_named}
use Rattle.chyp_env.proofs.chunk_view.ChunkView.named.Goals as goal

pub returns : goal.returns
returns c = words_named c.self.inside.tokens.now c.self.inside.first.now c.self.inside.second.now c.args.self.now c.self.invariant c.self.view_is
