use Rattle.std.proofs.Common.{take}
use Rattle.chyp_syntax.specs.Chunk.{AreChunks}
use Rattle.chyp_syntax.proofs.chunk.chunks.Given as goal

abbrev pub invariant-loop-at : goal.invariant-loop-at
invariant-loop-at l = AreChunks (take l.at l.tokens) l.chunks.items
