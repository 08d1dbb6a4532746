use Rattle.std.proofs.Common.{◌++◌, [], suc, take, drop, flat_map, sym, subst, ap, ◌∙◌}
use Rattle.chyp_base.specs.declared.failed.Failed.{Failed}
use Rattle.chyp_write.specs.Writing.{Writes}
use Rattle.chyp_write.proofs.WritingLemmas.{pieces-turn, writes-more, writes-part, written}
use Rattle.chyp_write.proofs.write.write_all.Goals as goal

pub returns-in_err-write_text : goal.returns-in_err-write_text
returns-in_err-write_text g c =
    let pieces = c.args.pieces.now in
    let at = c.loop-piece.piece-index in
    let rest = flat_map (λ piece. piece.now) (drop (suc at) pieces) in
    let turn = pieces-turn at pieces (record { ref_ptr = (0, 0); now = [] }) c.loop-piece-test.true in
    let i = c.loop-piece.invariant in
    subst (λ t. Writes (g.K.Sink.held c.args.sink.now) (g.K.Sink.held c.write_text.new.sink) (g.K.Sink.faults c.args.sink.now) (g.K.Sink.faults c.write_text.new.sink) c.from_residual.result t)
    (ap (λ t. flat_map (λ piece. piece.now) (take at pieces) ++ (t ++ rest)) c.as_bytes.ensures.value ∙ sym turn)
    (writes-more {T = Unit {0}} {E = Failed} _ _ _ _ _ _ tt c.from_residual.result _ _ (written _ _ _ _ _ _ i.written i.kept)
    (writes-part _ _ _ _ _ c.from_residual.result _ _ c.from_residual.ensures.0 c.in_err-write_text.ensures))
