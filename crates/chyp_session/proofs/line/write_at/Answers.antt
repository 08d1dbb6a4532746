use Rattle.std.proofs.Common.{◌++◌, subst}
use Rattle.chyp_session.specs.Line.{place_text}
use Rattle.chyp_write.specs.Writing.{Writes}
use Rattle.chyp_write.proofs.WritingLemmas.{writes-more, writes-part}
use Rattle.chyp_session.proofs.line.write_at.Goals as goal

pub returns-in_err-write_text : goal.returns-in_err-write_text
returns-in_err-write_text g c =
    subst (λ words. Writes (g.K.Sink.held c.args.sink.now) (g.K.Sink.held c.write_text.new.sink) (g.K.Sink.faults c.args.sink.now) (g.K.Sink.faults c.write_text.new.sink) c.from_residual.result
    (words ++ place_text c.args.at))
    c.as_bytes.ensures.value
    (writes-part _ _ _ _ _ c.from_residual.result _ _ c.from_residual.ensures.0 c.in_err-write_text.ensures)

pub returns : goal.returns
returns g c =
    subst (λ words. Writes (g.K.Sink.held c.args.sink.now) (g.K.Sink.held c.write_place.new.sink) (g.K.Sink.faults c.args.sink.now) (g.K.Sink.faults c.write_place.new.sink) c.write_place.result
    (words ++ place_text c.args.at))
    c.as_bytes.ensures.value
    (writes-more _ _ _ _ _ _ _ c.write_place.result _ _ c.in_ok-write_text.ensures c.write_place.ensures)
