use Rattle.std.proofs.Common.{◌++◌, ◌∷◌, [], subst}
use Rattle.chyp_write.specs.Writing.{Writes}
use Rattle.chyp_write.proofs.WritingLemmas.{writes-more, writes-part}
use Rattle.chyp_session.proofs.line.write_heading.Goals as goal

pub returns-in_err-write_place : goal.returns-in_err-write_place
returns-in_err-write_place g c = writes-part _ _ _ _ _ c.from_residual.result _ _ c.from_residual.ensures.0 c.in_err-write_place.ensures

pub returns : goal.returns
returns g c = writes-more _ _ _ _ _ _ _ c.write_all.result _ _ c.in_ok-write_place.ensures
    (subst (λ name. Writes (g.K.Sink.held c.write_place.new.sink) (g.K.Sink.held c.write_all.new.sink) (g.K.Sink.faults c.write_place.new.sink)
    (g.K.Sink.faults c.write_all.new.sink) c.write_all.result (32 ∷ (c.args.line.now.kind.now ++ (32 ∷ (name ++ 32 ∷ []))))) c.name_or_dash-name.ensures c.write_all.ensures)
