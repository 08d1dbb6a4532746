use Rattle.std.proofs.Common.{refl}
use Rattle.chyp_base.specs.declared.status.Status.TheVariants.{BadWords}
use Rattle.chyp_app.specs.Output.{IsTrueOutput}
use Rattle.chyp_app.specs.Words.{Accepts, texts_of}
use Rattle.chyp_app.proofs.CheckLemmas.{begins_none, counts_none, nothing_given, nothing_judged, told-three, told-two, use-three, use-two}
use Rattle.chyp_app.proofs.RunLemmas.{gives, gives_or_wants, nothing_said}
use Rattle.chyp_app.proofs.run.run.Goals as goal

pub returns-then-is_check-clause-output : goal.returns-then-is_check-clause-output
returns-then-is_check-clause-output g c =
    let words = texts_of c.args.words.now in
    let accepted : Accepts words = c.is_check.ensures.0 c.if-is_check.true in
    let law = c.each_run_has_one_output.ensures.explained in
    told-three (g.S.Source.left c.args.source.now) (g.K.Sink.held c.args.sink.now) (g.L.Library.texts c.args.library.now)
    (λ bytes held texts el eh et. λ r w l. gives_or_wants law words bytes texts _ _ accepted
    ((use-three _ (g.S.Source.left c.args.source.now) (g.K.Sink.held c.args.sink.now) (g.L.Library.texts c.args.library.now) bytes held texts el eh et c.check.ensures.output) r w l))

pub returns-then-is_check-clause-begun : goal.returns-then-is_check-clause-begun
returns-then-is_check-clause-begun g c =
    let words = texts_of c.args.words.now in
    let accepted : Accepts words = c.is_check.ensures.0 c.if-is_check.true in
    let law = c.each_run_has_one_output.ensures.explained in
    told-three (g.S.Source.left c.args.source.now) (g.K.Sink.held c.args.sink.now) (g.L.Library.texts c.args.library.now)
    (λ bytes held texts el eh et. gives law words bytes texts _ accepted
    (use-three _ (g.S.Source.left c.args.source.now) (g.K.Sink.held c.args.sink.now) (g.L.Library.texts c.args.library.now) bytes held texts el eh et c.check.ensures.begun))

pub returns-then-is_check-clause-judged : goal.returns-then-is_check-clause-judged
returns-then-is_check-clause-judged g c =
    let words = texts_of c.args.words.now in
    let accepted : Accepts words = c.is_check.ensures.0 c.if-is_check.true in
    let law = c.each_run_has_one_output.ensures.explained in
    told-two (g.S.Source.left c.args.source.now) (g.L.Library.texts c.args.library.now)
    (λ bytes texts el et. λ r w l. gives_or_wants law words bytes texts _ _ accepted
    ((use-two _ (g.S.Source.left c.args.source.now) (g.L.Library.texts c.args.library.now) bytes texts el et c.check.ensures.judged) r w l))

pub returns-then-is_check-clause-counted : goal.returns-then-is_check-clause-counted
returns-then-is_check-clause-counted g c =
    let words = texts_of c.args.words.now in
    let accepted : Accepts words = c.is_check.ensures.0 c.if-is_check.true in
    let law = c.each_run_has_one_output.ensures.explained in
    told-two (g.S.Source.left c.args.source.now) (g.L.Library.texts c.args.library.now)
    (λ bytes texts el et. gives law words bytes texts _ accepted
    (use-two _ (g.S.Source.left c.args.source.now) (g.L.Library.texts c.args.library.now) bytes texts el et c.check.ensures.counted))

pub returns-else-is_check-clause-output : goal.returns-else-is_check-clause-output
returns-else-is_check-clause-output g c =
    let words = texts_of c.args.words.now in
    let refused : ¬ Accepts words = (λ a. let t = c.is_check.ensures.1 a in let f = c.if-is_check.false in cc) in
    told-three (g.S.Source.left c.args.source.now) (g.K.Sink.held c.args.sink.now) (g.L.Library.texts c.args.library.now)
    (λ bytes held texts el eh et. λ r w l. nothing_given (IsTrueOutput words bytes texts) held _ c.args.steps.now _ BadWords eh refl (nothing_said words bytes texts refused))

pub returns-else-is_check-clause-begun : goal.returns-else-is_check-clause-begun
returns-else-is_check-clause-begun g c =
    let words = texts_of c.args.words.now in
    let refused : ¬ Accepts words = (λ a. let t = c.is_check.ensures.1 a in let f = c.if-is_check.false in cc) in
    told-three (g.S.Source.left c.args.source.now) (g.K.Sink.held c.args.sink.now) (g.L.Library.texts c.args.library.now)
    (λ bytes held texts el eh et. begins_none (IsTrueOutput words bytes texts) held _ c.args.steps.now _ eh refl (_, (nothing_said words bytes texts refused)))

pub returns-else-is_check-clause-judged : goal.returns-else-is_check-clause-judged
returns-else-is_check-clause-judged g c =
    let words = texts_of c.args.words.now in
    let refused : ¬ Accepts words = (λ a. let t = c.is_check.ensures.1 a in let f = c.if-is_check.false in cc) in
    told-two (g.S.Source.left c.args.source.now) (g.L.Library.texts c.args.library.now)
    (λ bytes texts el et. λ r w l. nothing_judged (IsTrueOutput words bytes texts) c.args.steps.now _ BadWords refl (nothing_said words bytes texts refused))

pub returns-else-is_check-clause-counted : goal.returns-else-is_check-clause-counted
returns-else-is_check-clause-counted g c =
    let words = texts_of c.args.words.now in
    let refused : ¬ Accepts words = (λ a. let t = c.is_check.ensures.1 a in let f = c.if-is_check.false in cc) in
    told-two (g.S.Source.left c.args.source.now) (g.L.Library.texts c.args.library.now)
    (λ bytes texts el et. counts_none (IsTrueOutput words bytes texts) c.args.steps.now _ refl (_, (nothing_said words bytes texts refused)))
