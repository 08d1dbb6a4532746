use Rattle.std.proofs.Common.{◌∙◌, arith, refl}
use Rattle.chyp_base.specs.declared.status.Status.TheVariants.{TooLong}
use Rattle.chyp_modules.specs.Checking.{long_text as text_too_long}
use Rattle.chyp_app.specs.Output.{IsCheck, too_long}
use Rattle.chyp_app.proofs.CheckLemmas.{begins_none, counts_none, long_text, nothing_given, nothing_judged, told-three, told-two}
use Rattle.chyp_app.proofs.run.check.Goals as goal

pub returns-in-Err-Failed-clause-begun : goal.returns-in-Err-Failed-clause-begun
returns-in-Err-Failed-clause-begun g c =
    told-three (g.S.Source.left c.args.source.now) (g.K.Sink.held c.args.sink.now) (g.L.Library.texts c.args.library.now)
    (λ text held texts el eh et. begins_none (IsCheck texts text) held _ c.args.steps.now _ eh refl (c.each_run_has_one_output.ensures.each texts text))

pub returns-in-Err-Failed-clause-counted : goal.returns-in-Err-Failed-clause-counted
returns-in-Err-Failed-clause-counted g c =
    told-two (g.S.Source.left c.args.source.now) (g.L.Library.texts c.args.library.now)
    (λ text texts el et. counts_none (IsCheck texts text) c.args.steps.now _ refl (c.each_run_has_one_output.ensures.each texts text))

pub returns-in-Err-NoMemory-clause-begun : goal.returns-in-Err-NoMemory-clause-begun
returns-in-Err-NoMemory-clause-begun g c =
    told-three (g.S.Source.left c.args.source.now) (g.K.Sink.held c.args.sink.now) (g.L.Library.texts c.args.library.now)
    (λ text held texts el eh et. begins_none (IsCheck texts text) held _ c.args.steps.now _ eh refl (c.each_run_has_one_output.ensures.each texts text))

pub returns-in-Err-NoMemory-clause-counted : goal.returns-in-Err-NoMemory-clause-counted
returns-in-Err-NoMemory-clause-counted g c =
    told-two (g.S.Source.left c.args.source.now) (g.L.Library.texts c.args.library.now)
    (λ text texts el et. counts_none (IsCheck texts text) c.args.steps.now _ refl (c.each_run_has_one_output.ensures.each texts text))

pub returns-then-len-gt-MAX_TEXT_LEN-clause-output : goal.returns-then-len-gt-MAX_TEXT_LEN-clause-output
returns-then-len-gt-MAX_TEXT_LEN-clause-output g c =
    told-three (g.S.Source.left c.args.source.now) (g.K.Sink.held c.args.sink.now) (g.L.Library.texts c.args.library.now)
    (λ text held texts el eh et. λ r w l. nothing_given (IsCheck texts text) held _ c.args.steps.now _ TooLong eh refl
    (too_long (text_too_long (long_text _ _ _ text c.in-Ok.ensures.bytes el (omega (arith, c.len.ensures ∙ c.in-Ok.text.ok.0))))))

pub returns-then-len-gt-MAX_TEXT_LEN-clause-begun : goal.returns-then-len-gt-MAX_TEXT_LEN-clause-begun
returns-then-len-gt-MAX_TEXT_LEN-clause-begun g c =
    told-three (g.S.Source.left c.args.source.now) (g.K.Sink.held c.args.sink.now) (g.L.Library.texts c.args.library.now)
    (λ text held texts el eh et. begins_none (IsCheck texts text) held _ c.args.steps.now _ eh refl
    (_, too_long (text_too_long (long_text _ _ _ text c.in-Ok.ensures.bytes el (omega (arith, c.len.ensures ∙ c.in-Ok.text.ok.0))))))

pub returns-then-len-gt-MAX_TEXT_LEN-clause-judged : goal.returns-then-len-gt-MAX_TEXT_LEN-clause-judged
returns-then-len-gt-MAX_TEXT_LEN-clause-judged g c =
    told-two (g.S.Source.left c.args.source.now) (g.L.Library.texts c.args.library.now)
    (λ text texts el et. λ r w l. nothing_judged (IsCheck texts text) c.args.steps.now _ TooLong refl
    (too_long (text_too_long (long_text _ _ _ text c.in-Ok.ensures.bytes el (omega (arith, c.len.ensures ∙ c.in-Ok.text.ok.0))))))

pub returns-then-len-gt-MAX_TEXT_LEN-clause-counted : goal.returns-then-len-gt-MAX_TEXT_LEN-clause-counted
returns-then-len-gt-MAX_TEXT_LEN-clause-counted g c =
    told-two (g.S.Source.left c.args.source.now) (g.L.Library.texts c.args.library.now)
    (λ text texts el et. counts_none (IsCheck texts text) c.args.steps.now _ refl
    (_, too_long (text_too_long (long_text _ _ _ text c.in-Ok.ensures.bytes el (omega (arith, c.len.ensures ∙ c.in-Ok.text.ok.0))))))
