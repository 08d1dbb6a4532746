use Rattle.std.proofs.Common.{◌≡◌, subst, arith}
use Rattle.std.proofs.lemmas.Result.{IfOk-weaker}
use Rattle.chyp_judge.specs.Rewrite.{AreAll}
use Rattle.chyp_judge.proofs.Giving.{all-given}
use Rattle.chyp_nth.specs.Nth.{IsNthOf}
use Rattle.chyp_nth.proofs.Passing.{nth-occurs, nth-replaced, too-few}
use Rattle.chyp_nth.proofs.rewriting.nth_among.Goals as goal

pub returns-then-count-n : goal.returns-then-count-n
returns-then-count-n c =
    let h = c.if-count-n.true in
    too-few c.args.redex.now c.args.occurrences.now c.requires.pattern c.requires.graph c.pass-count.result c.args.n (c.pass-count.ensures.all h) (omega arith)

pub returns-in_default : goal.returns-in_default
returns-in_default c =
    let h = c.if-count-n.false in
    let most = c.pass-count.ensures.most in
    let all : AreAll c.args.occurrences.now c.pass-count.result =
    all-given c.args.occurrences.now c.pass-count.result c.pass-count.new.occurrences (c.pass-count.ensures.given (omega arith)) c.in_default.ensures.none in
    too-few c.args.redex.now c.args.occurrences.now c.requires.pattern c.requires.graph c.pass-count.result c.args.n all most

pub replace-requires-clause-occurrence : goal.replace-requires-clause-occurrence
replace-requires-clause-occurrence c =
    let h = c.if-count-n.false in
    nth-occurs c.args.redex.now c.args.occurrences.now c.requires.pattern c.requires.graph c.pass-count.result c.pass-count.new.occurrences (c.pass-count.ensures.given (omega arith))
    c.in-Some.at.now c.in-Some.ensures.some

pub returns : goal.returns
returns c =
    let h = c.if-count-n.false in
    let most = c.pass-count.ensures.most in
    let same : c.pass-count.result ≡ c.args.n = omega arith in
    IfOk-weaker c.read_back.result _ _
    (λ answer back.
    subst (λ k. IsNthOf c.args.redex.now k answer) same
    (nth-replaced c.args.redex.now c.args.occurrences.now c.requires.pattern c.requires.graph c.pass-count.result c.pass-count.new.occurrences (c.pass-count.ensures.given (omega arith))
    c.in-Some.at.now c.in-Some.ensures.some answer c.in_ok-new.new c.in_ok-new.ensures back))
    c.read_back.ensures
