use Rattle.std.proofs.Common.{◌≡◌, ◌+◌, [], ◌∷◌, ◌++◌, map, Err, ◌∙◌, ap, arith}
use Rattle.std.proofs.lemmas.Bool.{both_ways}
use Rattle.std.proofs.lemmas.List.{map_push}
use Rattle.std.proofs.lemmas.Result.{err_from_is_err_and}
use Rattle.chyp_lex.specs.declared.token.TokenKind.TheVariants.{Equals, QuestionMark}
use Rattle.chyp_syntax.specs.declared.error.ParseError.TheVariants.{Syntax}
use Rattle.chyp_syntax.specs.Expected.{steps}
use Rattle.chyp_syntax.specs.Beginning.{tokens_from}
use Rattle.chyp_syntax.specs.Step.{StepTree, step_of}
use Rattle.chyp_syntax.proofs.Numbered.{within_kind}
use Rattle.chyp_syntax.proofs.StepRuns.{steps_more, steps_hole, steps_end, hole_expects, step_expects, no_step_there}
use Rattle.chyp_syntax.proofs.steps.steps.Goals as goal

pub hole-requires-clause-within : goal.hole-requires-clause-within
hole-requires-clause-within c = within_kind c.args.tokens.now (c.loop-alloc.at + 1) QuestionMark (c.is_kind-in-loop-alloc.ensures.0 c.if-is_kind.true)

pub returns-in_err-hole-clause-stops : goal.returns-in_err-hole-clause-stops
returns-in_err-hole-clause-stops c k is =
    let p = err_from_is_err_and c.from_residual.result c.from_residual.ensures.1 in
    let why : c.in_err-hole.field-0.0 ≡ Syntax k = cc (p.1, p.2) in
    let stops = c.in_err-hole.ensures.stops k (ap Err why) in (
      stops.0,
      c.loop-alloc.invariant.again ∙ hole_expects c.args.tokens.now c.loop-alloc.at (c.is_kind.ensures.0 c.loop-alloc-test.true) (c.is_kind-in-loop-alloc.ensures.0 c.if-is_kind.true) ∙ stops.1,
    )

pub returns-then-is_kind-clause-read : goal.returns-then-is_kind-clause-read
returns-then-is_kind-clause-read c =
    let tokens = c.args.tokens.now in
    let tree : StepTree = step_of c.in_ok-hole.hole in
    let trees : map step_of c.push.new.self ≡ map step_of c.loop-alloc.steps ++ tree ∷ [] = ap (map step_of) c.in_ok-push.ensures.ok ∙ map_push step_of c.loop-alloc.steps c.in_ok-hole.hole in
    rw trees (steps_hole (tokens_from tokens c.args.start) (tokens_from tokens c.loop-alloc.at) (map step_of c.loop-alloc.steps) tree c.loop-alloc.invariant.so_far c.in_ok-hole.ensures.read)

pub step-requires-clause-within : goal.step-requires-clause-within
step-requires-clause-within c = within_kind c.args.tokens.now c.loop-alloc.at Equals (c.is_kind.ensures.0 c.loop-alloc-test.true)

pub returns-in_err-step-clause-stops : goal.returns-in_err-step-clause-stops
returns-in_err-step-clause-stops c k is =
    let p = err_from_is_err_and c.from_residual-in_err-step.result c.from_residual-in_err-step.ensures.1 in
    let why : c.in_err-step.field-0.0 ≡ Syntax k = cc (p.1, p.2) in
    let stops = c.in_err-step.ensures.stops k (ap Err why) in (
      stops.0,
      c.loop-alloc.invariant.again
          ∙ step_expects c.args.tokens.now c.loop-alloc.at (c.is_kind.ensures.0 c.loop-alloc-test.true)
          (λ begins. both_ways c.is_kind-in-loop-alloc.result c.if-is_kind.false (c.is_kind-in-loop-alloc.ensures.1 begins))
          ∙ stops.1 steps,
    )

pub loop-alloc-preserved : goal.loop-alloc-preserved
loop-alloc-preserved c =
    let tokens = c.args.tokens.now in
    let start = c.args.start in
    let at = c.loop-alloc.at in
    let end = c.in_ok-step.end in
    let tree : StepTree = step_of c.in_ok-step.step in
    let trees : map step_of c.push-in-loop-alloc.new.self ≡ map step_of c.loop-alloc.steps ++ tree ∷ [] =
    ap (map step_of) c.in_ok-push-2.ensures.ok ∙ map_push step_of c.loop-alloc.steps c.in_ok-step.step in
    let within = c.in_ok-step.ensures.within in
    let before = c.loop-alloc.invariant.within in
    let more = steps_more tokens start at end (map step_of c.loop-alloc.steps) tree c.loop-alloc.invariant.so_far c.in_ok-step.ensures.read in
    record {
      within = (omega arith, omega arith);
      so_far = rw trees more;
      again = c.loop-alloc.invariant.again
          ∙ step_expects tokens at (c.is_kind.ensures.0 c.loop-alloc-test.true) (λ begins. both_ways c.is_kind-in-loop-alloc.result c.if-is_kind.false (c.is_kind-in-loop-alloc.ensures.1 begins))
          ∙ c.in_ok-step.ensures.passes steps;
    }

pub returns-in_err-expect_end-clause-stops : goal.returns-in_err-expect_end-clause-stops
returns-in_err-expect_end-clause-stops c k is =
    let p = err_from_is_err_and c.from_residual-in_err-expect_end.result c.from_residual-in_err-expect_end.ensures.1 in
    let why : c.in_err-expect_end.field-0.0 ≡ Syntax k = cc (p.1, p.2) in
    let stops = c.in_err-expect_end.ensures.stops k (ap Err why) in
    let there = no_step_there c.args.tokens.now c.loop-alloc.at k (λ begins. both_ways c.is_kind.result c.loop-alloc-test.false (c.is_kind.ensures.1 begins)) stops.0 stops.1 in
    (there.0, c.loop-alloc.invariant.again ∙ there.1)

pub returns-clause-read : goal.returns-clause-read
returns-clause-read c =
    steps_end (tokens_from c.args.tokens.now c.args.start) (tokens_from c.args.tokens.now c.loop-alloc.at)
    (map step_of c.loop-alloc.steps) c.loop-alloc.invariant.so_far c.in_ok-expect_end.ensures.there
