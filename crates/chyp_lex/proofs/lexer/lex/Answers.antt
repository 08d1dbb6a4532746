use Rattle.std.proofs.Common.{arith, drop, ap, ℕ, ◌+◌}
use Rattle.std.proofs.Common.{append-nil, length-drop}
use Rattle.std.proofs.lemmas.List.{take_rest}
use Rattle.chyp_lex.specs.declared.token.Token.{Token}
use Rattle.chyp_lex.proofs.Pieces.{next-is_within}
use Rattle.chyp_lex.proofs.TokenLists.{Continues, AreTokens-spans, AreSpansFrom-inside, Continues-passed, Continues-read, Continues-end, some-left}
use Rattle.chyp_lex.proofs.lexer.lex.Goals as goal
use Rattle.chyp_lex.proofs.lexer.lex.Goals.{in-Some+in_ok-push, in_default}

pub overflow_cast-lexeme : goal.overflow_cast-lexeme
overflow_cast-lexeme c =
    let is = rw take_rest at c.next_lexeme-lexeme.ensures.next in
    let within = next-is_within (drop c.loop-at.at c.args.first.now) c.next_lexeme-lexeme.result.len c.next_lexeme-lexeme.result.kind
    (some-left c.args.first.now c.loop-at.at c.loop-at-test.true) is in
    let cut = length-drop c.loop-at.at c.args.first.now in
    let length = c.requires.length in
    omega (arith, within.1)

pub overflow_add-at : goal.overflow_add-at
overflow_add-at c =
    let is = rw take_rest at c.next_lexeme-lexeme.ensures.next in
    let within = next-is_within (drop c.loop-at.at c.args.first.now) c.next_lexeme-lexeme.result.len c.next_lexeme-lexeme.result.kind
    (some-left c.args.first.now c.loop-at.at c.loop-at-test.true) is in
    let cut = length-drop c.loop-at.at c.args.first.now in
    let length = c.requires.length in
    omega (arith, within.1)

pub loop-at-smaller : goal.loop-at-smaller
loop-at-smaller c =
    let is = rw take_rest at c.next_lexeme-lexeme.ensures.next in
    let within = next-is_within (drop c.loop-at.at c.args.first.now) c.next_lexeme-lexeme.result.len c.next_lexeme-lexeme.result.kind
    (some-left c.args.first.now c.loop-at.at c.loop-at-test.true) is in
    let cut = length-drop c.loop-at.at c.args.first.now in
    omega (arith, within.0, within.1)

pub loop-at-preserved : goal.loop-at-preserved
loop-at-preserved c =
    let is = rw take_rest at c.next_lexeme-lexeme.ensures.next in
    let within = next-is_within (drop c.loop-at.at c.args.first.now) c.next_lexeme-lexeme.result.len c.next_lexeme-lexeme.result.kind
    (some-left c.args.first.now c.loop-at.at c.loop-at-test.true) is in
    let cut = length-drop c.loop-at.at c.args.first.now in
    record {
      within = omega (arith, within.0, within.1);
      tokens = elim c.match-lexeme.branch [
        | in-Some+in_ok-push w ↦
            let value = rw (take_rest, w.in-Some.is) at c.next_lexeme-lexeme.ensures.value in
            let token_is = ap (λ (v : ℕ). let token : Token = record { kind = w.in-Some.kind; start = c.loop-at.at; len = c.next_lexeme-lexeme.result.len; value = v } in token) value in
            let pushed : Continues c.args.first.now (c.loop-at.at + c.next_lexeme-lexeme.result.len) w.push.new.self.items =
            rw w.in_ok-push.ensures.items (Continues-read c.args.first.now c.loop-at.at c.next_lexeme-lexeme.result.len w.in-Some.kind c.loop-at.tokens.items _ c.loop-at-test.true
            (rw w.in-Some.is at is) token_is c.loop-at.invariant.tokens) in
            rw w.tokens-is pushed
        | in_default w ↦
            let passed = Continues-passed c.args.first.now c.loop-at.at c.next_lexeme-lexeme.result.len c.loop-at.tokens.items c.loop-at-test.true
            (rw w.in_default.is at is) c.loop-at.invariant.tokens in
            rw w.tokens-is passed
      ];
    }

pub returns-clause-tokens : goal.returns-clause-tokens
returns-clause-tokens c = rw (c.requires.whole, append-nil) (Continues-end c.args.first.now c.loop-at.at c.loop-at.tokens.items c.loop-at-test.false c.loop-at.invariant.tokens)

pub returns-clause-spans : goal.returns-clause-spans
returns-clause-spans c = rw (c.requires.whole, append-nil)
    (AreTokens-spans c.args.first.now _ (Continues-end c.args.first.now c.loop-at.at c.loop-at.tokens.items c.loop-at-test.false c.loop-at.invariant.tokens))

pub returns-clause-inside : goal.returns-clause-inside
returns-clause-inside c = rw (c.requires.whole, append-nil)
    (AreSpansFrom-inside 0 _ _ (AreTokens-spans c.args.first.now _ (Continues-end c.args.first.now c.loop-at.at c.loop-at.tokens.items c.loop-at-test.false c.loop-at.invariant.tokens)))
