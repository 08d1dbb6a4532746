use Rattle.std.proofs.Common.{arith, refl}
use Rattle.chyp_lex.proofs.LexemeSteps.{six_bytes, seven_bytes}
use Rattle.chyp_lex.proofs.word.kind_of_word.Goals as goal

pub returns-in-import : goal.returns-in-import
returns-in-import c =
    let is = six_bytes c.args.name.now 105 109 112 111 114 116 (omega arith) (omega arith) (omega arith) (omega arith) (omega arith) (omega arith) (omega arith) in
    rw is refl

pub returns-in-rewrite : goal.returns-in-rewrite
returns-in-rewrite c =
    let is = seven_bytes c.args.name.now 114 101 119 114 105 116 101 (omega arith) (omega arith) (omega arith) (omega arith) (omega arith) (omega arith) (omega arith) (omega arith) in
    rw is refl
