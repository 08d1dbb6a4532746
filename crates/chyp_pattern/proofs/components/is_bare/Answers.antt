use Rattle.chyp_pattern.proofs.Anchoring.{bare-match, made-match}
use Rattle.chyp_pattern.proofs.components.is_bare.Goals as goal

pub returns-then-is_none : goal.returns-then-is_none
returns-then-is_none c =
    bare-match c.args.graph.now c.requires.valid c.args.w c.requires.there c.producer.result c.consumer.result c.is_none.result c.is_none-then-is_none.result
    c.producer.ensures.input c.consumer.ensures.output c.is_none.ensures
    c.is_none-then-is_none.ensures c.if-is_none.true

pub returns-else-is_none : goal.returns-else-is_none
returns-else-is_none c = made-match c.args.graph.now c.requires.valid c.args.w c.requires.there c.producer.result c.is_none.result c.producer.ensures.input c.is_none.ensures c.if-is_none.false
