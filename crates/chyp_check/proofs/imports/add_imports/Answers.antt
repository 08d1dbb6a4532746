use Rattle.std.proofs.Common.{◌+◌, length, sym, subst, ap, ◌∙◌, arith}
use Rattle.chyp_check.proofs.Reached.{AreAdded, added-all, added-found, added-none, added-start}
use Rattle.chyp_check.proofs.imports.add_imports.Goals as goal
use Rattle.chyp_check.proofs.imports.add_imports.Goals.{in-Some, in_default}

pub loop-name-init : goal.loop-name-init
loop-name-init c = record {
  many = c.requires.many;
  added = added-start c.args.nodes.now c.args.names.now c.args.from c.args.relation.now c.requires.none;
}

pub loop-name-preserved : goal.loop-name-preserved
loop-name-preserved c =
    let nodes = c.args.nodes.now in
    let names = c.args.names.now in
    let here = c.loop-name-test.true in
    elim c.match-place_of.branch [
      | in-Some w ↦ record {
        many = ap length w.relation-is ∙ w.add.ensures.count ∙ c.loop-name.invariant.many;
        added = subst (λ next. AreAdded nodes names c.args.from c.args.relation.now next (c.loop-name.name-index + 1)) (sym w.relation-is)
            (added-found nodes names c.name-item.result c.args.from w.in-Some.to c.loop-name.name-index c.args.relation.now c.loop-name.relation w.add.new.self c.requires.distinct here c.name-item.is
            w.in-Some.ensures.some w.in-Some.ensures.named w.add.ensures.has c.loop-name.invariant.added);
      }
      | in_default w ↦ record {
        many = ap length w.relation-is ∙ c.loop-name.invariant.many;
        added = subst (λ next. AreAdded nodes names c.args.from c.args.relation.now next (c.loop-name.name-index + 1)) (sym w.relation-is)
            (added-none nodes names c.name-item.result c.args.from c.loop-name.name-index c.args.relation.now c.loop-name.relation here c.name-item.is w.in_default.ensures.none
            c.loop-name.invariant.added);
      }
    ]

pub returns-clause-others : goal.returns-clause-others
returns-clause-others c = c.loop-name.invariant.added.others

pub returns-clause-names : goal.returns-clause-names
returns-clause-names c =
    let all = c.loop-name-test.false in
    added-all c.args.nodes.now c.args.names.now c.args.from c.loop-name.name-index c.args.relation.now c.loop-name.relation (omega arith) c.loop-name.invariant.added
