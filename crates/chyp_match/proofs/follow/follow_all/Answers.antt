use Rattle.std.proofs.Common.{arith}
use Rattle.chyp_iso.proofs.Followed.{Leads-trans}
use Rattle.chyp_match.proofs.Rows.{refute-then, row-all, row-next}
use Rattle.chyp_iso.proofs.Steps.{when-false, when-true}
use Rattle.chyp_match.proofs.follow.follow_all.Goals as goal

pub returns-then-not-follow_pair-clause-leads : goal.returns-then-not-follow_pair-clause-leads
returns-then-not-follow_pair-clause-leads c = Leads-trans c.args.pattern.now c.args.graph.now _ c.args.pairing.now c.loop-next.pairing c.follow_pair.new.pairing c.loop-next.invariant.leads
    c.follow_pair.ensures.leads

pub returns-then-not-follow_pair-clause-outcome : goal.returns-then-not-follow_pair-clause-outcome
returns-then-not-follow_pair-clause-outcome c =
    refute-then c.args.pattern.now c.args.graph.now c.args.pairing.now c.loop-next.pairing c.requires.fits.second_valid c.loop-next.invariant.leads
    (when-false c.follow_pair.result _ _ c.follow_pair.ensures.outcome c.if-not-follow_pair.true)

pub loop-next-preserved : goal.loop-next-preserved
loop-next-preserved c =
    let t = c.loop-next-test.true in
    let n = c.len.ensures.count in
    record {
      leads = Leads-trans c.args.pattern.now c.args.graph.now _ c.args.pairing.now c.loop-next.pairing c.follow_pair.new.pairing c.loop-next.invariant.leads c.follow_pair.ensures.leads;
      followed = row-next c.args.pattern.now c.args.graph.now c.loop-next.pairing c.follow_pair.new.pairing c.loop-next.next (omega arith) c.follow_pair.ensures.leads
          c.loop-next.invariant.followed
          (when-true c.follow_pair.result _ _ c.follow_pair.ensures.outcome c.if-not-follow_pair.false);
    }

pub returns-clause-outcome : goal.returns-clause-outcome
returns-clause-outcome c =
    let t = c.loop-next-test.false in
    let n = c.len.ensures.count in
    (row-all c.args.pattern.now c.args.graph.now c.loop-next.pairing.pairs c.loop-next.next (omega arith) c.loop-next.invariant.followed, c.len.ensures.matching)
