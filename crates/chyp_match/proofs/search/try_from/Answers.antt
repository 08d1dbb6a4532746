use Rattle.std.proofs.Common.{◌<◌, ◌+◌, length, refl, sym, ap, subst, arith}
use Rattle.chyp_match.specs.declared.search.Search.{Search}
use Rattle.chyp_iso.proofs.Steps.{when-false, when-true}
use Rattle.chyp_match.proofs.Placing.{placed-fits}
use Rattle.chyp_match.proofs.Trying.{exhausted, fits-along, offered, offered-smaller, offered-there, same_search, still_ruled, tried}
use Rattle.chyp_match.proofs.search.try_from.Goals as goal

pub try_component-requires-clause-fits : goal.try_component-requires-clause-fits
try_component-requires-clause-fits c =
    fits-along c.args.pattern.now.graph c.graph.result.now c.args.graph.now c.graph-in-Some.result.now c.args.search.now.pairing c.loop-seed.search.pairing c.graph.ensures.graph
    c.graph-in-Some.ensures
    (ap (λ (s : Search). s.pairing) c.loop-seed.invariant.same)
    (placed-fits c.args.pattern.now c.args.graph.now c.args.search.now.pairing c.args.search.now.levels.levels c.requires.search.placed)

pub try_component-requires-clause-there : goal.try_component-requires-clause-there
try_component-requires-clause-there c =
    let l = c.args.pattern.now in
    let below : c.len-k.result < length l.anchors = subst (λ n. n < length l.anchors) (sym c.loop-seed.invariant.k_is) c.requires.more in
    offered-there l c.args.graph.now c.graph.result.now c.graph-in-Some.result.now c.len-k.result c.loop-seed.place c.in-Some.seed c.args.search.now c.requires.search c.graph.ensures.graph
    c.graph-in-Some.ensures
    (offered l c.args.graph.now c.len-k.result c.loop-seed.place c.seed_at.result c.in-Some.seed below c.seed_at.ensures.seed c.in-Some.is)

pub returns-then-try_component : goal.returns-then-try_component
returns-then-try_component c =
    let l = c.args.pattern.now in
    let below : c.len-k.result < length l.anchors = subst (λ n. n < length l.anchors) (sym c.loop-seed.invariant.k_is) c.requires.more in
    record {
      outcome = tried l c.args.graph.now c.graph.result.now c.graph-in-Some.result.now c.graph.ensures.graph c.graph-in-Some.ensures c.args.search.now c.loop-seed.search c.requires.search
          c.loop-seed.invariant.same
          c.args.from c.len-k.result c.loop-seed.place c.loop-seed.invariant.k_is c.loop-seed.invariant.from_on c.loop-seed.invariant.ruled c.in-Some.seed
          (offered l c.args.graph.now c.len-k.result c.loop-seed.place c.seed_at.result c.in-Some.seed below c.seed_at.ensures.seed c.in-Some.is)
          c.try_component.new.pairing c.push.new.self (record { image = c.image_in-image.result; next = c.loop-seed.place + 1; pairs = c.len-pairs.result })
          (when-true c.try_component.result _ _ c.try_component.ensures.outcome c.if-try_component.true) c.image_in-image.ensures refl c.len-pairs.ensures.count c.push.ensures;
    }

pub loop-seed-smaller : goal.loop-seed-smaller
loop-seed-smaller c =
    let l = c.args.pattern.now in
    let below : c.len-k.result < length l.anchors = subst (λ n. n < length l.anchors) (sym c.loop-seed.invariant.k_is) c.requires.more in
    offered-smaller l c.args.graph.now c.len-k.result c.loop-seed.place c.in-Some.seed
    (offered l c.args.graph.now c.len-k.result c.loop-seed.place c.seed_at.result c.in-Some.seed below c.seed_at.ensures.seed c.in-Some.is)

pub loop-seed-preserved : goal.loop-seed-preserved
loop-seed-preserved c =
    let l = c.args.pattern.now in
    let below : c.len-k.result < length l.anchors = subst (λ n. n < length l.anchors) (sym c.loop-seed.invariant.k_is) c.requires.more in
    let o = when-false c.try_component.result _ _ c.try_component.ensures.outcome c.if-try_component.false in
    let on = c.loop-seed.invariant.from_on in
    record {
      same = same_search l c.args.graph.now c.args.search.now c.loop-seed.search c.try_component.new.pairing c.loop-seed.invariant.same o.0;
      from_on = omega arith;
      k_is = c.loop-seed.invariant.k_is;
      ruled = still_ruled l c.args.graph.now c.graph.result.now c.graph-in-Some.result.now c.graph.ensures.graph c.graph-in-Some.ensures c.args.search.now c.loop-seed.search c.requires.search
          c.loop-seed.invariant.same
          c.args.from c.len-k.result c.loop-seed.place c.loop-seed.invariant.k_is c.loop-seed.invariant.from_on c.loop-seed.invariant.ruled c.in-Some.seed
          (offered l c.args.graph.now c.len-k.result c.loop-seed.place c.seed_at.result c.in-Some.seed below c.seed_at.ensures.seed c.in-Some.is) c.try_component.new.pairing o;
    }

pub returns : goal.returns
returns c = record {
  outcome = exhausted c.args.pattern.now c.args.graph.now c.args.search.now c.loop-seed.search c.args.from c.len-k.result c.loop-seed.place c.seed_at.result c.loop-seed.invariant.same
      c.loop-seed.invariant.k_is
      c.seed_at.ensures.seed c.in_default.is c.loop-seed.invariant.ruled;
}
