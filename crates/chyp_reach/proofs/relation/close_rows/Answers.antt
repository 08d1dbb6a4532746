use Rattle.std.proofs.Common.{◌≡◌, ◌||◌, ◌&&◌, List, Bool, [], false, slice_index_or, refl, ap, ◌∙◌, arith}
use Rattle.chyp_reach.specs.Relation.{relates}
use Rattle.chyp_reach.proofs.Chains.{all-closed, in-row, none-below, one-below}
use Rattle.chyp_reach.proofs.relation.close_rows.Goals as goal

pub loop-pivot-init : goal.loop-pivot-init
loop-pivot-init c = record { closed = none-below c.args.rows.now; square = c.requires.square; many = refl }

pub loop-pivot-preserved : goal.loop-pivot-preserved
loop-pivot-preserved c =
    let rows = c.loop-pivot.rows in
    let pivot = c.loop-pivot.pivot in
    let row : c.in_ok-beyond.beyond ≡ slice_index_or rows pivot [] = c.in_ok-beyond.ensures ∙ in-row rows c.index-rows-pivot.result pivot (omega arith) in
    record {
      closed = one-below c.args.rows.now pivot rows c.pass_through.new.rows c.loop-pivot.invariant.closed (λ i j.
          c.pass_through.ensures.more i j ∙ ap (λ (r : List Bool). relates rows i j || (relates rows i pivot && slice_index_or r j false)) row);
      square = c.pass_through.ensures.square;
      many = c.pass_through.ensures.count ∙ c.loop-pivot.invariant.many;
    }

pub returns-clause-chains : goal.returns-clause-chains
returns-clause-chains c = all-closed c.args.rows.now c.loop-pivot.pivot c.loop-pivot.rows c.requires.square (let many = c.loop-pivot.invariant.many in omega arith) c.loop-pivot.invariant.closed
