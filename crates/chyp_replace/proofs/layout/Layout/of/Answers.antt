use Rattle.std.proofs.Common.{◌∙◌, ◌++◌, ap, arith, length}
use Rattle.chyp_term.specs.Perm.{count_from}
use Rattle.chyp_replace.proofs.Keeping.{kept-few, kept-length}
use Rattle.chyp_replace.proofs.layout.Layout.of.Goals as goal

pub add_wires-requires : goal.add_wires-requires
add_wires-requires c =
    let sorts = c.args.graph.now.wires in
    let k = kept-few sorts c.args.images.now (length sorts) c.in_ok-wires.wires.items c.in_ok-wires.ensures.wires (omega arith) in
    let f = c.requires.few in
    omega arith

pub returns : goal.returns
returns c =
    let sorts = c.args.graph.now.wires in
    let count = length c.args.right.now.wires in
    record {
      wires = c.in_ok-moved.ensures.wires ∙ ap (λ l. l ++ c.args.right.now.wires) c.in_ok-wires.ensures.wires;
      kept = c.in_ok-wires.ensures.before;
      moved = c.in_ok-moved.ensures.numbers ∙ ap (λ n. count_from n count) (kept-length sorts c.args.images.now (length sorts) c.in_ok-wires.wires.items c.in_ok-wires.ensures.wires (omega arith));
    }
