use Rattle.std.proofs.Common.{◌≡◌, ◌*◌, ◌^◌, ◌≤◌, flat_map, length, take}
use Rattle.chyp_svg.specs.Drawing.{box_text}
use Rattle.chyp_svg.proofs.svg.boxes_len.Given as goal

abbrev pub invariant-loop-part : goal.invariant-loop-part
invariant-loop-part l = record {
  counted : l.length ≡ length (flat_map box_text (take l.part-index l.boxes));
  few : l.length ≤ 2 ^ 36 * l.part-index;
}
