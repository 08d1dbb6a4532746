use Rattle.std.proofs.Common.{◌≡◌, ◌*◌, ◌≤◌, flat_map, length, take}
use Rattle.chyp_svg.specs.Drawing.{escaped}
use Rattle.chyp_svg.proofs.label.escaped_len.Given as goal

abbrev pub invariant-loop-byte : goal.invariant-loop-byte
invariant-loop-byte l = record {
  counted : l.length ≡ length (flat_map escaped (take l.byte-index l.text));
  few : l.length ≤ 6 * l.byte-index;
}
