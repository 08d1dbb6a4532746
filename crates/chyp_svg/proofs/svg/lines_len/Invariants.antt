use Rattle.std.proofs.Common.{◌≡◌, ◌*◌, ◌^◌, ◌≤◌, flat_map, length, take}
use Rattle.chyp_svg.specs.Drawing.{path_text}
use Rattle.chyp_svg.proofs.svg.lines_len.Given as goal

abbrev pub invariant-loop-line : goal.invariant-loop-line
invariant-loop-line l = record {
  counted : l.length ≡ length (flat_map (path_text l.picture) (take l.line-index l.lines));
  few : l.length ≤ 2 ^ 24 * l.line-index;
}
