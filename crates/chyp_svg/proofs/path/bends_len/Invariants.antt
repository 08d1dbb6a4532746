use Rattle.std.proofs.Common.{◌≡◌, ◌*◌, ◌<◌, ◌≤◌, ◌^◌, length, map, take}
use Rattle.chyp_svg.specs.Drawing.{bend_place, curves_text, last_place}
use Rattle.chyp_svg.proofs.path.bends_len.Given as goal

abbrev pub invariant-loop-point : goal.invariant-loop-point
invariant-loop-point l = record {
  counted : l.length ≡ length (curves_text l.fn.from (map bend_place (take l.point-index l.bends)));
  few : l.length ≤ 128 * l.point-index;
  reached : l.last ≡ last_place l.fn.from (map bend_place (take l.point-index l.bends));
  low : l.last.x < 2 ^ 60;
}
