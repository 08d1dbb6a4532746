use Rattle.std.proofs.Common.{◌≡◌, ◌<◌, ◌^◌, map, take}
use Rattle.std.specs.Io.KnownBytes.{Appends}
use Rattle.chyp_svg.specs.Drawing.{bend_place, curves_text, last_place}
use Rattle.chyp_svg.proofs.path.write_bends.Given as goal

abbrev pub invariant-loop-point : goal.invariant-loop-point
invariant-loop-point g l = record {
  written : Appends (g.K.Sink.held l.initial.sink) (g.K.Sink.held l.sink) (curves_text l.fn.from (map bend_place (take l.point-index l.bends)));
  kept : g.K.Sink.faults l.sink ≡ g.K.Sink.faults l.initial.sink;
  reached : l.last ≡ last_place l.fn.from (map bend_place (take l.point-index l.bends));
  low : l.last.x < 2 ^ 60;
}
