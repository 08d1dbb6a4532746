use Rattle.std.proofs.Common.{◌≡◌, flat_map, take}
use Rattle.std.specs.Io.KnownBytes.{Appends}
use Rattle.chyp_svg.specs.Drawing.{box_text}
use Rattle.chyp_svg.proofs.svg.write_boxes.Given as goal

abbrev pub invariant-loop-part : goal.invariant-loop-part
invariant-loop-part g l = record {
  written : Appends (g.K.Sink.held l.initial.sink) (g.K.Sink.held l.sink) (flat_map box_text (take l.part-index l.boxes));
  kept : g.K.Sink.faults l.sink ≡ g.K.Sink.faults l.initial.sink;
}
