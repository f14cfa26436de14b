use Rattle.std.proofs.Common.{◌≡◌, ◌++◌, take}
use Rattle.std.specs.List.{flat_map}
use Rattle.time_text.specs.Text.{total_line, segment_line}
use Rattle.time_text.proofs.time_text.Given as goal

abbrev pub invariant-loop-segment : goal.invariant-loop-segment
invariant-loop-segment l =
    l.text.items ≡ total_line l.fn.moves l.fn.ticks ++ flat_map segment_line (take l.segment-index l.chain)
