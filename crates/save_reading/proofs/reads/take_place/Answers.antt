use Rattle.std.proofs.Common.{drop, ◌+◌}
use Rattle.save_lines.specs.Line.{IsSavedLine}
use Rattle.save_reading.proofs.ReadLemmas.{line_is}
use Rattle.save_reading.proofs.reads.take_place.Goals as goal

pub read_place-requires : goal.read_place-requires
read_place-requires c = line_is IsSavedLine c.args.lines.now c.args.at c.in-Some.line.now (drop (c.args.at + 1) c.args.lines.now) c.requires.lines c.in-Some.ensures.0
