use Rattle.std.proofs.Common.{◌≡◌, ◌+◌, length}
use Rattle.zpl_io.specs.DiskFiles.{GainsRead}
use Rattle.zpl_io.proofs.disk_files.read_text.Given as goal

abbrev pub invariant-loop-left : goal.invariant-loop-left
invariant-loop-left g l = record {
  bytes : GainsRead (g.R.Read.remaining l.initial.reader) (g.R.Read.remaining l.reader)
      l.initial.into.items l.into.items;
  wanted : length l.into.items + l.left ≡ length l.initial.into.items + l.limit + 1;
}

abbrev pub decreases-loop-left : goal.decreases-loop-left
decreases-loop-left g l = l.left
