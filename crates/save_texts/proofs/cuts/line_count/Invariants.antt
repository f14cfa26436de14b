use Rattle.std.proofs.Common.{◌≡◌, ◌+◌, ◌≤◌, drop}
use Rattle.save_texts.specs.Newlines.{newlines}
use Rattle.save_texts.proofs.cuts.line_count.Given as goal

abbrev pub invariant-loop-byte : goal.invariant-loop-byte
invariant-loop-byte l = record {
  counted : l.count + newlines (drop l.byte-index l.bytes) ≡ newlines l.bytes;
  most : l.count ≤ l.byte-index;
}
