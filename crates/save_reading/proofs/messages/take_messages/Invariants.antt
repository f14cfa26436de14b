use Rattle.std.proofs.Common.{◌≤◌, length, map, drop}
use Rattle.grid_save.specs.Reads.{IsMessageLine, is_message}
use Rattle.save_reading.specs.Sent.{sent_pair}
use Rattle.save_reading.proofs.ReadLemmas.{Going}
use Rattle.save_reading.proofs.SentLemmas.{IsLeast}
use Rattle.save_reading.proofs.messages.take_messages.Given as goal

abbrev pub invariant-loop-line : goal.invariant-loop-line
invariant-loop-line l = record {
  going : Going is_message (IsMessageLine l._code l.p) (drop l.fn.from l.lines) (map sent_pair l.sent.items) (drop l.at l.lines);
  inside : l.at ≤ length l.lines;
  least : IsLeast l.least (map sent_pair l.sent.items);
}

abbrev pub decreases-loop-line : goal.decreases-loop-line
decreases-loop-line l = length (drop l.at l.lines)
