use Rattle.std.proofs.Common.{◌≡◌, ℕ, ◌+◌, ◌≤◌, length, get_or}
use Rattle.zpl_text.specs.Lines.{line_at}
use Rattle.lower_places.proofs.lines.lines_of.Given as goal

abbrev pub invariant-loop-byte : goal.invariant-loop-byte
invariant-loop-byte l = record {
  count : length l.lines.items ≡ l.byte-index + 1;
  line : l.line ≡ line_at l.source l.byte-index;
  few : l.line ≤ l.byte-index + 1;
  right : (k : ℕ) → k ≤ l.byte-index → get_or l.lines.items k 0 ≡ line_at l.source k;
}
