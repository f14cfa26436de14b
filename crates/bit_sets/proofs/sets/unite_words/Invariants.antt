use Rattle.std.proofs.Common.{◌≡◌, ℕ, ◌<◌, ◌≤◌, get_or, length}
use Rattle.std.specs.Prelude.{bit_or}
use Rattle.bit_sets.proofs.sets.unite_words.Given as goal

abbrev pub invariant-loop-i : goal.invariant-loop-i
invariant-loop-i l = record {
  done :
      (at : ℕ) → at < l.i
      → get_or l.words.items at 0 ≡ bit_or (get_or l.initial.words.items at 0) (get_or l.more at 0);
  left : (at : ℕ) → l.i ≤ at → get_or l.words.items at 0 ≡ get_or l.initial.words.items at 0;
  many : length l.words.items ≡ length l.initial.words.items;
}
