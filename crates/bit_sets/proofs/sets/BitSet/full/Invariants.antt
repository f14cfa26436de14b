use Rattle.std.proofs.Common.{◌≡◌, length}
use Rattle.std.specs.Prelude.{All}
use Rattle.bit_sets.proofs.sets.BitSet.full.Given as goal

abbrev pub invariant-loop-word : goal.invariant-loop-word
invariant-loop-word l = record {
  many : length l.words.items ≡ l._word;
  full : All (λ word. word ≡ 18446744073709551615) l.words.items;
}
