use Rattle.std.proofs.Common.{arith}
use Rattle.pass_sizes.proofs.CombineLemmas.{dropped_count, dropped_pairs, dropped_size}
use Rattle.pass_sizes.proofs.CombineLemmas.{merged_count, merged_pairs, merged_size}
use Rattle.pass_sizes.proofs.laws.exchanges_get_fewer.Goals as goal

pub returns : goal.returns
returns c = record {
  dropped = dropped_size;
  dropped_pairs = dropped_pairs;
  dropped_factor = λ plan paired. omega (arith, dropped_size plan, paired);
  dropped_rows = dropped_count;
  merged = merged_size;
  merged_pairs = merged_pairs;
  merged_factor = λ plan paired. omega (arith, merged_size plan, paired);
  merged_rows = merged_count;
}
