use Rattle.code_parts.proofs.EarlyLemmas.{early_either_way}
use Rattle.code_parts.proofs.FusedLemmas.{fused_either_way}
use Rattle.code_parts.proofs.MergedLemmas.{merged_either_way}
use Rattle.code_parts.proofs.RepeatLemmas.{repeats_either_way}
use Rattle.code_parts.proofs.laws.walks_say_what_holds_of_stretches.Goals as goal

pub returns : goal.returns
returns c = record {
  fused = fused_either_way;
  not_redundant = repeats_either_way;
  merged = merged_either_way;
  early = early_either_way;
}
