use Rattle.std.proofs.Common.{refl}
use Rattle.code_parts.specs.Counts.{is_counted, is_loop}
use Rattle.pass_sizes.proofs.SettledLemmas.{checked_count, checked_once, checked_shifts}
use Rattle.pass_sizes.proofs.SettledLemmas.{contracted_shifts, fused_count, fused_fewer, fused_once}
use Rattle.pass_sizes.proofs.SettledLemmas.{fused_shifts}
use Rattle.pass_sizes.proofs.TestLemmas.{no_loop_blind, uncounted_blind}
use Rattle.pass_sizes.proofs.laws.settled_programs_are_small.Goals as goal

pub returns : goal.returns
returns c = record {
  checked_once = checked_once;
  checked_shifts = checked_shifts;
  checked_rows = checked_count;
  fused_once = fused_once;
  fused_shifts = fused_shifts;
  fused_rows = fused_count;
  fused_counted = λ code. fused_fewer code is_counted uncounted_blind (λ slot group. refl);
  fused_loops = λ code. fused_fewer code is_loop no_loop_blind (λ slot group. refl);
  contracted_shifts = contracted_shifts;
}
