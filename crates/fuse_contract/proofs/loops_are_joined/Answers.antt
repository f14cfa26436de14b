use Rattle.std.proofs.Common.{refl}
use Rattle.fuse_contract.proofs.JoinLemmas.{few_members, few_rows, same_goals, size_of_fused}
use Rattle.fuse_contract.proofs.loops_are_joined.Goals as goal

pub returns : goal.returns
returns c = record {
  rows = few_rows;
  members = few_members;
  size = size_of_fused;
  jumps = same_goals;
  rest = λ code. refl;
}
