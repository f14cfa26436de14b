use Rattle.std.proofs.Common.{refl}
use Rattle.temp_norm.proofs.JumpLemmas.{same_goals}
use Rattle.temp_norm.proofs.NormalLemmas.{is_normal}
use Rattle.temp_norm.proofs.RowLemmas.{few_rows}
use Rattle.temp_norm.proofs.SizeLemmas.{size_of_normalised}
use Rattle.temp_norm.proofs.values_go_through_temporaries.Goals as goal

pub returns : goal.returns
returns c = record {
  normal = is_normal;
  rows = few_rows;
  size = size_of_normalised;
  jumps = same_goals;
  rest = λ code. refl;
}
