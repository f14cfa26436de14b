use Rattle.std.proofs.Common.{refl}
use Rattle.comm_early.proofs.SumLemmas.{rows_stay, size_stays}
use Rattle.comm_early.proofs.rows_stay.Goals as goal

pub returns : goal.returns
returns c = record { size = size_stays; rows = rows_stay; rest = λ links plan. refl }
