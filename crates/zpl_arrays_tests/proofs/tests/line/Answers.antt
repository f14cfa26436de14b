use Rattle.std.proofs.Common.{w64, to_z, of_z, arith}
use Rattle.std.proofs.lemmas.Int.{ints}
use Rattle.zpl_region.proofs.HullLemmas.{some-all_from}
use Rattle.zpl_arrays_tests.proofs.tests.line.Goals as goal

pub returns-clause-some : goal.returns-clause-some
returns-clause-some c = λ order. some-all_from (to_z w64 (of_z w64 c.args.lo)) (to_z w64 (of_z w64 c.args.hi)) (omega (arith, ints))
