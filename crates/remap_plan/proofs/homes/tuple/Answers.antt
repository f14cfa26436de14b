use Rattle.std.proofs.Common.{arith}
use Rattle.std.proofs.lemmas.Int.{ints}
use Rattle.remap_plan.proofs.HomeLemmas.{filled_told}
use Rattle.remap_plan.proofs.homes.tuple.Goals as goal

pub returns : goal.returns
returns c = filled_told c.args.x.now _ _ _ c.requires (omega (arith, ints)) (omega (arith, ints)) (omega (arith, ints))
