use Rattle.std.proofs.Common.{arith}
use Rattle.std.proofs.lemmas.Int.{ints, clamps}
use Rattle.zpl_arrays_tests.proofs.wide.sample.Goals as goal

pub returns : goal.returns
returns c = (
  omega (arith, ints, c.from.ensures),
  (
    (omega (arith, ints, c.from-lo.ensures), omega (arith, ints, c.from-lo.ensures)),
    (omega (arith, ints, clamps, c.from-lo.ensures, c.from-width.ensures, c.min.ensures.value), omega (arith, ints, clamps, c.from-lo.ensures, c.from-width.ensures, c.min.ensures.value)),
  ),
  (omega (arith, ints, c.from-lo.ensures, c.from-2.ensures), omega (arith, ints, c.from-lo.ensures, c.from-2.ensures)),
)
