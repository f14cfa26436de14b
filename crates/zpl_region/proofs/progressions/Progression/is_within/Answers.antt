use Rattle.std.proofs.Common.{w64, to_z, of_z, arith}
use Rattle.std.proofs.lemmas.Int.{ints}
use Rattle.zpl_region.proofs.ListLemmas.{le_from_test, test_from_le}
use Rattle.zpl_region.proofs.ProgressionLemmas.{ends_within, within_iff}
use Rattle.zpl_region.proofs.progressions.Progression.is_within.Goals as goal

pub returns-then-lo-self : goal.returns-then-lo-self
returns-then-lo-self c =
    let p = c.args.self in
    let end = to_z w64 (of_z w64 c.at.result) in
    let hi = to_z w64 (of_z w64 c.args.hi) in (
      λ t. within_iff p.first p.step p.count c.args.lo c.args.hi (omega arith) (omega (arith, ints), omega (arith, ints, le_from_test end hi t)),
      λ all. test_from_le end hi (omega (arith, ints, ends_within p.first p.step p.count c.args.lo c.args.hi (omega arith) all)),
    )

pub returns-else-lo-self : goal.returns-else-lo-self
returns-else-lo-self c =
    let p = c.args.self in
    let lo = to_z w64 (of_z w64 c.args.lo) in
    let first = to_z w64 (of_z w64 p.first) in (
      λ t. absurd (omega (arith, ints, le_from_test lo first t)),
      λ all. test_from_le lo first (omega (arith, ints, ends_within p.first p.step p.count c.args.lo c.args.hi (omega arith) all)),
    )
