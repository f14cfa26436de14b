use Rattle.std.proofs.Common.{arith}
use Rattle.code_parts.specs.Counts.{is_counted, is_loop}
use Rattle.pass_sizes.specs.Sizes.{is_unflat}
use Rattle.pass_sizes.proofs.FactorLemmas.{normal_factor, temporaries_of_arrays}
use Rattle.pass_sizes.proofs.NormalLemmas.{few_temporaries, normal_count, normal_once}
use Rattle.pass_sizes.proofs.NormalLemmas.{normal_shifts, splits_are_loops}
use Rattle.pass_sizes.proofs.TestLemmas.{counted_blind, loop_blind, unflat_blind}
use Rattle.pass_sizes.proofs.laws.temporaries_are_few.Goals as goal

pub returns : goal.returns
returns c = record {
  once = normal_once;
  shifts = normal_shifts;
  temporaries = few_temporaries;
  arrays = temporaries_of_arrays;
  factor = normal_factor;
  loops = splits_are_loops;
  counted = λ code. normal_count code is_counted counted_blind 1 1 (λ array slot. omega arith)
      (λ slot. omega arith);
  more_loops = λ code. omega (
    arith,
    normal_count code is_loop loop_blind 0 1 (λ array slot. omega arith) (λ slot. omega arith),
  );
  unflat = λ code. omega (
    arith,
    normal_count code is_unflat unflat_blind 0 0 (λ array slot. omega arith)
        (λ slot. omega arith),
  );
}
