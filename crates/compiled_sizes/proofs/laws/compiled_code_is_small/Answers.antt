use Rattle.std.proofs.Common.{ℕ, ◌+◌, ◌*◌, ◌≤◌, arith}
use Rattle.zpl_tree.specs.Syntax.{Program}
use Rattle.zpl_names.specs.Expansion.{other_size, plain_assignments, source_size}
use Rattle.code_parts.specs.Counts.{code_size, count_of, is_counted}
use Rattle.temp_norm.specs.Normalised.{loops_on_themselves}
use Rattle.zpl_lowering.specs.Tables.{flat_tables}
use Rattle.lowering_sizes.specs.Sizes.{HasTokens}
use Rattle.lowering_sizes.proofs.CountedProgram.{count_law}
use Rattle.lowering_sizes.proofs.TextLemmas.{size_law}
use Rattle.zpl_claims.specs.Build.{Build}
use Rattle.zpl_compile.specs.Compile.{compiled}
use Rattle.compiled_sizes.specs.Lowered.{IsLowered}
use Rattle.compiled_sizes.proofs.BaseLemmas.{members_once, none_unflat, shifts_once}
use Rattle.compiled_sizes.proofs.PassLemmas.{IsEnded, all_compiled}
use Rattle.compiled_sizes.proofs.PreparedLemmas.{normal_twice}
use Rattle.compiled_sizes.proofs.ThemselvesLemmas.{themselves_read}
use Rattle.compiled_sizes.proofs.laws.compiled_code_is_small.Goals as goal

ended : (build : Build) (program : Program) → IsLowered build program →
    IsEnded (compiled build program) (9 * code_size (flat_tables program build.settings))
    (count_of is_counted (flat_tables program build.settings)
    + 2 * loops_on_themselves (flat_tables program build.settings))
ended build program is =
    all_compiled build (flat_tables program build.settings)
    (members_once program build.settings is.flat)
    (shifts_once program build.settings is.flat)
    (none_unflat program build.settings is.flat)

small : (build : Build) (program : Program) → IsLowered build program →
    code_size (compiled build program) ≤ 512 * (source_size program + 1)
small build program is =
    omega (
      arith,
      (ended build program is).sized,
      size_law program build.settings is.faultless is.holds,
    )

few : (build : Build) (program : Program) (tokens : ℕ) → IsLowered build program →
    HasTokens program tokens →
    count_of is_counted (compiled build program) ≤
    plain_assignments program + 32 * (other_size program tokens + 1)
few build program tokens is fit =
    omega (
      arith,
      (ended build program is).few_rows,
      count_law program build.settings tokens is.faultless fit,
      themselves_read program build.settings is.flat,
    )

pub returns : goal.returns
returns c = record {
  factor = λ build program is. (ended build program is).sized;
  small = small;
  normal = λ build program is. normal_twice program build.settings is.flat;
  counted = few;
  votes = λ build program is. (ended build program is).few_votes;
}
