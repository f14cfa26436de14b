-- Compiled code is tidy.
use Rattle.std.proofs.Common.{ap, ◌∙◌, arith, ◌+◌, ◌*◌, ◌≤◌}
use Rattle.zpl_tree.specs.Syntax.{Program}
use Rattle.zpl_names.specs.Expansion.{source_size}
use Rattle.code_parts.specs.Counts.{code_size, count_of, is_counted, is_loop, is_vote}
use Rattle.grid_layout.specs.Layout.{Arrangement}
use Rattle.temp_norm.specs.Normalised.{loops_on_themselves}
use Rattle.compiled_sizes.specs.of_lowering_sizes.Sizes.{HasTokens}
use Rattle.compiled_sizes.proofs.of_lowering_sizes.CountedProgram.{count_law}
use Rattle.compiled_sizes.proofs.of_lowering_sizes.TextLemmas.{size_law}
use Rattle.zpl_claims.specs.Build.{Build}
use Rattle.zpl_claims.specs.Origin.{Origin}
use Rattle.zpl_claims.specs.Tidy.{IsLean, IsTidy}
use Rattle.compiled_sizes.specs.of_zpl_compile.Compile.{compiled}
use Rattle.compiled_sizes.specs.Lowered.{IsLowered}
use Rattle.compiled_sizes.proofs.BaseLemmas.{members_once, none_unflat, shifts_once}
use Rattle.compiled_sizes.proofs.CheckLemmas.{still_undecided}
use Rattle.compiled_sizes.proofs.LayoutLemmas.{laid_out, trees}
use Rattle.compiled_sizes.proofs.PassLemmas.{IsEnded, all_compiled}
use Rattle.compiled_sizes.proofs.ThemselvesLemmas.{themselves_read}
use Rattle.compiled_sizes.proofs.of_lowering_checks.StandLemmas.{stands_from}
use Rattle.compiled_tidy.specs.Lowered.{IsLoweredTidily, lowered_for}
use Rattle.compiled_tidy.proofs.FlatLemmas.{can_be_fused, first_fits}
use Rattle.compiled_tidy.proofs.LetterLemmas.{all_contracted, all_early, all_fused, all_merged, all_new}

ended : (build : Build) (program : Program) → IsLowered build program
    → IsEnded (compiled build program) (9 * code_size (lowered_for build program))
    (count_of is_counted (lowered_for build program) + 2 * loops_on_themselves (lowered_for build program))
ended build program is =
    all_compiled build (lowered_for build program)
    (members_once program build.settings is.flat)
    (shifts_once program build.settings is.flat)
    (none_unflat program build.settings is.flat)

pub small_code : (build : Build) (program : Program) → IsLowered build program
    → code_size (compiled build program) ≤ 512 * (source_size program + 1)
small_code build program is =
    omega (
      arith,
      (ended build program is).sized,
      size_law program build.settings is.faultless is.holds,
    )

pub few_votes : (build : Build) (program : Program) → IsLowered build program
    → count_of is_vote (compiled build program) ≤ count_of is_loop (compiled build program)
few_votes build program is = (ended build program is).few_votes

pub lean : (origin : Origin) → IsLowered origin.build origin.program
    → HasTokens origin.program origin.tokens
    → IsLean origin (compiled origin.build origin.program)
lean origin lowered tokens =
    let build = origin.build in
    let program = origin.program in
    record {
      grid = ap (λ (a : Arrangement). a.grid) (laid_out build program);
      small = small_code build program lowered;
      few =
          omega (
            arith,
            (ended build program lowered).few_rows,
            count_law program build.settings origin.tokens lowered.faultless tokens,
            themselves_read program build.settings lowered.flat,
          );
      votes = few_votes build program lowered;
      undecided = still_undecided build program;
      contracted = λ asked.
          all_contracted build (lowered_for build program)
          (first_fits (lowered_for build program) lowered.flat build.options.fuse) asked;
      not_redundant = λ asked. all_new build (lowered_for build program) asked;
      merged = λ asked. all_merged build (lowered_for build program) asked;
      early = λ asked. all_early build (lowered_for build program) asked;
      by_trees = λ asked. trees build program asked;
    }

pub tidy : (origin : Origin) → IsLoweredTidily origin
    → IsTidy origin (compiled origin.build origin.program)
tidy origin is =
    let build = origin.build in
    let program = origin.program in
    let lowered = is.lowered in
    record {
      lean = lean origin lowered is.tokens;
      boxes = ap (λ (a : Arrangement). a.boxes) (laid_out build program) ∙ is.boxes;
      fused = λ asked.
          all_fused build (lowered_for build program)
          (can_be_fused (lowered_for build program) lowered.flat is.checks
          (stands_from (lowered_for build program) is.totals is.puts is.reads is.alike)) asked;
    }
