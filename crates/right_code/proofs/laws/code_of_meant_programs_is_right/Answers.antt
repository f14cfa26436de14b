use Rattle.std.proofs.Common.{subst, sym}
use Rattle.std.specs.Prelude.{All, ◌≤◌}
use Rattle.zpl_tree.specs.Syntax.{Program}
use Rattle.zpl_names.specs.Expansion.{shattered_loops}
use Rattle.zpl_meaning.specs.Program.{outcome_of}
use Rattle.node_form.specs.declared.tables.Tables.{Tables}
use Rattle.flat_form.specs.Flat.{IsFlat}
use Rattle.compiled_runs.specs.of_needs_runs.Sharable.{IsSharable}
use Rattle.owed_tables.specs.of_pass_promises.Promises.{HasLoopsUpTo, loops_in}
use Rattle.zpl_claims.specs.Build.{Build}
use Rattle.right_code.specs.Accepted.{IsAccepted}
use Rattle.right_code.proofs.TypedLemmas.{is_typed}
use Rattle.right_code.proofs.SettledLemmas.{settled_stays}
use Rattle.right_code.proofs.LoopLemmas.{most_within, plan_groups}
use Rattle.compiled_runs.proofs.SharableLemmas.{plannable}
use Rattle.right_code.proofs.PlanLemmas.{HasPlan, flat_of, plan_for, settled_of}
use Rattle.right_code.proofs.laws.code_of_meant_programs_is_right.Goals as goal

pub returns : goal.returns
returns c =
    let has : (program : Program) (build : Build) → IsAccepted program build →
    HasPlan build program =
    λ program build accepted.
    let flat : Tables = flat_of build program in
    let is_flat : IsFlat flat =
    c.lowered_programs_are_flat.ensures.flat program build.settings accepted.grammar
    accepted.faultless accepted.apart accepted.settings in
    let typed =
    c.lowered_tables_are_typed.ensures.typed program build.settings accepted.grammar
    accepted.faultless accepted.apart accepted.settings in
    let cells = c.lowered_tables_are_typed.ensures.cells program build.settings in
    let sharable : IsSharable (settled_of build program) =
    c.settled_tables_are_sharable.ensures build flat
    (c.lowered_tables_owe_nothing_more.ensures program build.settings accepted.grammar
    accepted.faultless accepted.apart accepted.settings) in
    let plans = plannable (settled_of build program) sharable in
    let loops : HasLoopsUpTo (shattered_loops program) (settled_of build program) =
    settled_stays (HasLoopsUpTo (shattered_loops program))
    (record {
      normalised = λ code. c.groups_gain_no_loops.ensures.normalised code (shattered_loops program);
      checked = λ code. c.groups_gain_no_loops.ensures.checked code (shattered_loops program);
      fused = λ code. c.groups_gain_no_loops.ensures.fused code (shattered_loops program);
      contracted = λ code. c.groups_gain_no_loops.ensures.contracted code (shattered_loops program);
    }) build flat (c.groups_turn_as_statements_do.ensures program build.settings) in
    record {
      grid = c.plan_passes_keep_runs.ensures.grid build (settled_of build program);
      fits = c.plan_passes_keep_runs.ensures.fits build (settled_of build program) accepted.grid
          plans;
      three = c.plan_passes_keep_runs.ensures.three build (settled_of build program) accepted.grid
          plans;
      shows = c.compiled_plans_keep_runs.ensures.plan build flat
          accepted.grid is_flat (is_typed flat typed) cells sharable;
      loops = most_within (shattered_loops program) (plan_for build program)
          (subst (All (λ group. loops_in group ≤ shattered_loops program))
          (sym (plan_groups build (settled_of build program))) loops);
    } in
    record {
      in_step = λ program build accepted meant links built.
          let plan = has program build accepted in
          c.emitted_code_comes_in_step.ensures.in_step build.options.tree build.grid
          (flat_of build program) (plan_for build program) links
          (outcome_of program build.settings) plan.grid built.0 plan.fits plan.three meant
          (plan.shows links built);
      good = λ program build accepted meant links built.
          let plan = has program build accepted in
          c.emitted_code_comes_in_step.ensures.good build.options.tree build.grid
          (flat_of build program) (plan_for build program) links
          (outcome_of program build.settings) plan.grid built.0 plan.fits plan.three meant
          (plan.shows links built);
      in_time = λ program build accepted meant links built.
          let plan = has program build accepted in
          c.emitted_code_comes_in_step.ensures.in_time build.options.tree build.grid
          (flat_of build program) (plan_for build program) links
          (outcome_of program build.settings) (shattered_loops program) plan.grid built.0
          plan.fits plan.three meant (plan.shows links built) plan.loops;
    }
