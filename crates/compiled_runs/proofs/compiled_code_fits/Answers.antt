use Rattle.std.proofs.Common.{arith, ◌≤◌, Bool, true, false, length}
use Rattle.std.proofs.lemmas.List.{length-map}
use Rattle.node_form.specs.declared.tables.Tables.{Tables}
use Rattle.node_emit.specs.Emit.{along_tree, emitted}
use Rattle.zpl_claims.specs.Build.{Build}
use Rattle.settled_runs.specs.of_zpl_compile.Compile.{emitted_for, plan_of}
use Rattle.compiled_runs.proofs.compiled_code_fits.Goals as goal

as_long : (build : Build) (plan : Tables) (tree : Bool)
    → length plan.code ≤ length (emitted tree build.grid plan).code
as_long build plan true = omega (arith, length-map plan.code along_tree)
as_long build plan false = omega arith

pub returns : goal.returns
returns c = record {
  fits = λ build flat is can.
      c.node_code_runs_as_its_plan.ensures.fits build.options.tree build.grid (plan_of build flat)
      (c.plan_passes_keep_runs.ensures.grid build flat)
      (c.plan_passes_keep_runs.ensures.fits build flat is can);
  three = λ build flat is can.
      c.node_code_runs_as_its_plan.ensures.three build.options.tree build.grid (plan_of build flat)
      (c.plan_passes_keep_runs.ensures.three build flat is can);
  long = λ build plan. as_long build plan build.options.tree;
}
