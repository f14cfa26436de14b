-- What is known of the plan that code is emitted from.
use Rattle.std.specs.Prelude.{◌≡◌, ◌≤◌, All}
use Rattle.zpl_tree.specs.Syntax.{Program}
use Rattle.zpl_names.specs.Expansion.{shattered_loops}
use Rattle.node_form.specs.declared.tables.Tables.{Tables}
use Rattle.node_form.specs.Fits.{Fits}
use Rattle.grid_meaning.specs.State.{HasThree}
use Rattle.zpl_lowering.specs.Tables.{flat_tables}
use Rattle.compiled_runs.specs.of_plan_orders.Brings.{most_loops}
use Rattle.compiled_runs.specs.of_lock_steps.Meant.{IsPlanOf}
use Rattle.zpl_claims.specs.Build.{Build, OverAllLinks}
use Rattle.compiled_runs.specs.of_zpl_compile.Compile.{plan_of, settled}

abbrev pub flat_of : Build → Program → Tables
flat_of build program = flat_tables program build.settings

abbrev pub settled_of : Build → Program → Tables
settled_of build program = settled build (flat_of build program)

abbrev pub plan_for : Build → Program → Tables
plan_for build program = plan_of build (settled_of build program)

pub record HasPlan (build : Build) (program : Program) : Type 0 where
  pub grid : (plan_for build program).grid ≡ build.grid
  pub fits : Fits (plan_for build program)
  pub three : All (HasThree (plan_for build program)) (plan_for build program).code
  pub shows : OverAllLinks build (IsPlanOf (flat_of build program) (plan_for build program))
  pub loops : most_loops (plan_for build program) ≤ shattered_loops program
