-- From a flat program over its settled tables and their plan to node code.
use Rattle.std.proofs.Common.{◌≡◌, sym, subst, ℕ}
use Rattle.std.specs.Prelude.{Option}
use Rattle.node_form.specs.declared.tables.Tables.{Tables}
use Rattle.node_form.specs.Grid.{IsGrid}
use Rattle.row_runs.specs.Segments.{Keeps}
use Rattle.row_runs.proofs.RowLemmas.{keeps_through}
use Rattle.flat_form.specs.Act.{flat_run}
use Rattle.plan_meaning.specs.Act.{plan_run}
use Rattle.comm_needs.specs.Needs.{planned}
use Rattle.planned_runs.specs.of_needs_runs.Sharable.{IsSharable, PlansKeepRuns}
use Rattle.zpl_claims.specs.Build.{Build, IsBuiltFor}
use Rattle.settled_runs.specs.of_zpl_compile.Compile.{emitted_for, plan_of, settled}
use Rattle.compiled_runs.proofs.SharableLemmas.{has_room}

module _ (keep : PlansKeepRuns) (build : Build) (flat : Tables) (is : IsGrid build.grid)
    (sharable : IsSharable (settled build flat)) (links : Option ℕ) (built : IsBuiltFor build links)
    (a n : ℕ) where
  abbrev low : Tables
  low = settled build flat

  -- the plan behind all passes shows it, where settled tables do, and passes over plans keep runs
  pub plan_shows : Keeps (flat_run flat a n) (flat_run low a n)
      → Keeps (plan_run (planned build.grid low) links a n) (plan_run (plan_of build low) links a n)
      → Keeps (flat_run flat a n) (plan_run (plan_of build low) links a n)
  plan_shows first last =
      keeps_through (flat_run flat a n) (flat_run low a n) (plan_run (plan_of build low) links a n)
      first
      (keeps_through (flat_run low a n) (plan_run (planned build.grid low) links a n)
      (plan_run (plan_of build low) links a n)
      (keep low build.grid links sharable is (has_room links built.0) a n) last)

  -- and so does node code that runs as the plan
  pub code_shows :
      plan_run (emitted_for build (plan_of build low)) links a n ≡ plan_run (plan_of build low) links a n
      → Keeps (flat_run flat a n) (flat_run low a n)
      → Keeps (plan_run (planned build.grid low) links a n) (plan_run (plan_of build low) links a n)
      → Keeps (flat_run flat a n) (plan_run (emitted_for build (plan_of build low)) links a n)
  code_shows same first last = subst (Keeps (flat_run flat a n)) (sym same) (plan_shows first last)
