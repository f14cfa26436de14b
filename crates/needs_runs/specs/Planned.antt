-- The rows of a plan seen with their items in the place of numbers, and what is asked of loops.
--
--   vote_behind      the row behind a loop, as far as the loop looks at it
--   planned_does     what such rows do on all processors
--   LoopAgrees       a loop with its exchanges before it and its vote behind it does what the flat
--                    loop does
--   AllRowsAgree     all rows do, with what they need
use Rattle.std.specs.Prelude.{ℕ, Bool, true, false, Option, Some, None, []}
use Rattle.std.specs.List.{flat_map}
use Rattle.node_form.specs.declared.instructions.Instr.{Instr}
use Rattle.node_form.specs.declared.instructions.Instr.TheVariants as instr
use Rattle.node_form.specs.declared.tables.Tables.{Tables}
use Rattle.node_form.specs.Fits.{FitsInstr}
use Rattle.row_runs.specs.Run.{Effect, Does}
use Rattle.row_runs.specs.Straight.{OnTo, Tied, flow_step, through}
use Rattle.plan_meaning.specs.of_grid_meaning.Exchange as exchange
use Rattle.plan_meaning.specs.of_flat_form.Act.{act}
use Rattle.plan_meaning.specs.of_flat_form.Row.{inlined}
use Rattle.plan_meaning.specs.of_flat_form.Whole.{Whole}
use Rattle.comm_needs.specs.of_plan_form.Units.{PlanRow, StartOf, FinishOf, Other, unit_rows}
use Rattle.plan_meaning.specs.Abreast.{Abreast}
use Rattle.plan_meaning.specs.Act.{loop_does, row_does}
use Rattle.plan_meaning.specs.Messages.{finished, started}
use Rattle.comm_needs.specs.Needs.{is_voted_on, loop_with_needs}
use Rattle.needs_runs.specs.Agree.{MessageRows}
use Rattle.needs_runs.specs.Holds.{Holds}

-- the group's vote, where there is one
abbrev pub vote_where : Bool → ℕ → Option Instr
vote_where true group = Some (instr.Vote group)
vote_where false group = None

abbrev pub vote_behind : Tables → ℕ → Option Instr
vote_behind code group = vote_where (is_voted_on code group) group

module _ (code : Tables) (links : Option ℕ) (n : ℕ) where
  -- No two exchanges are open at once: each may have the number 0.
  abbrev pub planned_does : PlanRow → Abreast → Effect Abreast
  planned_does (StartOf items) all =
      Does (started code (λ p. exchange.started code p 0 items) all links 0)
  planned_does (FinishOf items) all =
      Does (finished code (λ p. exchange.finished code p 0 items) all 0)
  planned_does (Other (instr.Loop slot group)) all =
      Does (loop_does code links n slot group (vote_behind code group) all)
  planned_does (Other row) all = row_does code links n row None all

  abbrev pub LoopAgrees : ℕ → ℕ → Type 0
  LoopAgrees slot group =
      (whole : Whole) (all : Abreast) → Holds code whole all
      → Tied (Holds code)
      (flow_step (act code n (inlined code (instr.Loop slot group)) whole) (λ next. OnTo [] next))
      (through planned_does (flat_map unit_rows (loop_with_needs code slot group)) all)

  pub record AllRowsAgree : Type 0 where
    pub messages : MessageRows code links n
    pub loops : (slot group : ℕ) → FitsInstr code (instr.Loop slot group) → LoopAgrees slot group
