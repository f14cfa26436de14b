-- Node code comes along as its plan.
use Rattle.std.proofs.Common.{ℕ, ◌≤◌, Bool, true, false, List, Option, All, length, arith}
use Rattle.std.proofs.lemmas.List.{length-map}
use Rattle.node_form.specs.declared.tables.Tables.{Tables}
use Rattle.grid_meaning.specs.State.{HasThree}
use Rattle.node_emit.specs.Emit.{along_tree, emitted}
use Rattle.emitted_orders.specs.AsPlanned.{ComesAsPlanned}
use Rattle.lock_steps.specs.Meant.{ComesInOrder}

-- it has as many rows
as_long : (tree : Bool) (grid : List ℕ) (plan : Tables)
    → length plan.code ≤ length (emitted tree grid plan).code
as_long true grid plan = omega (arith, length-map plan.code along_tree)
as_long false grid plan = omega arith

pub comes_in_order : (tree : Bool) (grid : List ℕ) (plan : Tables) (links : Option ℕ)
    → ComesAsPlanned (emitted tree grid plan) plan links
    → All (HasThree (emitted tree grid plan)) (emitted tree grid plan).code
    → ComesInOrder plan (emitted tree grid plan) links
comes_in_order tree grid plan links orders three =
    record { orders = orders; long = as_long tree grid plan; three = three }
