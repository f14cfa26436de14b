-- What a member of a group comes to, and the members up to the end of a turn.
--
--   step_of, ran_of   by what the code answers, and by the state that it leaves
--   Changes           nothing is another but what members change, and what is logged tells it
use Rattle.std.specs.Prelude.{◌≡◌, ℕ, ◌+◌, ◌≤◌, Bool, true, false, List, length, Option, Result, Ok, Err, ⊤}
use Rattle.zpl_arrays.specs.Array.{Array}
use Rattle.zpl_nums.specs.Integer.{is_true}
use Rattle.node_form.specs.Group as group
use Rattle.node_form.specs.declared.tables.Tables.{Tables}
use Rattle.node_form.specs.Group.{Access, Point, Step, GoesOn, GoesBack, DividesHere, LacksHere, chosen, masked, value_at, with_value}
use Rattle.grid_meaning.specs.Loop.{point_of, with_point}
use Rattle.node_local.specs.declared.values.NoValue.{NoValue}
use Rattle.node_local.specs.declared.values.NoValue.TheVariants.{Divides, Lacks}
use Rattle.node_local.specs.Undo.{undone}
use Rattle.node_local.specs.Workplace.{Workplace}
use Rattle.node_loop.specs.declared.members.Next.{Next}
use Rattle.node_loop.specs.declared.members.Next.TheVariants.{On, Back}
use Rattle.node_loop.specs.declared.modes.Mode.{Mode}
use Rattle.node_loop.specs.declared.modes.Mode.TheVariants.{Runs, Skips}
use Rattle.node_loop.specs.declared.turns.Ran.{Ran}
use Rattle.node_loop.specs.declared.turns.Ran.TheVariants.{Through, Again, Divided, Unheld}

-- ---- modes
abbrev pub mode_of : Mode → group.Mode
mode_of Runs = group.Runs
mode_of (Skips depth to_else) = group.Skips depth to_else

abbrev pub depth_in : Mode → ℕ
depth_in Runs = 0
depth_in (Skips depth to_else) = depth

-- ---- one member
abbrev pub step_of : Result Next NoValue → Point (List Array) → Step (List Array)
step_of (Ok (On mode)) point = GoesOn (mode_of mode) point
step_of (Ok Back) point = GoesBack point
step_of (Err Divides) point = DividesHere
step_of (Err Lacks) point = LacksHere

abbrev pub depth_after : Result Next NoValue → ℕ
depth_after (Ok (On mode)) = depth_in mode
depth_after (Ok Back) = 0
depth_after (Err none) = 0

-- a member that is not masked does this, one that is goes on in a mode
abbrev pub by_mask : Result Bool NoValue → Step (List Array) → Step (List Array) → Step (List Array)
by_mask (Ok true) skip run = run
by_mask (Ok false) skip run = skip
by_mask (Err Divides) skip run = DividesHere
by_mask (Err Lacks) skip run = LacksHere

-- what a member does that opens others by an expression
abbrev pub opening : Tables → Access (List Array) → Point (List Array) → ℕ → Option ℕ → Bool → Step (List Array)
opening code access point expr mask to_else =
    masked code access point mask (group.Skips 0 false)
    (with_value (value_at code access point expr) (λ value. chosen code access point (is_true value) to_else))

-- At most so many changes more are logged. Where all of them are taken back, what members change is
-- as it was.
pub record Changes (most : ℕ) (before after : Workplace) : Type 0 where
  pub same : after ≡ record before {
    local = with_point before.local (point_of after.local);
    log = after.log;
  }
  pub back : undone after.log (point_of after.local) ≡ undone before.log (point_of before.local)
  pub long : length after.log ≤ length before.log + most

-- a member that has no value changes nothing
abbrev pub StaysWhereStopped : Result Next NoValue → Workplace → Workplace → Type 0
StaysWhereStopped (Ok next) before after = ⊤
StaysWhereStopped (Err none) before after = after ≡ before

pub record IsStep (step : Step (List Array)) (deepest : ℕ) (before after : Workplace) (result : Result Next NoValue) : Type 0 where
  pub comes_to : step ≡ step_of result (point_of after.local)
  pub changes : Changes 1 before after
  pub stays : StaysWhereStopped result before after
  pub deep : depth_after result ≤ deepest

-- ---- members up to the end of a turn
abbrev pub ran_of : Ran → Point (List Array) → group.Ran (List Array)
ran_of Through point = group.Through point
ran_of (Again member) point = group.Again member point
ran_of (Divided member) point = group.Divided member point
ran_of Unheld point = group.Unheld
