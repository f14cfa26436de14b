-- Which exchanges are open behind rows.
use Rattle.std.proofs.Common.{◌≡◌, refl, sym, ℕ, Bool, true, false}
use Rattle.std.proofs.Common.{List, [], true≢false}
use Rattle.std.specs.Prelude.{◌&&◌, ◌==◌, if◌then◌else◌, not, Option, Some, None, slice_get}
use Rattle.std.specs.List.{filter_map}
use Rattle.zpl_nums.specs.declared.ends.End.{End}
use Rattle.zpl_nums.specs.declared.ends.End.TheVariants.{More}
use Rattle.node_form.specs.Control as control
use Rattle.node_form.specs.Control.{Control}
use Rattle.node_form.specs.Nest.{Nest}
use Rattle.node_form.specs.declared.arrays.ArrayRow.{ArrayRow}
use Rattle.node_form.specs.declared.instructions.Instr.{Instr}
use Rattle.node_form.specs.declared.instructions.Instr.TheVariants as instr
use Rattle.node_form.specs.declared.members.Member.{Member}
use Rattle.node_form.specs.declared.tables.Tables.{Tables}
use Rattle.code_parts.specs.Exchanged.{is_exchange_row}
use Rattle.code_parts.proofs.WalkLemmas.{both_left}
use Rattle.grid_meaning.specs.Collective.{Collective}
use Rattle.grid_meaning.specs.Delivery as delivery
use Rattle.grid_meaning.specs.Gather as gather
use Rattle.grid_meaning.specs.Remap as remap
use Rattle.grid_meaning.specs.Scan as scan
use Rattle.nest_meaning.specs.Tree.{nest_of}
use Rattle.nest_meaning.specs.Units.{units_of}
use Rattle.row_runs.specs.Run.{Stop, Goes, Stops, Ends, Wrong, Effect, Does, Leaps, Passes}
use Rattle.needs_runs.specs.of_plan_meaning.Abreast.{Abreast, every, go_where, is_quiet}
use Rattle.needs_runs.specs.of_plan_meaning.Act.{alone, control_of, controlled, controlled_as, ended_by, ends_where}
use Rattle.needs_runs.specs.of_plan_meaning.Act.{action_of, found, go_one_way, leaps_where, print_ends, tested}
use Rattle.needs_runs.specs.of_plan_meaning.Act.{voted_as}
use Rattle.needs_runs.specs.of_plan_meaning.Loops.{lacks, looped, shared, tree_looped, wants}
use Rattle.needs_runs.specs.of_plan_meaning.Messages.{delivered, remapped}
use Rattle.plan_passes.proofs.AwaitLemmas.{Await, Ready, Wanted, looping, ready, ready_act, ready_step}
use Rattle.plan_passes.proofs.RowLemmas.{no_flights}

-- what is open behind an effect is what was open before
pub data KeepsOpen (all : Abreast) : Effect Await → Type 0 where
  OpenOn : {bytes : List ℕ} {next : Abreast} → next.flights ≡ all.flights
      → KeepsOpen all (Does (Goes bytes (Ready next)))
  OpenWanted : {bytes : List ℕ} {group : ℕ} → KeepsOpen all (Does (Goes bytes (Wanted group)))
  OpenStop : {stop : Stop} → KeepsOpen all (Does (Stops stop))
  OpenLeap : {goal : ℕ} → KeepsOpen all (Leaps goal)
  OpenPass : KeepsOpen all Passes

module _ (all : Abreast) where
  where_open : (b : Bool) (bytes : List ℕ) (next : Abreast) → (b ≡ true → next.flights ≡ all.flights)
      → KeepsOpen all (Does (ready_step (go_where b bytes next)))
  where_open true bytes next same = OpenOn (same refl)
  where_open false bytes next same = OpenStop

  ends_open : (b : Bool) (ending : End) → KeepsOpen all (Does (ready_step (ends_where b ending)))
  ends_open true ending = OpenStop
  ends_open false ending = OpenStop

  leaps_open : (b : Bool) (goal : ℕ) → KeepsOpen all (ready (leaps_where b goal))
  leaps_open true goal = OpenLeap
  leaps_open false goal = OpenStop

  tested_open : (e : Effect Abreast) → KeepsOpen all (ready e) → KeepsOpen all (ready (tested e))
  tested_open (Does (Goes bytes next)) open_now = OpenPass
  tested_open (Does (Stops stop)) open_now = OpenStop
  tested_open (Leaps goal) open_now = OpenLeap
  tested_open Passes open_now = OpenPass

  module _ (code : Tables) (links : Option ℕ) (n : ℕ) where
    controlled_open : (row : Instr) (c : Control) → KeepsOpen all (ready (controlled_as code row all c))
    controlled_open row (control.Steps registers) =
        where_open (go_one_way code row all) [] _ (λ e. refl)
    controlled_open row (control.Leaps goal) = leaps_open (go_one_way code row all) goal
    controlled_open row (control.Ends ending) =
        ends_open (go_one_way code row all && is_quiet all) ending
    controlled_open row control.Outside = OpenStop

    control_open : (row : Instr) → KeepsOpen all (ready (controlled code row all))
    control_open row = controlled_open row (control_of code row all 0)

    alone_open : (row : Instr) → KeepsOpen all (Does (ready_step (alone code row all)))
    alone_open row = where_open _ _ _ (λ e. refl)

    printed_open : (row : Instr) (o : Option End)
        → KeepsOpen all (Does (ready_step (print_ends code row all o)))
    printed_open row None = alone_open row
    printed_open row (Some ending) = ends_open _ ending

    quiet_first : (a b : Bool) → (is_quiet all && a && b) ≡ true → [] ≡ all.flights
    quiet_first a b e =
        sym (no_flights all.flights
        (both_left (is_quiet all) a (both_left (is_quiet all && a) b e)))

    delivered_open : (row : ℕ → Collective)
        → KeepsOpen all (Does (ready_step (delivered code row all)))
    delivered_open row = where_open _ _ _ (quiet_first _ _)

    remapped_open : (o : Option ArrayRow) (row : ArrayRow → ℕ → Collective)
        → KeepsOpen all (Does (ready_step (found o (λ r. remapped code (row r) all))))
    remapped_open None row = OpenStop
    remapped_open (Some r) row = where_open _ _ _ (quiet_first _ _)

    voted_open : (group : ℕ) (flag : Option ℕ)
        → KeepsOpen all (Does (ready_step (voted_as code all group flag)))
    voted_open group None = where_open (is_quiet all) [] _ (λ e. refl)
    voted_open group (Some member) = ends_open (is_quiet all) _

    looped_open : (group : ℕ) (a w v q : Bool) (next : Abreast) → next.flights ≡ all.flights
        → KeepsOpen all (Does (looping group (if a then
        (if w then Goes [] next else (if v && q then Stops (Ends More) else Stops Wrong))
        else Stops Wrong)))
    looped_open group true true v q next same = OpenOn same
    looped_open group true false true true next same = OpenWanted
    looped_open group true false true false next same = OpenStop
    looped_open group true false false q next same = OpenStop
    looped_open group false w v q next same = OpenStop

    tree_open : (slot group : ℕ) (v : Bool) (nest : Option Nest)
        → KeepsOpen all (Does (looping group (tree_looped code n v slot nest all)))
    tree_open slot group v None = OpenStop
    tree_open slot group v (Some nest) =
        looped_open group
        (every code (λ p. not (lacks code n (shared code n (units_of nest) slot all p))))
        (every code (λ p. not (wants code n (shared code n (units_of nest) slot all p)))) v
        (is_quiet all) _ refl

    loop_open : (slot group : ℕ) (v : Bool) (o : Option (List Member))
        → KeepsOpen all
        (Does (looping group (found o (λ members. looped code n v slot members all))))
    loop_open slot group v None = OpenStop
    loop_open slot group v (Some members) = tree_open slot group v (nest_of members)

    pub row_open : (row : Instr) → is_exchange_row row ≡ false
        → KeepsOpen all (ready_act code links n row all)
    row_open (instr.Start exchange) e = absurd (true≢false e)
    row_open (instr.Finish exchange) e = absurd (true≢false e)
    row_open (instr.Loop slot group) e =
        loop_open slot group (group == group) (slice_get code.groups group)
    row_open (instr.Edge border array slot shift) e =
        delivered_open (λ p. delivery.edged code p border array slot shift)
    row_open (instr.Flood array target from source) e =
        delivered_open (λ p. delivery.flooded code p array target from source)
    row_open (instr.Part array target f from source) e =
        delivered_open (λ p. delivery.parted code p array target f from source)
    row_open (instr.Scan array slot f along from mask) e =
        delivered_open (λ p. scan.scanned_row code p f along from mask array slot)
    row_open (instr.Gather truth array slot) e =
        delivered_open (λ p. gather.gathered code p truth array slot)
    row_open (instr.Remap array slot from parts) e =
        remapped_open (slice_get code.arrays from)
        (λ r p. remap.remapped code p array slot from (filter_map (λ part. part) parts) r)
    row_open (instr.Vote group) e = voted_open group _
    row_open (instr.TreeVote group) e = voted_open group _
    row_open (instr.Fold scalar f) e = where_open (is_quiet all) [] _ (λ e. refl)
    row_open (instr.TreeFold scalar f) e = where_open (is_quiet all) [] _ (λ e. refl)
    row_open (instr.Room array slot) e = alone_open (instr.Room array slot)
    row_open (instr.Clear array) e = alone_open (instr.Clear array)
    row_open (instr.Print text) e = alone_open (instr.Print text)
    row_open (instr.Number expr) e =
        printed_open (instr.Number expr) (ended_by (action_of code (instr.Number expr) all 0))
    row_open (instr.Truth expr) e =
        printed_open (instr.Truth expr) (ended_by (action_of code (instr.Truth expr) all 0))
    row_open (instr.Unless expr goal line) e =
        tested_open (controlled code (instr.Unless expr goal line) all)
        (control_open (instr.Unless expr goal line))
    row_open row e = control_open row
