-- Sound code in which no loop ever wants a further turn never stops.
use Rattle.std.proofs.Common.{◌≡◌, ◌≤◌, ℕ, length, All, Option, Some, None, refl, slice_get, arith}
use Rattle.std.specs.Option.{IfSome}
use Rattle.std.proofs.lemmas.List.Elements.{All-nil}
use Rattle.grid_paths.proofs.TreeLemmas.{All-each}
use Rattle.node_form.specs.declared.arrays.ArrayRow.{ArrayRow}
use Rattle.node_form.specs.declared.instructions.Instr.{Instr}
use Rattle.node_form.specs.declared.instructions.Instr.TheVariants as instr
use Rattle.node_form.specs.declared.tables.Tables.{Tables}
use Rattle.typed_tables.specs.Typed.{IsTypedRow}
use Rattle.grid_meaning.specs.Grid.{IsCapacity}
use Rattle.grid_meaning.specs.State.{HasThree}
use Rattle.counted_code.specs.of_row_orders.Rows.{HasRoom}
use Rattle.counted_code.specs.of_plan_meaning.Abreast.{start_abreast}
use Rattle.plan_orders.specs.Brings.{AreOpen}
use Rattle.plan_orders.proofs.RowLemmas.{have_orders}
use Rattle.plan_orders.proofs.TestLemmas.{all_at, no_room}
use Rattle.every_order.proofs.GoodLemmas.{KnowsOrders}
use Rattle.counted_code.specs.of_node_check.Sound.{IsLinksNeeded, IsSound}
use Rattle.checked_messages.specs.of_checked_rows.Faced.{AreTables}
use Rattle.checked_messages.specs.of_checked_rows.Visits.{NeverWants}
use Rattle.checked_runs.specs.Stops.{IsSoundOver, NeverStops}
use Rattle.checked_runs.proofs.FrontLemmas.{Facing, KeepsStates, front_rows}
use Rattle.checked_runs.proofs.OrderLemmas.{Far, far, never_idle, never_stuck}
use Rattle.checked_runs.proofs.WellLemmas.{fare_well}

-- what the types of a program give its rows
three_some : (o : Option ArrayRow) → ((row : ArrayRow) → o ≡ Some row → length row.dims ≡ 3)
    → IfSome o (λ row. length row.dims ≡ 3)
three_some None each = tt
three_some (Some row) each = each row refl

three_row : (code : Tables) → AreTables code → (row : Instr) → IsTypedRow row → HasThree code row
three_row code tables (instr.Fix slot region) typed = typed
three_row code tables (instr.Dims slot parts line) typed = typed
three_row code tables (instr.Room array slot) typed =
    three_some (slice_get code.arrays array)
    (λ row is. all_at (λ (row : ArrayRow). length row.dims ≡ 3) code.arrays array row
    tables.typed.arrays is)
three_row code tables row typed = tt

are_three : (code : Tables) → AreTables code → All (HasThree code) code.code
are_three code tables =
    All-each IsTypedRow (HasThree code) code.code (three_row code tables) tables.typed.code

pub never_stops : (code : Tables) (links : Option ℕ) (least : ℕ) → KeepsStates code
    → KnowsOrders code links → IsSoundOver code links
    → ((n : ℕ) → least ≤ n → NeverWants code links n) → NeverStops code links
never_stops code links least states knows sound never =
    let open_now : AreOpen code links (start_abreast code) =
    record { flights = All-nil _; room = no_room links } in
    let all_far : (many : ℕ) → Far code links many =
    far code links (λ n. Facing code links n) least
    (have_orders code links sound.capacity sound.tables.fits)
    open_now
    (λ n more.
    front_rows code sound.tables links n states (are_three code sound.tables) sound.sound sound.room
    (fare_well code sound.tables links n) (never n more)) in
    record {
      not_stuck = never_stuck code links knows all_far;
      not_idle = never_idle code links knows all_far;
    }

-- links that hold as many messages as are needed
less_room : (links : Option ℕ) (many needed : ℕ) → many ≤ needed → HasRoom links needed
    → HasRoom links many
less_room None many needed less room = tt
less_room (Some capacity) many needed less room = omega (arith, less, room)

capable : (links : Option ℕ) (needed : ℕ) → 1 ≤ needed → HasRoom links needed → IsCapacity links
capable None needed some room = tt
capable (Some capacity) needed some room = omega (arith, some, room)

pub sound_over : (code : Tables) (links : Option ℕ) (needed : ℕ) → AreTables code → IsSound code
    → IsLinksNeeded code needed → HasRoom links needed → IsSoundOver code links
sound_over code links needed tables sound enough room = record {
  tables = tables;
  sound = sound;
  capacity = capable links needed enough.positive room;
  room =
      λ at opened comes. less_room links (length opened) needed (enough.enough at opened comes)
      room;
}
