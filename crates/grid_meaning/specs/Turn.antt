-- One turn of a processor: what its next instruction does by itself, and what a message does that
-- it awaits.
--
--   act, fed    what a processor does, and what a message makes of its state: neither sees a link,
-- so being stuck comes before a
--               full one
--   turn_at     its turn, by the messages for it and the room on its own links
use Rattle.std.specs.Prelude.{ℕ, ◌+◌, ◌==◌, ℤ, List, [], length, Option, Some, None, slice_get, if◌then◌else◌}
use Rattle.std.specs.Fmt.{signed_decimal}
use Rattle.node_form.specs.of_zpl_nums.declared.ends.End.{End}
use Rattle.node_form.specs.of_zpl_nums.declared.ends.End.TheVariants.{Done, Trap}
use Rattle.node_form.specs.of_zpl_nums.declared.ends.TrapKind.TheVariants.{DivideByZero}
use Rattle.node_form.specs.of_zpl_arrays.ArrayText.{truth_text}
use Rattle.grid_links.specs.declared.messages.Message.{Message}
use Rattle.grid_links.specs.Machine.{Ended, Blocked, Goes, Awaits, Takes, Refuses, Processes, Heads, Rooms, Turn as TurnOf, turn_of}
use Rattle.node_form.specs.declared.tables.Tables.{Tables}
use Rattle.node_form.specs.declared.instructions.Instr.{Instr}
use Rattle.node_form.specs.declared.instructions.Instr.TheVariants as instr
use Rattle.node_form.specs.Control.{Registers, Control, Steps, Leaps, Ends, Outside, register_value, control}
use Rattle.node_form.specs.Value.{Computed, Gives, Divides, Lacks}
use Rattle.grid_meaning.specs.Action.{StuckKind, WrongTag, WrongLength, Unheld, Undefined, Action, Feeding, moves, goes_to, goes_on, ends, prints}
use Rattle.grid_meaning.specs.Collective.{Collective, Stage, Alone, Sends, TakesFrom, Last, stage_of}
use Rattle.grid_meaning.specs.Loop.{looped}
use Rattle.grid_meaning.specs.Local.{Local}
use Rattle.grid_meaning.specs.Room.{roomed, cleared}
use Rattle.grid_meaning.specs.Rows.{collective}

-- ---- rows that need scalars and slots alone
abbrev pub registers_of : Local → Registers
registers_of local = record { scalars = local.scalars; slots = local.slots }

abbrev pub with_registers : Local → Registers → Local
with_registers local registers = record local { scalars = registers.scalars; slots = registers.slots }

-- what is neither such a row nor any other leaves the processor stuck
abbrev pub controlled : Local → Control → Action
controlled local (Steps registers) = moves (goes_on (with_registers local registers)) []
controlled local (Leaps goal) = moves (goes_to local goal) []
controlled local (Ends ending) = ends local ending
controlled local Outside = Blocked Undefined

-- ---- rows that print
-- the value of an expression by its number
abbrev pub expression_value : Tables → Local → ℕ → Computed ℤ
expression_value code local expr = register_value code (registers_of local) expr

-- Every processor computes the value; a zero divisor is a trap at line 0. Where tables fit nothing
-- is lacking.
abbrev pub prints_value : ℕ → Local → Computed ℤ → (ℤ → List ℕ) → Action
prints_value p local (Gives value) text = prints p local (text value)
prints_value p local Divides text = ends local (Trap DivideByZero 0)
prints_value p local Lacks text = Blocked Undefined

abbrev pub prints_text : ℕ → Local → Option (List ℕ) → Action
prints_text p local (Some text) = prints p local text
prints_text p local None = Blocked Undefined

-- ---- rows in which processors work together
-- the message to a processor, in one more turn
abbrev pub sends : Collective → Local → ℕ → Option (List ℤ) → Action
sends row local to (Some words) =
    Goes (record local { made = local.made + 1 }) (Some (to, record { tag = row.tag local; words = words })) []
sends row local to None = Blocked Unheld

-- one more turn, after which this is the state
abbrev pub steps_on : Option Local → Action
steps_on (Some local) = moves (record local { made = local.made + 1 }) []
steps_on None = Blocked Unheld

abbrev pub act_in : Collective → Local → Option Stage → Action
act_in row local (Some Alone) = steps_on (row.alone local)
act_in row local (Some (Sends to)) = sends row local to (row.words_to local to)
act_in row local (Some (TakesFrom from)) = Awaits from
act_in row local (Some Last) = row.last local
act_in row local None = Blocked Undefined

-- what such a row does; or one that is none
abbrev pub act_together : Option Collective → Local → Control → Action
act_together (Some row) local alone = act_in row local (stage_of row local)
act_together None local alone = controlled local alone

-- ---- what the next instruction does; behind the last one the processor ends
abbrev pub act_at : Tables → ℕ → Local → Option Instr → Action
act_at code p local None = ends local Done
act_at code p local (Some (instr.Loop slot group)) = looped code p local (slice_get local.slots slot) (slice_get code.groups group)
act_at code p local (Some (instr.Room array slot)) =
    roomed code p local array (slice_get code.arrays array) (slice_get local.slots slot)
act_at code p local (Some (instr.Clear array)) = cleared local array (slice_get local.stores array)
act_at code p local (Some (instr.Print text)) = prints_text p local (slice_get code.texts text)
act_at code p local (Some (instr.Number expr)) = prints_value p local (expression_value code local expr) signed_decimal
act_at code p local (Some (instr.Truth expr)) = prints_value p local (expression_value code local expr) truth_text
act_at code p local (Some row) =
    act_together (collective code p row) local (control code (registers_of local) row)

-- a processor that has ended stays as it is
abbrev pub unless_ended : Option End → Action → Action
unless_ended (Some ending) action = Ended
unless_ended None action = action

abbrev pub act : Tables → ℕ → Local → Action
act code p local = unless_ended local.ended (act_at code p local (slice_get code.code local.at))

-- ---- what a message does: its words are used or kept, in one more turn. A wrong tag counts before a wrong length
abbrev pub takes : Option Local → Feeding
takes (Some local) = Takes (record local { made = local.made + 1 })
takes None = Refuses Unheld

abbrev pub fed_by : Collective → Local → ℕ → Message → Feeding
fed_by row local from message =
    if message.tag == row.tag local then
    (if row.awaits local from (length message.words) then takes (row.taken local from message.words)
    else Refuses WrongLength)
    else Refuses WrongTag

abbrev pub fed_in : Collective → Local → Message → Option Stage → Feeding
fed_in row local message (Some (TakesFrom from)) = fed_by row local from message
fed_in row local message stage = Refuses Undefined

abbrev pub fed_together : Option Collective → Local → Message → Feeding
fed_together (Some row) local message = fed_in row local message (stage_of row local)
fed_together None local message = Refuses Undefined

abbrev pub fed_at : Tables → ℕ → Local → Message → Option Instr → Feeding
fed_at code p local message (Some row) = fed_together (collective code p row) local message
fed_at code p local message None = Refuses Undefined

abbrev pub fed : Tables → ℕ → Local → Message → Feeding
fed code p local message = fed_at code p local message (slice_get code.code local.at)

-- ---- turns
abbrev pub Turn : Type 0
Turn = TurnOf Local Message StuckKind

-- the processors of a program
abbrev pub processes : Tables → Processes Local Message StuckKind
processes code = record { act = act code; fed = fed code }

-- One turn of processor p: by the oldest message of each link to it, and by which of its own links
-- have room.
abbrev pub turn_at : Tables → ℕ → Local → Heads Message → Rooms → Turn
turn_at code p local heads rooms = turn_of (processes code) p local heads rooms
