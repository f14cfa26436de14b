-- States that were read, in memory.
--
--   state_in   the state that is in memory
--   AreReady   each may be given to every call
use Rattle.std.specs.Prelude.{◌≡◌, ℕ, List, map, slice_get, Some}
use Rattle.node_form.specs.declared.tables.Tables.{Tables}
use Rattle.node_local.specs.Workplace.{IsReady}
use Rattle.save_reading.specs.of_grid_save.Reads.{State}
use Rattle.save_reading.specs.Sent.{sent_pair}
use Rattle.state_reading.specs.declared.states.ReadState.{ReadState}

abbrev pub state_in : ReadState → State
state_in read = record { local = read.local.local; sent = map sent_pair read.sent.items }

abbrev pub AreReady : Tables → List ReadState → Type 0
AreReady code states =
    (p : ℕ) (read : ReadState) → slice_get states p ≡ Some read → IsReady code p read.local
