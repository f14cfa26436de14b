-- Code of the rows that small programs need: `set`, `print`, `number`, `jump`, `unless` and `end`.
-- They need scalars alone, and send and take no message.
use Rattle.std.specs.Prelude.{◌≡◌, length, All, None, ⊤}
use Rattle.grid_links.specs.Machine.{Ended, Blocked, Goes, Awaits}
use Rattle.node_form.specs.declared.instructions.Instr.{Instr}
use Rattle.node_form.specs.declared.instructions.Instr.TheVariants.{Set, Print, Number, Jump, Unless, End}
use Rattle.node_form.specs.declared.tables.Tables.{Tables}
use Rattle.grid_meaning.specs.Action.{Action}
use Rattle.grid_meaning.specs.Local.{Local}

abbrev pub IsScalarRow : Instr → Type 0
IsScalarRow (Set scalar expr line) = ⊤
IsScalarRow (Print text) = ⊤
IsScalarRow (Number expr) = ⊤
IsScalarRow (Jump goal) = ⊤
IsScalarRow (Unless expr goal line) = ⊤
IsScalarRow End = ⊤
IsScalarRow row = ⊥

abbrev pub IsScalarCode : Tables → Type 0
IsScalarCode code = All IsScalarRow code.code

-- no message is sent or awaited
abbrev pub IsSilent : Action → Type 0
IsSilent Ended = ⊤
IsSilent (Blocked kind) = ⊤
IsSilent (Goes next sent shown) = sent ≡ None
IsSilent (Awaits from) = ⊥

-- a move without a message, after which there are as many scalars
abbrev pub IsQuietMove : Local → Action → Type 0
IsQuietMove local Ended = ⊥
IsQuietMove local (Blocked kind) = ⊥
IsQuietMove local (Goes next sent shown) = (sent ≡ None) × (length next.scalars ≡ length local.scalars)
IsQuietMove local (Awaits from) = ⊥
