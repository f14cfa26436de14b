-- All rows fare well where their demand is met.
use Rattle.std.proofs.Common.{◌≡◌, ℕ, false, true≢false, refl, Option}
use Rattle.node_form.specs.declared.instructions.Instr.{Instr}
use Rattle.node_form.specs.declared.instructions.Instr.TheVariants as instr
use Rattle.node_form.specs.declared.tables.Tables.{Tables}
use Rattle.code_parts.specs.Stretch.{ends_stretch}
use Rattle.checked_messages.specs.of_checked_rows.Faced.{AreTables}
use Rattle.checked_messages.specs.of_checked_rows.Right.{GoesRight, IsRight, KeepsFlights, RowFares}
use Rattle.checked_messages.proofs.of_checked_rows.FareLemmas.{alone_fares}
use Rattle.checked_messages.proofs.of_checked_rows.FlightLemmas.{other_keeps}
use Rattle.checked_messages.proofs.RightRows as messages
use Rattle.checked_runs.proofs.FrontLemmas.{FareWell}

module _ (code : Tables) (tables : AreTables code) (links : Option ℕ) (n : ℕ) where
  right : (row : Instr) → IsRight code links n row → RowFares code links n row
  right row is next opened facts all meets wants = GoesRight (is next opened facts all meets)

  row_fares : (row : Instr) → RowFares code links n row
  row_fares (instr.Start number) =
      right (instr.Start number) (messages.start_right code tables links n number)
  row_fares (instr.Finish number) =
      right (instr.Finish number) (messages.finish_right code tables links n number)
  row_fares (instr.Edge kind array slot shift) =
      right (instr.Edge kind array slot shift)
      (messages.edge_right code tables links n kind array slot shift)
  row_fares (instr.Flood array target from source) =
      right (instr.Flood array target from source)
      (messages.flood_right code tables links n array target from source)
  row_fares (instr.Part array target f from source) =
      right (instr.Part array target f from source)
      (messages.part_right code tables links n array target f from source)
  row_fares (instr.Scan array slot f along from mask) =
      right (instr.Scan array slot f along from mask)
      (messages.scan_right code tables links n array slot f along from mask)
  row_fares (instr.Gather truth array slot) =
      right (instr.Gather truth array slot)
      (messages.gather_right code tables links n truth array slot)
  row_fares (instr.Remap array slot from parts) =
      right (instr.Remap array slot from parts)
      (messages.remap_right code tables links n array slot from parts)
  row_fares (instr.Vote group) =
      right (instr.Vote group) (messages.vote_right code tables links n group)
  row_fares (instr.TreeVote group) =
      right (instr.TreeVote group) (messages.tree_vote_right code tables links n group)
  row_fares (instr.Fold scalar f) =
      right (instr.Fold scalar f) (messages.fold_right code tables links n scalar f)
  row_fares (instr.TreeFold scalar f) =
      right (instr.TreeFold scalar f) (messages.tree_fold_right code tables links n scalar f)
  row_fares row = alone_fares code tables links n row refl

  row_keeps : (row : Instr) → ends_stretch row ≡ false → KeepsFlights code links n row
  row_keeps (instr.Start number) straight = messages.start_keeps code tables links n number
  row_keeps (instr.Finish number) straight = messages.finish_keeps code tables links n number
  row_keeps (instr.Jump goal) straight = absurd (true≢false straight)
  row_keeps (instr.Unless expr goal line) straight = absurd (true≢false straight)
  row_keeps (instr.Trap kind line) straight = absurd (true≢false straight)
  row_keeps instr.End straight = absurd (true≢false straight)
  row_keeps row straight = other_keeps code links n row refl refl

  pub fare_well : FareWell code links n
  fare_well = record { fares = row_fares; flights = row_keeps }
