-- All rows in which processors work together.
use Rattle.std.proofs.Common.{◌≡◌, sym, ℕ, true, true≢false, Option}
use Rattle.node_form.specs.declared.instructions.Instr.{Instr}
use Rattle.node_form.specs.declared.instructions.Instr.TheVariants as instr
use Rattle.node_form.specs.declared.tables.Tables.{Tables}
use Rattle.checked_rows.specs.Faced.{AreTables}
use Rattle.checked_rows.specs.Right.{IsRight, KeepsFlights}
use Rattle.checked_messages.specs.Together.{KeepsStanding, is_together}
use Rattle.checked_messages.proofs.RightRows as right

module _ (code : Tables) (tables : AreTables code) (links : Option ℕ) (n : ℕ) where
  pub together_right : (row : Instr) → is_together row ≡ true → IsRight code links n row
  together_right (instr.Start exchange) e = right.start_right code tables links n exchange
  together_right (instr.Finish exchange) e = right.finish_right code tables links n exchange
  together_right (instr.Edge border array slot shift) e =
      right.edge_right code tables links n border array slot shift
  together_right (instr.Flood array target from source) e =
      right.flood_right code tables links n array target from source
  together_right (instr.Part array target fold from source) e =
      right.part_right code tables links n array target fold from source
  together_right (instr.Scan array slot fold along from mask) e =
      right.scan_right code tables links n array slot fold along from mask
  together_right (instr.Gather truth array slot) e =
      right.gather_right code tables links n truth array slot
  together_right (instr.Remap array slot from parts) e =
      right.remap_right code tables links n array slot from parts
  together_right (instr.Vote group) e = right.vote_right code tables links n group
  together_right (instr.TreeVote group) e = right.tree_vote_right code tables links n group
  together_right (instr.Fold scalar fold) e = right.fold_right code tables links n scalar fold
  together_right (instr.TreeFold scalar fold) e =
      right.tree_fold_right code tables links n scalar fold
  together_right row e = absurd (true≢false (sym e))

  pub together_stands : (row : Instr) → is_together row ≡ true → KeepsStanding code links n row
  together_stands (instr.Start exchange) e = right.start_stands code tables links n exchange
  together_stands (instr.Finish exchange) e = right.finish_stands code tables links n exchange
  together_stands (instr.Edge border array slot shift) e =
      right.edge_stands code tables links n border array slot shift
  together_stands (instr.Flood array target from source) e =
      right.flood_stands code tables links n array target from source
  together_stands (instr.Part array target fold from source) e =
      right.part_stands code tables links n array target fold from source
  together_stands (instr.Scan array slot fold along from mask) e =
      right.scan_stands code tables links n array slot fold along from mask
  together_stands (instr.Gather truth array slot) e =
      right.gather_stands code tables links n truth array slot
  together_stands (instr.Remap array slot from parts) e =
      right.remap_stands code tables links n array slot from parts
  together_stands (instr.Vote group) e = right.vote_stands code tables links n group
  together_stands (instr.TreeVote group) e = right.tree_vote_stands code tables links n group
  together_stands (instr.Fold scalar fold) e = right.fold_stands code tables links n scalar fold
  together_stands (instr.TreeFold scalar fold) e =
      right.tree_fold_stands code tables links n scalar fold
  together_stands row e = absurd (true≢false (sym e))

  pub together_keeps : (row : Instr) → is_together row ≡ true → KeepsFlights code links n row
  together_keeps (instr.Start exchange) e = right.start_keeps code tables links n exchange
  together_keeps (instr.Finish exchange) e = right.finish_keeps code tables links n exchange
  together_keeps (instr.Edge border array slot shift) e =
      right.edge_keeps code tables links n border array slot shift
  together_keeps (instr.Flood array target from source) e =
      right.flood_keeps code tables links n array target from source
  together_keeps (instr.Part array target fold from source) e =
      right.part_keeps code tables links n array target fold from source
  together_keeps (instr.Scan array slot fold along from mask) e =
      right.scan_keeps code tables links n array slot fold along from mask
  together_keeps (instr.Gather truth array slot) e =
      right.gather_keeps code tables links n truth array slot
  together_keeps (instr.Remap array slot from parts) e =
      right.remap_keeps code tables links n array slot from parts
  together_keeps (instr.Vote group) e = right.vote_keeps code tables links n group
  together_keeps (instr.TreeVote group) e = right.tree_vote_keeps code tables links n group
  together_keeps (instr.Fold scalar fold) e = right.fold_keeps code tables links n scalar fold
  together_keeps (instr.TreeFold scalar fold) e =
      right.tree_fold_keeps code tables links n scalar fold
  together_keeps row e = absurd (true≢false (sym e))
