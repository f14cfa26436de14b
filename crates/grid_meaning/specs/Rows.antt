-- The rows in which processors work together, each with its meaning.
use Rattle.std.specs.Prelude.{ℕ, slice_get, Option, Some, None}
use Rattle.std.specs.List.{filter_map}
use Rattle.std.specs.Option.{option_map}
use Rattle.node_form.specs.declared.instructions.Instr.{Instr}
use Rattle.node_form.specs.declared.instructions.Instr.TheVariants as instr
use Rattle.node_form.specs.declared.tables.Tables.{Tables}
use Rattle.grid_meaning.specs.Collective.{Collective, star, tree, voted, folded}
use Rattle.grid_meaning.specs.Delivery.{edged, flooded, parted}
use Rattle.grid_meaning.specs.Exchange.{started, finished}
use Rattle.grid_meaning.specs.Gather.{gathered}
use Rattle.grid_meaning.specs.Remap.{remapped}
use Rattle.grid_meaning.specs.Scan.{scanned_row}

-- what a row does on processor p, if it is one of these
abbrev pub collective : Tables → ℕ → Instr → Option Collective
collective code p (instr.Start exchange) = option_map (started code p exchange) (slice_get code.exchanges exchange)
collective code p (instr.Finish exchange) = option_map (finished code p exchange) (slice_get code.exchanges exchange)
collective code p (instr.Edge kind array slot shift) = Some (edged code p kind array slot shift)
collective code p (instr.Flood array target from source) = Some (flooded code p array target from source)
collective code p (instr.Part array target f from source) = Some (parted code p array target f from source)
collective code p (instr.Scan array slot f along from mask) = Some (scanned_row code p f along from mask array slot)
collective code p (instr.Gather truth array slot) = Some (gathered code p truth array slot)
collective code p (instr.Remap array slot from parts) =
    option_map (remapped code p array slot from (filter_map (λ part. part) parts)) (slice_get code.arrays from)
collective code p (instr.Vote group) = Some (voted code (star code p) group)
collective code p (instr.TreeVote group) = Some (voted code (tree code p) group)
collective code p (instr.Fold scalar f) = Some (folded (star code p) scalar f)
collective code p (instr.TreeFold scalar f) = Some (folded (tree code p) scalar f)
collective code p row = None
