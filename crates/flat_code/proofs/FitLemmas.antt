-- The node code of a flat program breaks no rule.
use Rattle.std.proofs.Common.{ℕ, Bool, true, false, Option}
use Rattle.node_form.specs.Fits.{Fits}
use Rattle.node_form.specs.Grid.{IsGrid}
use Rattle.node_form.specs.declared.tables.Tables.{Tables}
use Rattle.flat_form.specs.Flat.{IsFlat}
use Rattle.zpl_claims.specs.declared.options.Options.{Options}
use Rattle.temp_norm.specs.Normalised.{normalised}
use Rattle.bound_check.specs.Checked.{checked}
use Rattle.pass_fits.specs.of_fuse_contract.Contracting.{contracted}
use Rattle.pass_fits.specs.of_fuse_contract.Fusing.{fused}
use Rattle.comm_needs.specs.Needs.{planned}
use Rattle.comm_combine.specs.Merge.{neighbours_merged}
use Rattle.comm_combine.specs.Repeats.{repeats_dropped}
use Rattle.comm_early.specs.Send.{sent_early}
use Rattle.stored_shifts.specs.Stored.{ShiftsAreStored}
use Rattle.pass_fits.proofs.CombineLemmas.{dropped_fits, merged_fits}
use Rattle.pass_fits.proofs.EarlyLemmas.{early_fits, emitted_fits}
use Rattle.pass_fits.proofs.FlatLemmas.{checked_flat, contracted_flat, fused_flat, normalised_flat}
use Rattle.pass_fits.proofs.NeedLemmas.{planned_fits}
use Rattle.pass_fits.proofs.ShiftLemmas.{checked_stored, contracted_stored, fused_stored}
use Rattle.pass_fits.proofs.ShiftLemmas.{normalised_stored}
use Rattle.flat_code.specs.Passes.{if_asked, improved, node_tables, settled}
use Rattle.flat_code.specs.declared.builds.Build.{Build}

asked_keeps : (P : Tables → Type 0) (asked : Bool) (pass : Tables → Tables)
    → ((tables : Tables) → P tables → P (pass tables)) → (tables : Tables) → P tables
    → P (if_asked asked pass tables)
asked_keeps P true pass keeps tables holds = keeps tables holds
asked_keeps P false pass keeps tables holds = holds

-- a flat program's, and what is read with a shift is stored
record IsReady (tables : Tables) : Type 0 where
  flat : IsFlat tables
  stored : ShiftsAreStored tables

checked_ready : (tables : Tables) → IsReady tables → IsReady (checked (normalised tables))
checked_ready tables is = record {
  flat = checked_flat (normalised tables) (normalised_flat tables is.flat);
  stored = checked_stored (normalised tables) (normalised_stored tables is.stored);
}

settled_ready : (options : Options) (tables : Tables) → IsReady tables
    → IsReady (settled options tables)
settled_ready options tables is =
    asked_keeps IsReady options.contract contracted
    (λ t ready. record {
      flat = contracted_flat t ready.flat;
      stored = contracted_stored t ready.stored;
    }) (if_asked options.fuse fused tables)
    (asked_keeps IsReady options.fuse fused
    (λ t ready. record {
      flat = fused_flat t ready.flat;
      stored = fused_stored t ready.stored;
    }) tables is)

improved_fits : (options : Options) (links : Option ℕ) (plan : Tables) → Fits plan
    → Fits (improved options links plan)
improved_fits options links plan fits =
    asked_keeps Fits options.early (sent_early links) (early_fits links)
    (if_asked options.merge neighbours_merged (if_asked options.redundant repeats_dropped plan))
    (asked_keeps Fits options.merge neighbours_merged merged_fits
    (if_asked options.redundant repeats_dropped plan)
    (asked_keeps Fits options.redundant repeats_dropped dropped_fits plan fits))

pub tables_fit : (build : Build) (flat : Tables) → IsGrid build.grid → IsFlat flat
    → ShiftsAreStored flat → Fits (node_tables build flat)
tables_fit build flat is_grid is stored =
    let ready =
    settled_ready build.options (checked (normalised flat))
    (checked_ready flat (record { flat = is; stored = stored })) in
    let tables : Tables = settled build.options (checked (normalised flat)) in
    emitted_fits build.options.tree build.grid
    (improved build.options build.links (planned build.grid tables)) is_grid
    (improved_fits build.options build.links (planned build.grid tables)
    (planned_fits build.grid tables is_grid ready.flat.fits ready.stored))
