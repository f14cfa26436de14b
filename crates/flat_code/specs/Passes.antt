-- From flat programs to node code: the passes one behind the other.
use Rattle.std.specs.Prelude.{ℕ, Bool, true, false, Option}
use Rattle.node_form.specs.declared.tables.Tables.{Tables}
use Rattle.code_layout.specs.Room.{HasRoom}
use Rattle.zpl_claims.specs.declared.options.Options.{Options}
use Rattle.temp_norm.specs.Normalised.{normalised}
use Rattle.bound_check.specs.Checked.{checked}
use Rattle.pass_fits.specs.of_fuse_contract.Fusing.{fused}
use Rattle.pass_fits.specs.of_fuse_contract.Contracting.{contracted}
use Rattle.comm_needs.specs.Needs.{planned}
use Rattle.comm_combine.specs.Repeats.{repeats_dropped}
use Rattle.comm_combine.specs.Merge.{neighbours_merged}
use Rattle.comm_early.specs.Send.{sent_early}
use Rattle.node_emit.specs.Emit.{emitted}
use Rattle.flat_code.specs.declared.builds.Build.{Build}
use Rattle.flat_code.specs.declared.faults.FlatFault.{FlatFault}
use Rattle.flat_code.specs.declared.faults.FlatFault.TheVariants as fault

-- a pass that is run where it is asked for
abbrev pub if_asked : Bool → (Tables → Tables) → Tables → Tables
if_asked true pass tables = pass tables
if_asked false pass tables = tables

-- flat tables, and plans, improved as the options ask for it
abbrev pub settled : Options → Tables → Tables
settled options flat = if_asked options.contract contracted (if_asked options.fuse fused flat)

abbrev pub improved : Options → Option ℕ → Tables → Tables
improved options links plan =
    if_asked options.early (sent_early links)
    (if_asked options.merge neighbours_merged (if_asked options.redundant repeats_dropped plan))

-- the tables of the node code, for a build
abbrev pub node_tables : Build → Tables → Tables
node_tables build flat =
    emitted build.options.tree build.grid
    (improved build.options build.links
    (planned build.grid (settled build.options (checked (normalised flat)))))

-- why they are no program that can run: the grid has no room for their arrays
abbrev pub Refuses : Tables → FlatFault → Type 0
Refuses tables fault.TooMuchStorage = HasRoom tables → ⊥
Refuses tables fault.NoMemory = Unit {0}
