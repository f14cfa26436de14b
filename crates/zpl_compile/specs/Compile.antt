-- From a program to node code: the passes one behind the other.
use Rattle.std.specs.Prelude.{Bool, true, false}
use Rattle.zpl_tree.specs.Syntax.{Program}
use Rattle.node_form.specs.declared.tables.Tables.{Tables}
use Rattle.zpl_lowering.specs.Tables.{flat_tables}
use Rattle.fuse_contract.specs.of_temp_norm.Normalised.{normalised}
use Rattle.fuse_contract.specs.of_bound_check.Checked.{checked}
use Rattle.fuse_contract.specs.Fusing.{fused}
use Rattle.fuse_contract.specs.Contracting.{contracted}
use Rattle.comm_needs.specs.Needs.{planned}
use Rattle.comm_combine.specs.Repeats.{repeats_dropped}
use Rattle.comm_combine.specs.Merge.{neighbours_merged}
use Rattle.comm_early.specs.Send.{sent_early}
use Rattle.node_emit.specs.Emit.{emitted}
use Rattle.zpl_claims.specs.Build.{Build}

-- a pass that is run where it is asked for
abbrev pub if_asked : Bool → (Tables → Tables) → Tables → Tables
if_asked true pass tables = pass tables
if_asked false pass tables = tables

-- flat tables that are planned from: no group reads with a shift what it puts, and no check passes
-- always
abbrev pub settled : Build → Tables → Tables
settled build flat =
    if_asked build.options.contract contracted
    (if_asked build.options.fuse fused (checked (normalised flat)))

-- the plan of such tables
abbrev pub plan_of : Build → Tables → Tables
plan_of build flat =
    if_asked build.options.early (sent_early build.links)
    (if_asked build.options.merge neighbours_merged
    (if_asked build.options.redundant repeats_dropped (planned build.grid flat)))

-- node code of a plan
abbrev pub emitted_for : Build → Tables → Tables
emitted_for build plan = emitted build.options.tree build.grid plan

-- the node code that a program is compiled to
abbrev pub compiled : Build → Program → Tables
compiled build program =
    emitted_for build
    (plan_of build (settled build (flat_tables program build.settings)))
