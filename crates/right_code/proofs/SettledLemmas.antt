-- Settled tables are a flat program's, and have no more loops in a group.
use Rattle.std.proofs.Common.{◌≡◌, ℕ, Bool, true, false, refl}
use Rattle.node_form.specs.declared.tables.Tables.{Tables}
use Rattle.temp_norm.specs.Normalised.{normalised}
use Rattle.bound_check.specs.Checked.{checked}
use Rattle.compiled_runs.specs.of_fuse_contract.Fusing.{fused}
use Rattle.compiled_runs.specs.of_fuse_contract.Contracting.{contracted}
use Rattle.zpl_claims.specs.Build.{Build}
use Rattle.compiled_runs.specs.of_zpl_compile.Compile.{if_asked, settled}

-- what each pass over flat tables keeps, all of them keep
pub record Stays (P : Tables → Type 0) : Type 0 where
  pub normalised : (code : Tables) → P code → P (normalised code)
  pub checked : (code : Tables) → P code → P (checked code)
  pub fused : (code : Tables) → P code → P (fused code)
  pub contracted : (code : Tables) → P code → P (contracted code)

asked : (P : Tables → Type 0) (is : Bool) (pass : Tables → Tables) →
    ((code : Tables) → P code → P (pass code)) → (code : Tables) → P code →
    P (if_asked is pass code)
asked P true pass keeps code holds = keeps code holds
asked P false pass keeps code holds = holds

pub settled_stays : (P : Tables → Type 0) → Stays P → (build : Build) (flat : Tables) → P flat →
    P (settled build flat)
settled_stays P stays build flat holds =
    let one : Tables = checked (normalised flat) in
    let two : Tables = if_asked build.options.fuse fused one in
    asked P build.options.contract contracted stays.contracted two
    (asked P build.options.fuse fused stays.fused one
    (stays.checked (normalised flat) (stays.normalised flat holds)))
