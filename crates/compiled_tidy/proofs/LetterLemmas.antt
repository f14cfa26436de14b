-- Through all passes: what a letter asks for is reached by its pass, and kept by those behind it.
use Rattle.std.proofs.Common.{◌≡◌, sym, Bool, true, false, true≢false}
use Rattle.node_form.specs.declared.tables.Tables.{Tables}
use Rattle.node_form.specs.Fits.{Fits}
use Rattle.code_parts.specs.Contracted.{IsContracted}
use Rattle.code_parts.specs.Early.{IsEarly}
use Rattle.code_parts.specs.Exchanged.{HasNoRepeats, IsMerged}
use Rattle.code_parts.specs.Fused.{IsFused}
use Rattle.temp_norm.specs.Normalised.{normalised}
use Rattle.bound_check.specs.Checked.{checked}
use Rattle.compiled_sizes.specs.of_fuse_contract.Contracting.{contracted}
use Rattle.compiled_sizes.specs.of_fuse_contract.Fusing.{fused}
use Rattle.comm_needs.specs.Needs.{planned}
use Rattle.comm_combine.specs.Merge.{neighbours_merged}
use Rattle.comm_combine.specs.Repeats.{repeats_dropped}
use Rattle.comm_combine.proofs.NeighbourLemmas as neighbours
use Rattle.comm_combine.proofs.NewLemmas.{no_repeats}
use Rattle.comm_early.specs.Send.{sent_early}
use Rattle.comm_early.proofs.EarlyLemmas as starts
use Rattle.node_emit.specs.Emit.{emitted}
use Rattle.node_emit.proofs.TreeLemmas.{early_stay, fused_stay, merged_stay, repeats_stay}
use Rattle.compiled_sizes.specs.of_pass_parts.Parts.{CanBeFused, HasNoCellLeft}
use Rattle.compiled_sizes.proofs.of_pass_parts.ContractedLemmas.{none_left}
use Rattle.compiled_sizes.proofs.of_pass_parts.FusedCells.{contracted_fused}
use Rattle.compiled_sizes.proofs.of_pass_parts.FusedEarly.{still_fused}
use Rattle.compiled_sizes.proofs.of_pass_parts.FusedLoops.{all_joined}
use Rattle.compiled_sizes.proofs.of_pass_parts.FusedPasses.{dropped_fused, merged_fused, planned_fused}
use Rattle.compiled_sizes.proofs.of_pass_parts.LeftLemmas.{dropped_left, early_left, emitted_left, merged_left}
use Rattle.compiled_sizes.proofs.of_pass_parts.LeftLemmas.{none_could, planned_left}
use Rattle.zpl_claims.specs.Build.{Build}
use Rattle.compiled_sizes.specs.of_zpl_compile.Compile.{emitted_for, if_asked, plan_of, settled}

-- ---- a pass that is run where it is asked for
reached : (P : Tables → Type 0) (pass : Tables → Tables) (b : Bool) (code : Tables) → b ≡ true
    → P (pass code) → P (if_asked b pass code)
reached P pass true code asked there = there
reached P pass false code asked there = absurd (true≢false (sym asked))

kept : (P : Tables → Type 0) (pass : Tables → Tables) → ((code : Tables) → P code → P (pass code))
    → (b : Bool) (code : Tables) → P code → P (if_asked b pass code)
kept P pass keeps true code there = keeps code there
kept P pass keeps false code there = there

-- ---- all passes
module _ (build : Build) (flat : Tables) where
  abbrev joined : Tables
  joined = checked (normalised flat)

  abbrev first : Tables
  first = if_asked build.options.fuse fused joined

  abbrev second : Tables
  second = if_asked build.options.contract contracted first

  abbrev third : Tables
  third = planned build.grid second

  abbrev fourth : Tables
  fourth = if_asked build.options.redundant repeats_dropped third

  abbrev fifth : Tables
  fifth = if_asked build.options.merge neighbours_merged fourth

  abbrev sixth : Tables
  sixth = if_asked build.options.early (sent_early build.links) fifth

  -- what each pass over plans keeps stays to the end
  module _ (P : Tables → Type 0)
      (drops : (code : Tables) → P code → P (repeats_dropped code))
      (merges : (code : Tables) → P code → P (neighbours_merged code))
      (sends : (code : Tables) → P code → P (sent_early build.links code))
      (emits : (code : Tables) → P code → P (emitted build.options.tree build.grid code)) where
    from_plan : P third → P (emitted_for build (plan_of build (settled build flat)))
    from_plan there =
        emits sixth
        (kept P (sent_early build.links) sends build.options.early fifth
        (kept P neighbours_merged merges build.options.merge fourth
        (kept P repeats_dropped drops build.options.redundant third there)))

  pub all_fused : CanBeFused (checked (normalised flat)) → build.options.fuse ≡ true
      → IsFused (emitted_for build (plan_of build (settled build flat)))
  all_fused can asked =
      from_plan IsFused dropped_fused merged_fused
      (λ code there. still_fused code build.links there)
      (λ code there. fused_stay build.options.tree build.grid code there)
      (planned_fused build.grid second
      (kept IsFused contracted contracted_fused build.options.contract first
      (reached IsFused fused build.options.fuse joined asked
      (all_joined joined can))))

  pub all_contracted : Fits (if_asked build.options.fuse fused (checked (normalised flat)))
      → build.options.contract ≡ true
      → IsContracted (emitted_for build (plan_of build (settled build flat)))
  all_contracted fits asked =
      none_could (emitted_for build (plan_of build (settled build flat)))
      (from_plan HasNoCellLeft dropped_left merged_left (early_left build.links)
      (emitted_left build.options.tree build.grid)
      (planned_left build.grid second
      (reached HasNoCellLeft contracted build.options.contract first asked
      (none_left first fits))))

  pub all_new : build.options.redundant ≡ true
      → HasNoRepeats (emitted_for build (plan_of build (settled build flat)))
  all_new asked =
      repeats_stay build.options.tree build.grid sixth
      (kept HasNoRepeats (sent_early build.links) (λ code. starts.still_new code build.links)
      build.options.early fifth
      (kept HasNoRepeats neighbours_merged neighbours.still_new build.options.merge fourth
      (reached HasNoRepeats repeats_dropped build.options.redundant third asked
      (no_repeats third))))

  pub all_merged : build.options.merge ≡ true
      → IsMerged (emitted_for build (plan_of build (settled build flat)))
  all_merged asked =
      merged_stay build.options.tree build.grid sixth
      (kept IsMerged (sent_early build.links) (λ code. starts.still_merged code build.links)
      build.options.early fifth
      (reached IsMerged neighbours_merged build.options.merge fourth asked
      (neighbours.none_left fourth)))

  pub all_early : build.options.early ≡ true
      → IsEarly build.links (emitted_for build (plan_of build (settled build flat)))
  all_early asked =
      early_stay build.links build.options.tree build.grid sixth
      (reached (IsEarly build.links) (sent_early build.links) build.options.early fifth asked
      (starts.early fifth build.links))
