-- The passes over flat tables one behind the other.
use Rattle.std.proofs.Common.{◌≡◌, refl, ℕ, Bool, true, false}
use Rattle.row_runs.specs.Run.{Result}
use Rattle.row_runs.specs.Segments.{Keeps, Same}
use Rattle.row_runs.proofs.RowLemmas.{keeps_through}
use Rattle.node_form.specs.declared.tables.Tables.{Tables}
use Rattle.node_form.specs.Fits.{Fits}
use Rattle.flat_form.specs.Act.{flat_run}
use Rattle.temp_norm.specs.Normalised.{normalised}
use Rattle.temp_norm.proofs.FitLemmas.{normalised_fits}
use Rattle.bound_check.specs.Checked.{checked}
use Rattle.bound_check.proofs.FitLemmas.{checked_fits}
use Rattle.bound_check.proofs.KeptLemmas as checks
use Rattle.zpl_compile.specs.of_fuse_contract.Contracting.{contracted}
use Rattle.zpl_compile.specs.of_fuse_contract.Fusing.{fused}
use Rattle.zpl_compile.proofs.of_fuse_contract.FitLemmas.{fused_fits}
use Rattle.normal_runs.proofs.KeptLemmas as normal
use Rattle.fused_runs.specs.of_contracted_runs.Three.{HaveThreeDims}
use Rattle.fused_runs.proofs.of_contracted_runs.KeptLemmas as cells
use Rattle.fused_runs.proofs.of_contracted_runs.ThreeLemmas.{fused_three}
use Rattle.fused_runs.specs.Typed.{IsTyped}
use Rattle.fused_runs.proofs.ForthLemmas.{fused_shows}
use Rattle.zpl_compile.specs.Compile.{if_asked, settled}
use Rattle.zpl_claims.specs.Build.{Build}
use Rattle.settled_runs.proofs.RowLemmas.{HaveNoVotes, checked_typed, checked_votes}
use Rattle.settled_runs.proofs.RowLemmas.{normalised_typed, normalised_votes}

-- what is asked of tables
record AreFine (tables : Tables) : Type 0 where
  fits : Fits tables
  three : HaveThreeDims tables

module _ (n a : ℕ) where
  abbrev shown : Tables → Result
  shown tables = flat_run tables a n

  contract_keeps : (asked : Bool) (tables : Tables) → AreFine tables
      → Keeps (shown tables) (shown (if_asked asked contracted tables))
  contract_keeps true tables fine = cells.runs_kept tables fine.fits fine.three n a
  contract_keeps false tables fine = Same refl

  -- loops are joined behind passes that keep the run
  fuse_keeps : (asked : Bool) (code tables : Tables) → Keeps (shown code) (shown tables)
      → Fits tables → tables.cells ≡ 0 → IsTyped tables
      → Keeps (shown code) (shown (if_asked asked fused tables))
  fuse_keeps false code tables kept fits none typed = kept
  fuse_keeps true code tables kept fits none typed =
      keeps_through (shown code) (shown tables) (shown (fused tables)) kept
      (fused_shows tables n fits typed none a)

  fuse_fine : (asked : Bool) (tables : Tables) → AreFine tables → HaveNoVotes tables
      → AreFine (if_asked asked fused tables)
  fuse_fine false tables fine votes = fine
  fuse_fine true tables fine votes = record {
    fits = fused_fits tables fine.fits votes;
    three = fused_three tables fine.three;
  }

  pub settled_keeps : (build : Build) (code : Tables) → Fits code → IsTyped code
      → code.cells ≡ 0 → HaveNoVotes code → Keeps (shown code) (shown (settled build code))
  settled_keeps build code fits typed none votes =
      let one = normalised code in
      let one_fits : Fits one = normalised_fits code fits votes in
      let one_votes : HaveNoVotes one = normalised_votes code fits votes in
      let two = checked one in
      let two_typed : IsTyped two = checked_typed one (normalised_typed code fits typed) in
      let two_fine : AreFine two = record {
        fits = checked_fits one one_fits;
        three = two_typed.arrays;
      } in
      let fuse = build.options.fuse in
      let joined = if_asked fuse fused two in
      let kept : Keeps (shown code) (shown two) =
      keeps_through (shown code) (shown one) (shown two) (normal.runs_kept code fits n a)
      (checks.runs_kept one one_fits a n) in
      keeps_through (shown code) (shown joined) (shown (settled build code))
      (fuse_keeps fuse code two kept two_fine.fits none two_typed)
      (contract_keeps build.options.contract joined
      (fuse_fine fuse two two_fine (checked_votes one one_votes)))
