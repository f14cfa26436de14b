-- Checked code never stops: an order of turns goes in it as in its counted code, in whose plan no
-- loop wants a further turn.
use Rattle.std.proofs.Common.{◌+◌, ◌*◌, ◌<◌, ℕ, suc, List, length, sum_by, Option, arith}
use Rattle.node_form.specs.Fits.{Fits}
use Rattle.node_form.specs.declared.instructions.Instr.TheVariants as instr
use Rattle.node_form.specs.declared.tables.Tables.{Tables}
use Rattle.counted_code.specs.of_row_orders.Rows.{HasRoom}
use Rattle.counted_code.specs.of_plan_meaning.Abreast.{Abreast}
use Rattle.every_order.proofs.GoodLemmas.{KnowsOrders}
use Rattle.counted_code.specs.of_node_check.Sound.{IsLinksNeeded, IsSound}
use Rattle.checked_messages.specs.of_checked_rows.Faced.{AreTables}
use Rattle.checked_messages.specs.of_checked_rows.Visits.{GoesOn, LeapsTo, NeverWants, PassesOn, Starts, Visits}
use Rattle.counted_code.specs.Counted.{counted}
use Rattle.counted_code.specs.Within.{AreWithin}
use Rattle.counted_code.proofs.FitLemmas.{counted_fits, counted_typed}
use Rattle.counted_code.proofs.GridLemmas.{idle_alike, stuck_alike}
use Rattle.counted_code.proofs.SoundLemmas.{counted_links, counted_sound}
use Rattle.counted_code.proofs.StepLemmas.{wants_none, within_behind, within_start}
use Rattle.checked_runs.specs.Stops.{NeverStops}
use Rattle.checked_runs.proofs.FrontLemmas.{KeepsStates}
use Rattle.checked_runs.proofs.SoundLemmas.{never_stops, sound_over}

module _ (code : Tables) (fits : Fits code) (links : Option ℕ) (n m : ℕ) (above : n < m) where
  abbrev real : Tables
  real = counted n code

  -- wherever its run comes, the counting cell is in its range
  within : (at : ℕ) (all : Abreast) → Visits real links m at all → AreWithin n code all
  within at all Starts = within_start n code
  within at all
      (GoesOn {at = before} {all = old} {next = after} {row = row} {bytes = bytes} visits here e) =
      within_behind n code m above fits links row _ old after bytes (within before old visits) e
  within at all (LeapsTo {at = before} {all = old} visits here e) = within before old visits
  within at all (PassesOn {at = before} {all = old} visits here e) = within before old visits

  never_wants : NeverWants real links m
  never_wants at all (instr.Loop slot group) visits here =
      λ members nest p there tree below.
      wants_none n code m above fits group slot p members nest all there tree
      (within at all visits p below)
  never_wants at all row visits here = tt

module _ (code : Tables) (links : Option ℕ) (needed : ℕ) (tables : AreTables code)
    (sound : IsSound code) (enough : IsLinksNeeded code needed) (room : HasRoom links needed)
    (states : (code : Tables) → Fits code → KeepsStates code)
    (knows : (code : Tables) → KnowsOrders code links) where
  abbrev turns_in : List ℕ → ℕ
  turns_in order = (length order + 1) * sum_by length code.groups

  counted_never : (n : ℕ) → NeverStops (counted n code) links
  counted_never n =
      let fits : Fits (counted n code) = counted_fits n code tables.fits in
      never_stops (counted n code) links (suc n) (states (counted n code) fits)
      (knows (counted n code))
      (sound_over (counted n code) links needed
      (record { fits = fits; typed = counted_typed n code tables.typed })
      (counted_sound n code tables.fits sound) (counted_links n code needed enough) room)
      (λ m more. never_wants code tables.fits links n m (omega (arith, more)))

  pub checked_stops : NeverStops code links
  checked_stops = record {
    not_stuck = λ order stuck.
        (counted_never (turns_in order)).not_stuck order
        (stuck_alike (turns_in order) code links tables.fits order (omega arith) stuck);
    not_idle = λ order idle.
        (counted_never (turns_in order)).not_idle order
        (idle_alike (turns_in order) code links tables.fits order (omega arith) idle);
  }
