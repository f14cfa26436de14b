-- What rows of flat programs do where a stretch is rewritten: rows of a stretch are straight, and
-- those that end one do alike in one state.
use Rattle.std.proofs.Common.{◌≡◌, refl, sym, ℕ, ℤ, Bool, true, false, true≢false}
use Rattle.std.specs.Prelude.{Option, Some, None, if◌then◌else◌, slice_get, take}
use Rattle.flat_form.specs.of_zpl_nums.declared.ends.End.{End}
use Rattle.flat_form.specs.of_zpl_nums.declared.ends.TrapKind.{TrapKind}
use Rattle.flat_form.specs.of_zpl_nums.declared.ends.TrapKind.TheVariants.{OutsideStorage, RegionMismatch}
use Rattle.flat_form.specs.of_zpl_nums.Integer.{is_true}
use Rattle.flat_form.specs.of_zpl_region.declared.regions.Region.{Region}
use Rattle.flat_form.specs.of_zpl_region.Tests.{is_within_limit}
use Rattle.flat_form.specs.of_zpl_arrays.Border.{border_conforms}
use Rattle.flat_form.specs.of_zpl_arrays.Reference.{is_reference}
use Rattle.flat_form.specs.of_row_runs.Run.{Effect, Stops, Wrong, Does, Leaps, Passes}
use Rattle.flat_form.specs.of_row_runs.Straight.{IsStep, IsStraight, Stepping}
use Rattle.flat_form.specs.of_node_form.declared.instructions.Instr.{Instr}
use Rattle.flat_form.specs.of_node_form.declared.instructions.Instr.TheVariants as instr
use Rattle.flat_form.specs.of_node_form.declared.tables.Tables.{Tables}
use Rattle.flat_form.specs.of_node_form.Control as control
use Rattle.flat_form.specs.of_node_form.Control.{Control, Registers, branched, checked, conforms, formed_by}
use Rattle.flat_form.specs.of_node_form.Control.{limited, part_dims, region_of, register_value, with_computed}
use Rattle.flat_form.specs.of_node_form.Control.{with_scalar, with_slot}
use Rattle.flat_form.specs.of_node_form.Fits.{storage_of}
use Rattle.flat_form.specs.of_node_form.Value.{Computed, Gives, Divides, Lacks}
use Rattle.flat_form.specs.of_code_parts.Stretch.{ends_stretch}
use Rattle.flat_form.specs.Act.{act, control_of, controlled, row_does, tested, without_rows}
use Rattle.flat_form.specs.Right.{are_settled}
use Rattle.flat_form.specs.Row.{Row, Unless, coded, inlined, with_row, words_at}
use Rattle.flat_form.specs.Whole.{Whole, registers_of}
use Rattle.flat_passes.specs.Kept.{BothLeap, BothPass, BothStop, EndsAlike, goal_of}
use Rattle.flat_passes.specs.Rewritten.{with_moved_goal}

-- ---- rows of a stretch lead nowhere
data NoLeap : Control → Type 0 where
  GoesOn : {registers : Registers} → NoLeap (control.Steps registers)
  Stopped : {ending : End} → NoLeap (control.Ends ending)
  NotSaid : NoLeap control.Outside

computed_no : {X : Type 0} (computed : Computed X) (line : ℕ) (next : X → Control)
    → ((x : X) → NoLeap (next x)) → NoLeap (with_computed computed line next)
computed_no (Gives x) line next never = never x
computed_no Divides line next never = Stopped
computed_no Lacks line next never = NotSaid

row_no : {X : Type 0} (found : Option X) (next : X → Control) → ((x : X) → NoLeap (next x))
    → NoLeap (control.with_row found next)
row_no (Some x) next never = never x
row_no None next never = NotSaid

limited_no : (registers : Registers) (slot line : ℕ) (region : Region) (b : Bool)
    → NoLeap (limited registers slot line region b)
limited_no registers slot line region true = GoesOn
limited_no registers slot line region false = Stopped

checked_no : (registers : Registers) (b : Bool) (kind : TrapKind) (line : ℕ)
    → NoLeap (checked registers b kind line)
checked_no registers true kind line = GoesOn
checked_no registers false kind line = Stopped

module _ (tables : Tables) (registers : Registers) where
  no_leap : (row : Instr) → ends_stretch row ≡ false → NoLeap (control.control tables registers row)
  no_leap (instr.Set scalar expr line) e =
      computed_no (register_value tables registers expr) line (with_scalar registers scalar)
      (λ value. GoesOn)
  no_leap (instr.Fix slot region) e = GoesOn
  no_leap (instr.Dims slot parts line) e =
      row_no (slice_get tables.slots slot)
      (λ rank. with_computed (part_dims tables registers 0 (take rank parts)) line
      (λ dims. with_slot registers slot line (region_of rank dims)))
      (λ rank. computed_no (part_dims tables registers 0 (take rank parts)) line
      (λ dims. with_slot registers slot line (region_of rank dims))
      (λ dims. limited_no registers slot line (region_of rank dims)
      (is_within_limit (region_of rank dims))))
  no_leap (instr.Formed form slot from shift line) e =
      row_no (slice_get registers.slots from)
      (λ region. with_slot registers slot line (formed_by form shift region))
      (λ region. limited_no registers slot line (formed_by form shift region)
      (is_within_limit (formed_by form shift region)))
  no_leap (instr.Need slot array shift line) e =
      row_no (slice_get registers.slots slot)
      (λ region. control.with_row (slice_get tables.arrays array) (λ row.
      checked registers (is_reference shift region (storage_of row)) OutsideStorage line))
      (λ region. row_no (slice_get tables.arrays array)
      (λ row. checked registers (is_reference shift region (storage_of row)) OutsideStorage line)
      (λ row. checked_no registers (is_reference shift region (storage_of row)) OutsideStorage line))
  no_leap (instr.Same target source kind line) e =
      row_no (slice_get registers.slots target)
      (λ region. control.with_row (slice_get registers.slots source) (λ other.
      checked registers (conforms kind region other) RegionMismatch line))
      (λ region. row_no (slice_get registers.slots source)
      (λ other. checked registers (conforms kind region other) RegionMismatch line)
      (λ other. checked_no registers (conforms kind region other) RegionMismatch line))
  no_leap (instr.Fits slot shift line) e =
      row_no (slice_get registers.slots slot)
      (λ region. checked registers (border_conforms shift region) RegionMismatch line)
      (λ region. checked_no registers (border_conforms shift region) RegionMismatch line)
  no_leap (instr.Jump goal) e = absurd (true≢false e)
  no_leap (instr.Unless expr goal line) e = absurd (true≢false e)
  no_leap (instr.Trap kind line) e = absurd (true≢false e)
  no_leap instr.End e = absurd (true≢false e)
  no_leap row e = NotSaid

controlled_steps : (whole : Whole) (after : Control) → NoLeap after
    → IsStep (controlled whole after)
controlled_steps whole after GoesOn = Stepping
controlled_steps whole after Stopped = Stepping
controlled_steps whole after NotSaid = Stepping

settled_steps : (b : Bool) (effect : Effect Whole) → IsStep effect
    → IsStep (if b then effect else Does (Stops Wrong))
settled_steps true effect steps = steps
settled_steps false effect steps = Stepping

module _ (tables : Tables) (n : ℕ) where
  abbrev pub does : Instr → Whole → Effect Whole
  does row whole = act tables n (inlined tables row) whole

  abbrev settled : Instr → Whole → Bool
  settled row whole = are_settled whole (inlined tables row)

  inline_steps : (row : Row) (whole : Whole)
      → ends_stretch (coded (without_rows tables) row) ≡ false
      → IsStep (controlled whole (control_of tables row whole))
  inline_steps row whole e =
      controlled_steps whole (control_of tables row whole)
      (no_leap (with_row (without_rows tables) row) (registers_of whole)
      (coded (without_rows tables) row) e)

  pub steps_in : (row : Instr) → ends_stretch row ≡ false → (whole : Whole) → IsStep (does row whole)
  steps_in (instr.Set scalar expr line) e whole =
      settled_steps (settled (instr.Set scalar expr line) whole)
      (controlled whole (control_of tables (inlined tables (instr.Set scalar expr line)) whole))
      (inline_steps (inlined tables (instr.Set scalar expr line)) whole refl)
  steps_in (instr.Fix slot region) e whole =
      settled_steps (settled (instr.Fix slot region) whole)
      (controlled whole (control_of tables (inlined tables (instr.Fix slot region)) whole))
      (inline_steps (inlined tables (instr.Fix slot region)) whole refl)
  steps_in (instr.Dims slot parts line) e whole =
      settled_steps (settled (instr.Dims slot parts line) whole)
      (controlled whole (control_of tables (inlined tables (instr.Dims slot parts line)) whole))
      (inline_steps (inlined tables (instr.Dims slot parts line)) whole refl)
  steps_in (instr.Formed form slot from shift line) e whole =
      settled_steps (settled (instr.Formed form slot from shift line) whole)
      (controlled whole (control_of tables (inlined tables (instr.Formed form slot from shift line)) whole))
      (inline_steps (inlined tables (instr.Formed form slot from shift line)) whole refl)
  steps_in (instr.Need slot array shift line) e whole =
      settled_steps (settled (instr.Need slot array shift line) whole)
      (controlled whole (control_of tables (inlined tables (instr.Need slot array shift line)) whole))
      (inline_steps (inlined tables (instr.Need slot array shift line)) whole refl)
  steps_in (instr.Same target source kind line) e whole =
      settled_steps (settled (instr.Same target source kind line) whole)
      (controlled whole (control_of tables (inlined tables (instr.Same target source kind line)) whole))
      (inline_steps (inlined tables (instr.Same target source kind line)) whole refl)
  steps_in (instr.Fits slot shift line) e whole =
      settled_steps (settled (instr.Fits slot shift line) whole)
      (controlled whole (control_of tables (inlined tables (instr.Fits slot shift line)) whole))
      (inline_steps (inlined tables (instr.Fits slot shift line)) whole refl)
  steps_in (instr.Start exchange) e whole =
      settled_steps (settled (instr.Start exchange) whole)
      (controlled whole (control_of tables (inlined tables (instr.Start exchange)) whole))
      (inline_steps (inlined tables (instr.Start exchange)) whole refl)
  steps_in (instr.Finish exchange) e whole =
      settled_steps (settled (instr.Finish exchange) whole)
      (controlled whole (control_of tables (inlined tables (instr.Finish exchange)) whole))
      (inline_steps (inlined tables (instr.Finish exchange)) whole refl)
  steps_in (instr.Vote group) e whole =
      settled_steps (settled (instr.Vote group) whole)
      (controlled whole (control_of tables (inlined tables (instr.Vote group)) whole))
      (inline_steps (inlined tables (instr.Vote group)) whole refl)
  steps_in (instr.TreeVote group) e whole =
      settled_steps (settled (instr.TreeVote group) whole)
      (controlled whole (control_of tables (inlined tables (instr.TreeVote group)) whole))
      (inline_steps (inlined tables (instr.TreeVote group)) whole refl)
  steps_in (instr.TreeFold scalar operator) e whole =
      settled_steps (settled (instr.TreeFold scalar operator) whole)
      (controlled whole (control_of tables (inlined tables (instr.TreeFold scalar operator)) whole))
      (inline_steps (inlined tables (instr.TreeFold scalar operator)) whole refl)
  steps_in (instr.Jump goal) e whole = absurd (true≢false e)
  steps_in (instr.Unless expr goal line) e whole = absurd (true≢false e)
  steps_in (instr.Trap kind line) e whole = absurd (true≢false e)
  steps_in instr.End e whole = absurd (true≢false e)
  steps_in (instr.Print text) e whole =
      settled_steps (settled (instr.Print text) whole)
      (row_does tables n (inlined tables (instr.Print text)) whole) Stepping
  steps_in (instr.Room array slot) e whole =
      settled_steps (settled (instr.Room array slot) whole)
      (row_does tables n (inlined tables (instr.Room array slot)) whole) Stepping
  steps_in (instr.Clear array) e whole =
      settled_steps (settled (instr.Clear array) whole)
      (row_does tables n (inlined tables (instr.Clear array)) whole) Stepping
  steps_in (instr.Loop slot group) e whole =
      settled_steps (settled (instr.Loop slot group) whole)
      (row_does tables n (inlined tables (instr.Loop slot group)) whole) Stepping
  steps_in (instr.Edge kind array slot shift) e whole =
      settled_steps (settled (instr.Edge kind array slot shift) whole)
      (row_does tables n (inlined tables (instr.Edge kind array slot shift)) whole) Stepping
  steps_in (instr.Flood array target from source) e whole =
      settled_steps (settled (instr.Flood array target from source) whole)
      (row_does tables n (inlined tables (instr.Flood array target from source)) whole) Stepping
  steps_in (instr.Part array target operator from source) e whole =
      settled_steps (settled (instr.Part array target operator from source) whole)
      (row_does tables n (inlined tables (instr.Part array target operator from source)) whole) Stepping
  steps_in (instr.Scan array slot operator along from mask) e whole =
      settled_steps (settled (instr.Scan array slot operator along from mask) whole)
      (row_does tables n (inlined tables (instr.Scan array slot operator along from mask)) whole) Stepping
  steps_in (instr.Fold scalar operator) e whole =
      settled_steps (settled (instr.Fold scalar operator) whole)
      (row_does tables n (inlined tables (instr.Fold scalar operator)) whole) Stepping
  steps_in (instr.Number expr) e whole =
      settled_steps (settled (instr.Number expr) whole)
      (row_does tables n (inlined tables (instr.Number expr)) whole) Stepping
  steps_in (instr.Truth expr) e whole =
      settled_steps (settled (instr.Truth expr) whole)
      (row_does tables n (inlined tables (instr.Truth expr)) whole) Stepping
  steps_in (instr.Gather truth array slot) e whole =
      settled_steps (settled (instr.Gather truth array slot) whole)
      (row_does tables n (inlined tables (instr.Gather truth array slot)) whole) Stepping
  steps_in (instr.Remap array slot from parts) e whole =
      settled_steps (settled (instr.Remap array slot from parts) whole)
      (row_does tables n (inlined tables (instr.Remap array slot from parts)) whole) Stepping

  pub straight : (row : Instr) → ends_stretch row ≡ false → IsStraight does row
  straight row e = record { straight = steps_in row e }

  -- ---- rows that end a stretch
  module _ (moved : ℕ → ℕ) (whole : Whole) where
    branched_alike : (expr goal line : ℕ) (registers : Registers) (b : Bool)
        → EndsAlike (instr.Unless expr goal line) moved
        (tested whole (branched registers b goal)) (tested whole (branched registers b (moved goal)))
    branched_alike expr goal line registers true = BothPass
    branched_alike expr goal line registers false = BothLeap refl

    tested_alike : (expr goal line : ℕ) (registers : Registers) (computed : Computed ℤ)
        → EndsAlike (instr.Unless expr goal line) moved
        (tested whole (with_computed computed line (λ value.
        branched registers (is_true value) goal)))
        (tested whole (with_computed computed line (λ value.
        branched registers (is_true value) (moved goal))))
    tested_alike expr goal line registers (Gives value) =
        branched_alike expr goal line registers (is_true value)
    tested_alike expr goal line registers Divides = BothStop
    tested_alike expr goal line registers Lacks = BothStop

    settled_alike : (row : Instr) (b : Bool) (effect other : Effect Whole)
        → EndsAlike row moved effect other
        → EndsAlike row moved (if b then effect else Does (Stops Wrong))
        (if b then other else Does (Stops Wrong))
    settled_alike row true effect other alike = alike
    settled_alike row false effect other alike = BothStop

    pub ends_alike : (row : Instr) → ends_stretch row ≡ true
        → EndsAlike row moved (does row whole) (does (with_moved_goal moved row) whole)
    ends_alike (instr.Jump goal) e = BothLeap refl
    ends_alike (instr.Unless expr goal line) e =
        let words = words_at tables expr in
        let alone = with_row (without_rows tables) (Unless words goal line) in
        settled_alike (instr.Unless expr goal line)
        (settled (instr.Unless expr goal line) whole)
        (tested whole (control_of tables (Unless words goal line) whole))
        (tested whole (control_of tables (Unless words (moved goal) line) whole))
        (tested_alike expr goal line (registers_of whole)
        (register_value alone (registers_of whole) 0))
    ends_alike (instr.Trap kind line) e = BothStop
    ends_alike instr.End e = BothStop
    ends_alike row e = absurd (true≢false (sym e))
