-- A flat program's run is kept by its rows with what they need, where all rows agree.
use Rattle.std.proofs.Common.{◌≡◌, refl, sym, ◌∙◌, ap, subst, ℕ, ◌≤◌, Bool, true, false, true≢false}
use Rattle.std.proofs.Common.{List, [], ◌∷◌, ◌++◌, length, map, take, All, append-nil, Option, Some, None}
use Rattle.std.specs.Prelude.{slice_get}
use Rattle.std.specs.List.{AllByRecursion, flat_map}
use Rattle.std.proofs.lemmas.Grind.{flat_map-append}
use Rattle.std.proofs.lemmas.List.Elements.{All-head, All-tail}
use Rattle.zpl_nums.specs.declared.ends.TrapKind.{TrapKind}
use Rattle.zpl_nums.specs.declared.ends.TrapKind.TheVariants.{OutsideStorage, RegionMismatch}
use Rattle.zpl_arrays.specs.Border.{border_conforms}
use Rattle.zpl_arrays.specs.Reference.{is_reference}
use Rattle.zpl_region.specs.declared.regions.Region.{Region}
use Rattle.zpl_region.specs.Tests.{is_within_limit}
use Rattle.node_form.specs.declared.arrays.Item.{Item}
use Rattle.node_form.specs.declared.instructions.Instr.{Instr}
use Rattle.node_form.specs.declared.instructions.Instr.TheVariants as instr
use Rattle.node_form.specs.declared.tables.Tables.{Tables}
use Rattle.node_form.specs.Control as control
use Rattle.node_form.specs.Control.{Control, Registers, checked, limited, with_computed, with_row}
use Rattle.node_form.specs.Fits.{FitsInstr, storage_of}
use Rattle.node_form.specs.Value.{Computed, Gives, Divides, Lacks}
use Rattle.code_parts.specs.Stretch.{ends_stretch}
use Rattle.row_runs.specs.Run.{Effect, Does, Leaps, Passes, Goes, Stops, Wrong, runs}
use Rattle.row_runs.specs.Rows.{AreEffects, BothGo, BothStop, BothLeap, BothPass, OldWrong}
use Rattle.row_runs.specs.Segments.{Keeps}
use Rattle.row_runs.specs.Straight.{Every, Flow, IsRewriting, IsStep, IsStraight, OnTo, Stepping, Tied, TiedHalt, TiedOn, TiedWrong, flow_step, rewritten, through}
use Rattle.row_runs.specs.Cut.{passed}
use Rattle.row_runs.proofs.StraightLemmas.{rewritten_ties}
use Rattle.plan_meaning.specs.of_flat_form.Act.{act}
use Rattle.plan_meaning.specs.of_flat_form.Flat.{IsFlatRow}
use Rattle.plan_meaning.specs.of_flat_form.Row.{inlined}
use Rattle.plan_meaning.specs.of_flat_form.Whole.{Whole}
use Rattle.comm_needs.specs.of_flat_passes.Kept as kept
use Rattle.comm_needs.specs.of_flat_passes.Kept.{EndsAlike, GoalsWithin, goal_of}
use Rattle.comm_needs.specs.of_flat_passes.Rewritten.{has_goal, stretches_of, with_moved_goal}
use Rattle.comm_needs.proofs.of_flat_passes.FlatRowLemmas.{does, ends_alike, straight}
use Rattle.normal_runs.proofs.PassLemmas.{AreControlled, KeepsFronts, pass_keeps_runs}
use Rattle.comm_needs.specs.of_plan_form.Rewrite.{ended_by, rows_by}
use Rattle.comm_needs.specs.of_plan_form.Units.{PlanRow, StartOf, FinishOf, Other, PlanUnit, Single, unit_of, unit_rows, units_of}
use Rattle.comm_needs.specs.Needs.{is_voted_on, loop_with_needs, needed_alone, needs_of, row_with_needs, vote_if, with_needs}
use Rattle.plan_meaning.specs.Abreast.{Abreast}
use Rattle.plan_meaning.specs.Act as plan
use Rattle.needs_runs.specs.Agree.{FitRowAgrees, HasLayout, HasThreeOf, RowAgrees}
use Rattle.needs_runs.specs.Holds.{Holds}
use Rattle.needs_runs.specs.Planned.{AllRowsAgree, planned_does}
use Rattle.needs_runs.proofs.ControlRows.{dims_agrees, end_agrees, fits_agrees, fix_agrees, formed_agrees, jump_agrees, need_agrees, same_agrees, set_agrees, trap_agrees, unless_agrees}
use Rattle.needs_runs.proofs.RoomRows.{clear_agrees, room_agrees}

-- ---- rows of a stretch lead nowhere
abbrev NoLeap : Control → Type 0
NoLeap c = (goal : ℕ) → c ≡ control.Leaps goal → ⊥

computed_no : {X : Type 0} (x : Computed X) (line : ℕ) (next : X → Control) → ((v : X) → NoLeap (next v))
    → NoLeap (with_computed x line next)
computed_no (Gives v) line next never goal e = never v goal e
computed_no Divides line next never goal e = cc
computed_no Lacks line next never goal e = cc

row_no : {X : Type 0} (x : Option X) (next : X → Control) → ((v : X) → NoLeap (next v))
    → NoLeap (with_row x next)
row_no (Some v) next never goal e = never v goal e
row_no None next never goal e = cc

limited_no : (registers : Registers) (slot line : ℕ) (region : Region) (b : Bool)
    → NoLeap (limited registers slot line region b)
limited_no registers slot line region true goal e = cc
limited_no registers slot line region false goal e = cc

checked_no : (registers : Registers) (b : Bool) (kind : TrapKind) (line : ℕ)
    → NoLeap (checked registers b kind line)
checked_no registers true kind line goal e = cc
checked_no registers false kind line goal e = cc

module _ (code : Tables) (registers : Registers) where
  no_leap : (row : Instr) → ends_stretch row ≡ false → NoLeap (control.control code registers row)
  no_leap (instr.Set scalar expr line) e =
      computed_no (control.register_value code registers expr) line (control.with_scalar registers scalar) (λ v goal f. cc)
  no_leap (instr.Fix slot region) e = λ goal f. cc
  no_leap (instr.Dims slot parts line) e =
      row_no (slice_get code.slots slot)
      (λ rank. with_computed (control.part_dims code registers 0 (take rank parts)) line
      (λ dims. control.with_slot registers slot line (control.region_of rank dims)))
      (λ rank. computed_no (control.part_dims code registers 0 (take rank parts)) line
      (λ dims. control.with_slot registers slot line (control.region_of rank dims))
      (λ dims. limited_no registers slot line (control.region_of rank dims) (is_within_limit (control.region_of rank dims))))
  no_leap (instr.Formed form slot from shift line) e =
      row_no (slice_get registers.slots from) (λ region. control.with_slot registers slot line (control.formed_by form shift region))
      (λ region. limited_no registers slot line (control.formed_by form shift region) (is_within_limit (control.formed_by form shift region)))
  no_leap (instr.Need slot array shift line) e =
      row_no (slice_get registers.slots slot)
      (λ region. with_row (slice_get code.arrays array) (λ row.
      checked registers (is_reference shift region (storage_of row)) OutsideStorage line))
      (λ region. row_no (slice_get code.arrays array)
      (λ row. checked registers (is_reference shift region (storage_of row)) OutsideStorage line)
      (λ row. checked_no registers (is_reference shift region (storage_of row)) OutsideStorage line))
  no_leap (instr.Same target source kind line) e =
      row_no (slice_get registers.slots target)
      (λ region. with_row (slice_get registers.slots source) (λ other.
      checked registers (control.conforms kind region other) RegionMismatch line))
      (λ region. row_no (slice_get registers.slots source)
      (λ other. checked registers (control.conforms kind region other) RegionMismatch line)
      (λ other. checked_no registers (control.conforms kind region other) RegionMismatch line))
  no_leap (instr.Fits slot shift line) e =
      row_no (slice_get registers.slots slot)
      (λ region. checked registers (border_conforms shift region) RegionMismatch line)
      (λ region. checked_no registers (border_conforms shift region) RegionMismatch line)
  no_leap (instr.Jump goal) e = absurd (true≢false e)
  no_leap (instr.Unless expr goal line) e = absurd (true≢false e)
  no_leap (instr.Trap kind line) e = absurd (true≢false e)
  no_leap instr.End e = absurd (true≢false e)
  no_leap row e = λ goal f. cc

module _ (code : Tables) (layout : HasLayout code) (links : Option ℕ) (n : ℕ)
    (agrees : AllRowsAgree code links n) where
  abbrev act_old : Instr → Whole → Effect Whole
  act_old = does code n

  abbrev act_new : PlanRow → Abreast → Effect Abreast
  act_new = planned_does code links n

  pub record IsOfCode (row : Instr) : Type 0 where
    pub fits : FitsInstr code row
    pub three : HasThreeOf row
    pub flat : IsFlatRow row

  abbrev IsStraightRow : PlanRow → Type 0
  IsStraightRow (StartOf items) = Unit {0}
  IsStraightRow (FinishOf items) = Unit {0}
  IsStraightRow (Other row) = ends_stretch row ≡ false

  controlled_step : (row : Instr) → ends_stretch row ≡ false → (all : Abreast)
      → IsStep (plan.controlled code row all)
  controlled_step row e all =
      by (plan.control_of code row all 0) (no_leap code (plan.registers_of (all.shares 0)) row e)
    where
      by : (c : Control) → NoLeap c → IsStep (plan.controlled_as code row all c)
      by (control.Steps registers) never = Stepping
      by (control.Leaps goal) never = absurd (never goal refl)
      by (control.Ends ending) never = Stepping
      by control.Outside never = Stepping

  new_step : (row : PlanRow) → IsStraightRow row → (all : Abreast) → IsStep (act_new row all)
  new_step (StartOf items) is all = Stepping
  new_step (FinishOf items) is all = Stepping
  new_step (Other (instr.Set scalar expr line)) is all = controlled_step (instr.Set scalar expr line) is all
  new_step (Other (instr.Fix slot region)) is all = controlled_step (instr.Fix slot region) is all
  new_step (Other (instr.Dims slot parts line)) is all = controlled_step (instr.Dims slot parts line) is all
  new_step (Other (instr.Formed form slot from shift line)) is all =
      controlled_step (instr.Formed form slot from shift line) is all
  new_step (Other (instr.Need slot array shift line)) is all =
      controlled_step (instr.Need slot array shift line) is all
  new_step (Other (instr.Same target source kind line)) is all =
      controlled_step (instr.Same target source kind line) is all
  new_step (Other (instr.Fits slot shift line)) is all = controlled_step (instr.Fits slot shift line) is all
  new_step (Other (instr.Jump goal)) is all = absurd (true≢false is)
  new_step (Other (instr.Unless expr goal line)) is all = absurd (true≢false is)
  new_step (Other (instr.Trap kind line)) is all = absurd (true≢false is)
  new_step (Other instr.End) is all = absurd (true≢false is)
  new_step (Other row) is all = Stepping

  -- ---- rows that end a stretch
  then_alike : (row : Instr) (moved : ℕ → ℕ) (e f : Effect Whole) (g : Effect Abreast)
      → EndsAlike row moved e f → AreEffects (Holds code) f g → EndsAlike row moved e g
  then_alike row moved e f g (kept.BothLeap has) BothLeap = kept.BothLeap has
  then_alike row moved e f g kept.BothPass BothPass = kept.BothPass
  then_alike row moved e f g kept.BothStop BothStop = kept.BothStop
  then_alike row moved e f g kept.BothStop OldWrong = kept.OldWrong
  then_alike row moved e f g kept.OldWrong does = kept.OldWrong

  ends : (row : Instr) → IsOfCode row → ends_stretch row ≡ true → (moved : ℕ → ℕ) (s : Whole)
      (t : Abreast) → Holds code s t → EndsAlike row moved (act_old row s) (act_new (ended_by moved row) t)
  ends (instr.Jump goal) has e moved s t like =
      then_alike (instr.Jump goal) moved _ _ _ (ends_alike code n moved s (instr.Jump goal) e)
      (jump_agrees code layout links n (moved goal) s t like)
  ends (instr.Unless expr goal line) has e moved s t like =
      then_alike (instr.Unless expr goal line) moved _ _ _ (ends_alike code n moved s (instr.Unless expr goal line) e)
      (unless_agrees code layout links n expr (moved goal) line s t like)
  ends (instr.Trap kind line) has e moved s t like =
      then_alike (instr.Trap kind line) moved _ _ _ (ends_alike code n moved s (instr.Trap kind line) e)
      (trap_agrees code layout links n kind line s t like)
  ends instr.End has e moved s t like =
      then_alike instr.End moved _ _ _ (ends_alike code n moved s instr.End e)
      (end_agrees code layout links n s t like)
  ends row has e moved s t like = absurd (true≢false (sym e))

  controlled : AreControlled act_old act_new (Holds code) IsOfCode IsStraightRow
      (rows_by code (flat_map (with_needs code))) ended_by
  controlled = record {
    old = straight code n;
    new = λ row is. record { straight = new_step row is };
    ends = ends;
  }

  -- ---- rows of stretches
  abbrev new_rows : Instr → List PlanRow
  new_rows row = flat_map unit_rows (row_with_needs code row)

  effects_tied : (e : Effect Whole) (f : Effect Abreast) → AreEffects (Holds code) e f
      → Tied (Holds code) (flow_step e (λ s. OnTo [] s)) (flow_step f (λ t. OnTo [] t))
  effects_tied e f (BothGo like) = TiedOn like
  effects_tied e f BothStop = TiedHalt
  effects_tied e f BothLeap = TiedWrong
  effects_tied e f BothPass = TiedWrong
  effects_tied e f OldWrong = TiedWrong

  one_tied : (row : Instr) → IsOfCode row → ends_stretch row ≡ false → (s : Whole) (t : Abreast) → Holds code s t
      → Tied (Holds code) (flow_step (act_old row s) (λ s. OnTo [] s)) (through act_new (new_rows row) t)
  one_tied (instr.Set scalar expr line) has e s t like =
      effects_tied _ _ (set_agrees code layout links n scalar expr line has.fits has.three s t like)
  one_tied (instr.Fix slot region) has e s t like =
      effects_tied _ _ (fix_agrees code layout links n slot region has.fits has.three s t like)
  one_tied (instr.Dims slot parts line) has e s t like =
      effects_tied _ _ (dims_agrees code layout links n slot parts line has.fits has.three s t like)
  one_tied (instr.Formed form slot from shift line) has e s t like =
      effects_tied _ _ (formed_agrees code layout links n form slot from shift line has.fits has.three s t like)
  one_tied (instr.Need slot array shift line) has e s t like =
      effects_tied _ _ (need_agrees code layout links n slot array shift line has.fits has.three s t like)
  one_tied (instr.Same target source kind line) has e s t like =
      effects_tied _ _ (same_agrees code layout links n target source kind line has.fits has.three s t like)
  one_tied (instr.Fits slot shift line) has e s t like =
      effects_tied _ _ (fits_agrees code layout links n slot shift line has.fits has.three s t like)
  one_tied (instr.Room array slot) has e s t like =
      effects_tied _ _ (room_agrees code layout links n array slot has.fits has.three s t like)
  one_tied (instr.Clear array) has e s t like =
      effects_tied _ _ (clear_agrees code layout links n array has.fits has.three s t like)
  one_tied (instr.Loop slot group) has e s t like =
      subst (λ rows. Tied (Holds code) (flow_step (act_old (instr.Loop slot group) s) (λ s. OnTo [] s)) (through act_new (flat_map unit_rows rows) t))
      (sym (append-nil (loop_with_needs code slot group)))
      (agrees.loops slot group has.fits s t like)
  one_tied (instr.Edge kind array slot shift) has e s t like =
      effects_tied _ _ (agrees.messages.edges kind array slot shift has.fits has.three s t like)
  one_tied (instr.Flood array target from source) has e s t like =
      effects_tied _ _ (agrees.messages.floods array target from source has.fits has.three s t like)
  one_tied (instr.Part array target f from source) has e s t like =
      effects_tied _ _ (agrees.messages.parts array target f from source has.fits has.three s t like)
  one_tied (instr.Scan array slot f along from mask) has e s t like =
      effects_tied _ _ (agrees.messages.scans array slot f along from mask has.fits has.three s t like)
  one_tied (instr.Gather truth array slot) has e s t like =
      effects_tied _ _ (agrees.messages.gathers truth array slot has.fits has.three s t like)
  one_tied (instr.Remap array slot from index) has e s t like =
      effects_tied _ _ (agrees.messages.remaps array slot from index has.fits has.three s t like)
  one_tied (instr.Fold scalar f) has e s t like =
      effects_tied _ _ (agrees.messages.folds scalar f has.fits has.three s t like)
  one_tied (instr.Print text) has e s t like =
      effects_tied _ _ (agrees.messages.texts text has.fits has.three s t like)
  one_tied (instr.Number expr) has e s t like =
      effects_tied _ _ (agrees.messages.numbers expr has.fits has.three s t like)
  one_tied (instr.Truth expr) has e s t like =
      effects_tied _ _ (agrees.messages.truths expr has.fits has.three s t like)
  one_tied (instr.Start exchange) has e s t like = absurd has.flat
  one_tied (instr.Finish exchange) has e s t like = absurd has.flat
  one_tied (instr.Vote group) has e s t like = absurd has.flat
  one_tied (instr.TreeVote group) has e s t like = absurd has.flat
  one_tied (instr.TreeFold scalar f) has e s t like = absurd has.flat
  one_tied (instr.Jump goal) has e s t like = absurd (true≢false e)
  one_tied (instr.Unless expr goal line) has e s t like = absurd (true≢false e)
  one_tied (instr.Trap kind line) has e s t like = absurd (true≢false e)
  one_tied instr.End has e s t like = absurd (true≢false e)

  -- ---- rows one after another
  abbrev rewrite_all : List Instr → List PlanRow
  rewrite_all rows = rows_by code (flat_map (with_needs code)) rows

  new_front : (rows : List Instr)
      → rewrite_all rows ≡ rewritten (λ (known : Unit {0}) row. new_rows row) (λ known row. tt) tt rows
  new_front [] = refl
  new_front (row ∷ rows) =
      ap (λ units. flat_map unit_rows units)
      (flat_map-append (with_needs code) (unit_of code row) (units_of code rows))
      ∙ (flat_map-append unit_rows (flat_map (with_needs code) (unit_of code row)) (flat_map (with_needs code) (units_of code rows))
      ∙ ap (λ rest. new_rows row ++ rest) (new_front rows))

  with_nothing : (f : Flow Whole) (g : Flow Abreast) → Tied (Holds code) f g
      → Tied (λ s t. Holds code s t × Unit {0}) f g
  with_nothing f g TiedWrong = TiedWrong
  with_nothing f g (TiedOn like) = TiedOn (like, tt)
  with_nothing f g TiedHalt = TiedHalt

  all_rewriting : (rows : List Instr) → AllByRecursion IsOfCode rows
      → AllByRecursion (λ row. ends_stretch row ≡ false) rows
      → Every (IsRewriting act_old act_new (λ (known : Unit {0}) row. new_rows row) (λ known row. tt) (Holds code) (λ known s t. Unit {0})) rows
  all_rewriting [] has front = tt
  all_rewriting (row ∷ rows) has front = (
    record {
      ties = λ known s t knows like. with_nothing _ _ (one_tied row has.0 front.0 s t like);
    },
    all_rewriting rows has.1 front.1,
  )

  -- all that stands for a row of a stretch is straight
  units_straight : (units : List PlanUnit) → AllByRecursion (λ unit. AllByRecursion IsStraightRow (unit_rows unit)) units
      → AllByRecursion IsStraightRow (flat_map unit_rows units)
  units_straight [] all = tt
  units_straight (unit ∷ units) all = by (unit_rows unit) all.0 (units_straight units all.1)
    where
      by : (rows : List PlanRow) → AllByRecursion IsStraightRow rows
          → AllByRecursion IsStraightRow (flat_map unit_rows units)
          → AllByRecursion IsStraightRow (rows ++ flat_map unit_rows units)
      by [] all rest = rest
      by (row ∷ rows) all rest = (all.0, by rows all.1 rest)

  abbrev IsStraightUnit : PlanUnit → Type 0
  IsStraightUnit unit = AllByRecursion IsStraightRow (unit_rows unit)

  append_all : (P : PlanUnit → Type 0) (xs ys : List PlanUnit) → AllByRecursion P xs
      → AllByRecursion P ys → AllByRecursion P (xs ++ ys)
  append_all P [] ys a b = b
  append_all P (x ∷ xs) ys a b = (a.0, append_all P xs ys a.1 b)

  exchanges_straight : (items : List Item) → AllByRecursion IsStraightUnit (map needed_alone items)
  exchanges_straight [] = tt
  exchanges_straight (item ∷ items) = ((tt, (tt, tt)), exchanges_straight items)

  vote_straight : (b : Bool) (group : ℕ) → AllByRecursion IsStraightUnit (vote_if b group)
  vote_straight true group = ((refl, tt), tt)
  vote_straight false group = tt

  row_straight : (row : Instr) → IsFlatRow row → ends_stretch row ≡ false
      → AllByRecursion IsStraightUnit (row_with_needs code row)
  row_straight (instr.Loop slot group) flat e =
      append_all IsStraightUnit (loop_with_needs code slot group) []
      (append_all IsStraightUnit (map needed_alone (needs_of code slot group)) (Single (instr.Loop slot group) ∷ vote_if (is_voted_on code group) group)
      (exchanges_straight (needs_of code slot group)) ((refl, tt), vote_straight (is_voted_on code group) group)) tt
  row_straight (instr.Start exchange) flat e = absurd flat
  row_straight (instr.Finish exchange) flat e = absurd flat
  row_straight row flat e = ((e, tt), tt)

  front_straight : (rows : List Instr) → AllByRecursion IsOfCode rows
      → AllByRecursion (λ row. ends_stretch row ≡ false) rows
      → AllByRecursion IsStraightUnit (flat_map (with_needs code) (units_of code rows))
  front_straight [] has front = tt
  front_straight (row ∷ rows) has front =
      subst (AllByRecursion IsStraightUnit)
      (sym (flat_map-append (with_needs code) (unit_of code row) (units_of code rows)))
      (append_all IsStraightUnit (row_with_needs code row) (flat_map (with_needs code) (units_of code rows))
      (row_straight row has.0.flat front.0) (front_straight rows has.1 front.1))

  keeps_fronts : KeepsFronts act_old act_new (Holds code) IsOfCode IsStraightRow
      (rows_by code (flat_map (with_needs code))) ended_by
  keeps_fronts = record {
    straight = λ front has all. units_straight (flat_map (with_needs code) (units_of code front)) (front_straight front has all);
    ties = λ front has all s t like.
        subst (λ rows. Tied (Holds code) (through act_old front s) (through act_new rows t)) (sym (new_front front))
        (rewritten_ties act_old act_new (λ (known : Unit {0}) row. new_rows row) (λ known row. tt) (Holds code) (λ known s t. Unit {0})
        tt front s t (all_rewriting front has all) tt like);
  }

  goals_within : (rows : List Instr) → AllByRecursion IsOfCode rows
      → AllByRecursion (λ row. has_goal row ≡ true → goal_of row ≤ length code.code) rows
  goals_within [] all = tt
  goals_within (row ∷ rows) all = (one row all.0, goals_within rows all.1)
    where
      one : (row : Instr) → IsOfCode row → has_goal row ≡ true → goal_of row ≤ length code.code
      one (instr.Jump goal) has e = has.fits.fit
      one (instr.Unless expr goal line) has e = has.fits.fit.1
      one row has e = absurd (true≢false (sym e))

  -- from like states the run of the rows with what they need is the flat run, unless this is wrong
  pub planned_keeps : AllByRecursion IsOfCode code.code → (left : ℕ) (s : Whole) (t : Abreast)
      → Holds code s t
      → Keeps (runs act_old code.code left 0 s)
      (runs act_new (passed (rows_by code (flat_map (with_needs code))) ended_by (stretches_of code.code)) left 0 t)
  planned_keeps has left s t like =
      pass_keeps_runs act_old act_new (Holds code) IsOfCode IsStraightRow
      (rows_by code (flat_map (with_needs code))) ended_by code.code controlled keeps_fronts has
      (goals_within code.code has) left s t like
