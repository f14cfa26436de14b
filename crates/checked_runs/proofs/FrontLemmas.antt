-- What holds in front of rows of sound code is kept by each row.
use Rattle.std.proofs.Common.{◌≡◌, ◌⊎◌, ◌<◌, ◌+◌, inl, inr, ℕ, zero, suc, Bool, true, false, refl, sym, ◌∙◌, ap, subst}
use Rattle.std.proofs.Common.{true≢false, arith, ◌==◌, ◌&&◌, ℤ, List, [], ◌∷◌, length, All, Contains, Option, Some, None, map}
use Rattle.std.specs.Prelude.{filter, not, slice_get, take}
use Rattle.std.specs.Option.{IsSomeAnd}
use Rattle.std.specs.List.{range_with_len}
use Rattle.zpl_nums.specs.Integer.{is_true}
use Rattle.zpl_region.specs.Tests.{is_within_limit}
use Rattle.grid_links.specs.Machine.{Awaits, Goes as Moves, Takes}
use Rattle.grid_links.specs.Run.{start_world}
use Rattle.grid_links.specs.declared.messages.Message.{Message}
use Rattle.node_form.specs.Control as control
use Rattle.node_form.specs.Control.{Control, Registers, formed_by}
use Rattle.node_form.specs.Fits.{FitsInstr}
use Rattle.node_form.specs.Value.{Computed, Divides, Gives, Lacks, unmoved}
use Rattle.node_form.specs.declared.arrays.ArrayRow.{ArrayRow}
use Rattle.node_form.specs.declared.instructions.Instr.{Instr}
use Rattle.node_form.specs.declared.instructions.Instr.TheVariants as instr
use Rattle.node_form.specs.declared.tables.Tables.{Tables}
use Rattle.code_parts.specs.Stretch.{ends_stretch}
use Rattle.code_parts.proofs.ListLemmas.{In, contained, from_mapped, in_append, in_list, unfiltered}
use Rattle.grid_meaning.specs.Grid.{system_over}
use Rattle.grid_meaning.specs.Local.{Local, processors, start_local}
use Rattle.grid_meaning.specs.State.{HasParts, HasThree, IsLocal, NextHasThree}
use Rattle.grid_meaning.specs.Turn.{act, fed}
use Rattle.counted_code.specs.of_row_orders.Rows.{HasRoom}
use Rattle.counted_code.proofs.of_row_orders.StarLemmas.{processor_count}
use Rattle.row_runs.specs.Run.{Does, Effect, Goes, Leaps, Passes, Stops}
use Rattle.counted_code.specs.of_plan_meaning.Abreast.{Abreast, is_quiet, locals_of, start_abreast}
use Rattle.counted_code.specs.of_plan_meaning.Act.{control_of, controlled, controlled_as, ends_where, go_one_way, leaps_where}
use Rattle.counted_code.specs.of_plan_meaning.Act.{registers_of, row_does, tested}
use Rattle.plan_orders.specs.Brings.{standing_at}
use Rattle.plan_orders.proofs.ReachLemmas.{order_kept}
use Rattle.plan_orders.proofs.StartLemmas.{Reach}
use Rattle.plan_orders.proofs.TestLemmas.{all_at}
use Rattle.counted_code.specs.of_node_check.declared.facts.Fact.{Fact}
use Rattle.counted_code.specs.of_node_check.declared.facts.Fact.TheVariants.{Held, Made, Stands, Uniform}
use Rattle.counted_code.specs.of_node_check.Learn.{is_side, is_uniform, learnt, loses, made, made_where, regions_of, start_facts}
use Rattle.counted_code.specs.of_node_check.Learn.{start_slots}
use Rattle.counted_code.specs.of_node_check.Path.{AreFacts, Begins, Comes, Follows, nexts, open_behind}
use Rattle.counted_code.specs.of_node_check.Sound.{IsSound}
use Rattle.counted_code.specs.of_node_check.Demand.{is_met}
use Rattle.counted_code.specs.of_node_check.Told.{AreTold, Says}
use Rattle.counted_code.proofs.of_node_check.AlongLemmas.{told_behind}
use Rattle.counted_code.proofs.of_node_check.ToldLemmas.{only_where, told_at_start}
use Rattle.checked_messages.specs.of_checked_rows.Faced.{AreTables, IsFaced}
use Rattle.checked_messages.specs.of_checked_rows.Right.{Fares, KeepsFlights, Meets, RowFares}
use Rattle.checked_messages.specs.of_checked_rows.Visits.{GoesOn, LeapsTo, NeverWants, PassesOn, Starts, Visits}
use Rattle.checked_messages.proofs.of_checked_rows.UniformLemmas.{uniform_behind}
use Rattle.checked_runs.proofs.OrderLemmas.{start_is}
use Rattle.checked_runs.proofs.StageLemmas.{Rows}

-- ---- sets of facts of which each says what others say
told_less : (code : Tables) (all : Abreast) (few many : List Fact)
    → ((fact : Fact) → Contains few fact → Contains many fact) → AreTold code all many
    → AreTold code all few
told_less code all few many more told = record {
  alike = told.alike;
  there = told.there;
  stored = told.stored;
  told = λ fact h of. told.told fact (more fact h) of;
}

-- ---- where a row leads
contains_first : (x : ℕ) (xs : List ℕ) → Contains (x ∷ xs) x
contains_first x xs = contained (x ∷ xs) x (inl refl)

module _ (code : Tables) (links : Option ℕ) (n at : ℕ) (all : Abreast) where
  never_goes : (way : Control) (row : Instr) (bytes : List ℕ) (after : Abreast)
      → ((registers : Registers) → way ≡ control.Steps registers → ⊥)
      → controlled_as code row all way ≡ Does (Goes bytes after) → ⊥
  never_goes (control.Steps registers) row bytes after never e = never registers refl
  never_goes (control.Leaps goal) row bytes after never e = by (go_one_way code row all) e
    where
      by : (b : Bool) → leaps_where b goal ≡ Does (Goes bytes after) → ⊥
      by true e = cc
      by false e = cc
  never_goes (control.Ends ending) row bytes after never e =
      by (go_one_way code row all && is_quiet all) e
    where
      by : (b : Bool) → Does (ends_where b ending) ≡ Does (Goes bytes after) → ⊥
      by true e = cc
      by false e = cc
  never_goes control.Outside row bytes after never e = cc

  tested_never : (effect : Effect Abreast) (bytes : List ℕ) (after : Abreast)
      → tested effect ≡ Does (Goes bytes after) → ⊥
  tested_never (Does (Goes shown next)) bytes after e = cc
  tested_never (Does (Stops stop)) bytes after e = cc
  tested_never (Leaps goal) bytes after e = cc
  tested_never Passes bytes after e = cc

  -- a row that goes on is no jump and no test
  goes_straight : (row : Instr) (next : Option Instr) (bytes : List ℕ) (after : Abreast)
      → row_does code links n row next all ≡ Does (Goes bytes after) → ends_stretch row ≡ false
  goes_straight (instr.Jump goal) next bytes after e =
      absurd (never_goes (control.Leaps goal) (instr.Jump goal) bytes after (λ registers e. cc) e)
  goes_straight (instr.Unless expr goal line) next bytes after e =
      absurd (tested_never (controlled code (instr.Unless expr goal line) all) bytes after e)
  goes_straight (instr.Trap kind line) next bytes after e =
      absurd (never_goes (control_of code (instr.Trap kind line) all 0) (instr.Trap kind line) bytes
      after
      (λ registers e. cc) e)
  goes_straight instr.End next bytes after e =
      absurd (never_goes (control_of code instr.End all 0) instr.End bytes after (λ registers e. cc)
      e)
  goes_straight row next bytes after e = refl

  next_is : (row : Instr) → ends_stretch row ≡ false → Contains (nexts at row) (at + 1)
  next_is (instr.Jump goal) straight = absurd (true≢false straight)
  next_is (instr.Unless expr goal line) straight = absurd (true≢false straight)
  next_is (instr.Trap kind line) straight = absurd (true≢false straight)
  next_is instr.End straight = absurd (true≢false straight)
  next_is row straight = contains_first (at + 1) []

  -- ---- leaps
  abbrev LeapsNever : Control → Type 0
  LeapsNever way = (goal : ℕ) → way ≡ control.Leaps goal → ⊥

  row_never : {X : Type 0} (o : Option X) (next : X → Control) → ((x : X) → LeapsNever (next x))
      → LeapsNever (control.with_row o next)
  row_never (Some x) next each goal e = each x goal e
  row_never None next each goal e = cc

  computed_never : {X : Type 0} (o : Computed X) (line : ℕ) (next : X → Control)
      → ((x : X) → LeapsNever (next x)) → LeapsNever (control.with_computed o line next)
  computed_never (Gives x) line next each goal e = each x goal e
  computed_never Divides line next each goal e = cc
  computed_never Lacks line next each goal e = cc

  limited_never : (registers : Registers) (slot line : ℕ) (region : _) (b : Bool)
      → LeapsNever (control.limited registers slot line region b)
  limited_never registers slot line region true goal e = cc
  limited_never registers slot line region false goal e = cc

  checked_never : (registers : Registers) (b : Bool) (kind : _) (line : ℕ)
      → LeapsNever (control.checked registers b kind line)
  checked_never registers true kind line goal e = cc
  checked_never registers false kind line goal e = cc

  set_never : (registers : Registers) (scalar : ℕ) (v : ℤ)
      → LeapsNever (control.with_scalar registers scalar v)
  set_never registers scalar v goal e = cc

  abbrev may_leap : Instr → Bool
  may_leap (instr.Jump goal) = true
  may_leap (instr.Unless expr goal line) = true
  may_leap row = false

  straight_never : (row : Instr) → may_leap row ≡ false → (registers : Registers)
      → LeapsNever (control.control code registers row)
  straight_never (instr.Jump goal) none registers = absurd (true≢false none)
  straight_never (instr.Unless expr goal line) none registers = absurd (true≢false none)
  straight_never (instr.Set scalar expr line) none registers =
      computed_never (control.register_value code registers expr) line
      (control.with_scalar registers scalar)
      (set_never registers scalar)
  straight_never (instr.Fix slot region) none registers = λ goal e. cc
  straight_never (instr.Dims slot parts line) none registers =
      row_never (slice_get code.slots slot) _
      (λ rank. computed_never (control.part_dims code registers 0 (take rank parts)) line
      (λ dims. control.with_slot registers slot line (control.region_of rank dims))
      (λ dims. limited_never registers slot line (control.region_of rank dims)
      (is_within_limit (control.region_of rank dims))))
  straight_never (instr.Formed form slot from shift line) none registers =
      row_never (slice_get registers.slots from) _
      (λ region. limited_never registers slot line (formed_by form shift region)
      (is_within_limit (formed_by form shift region)))
  straight_never (instr.Need slot array shift line) none registers =
      row_never (slice_get registers.slots slot) _
      (λ region. row_never (slice_get code.arrays array) _
      (λ row. checked_never registers _ _ line))
  straight_never (instr.Same target source kind line) none registers =
      row_never (slice_get registers.slots target) _
      (λ region. row_never (slice_get registers.slots source) _
      (λ other. checked_never registers _ _ line))
  straight_never (instr.Fits slot shift line) none registers =
      row_never (slice_get registers.slots slot) _ (λ region. checked_never registers _ _ line)
  straight_never (instr.Trap kind line) none registers = λ goal e. cc
  straight_never instr.End none registers = λ goal e. cc
  straight_never row none registers = λ goal e. cc

  leap_of : (row : Instr) (way : Control) (goal : ℕ) → controlled_as code row all way ≡ Leaps goal
      → way ≡ control.Leaps goal
  leap_of row (control.Steps registers) goal e = cc
  leap_of row (control.Leaps other) goal e = by (go_one_way code row all) e
    where
      by : (b : Bool) → leaps_where b other ≡ Leaps goal → control.Leaps other ≡ control.Leaps goal
      by true e = let same : other ≡ goal = cc in ap control.Leaps same
      by false e = cc
  leap_of row (control.Ends ending) goal e = by (go_one_way code row all && is_quiet all) e
    where
      by : (b : Bool) → Does (ends_where b ending) ≡ Leaps goal
          → control.Ends ending ≡ control.Leaps goal
      by true e = cc
      by false e = cc
  leap_of row control.Outside goal e = cc

  tested_leap : (effect : Effect Abreast) (goal : ℕ) → tested effect ≡ Leaps goal
      → effect ≡ Leaps goal
  tested_leap (Does (Goes shown next)) goal e = cc
  tested_leap (Does (Stops stop)) goal e = cc
  tested_leap (Leaps other) goal e = e
  tested_leap Passes goal e = cc

  branch_goal : (registers : Registers) (o : Computed ℤ) (line other goal : ℕ)
      → control.with_computed o line (λ value. control.branched registers (is_true value) other)
      ≡ control.Leaps goal → other ≡ goal
  branch_goal registers (Gives v) line other goal e = by (is_true v) e
    where
      by : (b : Bool) → control.branched registers b other ≡ control.Leaps goal → other ≡ goal
      by true e = cc
      by false e = cc
  branch_goal registers Divides line other goal e = cc
  branch_goal registers Lacks line other goal e = cc

  -- a leap is that of a jump or of a test
  record IsLeap (row : Instr) (goal : ℕ) : Type 0 where
    ends : ends_stretch row ≡ true
    among : Contains (nexts at row) goal

  leaps : (row : Instr) (next : Option Instr) (goal : ℕ)
      → row_does code links n row next all ≡ Leaps goal → IsLeap row goal
  leaps (instr.Jump other) next goal e =
      let same : control.Leaps other ≡ control.Leaps goal =
      leap_of (instr.Jump other) (control.Leaps other) goal e in
      let is : other ≡ goal = cc in
      record {
        ends = refl;
        among = subst (λ g. Contains (g ∷ []) goal) (sym is)
            (contains_first goal []);
      }
  leaps (instr.Unless expr other line) next goal e =
      let is = branch_goal (registers_of (all.shares 0))
      (control.register_value code (registers_of (all.shares 0)) expr) line other goal
      (leap_of (instr.Unless expr other line) (control_of code (instr.Unless expr other line) all 0)
      goal
      (tested_leap (controlled code (instr.Unless expr other line) all) goal e)) in
      record {
        ends = refl;
        among = contained ((at + 1) ∷ other ∷ []) goal (inr (inl is));
      }
  leaps (instr.Set scalar expr line) next goal e =
      absurd (straight_never (instr.Set scalar expr line) refl (registers_of (all.shares 0)) goal
      (leap_of (instr.Set scalar expr line) (control_of code (instr.Set scalar expr line) all 0)
      goal e))
  leaps (instr.Fix slot region) next goal e =
      absurd (straight_never (instr.Fix slot region) refl (registers_of (all.shares 0)) goal
      (leap_of (instr.Fix slot region) (control_of code (instr.Fix slot region) all 0) goal e))
  leaps (instr.Dims slot parts line) next goal e =
      absurd (straight_never (instr.Dims slot parts line) refl (registers_of (all.shares 0)) goal
      (leap_of (instr.Dims slot parts line) (control_of code (instr.Dims slot parts line) all 0)
      goal e))
  leaps (instr.Formed form slot from shift line) next goal e =
      absurd (straight_never (instr.Formed form slot from shift line) refl
      (registers_of (all.shares 0)) goal
      (leap_of (instr.Formed form slot from shift line)
      (control_of code (instr.Formed form slot from shift line) all 0) goal e))
  leaps (instr.Need slot array shift line) next goal e =
      absurd (straight_never (instr.Need slot array shift line) refl (registers_of (all.shares 0))
      goal
      (leap_of (instr.Need slot array shift line)
      (control_of code (instr.Need slot array shift line) all 0) goal e))
  leaps (instr.Same target source kind line) next goal e =
      absurd (straight_never (instr.Same target source kind line) refl (registers_of (all.shares 0))
      goal
      (leap_of (instr.Same target source kind line)
      (control_of code (instr.Same target source kind line) all 0) goal e))
  leaps (instr.Fits slot shift line) next goal e =
      absurd (straight_never (instr.Fits slot shift line) refl (registers_of (all.shares 0)) goal
      (leap_of (instr.Fits slot shift line) (control_of code (instr.Fits slot shift line) all 0)
      goal e))
  leaps (instr.Trap kind line) next goal e =
      absurd (straight_never (instr.Trap kind line) refl (registers_of (all.shares 0)) goal
      (leap_of (instr.Trap kind line) (control_of code (instr.Trap kind line) all 0) goal e))
  leaps instr.End next goal e =
      absurd (straight_never instr.End refl (registers_of (all.shares 0)) goal
      (leap_of instr.End (control_of code instr.End all 0) goal e))
  leaps row next goal e = cc

  -- ---- passed tests
  passes_never : (row : Instr) (way : Control) → controlled_as code row all way ≡ Passes → ⊥
  passes_never row (control.Steps registers) e = cc
  passes_never row (control.Leaps goal) e = by (go_one_way code row all) e
    where
      by : (b : Bool) → leaps_where b goal ≡ Passes → ⊥
      by true e = cc
      by false e = cc
  passes_never row (control.Ends ending) e = cc
  passes_never row control.Outside e = cc

  passes : (row : Instr) (next : Option Instr) → row_does code links n row next all ≡ Passes
      → IsLeap row (at + 1)
  passes (instr.Unless expr goal line) next e =
      record { ends = refl; among = contains_first (at + 1) (goal ∷ []) }
  passes (instr.Jump goal) next e =
      absurd (passes_never (instr.Jump goal) (control_of code (instr.Jump goal) all 0) e)
  passes (instr.Set scalar expr line) next e =
      absurd (passes_never (instr.Set scalar expr line)
      (control_of code (instr.Set scalar expr line) all 0) e)
  passes (instr.Fix slot region) next e =
      absurd (passes_never (instr.Fix slot region) (control_of code (instr.Fix slot region) all 0)
      e)
  passes (instr.Dims slot parts line) next e =
      absurd (passes_never (instr.Dims slot parts line)
      (control_of code (instr.Dims slot parts line) all 0) e)
  passes (instr.Formed form slot from shift line) next e =
      absurd (passes_never (instr.Formed form slot from shift line)
      (control_of code (instr.Formed form slot from shift line) all 0) e)
  passes (instr.Need slot array shift line) next e =
      absurd (passes_never (instr.Need slot array shift line)
      (control_of code (instr.Need slot array shift line) all 0) e)
  passes (instr.Same target source kind line) next e =
      absurd (passes_never (instr.Same target source kind line)
      (control_of code (instr.Same target source kind line) all 0) e)
  passes (instr.Fits slot shift line) next e =
      absurd (passes_never (instr.Fits slot shift line)
      (control_of code (instr.Fits slot shift line) all 0) e)
  passes (instr.Trap kind line) next e =
      absurd (passes_never (instr.Trap kind line) (control_of code (instr.Trap kind line) all 0) e)
  passes instr.End next e = absurd (passes_never instr.End (control_of code instr.End all 0) e)
  passes row next e = cc

-- ---- facts of places of temporaries
abbrev AtRest : Tables → List Fact → Type 0
AtRest code facts =
    (slot array : ℕ) (shift : List ℤ) (row : ArrayRow) → Contains facts (Held slot array shift)
    → slice_get code.arrays array ≡ Some row → row.stored ≡ false → shift ≡ unmoved

held_same : (slot array : ℕ) (shift : List ℤ) (other of : ℕ) (by : List ℤ)
    → Held slot array shift ≡ Held other of by → (array ≡ of) × (shift ≡ by)
held_same slot array shift other of by e =
    let one : array ≡ of = cc in
    let two : shift ≡ by = cc in
    (one, two)

stored_not : (o : Option ArrayRow) → IsSomeAnd o (λ row. row.stored ≡ true) → (row : ArrayRow)
    → o ≡ Some row → row.stored ≡ false → ⊥
stored_not None has row is none = has
stored_not (Some one) has row is none =
    let same : one ≡ row = cc in
    true≢false (sym has ∙ (ap (λ (row : ArrayRow). row.stored) same ∙ none))

module _ (code : Tables) (facts : List Fact) where
  made_rest : (row : Instr) → FitsInstr code row
      → (slot array : ℕ) (shift : List ℤ) (one : ArrayRow)
      → In (made code facts row) (Held slot array shift) → slice_get code.arrays array ≡ Some one
      → one.stored ≡ false → shift ≡ unmoved
  made_rest (instr.Need from of by line) fits slot array shift one (inl is) named temporary =
      let same = held_same from of by slot array shift is in
      absurd (stored_not (slice_get code.arrays of) fits.fit.2 one
      (ap (slice_get code.arrays) same.0 ∙ named) temporary)
  made_rest (instr.Need from of by line) fits slot array shift one (inr h) named temporary =
      absurd h
  made_rest (instr.Room of from) fits slot array shift one (inl is) named temporary =
      sym (held_same from of unmoved slot array shift is).1
  made_rest (instr.Room of from) fits slot array shift one (inr h) named temporary = absurd h
  made_rest (instr.Set scalar expr line) fits slot array shift one h named temporary =
      let is = (only_where (is_uniform code facts expr) (Uniform scalar) (Held slot array shift)
      h).1 in cc
  made_rest (instr.Fold scalar f) fits slot array shift one (inl is) named temporary = cc
  made_rest (instr.Fold scalar f) fits slot array shift one (inr h) named temporary = absurd h
  made_rest (instr.TreeFold scalar f) fits slot array shift one (inl is) named temporary = cc
  made_rest (instr.TreeFold scalar f) fits slot array shift one (inr h) named temporary = absurd h
  made_rest (instr.Fix other region) fits slot array shift one (inl is) named temporary = cc
  made_rest (instr.Fix other region) fits slot array shift one (inr h) named temporary = absurd h
  made_rest (instr.Formed form other from by line) fits slot array shift one h named temporary =
      by_part (in_append
      (map (Stands other) (filter is_within_limit
      (map (formed_by form by) (regions_of facts from))))
      (made_where (is_side form && not (other == from)) (Made form other from by))
      (Held slot array shift) h)
    where
      by_part : In (map (Stands other)
          (filter is_within_limit (map (formed_by form by) (regions_of facts from))))
          (Held slot array shift)
          ⊎ In (made_where (is_side form && not (other == from)) (Made form other from by))
          (Held slot array shift) → shift ≡ unmoved
      by_part (inl h) =
          let is = (from_mapped (Stands other)
          (filter is_within_limit (map (formed_by form by) (regions_of facts from)))
          (Held slot array shift) h).2 in cc
      by_part (inr h) =
          let is = (only_where (is_side form && not (other == from)) (Made form other from by)
          (Held slot array shift) h).1 in cc
  made_rest (instr.Same target source kind line) fits slot array shift one (inl is) named temporary
      = cc
  made_rest (instr.Same target source kind line) fits slot array shift one (inr h) named temporary =
      absurd h
  made_rest (instr.Fits other by line) fits slot array shift one (inl is) named temporary = cc
  made_rest (instr.Fits other by line) fits slot array shift one (inr h) named temporary = absurd h
  made_rest row fits slot array shift one h named temporary = absurd h

  rest_behind : (row : Instr) → FitsInstr code row → AtRest code facts
      → AtRest code (learnt code facts row)
  rest_behind row fits rest slot array shift one told named temporary =
      by_part (in_append (filter (λ fact. not (loses code row fact)) facts) (made code facts row)
      (Held slot array shift) (in_list (learnt code facts row) (Held slot array shift) told))
    where
      by_part : In (filter (λ fact. not (loses code row fact)) facts) (Held slot array shift)
          ⊎ In (made code facts row) (Held slot array shift) → shift ≡ unmoved
      by_part (inl h) =
          rest slot array shift one
          (contained facts (Held slot array shift)
          (unfiltered (λ fact. not (loses code row fact)) facts (Held slot array shift) h).0) named
          temporary
      by_part (inr h) = made_rest row fits slot array shift one h named temporary

  -- behind jumps and tests nothing is told that wasn't
  no_news : (row : Instr) → ends_stretch row ≡ true → (fact : Fact)
      → Contains (learnt code facts row) fact → Contains facts fact
  no_news row ends fact told =
      by_part (in_append (filter (λ fact. not (loses code row fact)) facts) (made code facts row)
      fact
      (in_list (learnt code facts row) fact told))
    where
      nothing : (row : Instr) → ends_stretch row ≡ true → In (made code facts row) fact → ⊥
      nothing (instr.Jump goal) ends h = h
      nothing (instr.Unless expr goal line) ends h = h
      nothing (instr.Trap kind line) ends h = h
      nothing instr.End ends h = h
      nothing row ends h = true≢false (sym ends)

      by_part : In (filter (λ fact. not (loses code row fact)) facts) fact ⊎ In
          (made code facts row) fact
          → Contains facts fact
      by_part (inl h) =
          contained facts fact (unfiltered (λ fact. not (loses code row fact)) facts fact h).0
      by_part (inr h) = absurd (nothing row ends h)

-- ---- at the start
slots_rest : (ranks : List ℕ) (from slot array : ℕ) (shift : List ℤ)
    → In (start_slots from ranks) (Held slot array shift) → ⊥
slots_rest [] from slot array shift h = h
slots_rest (rank ∷ ranks) from slot array shift (inl is) = cc
slots_rest (rank ∷ ranks) from slot array shift (inr h) =
    slots_rest ranks (from + 1) slot array shift h

start_rest : (code : Tables) → AtRest code (start_facts code)
start_rest code slot array shift row told named temporary =
    by_part (in_append (map Uniform (range_with_len 0 code.scalars)) (start_slots 0 code.slots)
    (Held slot array shift) (in_list (start_facts code) (Held slot array shift) told))
  where
    by_part : In (map Uniform (range_with_len 0 code.scalars)) (Held slot array shift)
        ⊎ In (start_slots 0 code.slots) (Held slot array shift) → shift ≡ unmoved
    by_part (inl h) =
        let is = (from_mapped Uniform (range_with_len 0 code.scalars) (Held slot array shift) h).2
        in cc
    by_part (inr h) = absurd (slots_rest code.slots 0 slot array shift h)

-- ---- what processors have, where an order leads them
numbered_back : {X : Type 0} (f : ℕ → X) (a n p : ℕ) (x : X)
    → slice_get (map f (range_with_len a n)) p ≡ Some x → (p < n) × (f (a + p) ≡ x)
numbered_back f a zero p x e = cc
numbered_back f a (suc n) zero x e =
    let same : f a ≡ x = cc in
    let none : a + 0 ≡ a = omega arith in
    (omega arith, ap f none ∙ same)
numbered_back f a (suc n) (suc p) x e =
    let (below, is) = numbered_back f (a + 1) n p x e in
    let same : a + suc p ≡ a + 1 + p = omega arith in
    (omega (arith, below), ap f same ∙ is)

-- what is known of the states of processors
pub record KeepsStates (code : Tables) : Type 0 where
  pub start : (p : ℕ) → p < processors code → IsLocal code p (start_local code p)
  pub moves : (p : ℕ) (local next : Local) (sent : Option (ℕ × Message)) (shown : List ℕ)
      → NextHasThree code local → IsLocal code p local → act code p local ≡ Moves next sent shown
      → IsLocal code p next
  pub messages : (p : ℕ) (local next : Local) (from : ℕ) (message : Message) → IsLocal code p local
      → act code p local ≡ Awaits from → fed code p local message ≡ Takes next → IsLocal code p next

module _ (code : Tables) (links : Option ℕ) (states : KeepsStates code)
    (three : All (HasThree code) code.code) where
  start_locals_are : (p : ℕ) (local : Local)
      → slice_get (start_world (system_over code links)).locals p ≡ Some local
      → IsLocal code p local
  start_locals_are p local here =
      let (below, is) = numbered_back (start_local code) 0 (processors code) p local here in
      subst (IsLocal code p) (ap (start_local code) (from_zero p) ∙ is) (states.start p below)
    where
      from_zero : (p : ℕ) → p ≡ 0 + p
      from_zero p = omega arith

  parts_of : (p at : ℕ) (all : Abreast) → HasParts code p (standing_at at (all.shares p))
      → HasParts code p (locals_of all p)
  parts_of p at all parts = record {
    scalars = parts.scalars;
    cells = parts.cells;
    slots = parts.slots;
    stores = parts.stores;
    flag = parts.flag;
  }

  reach_parts : (at : ℕ) (all : Abreast) → Reach code links at all → (p : ℕ) → p < processors code
      → HasParts code p (locals_of all p)
  reach_parts at all reach p below =
      let comes = reach.leads (start_world (system_over code links)) (start_is code links) in
      let kept = order_kept code links three states.moves states.messages comes.order
      (start_world (system_over code links)) start_locals_are comes.only_moves in
      parts_of p at all
      (kept p (standing_at at (all.shares p))
      (comes.arrives.local p (subst (λ k. p < k) (sym (processor_count code links)) below))).parts

-- ---- what holds in front of a row
pub record Facing (code : Tables) (links : Option ℕ) (n at : ℕ) (all : Abreast) : Type 0 where
  pub visits : Visits code links n at all
  pub opened : List ℕ
  pub comes : Comes code at opened
  pub faced : (facts : ℕ → List Fact) → AreFacts code facts → IsFaced code opened (facts at) all

-- that all rows fare well where their demand is met
pub record FareWell (code : Tables) (links : Option ℕ) (n : ℕ) : Type 0 where
  pub fares : (row : Instr) → RowFares code links n row
  pub flights : (row : Instr) → ends_stretch row ≡ false → KeepsFlights code links n row

module _ (code : Tables) (tables : AreTables code) (links : Option ℕ) (n : ℕ)
    (states : KeepsStates code) (three : All (HasThree code) code.code) (sound : IsSound code)
    (enough : (at : ℕ) (opened : List ℕ) → Comes code at opened → HasRoom links (length opened))
    (well : FareWell code links n) (never : NeverWants code links n) where
  start_faced : Facing code links n 0 (start_abreast code)
  start_faced = record {
    visits = Starts;
    opened = [];
    comes = Begins;
    faced = λ facts right. record {
      told =
          told_less code (start_abreast code) (facts 0) (start_facts code) right.start
          (told_at_start code);
      uniform = λ scalar told p below. refl;
      at_rest = λ slot array shift row told named temporary.
          start_rest code slot array shift row (right.start (Held slot array shift) told) named
          temporary;
      parts = λ p below.
          let parts = (states.start p below).parts in record {
            scalars = parts.scalars;
            cells = parts.cells;
            slots = parts.slots;
            stores = parts.stores;
            flag = parts.flag;
          };
      flights = tt;
    };
  }

  module _ (at : ℕ) (all : Abreast) (row : Instr) (front : Facing code links n at all)
      (here : slice_get code.code at ≡ Some row) where
    abbrev opened : List ℕ
    opened = front.opened

    fits : FitsInstr code row
    fits = all_at (FitsInstr code) code.code at row tables.fits.code here

    room_behind : HasRoom links (length (open_behind opened row))
    room_behind = by row refl
      where
        by : (one : Instr) → row ≡ one → HasRoom links (length (open_behind opened one))
        by (instr.Start number) is =
            subst (λ one. HasRoom links (length (open_behind opened one))) is
            (enough (at + 1) (open_behind opened row)
            (Follows front.comes here
            (subst (λ one. Contains (nexts at one) (at + 1)) (sym is)
            (contains_first (at + 1) []))))
        by (instr.Finish number) is =
            subst (λ one. HasRoom links (length (open_behind opened one))) is
            (enough (at + 1) (open_behind opened row)
            (Follows front.comes here
            (subst (λ one. Contains (nexts at one) (at + 1)) (sym is)
            (contains_first (at + 1) []))))
        by one is = enough at opened front.comes

    meets_by : (facts : List Fact) → IsFaced code opened facts all
        → is_met code facts opened row ≡ true → Meets code links row opened facts all
    meets_by facts faced met =
        record { at = at; here = here; faced = faced; met = met; room = room_behind }

    front_fares : (next : Option Instr) → Fares code links n row next all
    front_fares next =
        let has = (sound at row here).met opened front.comes in
        well.fares row next opened (has.facts at) all
        (meets_by (has.facts at) (front.faced has.facts has.right) has.met)
        (never at all row front.visits here)

    -- the row goes on
    module _ (after : Abreast) (bytes : List ℕ) (reach : Reach code links (at + 1) after)
        (e : row_does code links n row (slice_get code.code (at + 1)) all ≡ Does (Goes bytes after))
      where
        straight : ends_stretch row ≡ false
        straight =
            goes_straight code links n at all row (slice_get code.code (at + 1)) bytes after e

        among : Contains (nexts at row) (at + 1)
        among = next_is code links n at all row straight

        front_goes : Facing code links n (at + 1) after
        front_goes =
            let has = (sound at row here).met opened front.comes in record {
              visits = GoesOn front.visits here e;
              opened = open_behind opened row;
              comes = Follows front.comes here among;
              faced = λ facts right.
                  let faced = front.faced facts right in
                  let more : (fact : Fact) → Contains (facts (at + 1)) fact
                  → Contains (learnt code (facts at) row) fact =
                  λ fact told. right.behind at (at + 1) opened row fact front.comes here among told in
                  record {
                    told =
                        told_less code after (facts (at + 1)) (learnt code (facts at) row) more
                        (told_behind code links n (slice_get code.code (at + 1)) all after bytes
                        (facts at)
                        faced.told row fits straight e);
                    uniform =
                        λ scalar told. uniform_front (facts at) faced scalar
                        (more (Uniform scalar) told);
                    at_rest = λ slot array shift one told named temporary.
                        rest_behind code (facts at) row fits faced.at_rest slot array shift one
                        (more (Held slot array shift) told) named temporary;
                    parts = reach_parts code links states three (at + 1) after reach;
                    flights =
                        well.flights row straight (slice_get code.code (at + 1)) opened (has.facts at)
                        all after
                        bytes
                        (meets_by (has.facts at) (front.faced has.facts has.right) has.met) e;
                  };
            }
          where
            uniform_front : (facts : List Fact) → IsFaced code opened facts all → (scalar : ℕ)
                → Contains (learnt code facts row) (Uniform scalar) → Says code after (Uniform scalar)
            uniform_front facts faced scalar told =
                uniform_behind code tables links n (slice_get code.code (at + 1)) opened facts all
                after bytes row
                (record { at = at; here = here; faced = faced }) e scalar told

    -- all stay as they are
    same_opened : (row : Instr) → ends_stretch row ≡ true → open_behind opened row ≡ opened
    same_opened (instr.Start number) ends = absurd (true≢false (sym ends))
    same_opened (instr.Finish number) ends = absurd (true≢false (sym ends))
    same_opened row ends = refl

    front_stays : (there : ℕ) → Visits code links n there all → IsLeap code links n at all row there
        → Facing code links n there all
    front_stays there visits leap = record {
      visits = visits;
      opened = opened;
      comes =
          subst (Comes code there) (same_opened row leap.ends)
          (Follows front.comes here leap.among);
      faced = λ facts right.
          let faced = front.faced facts right in
          let more : (fact : Fact) → Contains (facts there) fact → Contains (facts at) fact =
          λ fact told. no_news code (facts at) row leap.ends fact
          (right.behind at there opened row fact front.comes here leap.among told) in
          record {
            told = told_less code all (facts there) (facts at) more faced.told;
            uniform = λ scalar told. faced.uniform scalar (more (Uniform scalar) told);
            at_rest = λ slot array shift one told named temporary.
                faced.at_rest slot array shift one (more (Held slot array shift) told) named
                temporary;
            parts = faced.parts;
            flights = faced.flights;
          };
    }

  pub front_rows : Rows code links (Facing code links n) n
  front_rows = record {
    start = start_faced;
    fares = λ at all row front reach open_now here.
        front_fares at all row front here (slice_get code.code (at + 1));
    goes = λ at all next row bytes front reach behind open_now here e.
        front_goes at all row front here next bytes behind e;
    leaps = λ at goal all row front here e.
        front_stays at all row front here goal (LeapsTo front.visits here e)
        (leaps code links n at all row (slice_get code.code (at + 1)) goal e);
    passes = λ at all row front here e.
        front_stays at all row front here (at + 1) (PassesOn front.visits here e)
        (passes code links n at all row (slice_get code.code (at + 1)) e);
  }
