-- What rows of plans do where a stretch is rewritten: rows of a stretch are straight and keep open
-- exchanges, and those that end one do alike in one state.
use Rattle.std.proofs.Common.{◌≡◌, refl, sym, ◌∙◌, ap, subst, arith, ℕ, zero, suc, ◌+◌, Bool, true, false, ℤ}
use Rattle.std.proofs.Common.{List, [], ◌∷◌, true≢false}
use Rattle.std.proofs.lemmas.Bool.Decides.{nat_tests}
use Rattle.std.specs.Prelude.{◌&&◌, ◌==◌, Option}
use Rattle.std.specs.List.{list_all, range_with_len}
use Rattle.zpl_nums.specs.Integer.{is_true}
use Rattle.zpl_nums.specs.declared.ends.End.{End}
use Rattle.zpl_nums.specs.declared.ends.End.TheVariants.{Done, Trap}
use Rattle.zpl_nums.specs.declared.ends.TrapKind.TheVariants.{DivideByZero}
use Rattle.node_form.specs.Control as control
use Rattle.node_form.specs.Control.{Control, Registers, branched, register_value, with_computed}
use Rattle.node_form.specs.Value.{Computed, Gives, Divides, Lacks}
use Rattle.node_form.specs.declared.instructions.Instr.{Instr}
use Rattle.node_form.specs.declared.instructions.Instr.TheVariants as instr
use Rattle.node_form.specs.declared.tables.Tables.{Tables}
use Rattle.code_parts.specs.Stretch.{ends_stretch}
use Rattle.code_parts.proofs.WalkLemmas.{both_left, both_right}
use Rattle.comm_combine.specs.of_flat_passes.Kept.{BothLeap, BothPass, BothStop, EndsAlike, OldWrong}
use Rattle.comm_combine.specs.of_flat_passes.Rewritten.{with_moved_goal}
use Rattle.grid_meaning.specs.Local.{processor_numbers, processors}
use Rattle.row_orders.specs.Rows.{Flight}
use Rattle.row_runs.specs.Run.{Effect, Does, Leaps, Passes}
use Rattle.row_runs.specs.Straight.{IsStep, IsStraight, Stepping}
use Rattle.needs_runs.specs.of_plan_meaning.Abreast.{Abreast, are_none, go_where, is_quiet}
use Rattle.needs_runs.specs.of_plan_meaning.Act.{control_of, controlled, controlled_as, ends_where}
use Rattle.needs_runs.specs.of_plan_meaning.Act.{go_one_way, is_way, leaps_where, registers_of}
use Rattle.needs_runs.specs.of_plan_meaning.Act.{shares_on}
use Rattle.needs_runs.specs.of_plan_meaning.Act.{tested}
use Rattle.plan_passes.proofs.AwaitLemmas.{Await, Ready, Wanted, await_act, ready, ready_act}
use Rattle.plan_passes.proofs.ControlLemmas.{EndsThere, IsStraightly, NotSaid, StepsOn, straightly}

-- ---- tests that pass everywhere
all_pass : (test : ℕ → Bool) (a n : ℕ) → ((p : ℕ) → test p ≡ true)
    → list_all test (range_with_len a n) ≡ true
all_pass test a zero all = refl
all_pass test a (suc n) all =
    ap (λ b. b && list_all test (range_with_len (a + 1) n)) (all a) ∙ all_pass test (a + 1) n all

pass_too : (test other : ℕ → Bool) (ns : List ℕ) → ((p : ℕ) → test p ≡ true → other p ≡ true)
    → list_all test ns ≡ true → list_all other ns ≡ true
pass_too test other [] too e = refl
pass_too test other (p ∷ ns) too e =
    ap (λ b. b && list_all other ns) (too p (both_left (test p) (list_all test ns) e))
    ∙ pass_too test other ns too (both_right (test p) (list_all test ns) e)

same_number : (a : ℕ) → (a == a) ≡ true
same_number a = let one : (a == a) ≡ true = grind (arith, nat_tests) in one

pub no_flights : (flights : List Flight) → are_none flights ≡ true → flights ≡ []
no_flights [] e = refl
no_flights (flight ∷ flights) e = absurd (true≢false (sym e))

-- ---- rows of a stretch are straight
module _ (code : Tables) (links : Option ℕ) (n : ℕ) where
  abbrev act : Instr → Await → Effect Await
  act = await_act code links n

  controlled_steps : (row : Instr) (all : Abreast) (registers : Registers) (c : Control)
      → IsStraightly registers row c → IsStep (ready (controlled_as code row all c))
  controlled_steps row all registers c (StepsOn same) = Stepping
  controlled_steps row all registers c EndsThere = Stepping
  controlled_steps row all registers c NotSaid = Stepping

  control_steps : (row : Instr) (all : Abreast) → ends_stretch row ≡ false
      → IsStep (ready (controlled code row all))
  control_steps row all e =
      controlled_steps row all (registers_of (all.shares 0)) (control_of code row all 0)
      (straightly code (registers_of (all.shares 0)) row e)

  steps : (row : Instr) → ends_stretch row ≡ false → (all : Abreast)
      → IsStep (ready_act code links n row all)
  steps (instr.Set scalar expr line) e all = control_steps (instr.Set scalar expr line) all e
  steps (instr.Fix slot region) e all = control_steps (instr.Fix slot region) all e
  steps (instr.Dims slot parts line) e all = control_steps (instr.Dims slot parts line) all e
  steps (instr.Formed form slot from shift line) e all =
      control_steps (instr.Formed form slot from shift line) all e
  steps (instr.Need slot array shift line) e all =
      control_steps (instr.Need slot array shift line) all e
  steps (instr.Same target source kind line) e all =
      control_steps (instr.Same target source kind line) all e
  steps (instr.Fits slot shift line) e all = control_steps (instr.Fits slot shift line) all e
  steps (instr.Jump goal) e all = absurd (true≢false e)
  steps (instr.Unless expr goal line) e all = absurd (true≢false e)
  steps (instr.Trap kind line) e all = absurd (true≢false e)
  steps instr.End e all = absurd (true≢false e)
  steps row e all = Stepping

  pub straight : (row : Instr) → ends_stretch row ≡ false → IsStraight act row
  straight row e = record { straight = λ s. by s }
    where
      by : (s : Await) → IsStep (act row s)
      by (Ready all) = steps row e all
      by (Wanted group) = Stepping

  -- ---- rows that end a stretch
  jumps_alike : (moved : ℕ → ℕ) (goal : ℕ) (b c : Bool) → (b ≡ true → c ≡ true)
      → EndsAlike (instr.Jump goal) moved (ready (leaps_where b goal))
      (ready (leaps_where c (moved goal)))
  jumps_alike moved goal false c too = OldWrong
  jumps_alike moved goal true c too =
      subst (λ c. EndsAlike (instr.Jump goal) moved (let e : Effect Await = Leaps goal in e)
      (ready (leaps_where c (moved goal)))) (sym (too refl)) (BothLeap refl)

  stops_alike : (row : Instr) (moved : ℕ → ℕ) (b : Bool) (ending : End)
      → EndsAlike row moved (ready (Does (ends_where b ending))) (ready (Does (ends_where b ending)))
  stops_alike row moved true ending = BothStop
  stops_alike row moved false ending = BothStop

  module _ (expr line goal : ℕ) (moved : ℕ → ℕ) (all : Abreast) where
    abbrev old : Instr
    old = instr.Unless expr goal line

    abbrev next : Instr
    next = instr.Unless expr (moved goal) line

    abbrev way : ℕ → Registers → Computed ℤ → Control
    way goal registers value =
        with_computed value line (λ value. branched registers (is_true value) goal)

    tests_too : (a b : Registers) (v w : Bool)
        → is_way (branched a v goal) (branched b w goal) ≡ true
        → is_way (branched a v (moved goal)) (branched b w (moved goal)) ≡ true
    tests_too a b true true e = e
    tests_too a b true false e = absurd (true≢false (sym e))
    tests_too a b false true e = absurd (true≢false (sym e))
    tests_too a b false false e = same_number (moved goal)

    ways_too : (a b : Registers) (v w : Computed ℤ) → is_way (way goal a v) (way goal b w) ≡ true
        → is_way (way (moved goal) a v) (way (moved goal) b w) ≡ true
    ways_too a b (Gives v) (Gives w) e = tests_too a b (is_true v) (is_true w) e
    ways_too a b (Gives v) Divides e = by (is_true v) e
      where
        by : (t : Bool) → is_way (branched a t goal) (control.Ends (Trap DivideByZero line)) ≡ true
            → is_way (branched a t (moved goal)) (control.Ends (Trap DivideByZero line)) ≡ true
        by true e = e
        by false e = e
    ways_too a b (Gives v) Lacks e = by (is_true v) e
      where
        by : (t : Bool) → is_way (branched a t goal) control.Outside ≡ true
            → is_way (branched a t (moved goal)) control.Outside ≡ true
        by true e = e
        by false e = e
    ways_too a b Divides (Gives w) e = by (is_true w) e
      where
        by : (t : Bool) → is_way (control.Ends (Trap DivideByZero line)) (branched b t goal) ≡ true
            → is_way (control.Ends (Trap DivideByZero line)) (branched b t (moved goal)) ≡ true
        by true e = e
        by false e = e
    ways_too a b Divides Divides e = e
    ways_too a b Divides Lacks e = e
    ways_too a b Lacks w e = absurd (true≢false (sym e))

    one_way_too : go_one_way code old all ≡ true → go_one_way code next all ≡ true
    one_way_too e =
        pass_too (λ p. is_way (control_of code old all 0) (control_of code old all p))
        (λ p. is_way (control_of code next all 0) (control_of code next all p))
        (processor_numbers code)
        (λ p. ways_too (registers_of (all.shares 0)) (registers_of (all.shares p))
        (register_value code (registers_of (all.shares 0)) expr)
        (register_value code (registers_of (all.shares p)) expr)) e

    passes_alike : (b c : Bool) (s u : Abreast) → (b ≡ true → c ≡ true)
        → EndsAlike old moved (ready (tested (Does (go_where b [] s))))
        (ready (tested (Does (go_where c [] u))))
    passes_alike false c s u too = OldWrong
    passes_alike true c s u too =
        subst (λ c. EndsAlike old moved (let e : Effect Await = Passes in e)
        (ready (tested (Does (go_where c [] u))))) (sym (too refl)) BothPass

    leaps_alike : (b c : Bool) → (b ≡ true → c ≡ true)
        → EndsAlike old moved (ready (tested (leaps_where b goal)))
        (ready (tested (leaps_where c (moved goal))))
    leaps_alike false c too = OldWrong
    leaps_alike true c too =
        subst (λ c. EndsAlike old moved (let e : Effect Await = Leaps goal in e)
        (ready (tested (leaps_where c (moved goal))))) (sym (too refl)) (BothLeap refl)

    traps_alike : (b c q : Bool) (ending : End) → (b ≡ true → c ≡ true)
        → EndsAlike old moved (ready (tested (Does (ends_where (b && q) ending))))
        (ready (tested (Does (ends_where (c && q) ending))))
    traps_alike false c q ending too = OldWrong
    traps_alike true c q ending too =
        subst (λ c. EndsAlike old moved (ready (tested (Does (ends_where (true && q) ending))))
        (ready (tested (Does (ends_where (c && q) ending))))) (sym (too refl)) (by q)
      where
        by : (q : Bool) → EndsAlike old moved (ready (tested (Does (ends_where (true && q) ending))))
            (ready (tested (Does (ends_where (true && q) ending))))
        by true = BothStop
        by false = BothStop

    unless_alike : EndsAlike old moved (ready_act code links n old all)
        (ready_act code links n next all)
    unless_alike = by (register_value code (registers_of (all.shares 0)) expr)
      where
        test : (t : Bool) → EndsAlike old moved
            (ready (tested (controlled_as code old all
            (branched (registers_of (all.shares 0)) t goal))))
            (ready (tested (controlled_as code next all
            (branched (registers_of (all.shares 0)) t (moved goal)))))
        test true =
            passes_alike (go_one_way code old all) (go_one_way code next all)
            (shares_on code old all) (shares_on code next all) one_way_too
        test false = leaps_alike (go_one_way code old all) (go_one_way code next all) one_way_too

        by : (v : Computed ℤ) → EndsAlike old moved
            (ready (tested (controlled_as code old all (way goal (registers_of (all.shares 0)) v))))
            (ready (tested (controlled_as code next all
            (way (moved goal) (registers_of (all.shares 0)) v))))
        by (Gives x) = test (is_true x)
        by Divides =
            traps_alike (go_one_way code old all) (go_one_way code next all) (is_quiet all)
            (Trap DivideByZero line) one_way_too
        by Lacks = OldWrong

  ready_alike : (row : Instr) → ends_stretch row ≡ true → (moved : ℕ → ℕ) (all : Abreast)
      → EndsAlike row moved (ready_act code links n row all)
      (ready_act code links n (with_moved_goal moved row) all)
  ready_alike (instr.Jump goal) e moved all =
      jumps_alike moved goal (go_one_way code (instr.Jump goal) all)
      (go_one_way code (instr.Jump (moved goal)) all)
      (λ same. all_pass (λ p. moved goal == moved goal) 0 (processors code)
      (λ p. same_number (moved goal)))
  ready_alike (instr.Unless expr goal line) e moved all = unless_alike expr line goal moved all
  ready_alike (instr.Trap kind line) e moved all =
      stops_alike (instr.Trap kind line) moved
      (go_one_way code (instr.Trap kind line) all && is_quiet all) (Trap kind line)
  ready_alike instr.End e moved all =
      stops_alike instr.End moved (go_one_way code instr.End all && is_quiet all) Done
  ready_alike row e moved all = absurd (true≢false (sym e))

  wanted_alike : (row : Instr) → ends_stretch row ≡ true → (moved : ℕ → ℕ) (group : ℕ)
      → EndsAlike row moved (act row (Wanted group)) (act (with_moved_goal moved row) (Wanted group))
  wanted_alike (instr.Jump goal) e moved group = BothStop
  wanted_alike (instr.Unless expr goal line) e moved group = BothStop
  wanted_alike (instr.Trap kind line) e moved group = BothStop
  wanted_alike instr.End e moved group = BothStop
  wanted_alike row e moved group = absurd (true≢false (sym e))

  pub ends_alike : (row : Instr) → ends_stretch row ≡ true → (moved : ℕ → ℕ) (s : Await)
      → EndsAlike row moved (act row s) (act (with_moved_goal moved row) s)
  ends_alike row e moved (Ready all) = ready_alike row e moved all
  ends_alike row e moved (Wanted group) = wanted_alike row e moved group
