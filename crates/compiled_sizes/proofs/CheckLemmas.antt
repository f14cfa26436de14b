-- No check is left that always passes: passes behind the one that leaves these out keep it so.
use Rattle.std.proofs.Common.{◌≡◌, refl, sym, ap, ◌∙◌, arith, ℕ, zero, suc, ◌+◌, Bool}
use Rattle.std.proofs.Common.{true, false}
use Rattle.std.proofs.Common.{List, [], ◌∷◌, map, ℤ, Option}
use Rattle.std.specs.Prelude.{All, cond, count_by, not, ◌&&◌, ◌||◌, ◌==◌, slice_get}
use Rattle.std.specs.List.{list_all}
use Rattle.std.proofs.lemmas.List.Sums.{sum_by-cons}
use Rattle.node_form.specs.declared.instructions.Instr.{Instr}
use Rattle.node_form.specs.declared.instructions.Instr.TheVariants as instr
use Rattle.node_form.specs.declared.tables.Tables.{Tables}
use Rattle.code_parts.specs.Counts.{count_of}
use Rattle.code_parts.specs.Needs.{IsUndecided, is_decided, is_within, leaves_passing}
use Rattle.flat_passes.specs.Rewritten.{with_moved_goal}
use Rattle.temp_norm.specs.Normalised.{normalised}
use Rattle.bound_check.specs.Checked.{checked}
use Rattle.bound_check.proofs.UndecidedLemmas.{undecided}
use Rattle.zpl_compile.specs.of_fuse_contract.Contracting.{contracted}
use Rattle.zpl_compile.specs.of_fuse_contract.Fusing.{fused}
use Rattle.comm_needs.specs.Needs.{planned}
use Rattle.comm_combine.specs.Merge.{neighbours_merged}
use Rattle.comm_combine.specs.Repeats.{repeats_dropped}
use Rattle.comm_early.specs.Send.{sent_early}
use Rattle.comm_early.proofs.SumLemmas.{rows_stay}
use Rattle.node_emit.specs.Emit.{along_tree, emitted}
use Rattle.lowering_checks.specs.of_pass_sizes.Sizes.{IsBlind, PassesNoExchange}
use Rattle.lowering_checks.proofs.of_pass_sizes.SumLemmas.{same_sum}
use Rattle.lowering_checks.proofs.of_pass_sizes.CombineLemmas.{dropped_count, merged_count}
use Rattle.lowering_checks.proofs.of_pass_sizes.NeedLemmas.{planned_count}
use Rattle.lowering_checks.proofs.of_pass_sizes.SettledLemmas.{fused_count}
use Rattle.zpl_tree.specs.Syntax.{Program}
use Rattle.zpl_lowering.specs.Tables.{flat_tables}
use Rattle.zpl_claims.specs.Build.{Build}
use Rattle.zpl_compile.specs.Compile.{compiled, if_asked}

-- ---- tests that no pass behind checks changes: of rows that stay
record IsStill (test : Instr → Bool) : Type 0 where
  goals : (moved : ℕ → ℕ) (row : Instr) → test (with_moved_goal moved row) ≡ test row
  loops : (slot group : ℕ) → test (instr.Loop slot group) ≡ false
  pass : PassesNoExchange test
  votes : (group : ℕ) → test (instr.Vote group) ≡ false
  along : (row : Instr) → test (along_tree row) ≡ test row

blind : (test : Instr → Bool) → IsStill test → IsBlind test
blind test still = record {
  goals = still.goals;
  loops = λ slot group other. still.loops slot group ∙ sym (still.loops slot other);
}

-- tables with the same arrays, and as many rows of each kind that stays
record AreAlike (old new : Tables) : Type 0 where
  arrays : new.arrays ≡ old.arrays
  counts : (test : Instr → Bool) → IsStill test → count_of test new ≡ count_of test old

themselves : (code : Tables) → AreAlike code code
themselves code = record { arrays = refl; counts = λ test still. refl }

through : (one two three : Tables) → AreAlike one two → AreAlike two three → AreAlike one three
through one two three first second = record {
  arrays = second.arrays ∙ first.arrays;
  counts = λ test still. second.counts test still ∙ first.counts test still;
}

-- ---- rows that write slots
module _ (tables : Tables) (slot array : ℕ) (shift : List ℤ) where
  abbrev stops : Instr → Bool
  stops row = not (leaves_passing tables slot array shift row)

  stops_goals : (moved : ℕ → ℕ) (row : Instr) → stops (with_moved_goal moved row) ≡ stops row
  stops_goals moved (instr.Jump goal) = refl
  stops_goals moved (instr.Unless expr goal line) = refl
  stops_goals moved row = refl

  stops_along : (row : Instr) → stops (along_tree row) ≡ stops row
  stops_along (instr.Vote group) = refl
  stops_along (instr.Fold scalar fold) = refl
  stops_along row = refl

  stops_still : IsStill stops
  stops_still = record {
    goals = stops_goals;
    loops = λ slot group. refl;
    pass = record { starts = λ exchange. refl; finishes = λ exchange. refl };
    votes = λ group. refl;
    along = stops_along;
  }

-- all of a list pass where none fails
all_as_count : {X : Type 0} (test : X → Bool) (xs : List X) →
    list_all test xs ≡ (count_by (λ x. not (test x)) xs == 0)
all_as_count test [] = refl
all_as_count test (x ∷ xs) =
    by (test x) (count_by (λ x. not (test x)) xs) (all_as_count test xs)
    ∙ ap (λ n. n == 0) (sym (sum_by-cons (λ x. cond (not (test x)) 1 0) x xs))
  where
    more : (n : ℕ) → false ≡ (1 + n == 0)
    more n = grind arith

    none : (n : ℕ) → (n == 0) ≡ (0 + n == 0)
    none n = ap (λ k. k == 0) (omega arith)

    by : (b : Bool) (n : ℕ) → list_all test xs ≡ (n == 0) →
        (b && list_all test xs) ≡ (cond (not b) 1 0 + n == 0)
    by true n e = e ∙ none n
    by false n e = more n

module _ (old new : Tables) (alike : AreAlike old new) where
  same_leaves : (slot array : ℕ) (shift : List ℤ) (row : Instr) →
      leaves_passing new slot array shift row ≡ leaves_passing old slot array shift row
  same_leaves slot array shift (instr.Fix other region) =
      ap (λ a. not (other == slot) || is_within shift region (slice_get a array)) alike.arrays
  same_leaves slot array shift row = refl

  same_all : (slot array : ℕ) (shift : List ℤ) →
      list_all (leaves_passing new slot array shift) new.code
      ≡ list_all (leaves_passing old slot array shift) old.code
  same_all slot array shift =
      all_as_count (leaves_passing new slot array shift) new.code
      ∙ ap (λ n. n == 0)
      (same_sum (λ row. cond (not (leaves_passing new slot array shift row)) 1 0)
      (λ row. cond (not (leaves_passing old slot array shift row)) 1 0)
      (λ row. ap {B = ℕ} (λ b. cond (not b) 1 0) (same_leaves slot array shift row)) new.code
      ∙ alike.counts (stops old slot array shift) (stops_still old slot array shift))
      ∙ sym (all_as_count (leaves_passing old slot array shift) old.code)

  same_decided : (row : Instr) → is_decided new row ≡ is_decided old row
  same_decided (instr.Need slot array shift line) = same_all slot array shift
  same_decided row = refl

decided_goals : (tables : Tables) (moved : ℕ → ℕ) (row : Instr) →
    is_decided tables (with_moved_goal moved row) ≡ is_decided tables row
decided_goals tables moved (instr.Jump goal) = refl
decided_goals tables moved (instr.Unless expr goal line) = refl
decided_goals tables moved row = refl

decided_along : (tables : Tables) (row : Instr) →
    is_decided tables (along_tree row) ≡ is_decided tables row
decided_along tables (instr.Vote group) = refl
decided_along tables (instr.Fold scalar fold) = refl
decided_along tables row = refl

decided_still : (tables : Tables) → IsStill (is_decided tables)
decided_still tables = record {
  goals = decided_goals tables;
  loops = λ slot group. refl;
  pass = record { starts = λ exchange. refl; finishes = λ exchange. refl };
  votes = λ group. refl;
  along = decided_along tables;
}

-- ---- none is decided where as many are as before
none_passes : {X : Type 0} (test : X → Bool) (xs : List X) → All (λ x. test x ≡ false) xs →
    count_by test xs ≡ 0
none_passes test [] all = refl
none_passes test (x ∷ xs) all =
    omega (
      arith,
      by (test x) (all 0 x (omega arith)),
      none_passes test xs (λ k d inside. all (suc k) d (omega arith)),
      sum_by-cons (λ x. cond (test x) 1 0) x xs,
    )
  where
    by : (b : Bool) → b ≡ false → cond {A = ℕ} b 1 0 ≡ 0
    by true e = cc
    by false e = refl

each_fails : {X : Type 0} (test : X → Bool) (xs : List X) → count_by test xs ≡ 0 →
    All (λ x. test x ≡ false) xs
each_fails test [] none k d inside = absurd (omega arith)
each_fails test (x ∷ xs) none zero d inside =
    by (test x) (omega (arith, none, sum_by-cons (λ x. cond (test x) 1 0) x xs))
  where
    by : (b : Bool) → cond {A = ℕ} b 1 0 ≡ 0 → b ≡ false
    by true e = cc
    by false e = refl
each_fails test (x ∷ xs) none (suc k) d inside =
    each_fails test xs (omega (arith, none, sum_by-cons (λ x. cond (test x) 1 0) x xs)) k d
    (omega arith)

kept : (old new : Tables) → AreAlike old new → IsUndecided old → IsUndecided new
kept old new alike none =
    each_fails (is_decided new) new.code
    (same_sum (λ row. cond (is_decided new row) 1 0) (λ row. cond (is_decided old row) 1 0)
    (λ row. ap {B = ℕ} (λ b. cond b 1 0) (same_decided old new alike row)) new.code
    ∙ alike.counts (is_decided old) (decided_still old)
    ∙ none_passes (is_decided old) old.code none)

-- ---- the passes
asked : (pass : Tables → Tables) → ((code : Tables) → AreAlike code (pass code)) → (b : Bool)
    (code : Tables) → AreAlike code (if_asked b pass code)
asked pass alike true code = alike code
asked pass alike false code = themselves code

fuses : (code : Tables) → AreAlike code (fused code)
fuses code = record {
  arrays = refl;
  counts = λ test still. fused_count code test (blind test still) still.loops;
}

contracts : (code : Tables) → AreAlike code (contracted code)
contracts code = record { arrays = refl; counts = λ test still. refl }

plans : (grid : List ℕ) (code : Tables) → AreAlike code (planned grid code)
plans grid code = record {
  arrays = refl;
  counts = λ test still. planned_count code test still.pass (blind test still) still.votes grid;
}

drops : (code : Tables) → AreAlike code (repeats_dropped code)
drops code = record {
  arrays = refl;
  counts = λ test still. dropped_count code test still.pass (blind test still);
}

merges : (code : Tables) → AreAlike code (neighbours_merged code)
merges code = record {
  arrays = refl;
  counts = λ test still. merged_count code test still.pass (blind test still);
}

sends : (links : Option ℕ) (code : Tables) → AreAlike code (sent_early links code)
sends links code = record {
  arrays = refl;
  counts = λ test still. rows_stay links code test;
}

emits : (tree : Bool) (grid : List ℕ) (code : Tables) → AreAlike code (emitted tree grid code)
emits true grid code = record { arrays = refl; counts = λ test still. each test still code.code }
  where
    each : (test : Instr → Bool) → IsStill test → (rows : List Instr) →
        count_by test (map along_tree rows) ≡ count_by test rows
    each test still [] = refl
    each test still (row ∷ rows) =
        omega (
          arith,
          ap {B = ℕ} (λ b. cond b 1 0) (still.along row),
          each test still rows,
          sum_by-cons (λ row. cond (test row) 1 0) (along_tree row) (map along_tree rows),
          sum_by-cons (λ row. cond (test row) 1 0) row rows,
        )
emits false grid code = record { arrays = refl; counts = λ test still. refl }

pub still_undecided : (build : Build) (program : Program) → IsUndecided (compiled build program)
still_undecided build program =
    let options = build.options in
    let zeroth = checked (normalised (flat_tables program build.settings)) in
    let first = if_asked options.fuse fused zeroth in
    let second = if_asked options.contract contracted first in
    let third = planned build.grid second in
    let fourth = if_asked options.redundant repeats_dropped third in
    let fifth = if_asked options.merge neighbours_merged fourth in
    let sixth = if_asked options.early (sent_early build.links) fifth in
    let last = emitted options.tree build.grid sixth in
    kept zeroth last
    (through zeroth sixth last
    (through zeroth fifth sixth
    (through zeroth fourth fifth
    (through zeroth third fourth
    (through zeroth second third
    (through zeroth first second (asked fused fuses options.fuse zeroth)
    (asked contracted contracts options.contract first))
    (plans build.grid second))
    (asked repeats_dropped drops options.redundant third))
    (asked neighbours_merged merges options.merge fourth))
    (asked (sent_early build.links) (sends build.links) options.early fifth))
    (emits options.tree build.grid sixth))
    (undecided (normalised (flat_tables program build.settings)))
