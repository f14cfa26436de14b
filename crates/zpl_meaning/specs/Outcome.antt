-- What a statement does, and how outcomes are joined.
use Rattle.std.specs.Prelude.{ℕ, zero, suc, ◌+◌, Bool, true, false, ℤ, ◌+ℤ◌, ◌-ℤ◌, int_lt}
use Rattle.std.specs.Prelude.{if◌then◌else◌, List, [], ◌++◌}
use Rattle.zpl_binding.specs.of_zpl_nums.declared.ends.End.{End}
use Rattle.zpl_binding.specs.of_zpl_nums.declared.ends.End.TheVariants.{Done, Trap, More}
use Rattle.zpl_binding.specs.of_zpl_nums.Integer.{is_true}
use Rattle.zpl_meaning.specs.Store.{Store}
use Rattle.zpl_meaning.specs.Computed.{Computed, Gives, Traps}

-- The store afterwards; the bytes that were printed; `Done` where the run goes on, or why it
-- doesn't; and the steps that were taken.
pub record Outcome : Type 0 where
  pub store : Store
  pub bytes : List ℕ
  pub ending : End
  pub steps : ℕ

-- it ends so, with nothing printed
abbrev pub ends : Store → End → Outcome
ends store ending = record { store = store; bytes = []; ending = ending; steps = 0 }

abbrev pub goes_on : Store → Outcome
goes_on store = ends store Done

-- it goes on, with bytes printed
abbrev pub prints : Store → List ℕ → Outcome
prints store bytes = record { store = store; bytes = bytes; ending = Done; steps = 0 }

-- with more steps
abbrev pub counting : ℕ → Outcome → Outcome
counting steps outcome = record outcome { steps = steps + outcome.steps }

-- behind what was printed and counted before
abbrev pub behind : List ℕ → ℕ → Outcome → Outcome
behind bytes steps outcome =
    record outcome { bytes = bytes ++ outcome.bytes; steps = steps + outcome.steps }

-- one after the other: the second where the first goes on
abbrev pub then_at : End → Outcome → (Store → Outcome) → Outcome
then_at Done first next = behind first.bytes first.steps (next first.store)
then_at (Trap kind line) first next = first
then_at More first next = first

abbrev pub then_do : Outcome → (Store → Outcome) → Outcome
then_do first next = then_at first.ending first next

-- goes on with a value, or ends with a trap at the line
abbrev pub with_value : {A : Type 0} → Computed A → Store → ℕ → (A → Outcome) → Outcome
with_value (Gives value) store line next = next value
with_value (Traps kind) store line next = ends store (Trap kind line)

-- one of two
abbrev pub choose : Bool → (Store → Outcome) → (Store → Outcome) → Store → Outcome
choose true one other store = one store
choose false one other store = other store

-- A test in a loop or an `if`: its value at a store, its line, and the steps that it counts.
pub record Test : Type 0 where
  pub value : Store → Computed ℤ
  pub line : ℕ
  pub steps : ℕ

abbrev pub tested : Test → (Store → Outcome) → (Store → Outcome) → Store → Outcome
tested test one other store =
    counting test.steps
    (with_value (test.value store) store test.line
    (λ value. choose (is_true value) one other store))

-- A loop that wants more turns than it may make.
abbrev pub wants_more : Store → Outcome
wants_more store = ends store More

-- A loop that tests before each turn, with at most so many turns.
abbrev pub while_turns : ℕ → Test → (Store → Outcome) → Store → Outcome
while_turns zero test body = tested test wants_more goes_on
while_turns (suc n) test body =
    tested test (λ store. then_do (body store) (while_turns n test body)) goes_on

-- A loop that tests after each turn.
abbrev pub repeat_turns : ℕ → Test → (Store → Outcome) → Store → Outcome
repeat_turns zero test body = wants_more
repeat_turns (suc n) test body =
    λ store. then_do (body store) (tested test goes_on (repeat_turns n test body))

-- How a `for` counts: downward or upward, by a step, to a last value.
pub record Count : Type 0 where
  pub down : Bool
  pub by : ℤ
  pub last : ℤ

-- the value lies behind the last one; values don't wrap
abbrev pub is_past : Count → ℤ → Bool
is_past count value = if count.down then int_lt value count.last else int_lt count.last value

abbrev pub next_value : Count → ℤ → ℤ
next_value count value = if count.down then value -ℤ count.by else value +ℤ count.by

-- The turns of a `for` from a value on: each sets the variable and counts one step.
abbrev pub for_turns : ℕ → Count → (ℤ → Store → Store) → (Store → Outcome) → ℤ → Store → Outcome
for_turns zero count set body value = choose (is_past count value) goes_on wants_more
for_turns (suc n) count set body value =
    choose (is_past count value) goes_on (λ store.
    counting 1 (then_do (body (set value store))
    (for_turns n count set body (next_value count value))))
