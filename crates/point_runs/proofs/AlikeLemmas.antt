-- At a tuple, what the meaning's outcome and what members come to have to do with each other.
use Rattle.std.proofs.Common.{ℕ, zero, suc, Bool, true, false, List, [], ◌∷◌, ℤ, None}
use Rattle.std.specs.Prelude.{if◌then◌else◌}
use Rattle.zpl_nums.specs.declared.ends.End.TheVariants.{Done, Trap, More}
use Rattle.zpl_nums.specs.declared.ends.TrapKind.TheVariants.{DivideByZero}
use Rattle.zpl_nums.specs.Integer.{is_true}
use Rattle.zpl_meaning.specs.Computed as mean
use Rattle.zpl_meaning.specs.Store.{Store}
use Rattle.zpl_meaning.specs.Outcome as out
use Rattle.zpl_nums.specs.Integer.{IsInteger}
use Rattle.zpl_meaning.specs.Outcome.{Outcome, Test}
use Rattle.node_form.specs.Value as flat
use Rattle.nest_meaning.specs.Nested as nest
use Rattle.nest_meaning.specs.Nested.{Told, Fine, Zero, Wants, Ways}
use Rattle.flat_form.specs.Loop.{Log, Puts, Joins, Point}
use Rattle.array_runs.specs.of_array_puts.Put.{IsSame, BothGive, BothDivide}

-- a log of puts of integers alone, into arrays of which something holds
abbrev pub PutsAlone : (ℕ → Type 0) → Log → Type 0
PutsAlone IsTarget [] = Unit {0}
PutsAlone IsTarget (Puts array value ∷ log) =
    (IsTarget array × IsInteger value) × PutsAlone IsTarget log
PutsAlone IsTarget (Joins scalar operator value ∷ log) = ⊥

abbrev pub point : List ℤ → Log → Point
point cells log = record { cells = cells; log = log }

-- Both go on, to the store that a log stands for; or both divide by 0; or both want a further turn.
module _ (IsTarget : ℕ → Type 0) (own : Log → Store) (line : ℕ) where
  pub data GoAlike : Outcome → Told Point → Type 0 where
    BothGo : {log : Log} {cells : List ℤ} {bytes : List ℕ} {steps : ℕ} → PutsAlone IsTarget log
        → GoAlike (record { store = own log; bytes = bytes; ending = Done; steps = steps })
        (Fine (record { cells = cells; log = log }))
    BothTrap : {store : Store} {p : Point} {bytes : List ℕ} {steps : ℕ}
        → GoAlike (record { store = store; bytes = bytes; ending = Trap DivideByZero line; steps = steps })
        (Zero p)
    BothWant : {store : Store} {bytes : List ℕ} {steps : ℕ}
        → GoAlike (record { store = store; bytes = bytes; ending = More; steps = steps }) Wants

  behind_alike : (bytes : List ℕ) (steps : ℕ) (outcome : Outcome) (told : Told Point)
      → GoAlike outcome told → GoAlike (out.behind bytes steps outcome) told
  behind_alike bytes steps outcome told (BothGo puts) = BothGo puts
  behind_alike bytes steps outcome told BothTrap = BothTrap
  behind_alike bytes steps outcome told BothWant = BothWant

  counting_alike : (steps : ℕ) (outcome : Outcome) (told : Told Point)
      → GoAlike outcome told → GoAlike (out.counting steps outcome) told
  counting_alike steps outcome told (BothGo puts) = BothGo puts
  counting_alike steps outcome told BothTrap = BothTrap
  counting_alike steps outcome told BothWant = BothWant

  -- from each state that the tuple comes to
  abbrev pub FromAlike : (Store → Outcome) → (Point → Told Point) → Type 0
  FromAlike run does =
      (log : Log) (cells : List ℤ) → PutsAlone IsTarget log
      → GoAlike (run (own log)) (does (point cells log))

  pub fine_from : FromAlike out.goes_on (λ p. Fine p)
  fine_from log cells puts = BothGo puts

  pub then_alike : (outcome : Outcome) (told : Told Point) (run : Store → Outcome)
      (does : Point → Told Point) → GoAlike outcome told → FromAlike run does
      → GoAlike (out.then_do outcome run) (nest.then_do does told)
  then_alike outcome told run does (BothGo {log = log} {cells = cells} {bytes = bytes} {steps = steps} puts) next =
      behind_alike bytes steps (run (own log)) (does (point cells log)) (next log cells puts)
  then_alike outcome told run does BothTrap next = BothTrap
  then_alike outcome told run does BothWant next = BothWant

  -- with nothing behind it
  pub last_alike : (outcome : Outcome) (told : Told Point) → GoAlike outcome told
      → GoAlike outcome (nest.then_do (λ p. Fine p) told)
  last_alike outcome told (BothGo puts) = BothGo puts
  last_alike outcome told BothTrap = BothTrap
  last_alike outcome told BothWant = BothWant

  -- ---- tests

  abbrev pub test_at : (Store → mean.Computed ℤ) → Test
  test_at value = record { value = value; line = line; steps = 0 }

  -- a test has the same value
  abbrev pub TestAlike : (Store → mean.Computed ℤ) → (Point → flat.Computed ℤ) → Type 0
  TestAlike value code =
      (log : Log) (cells : List ℤ) → PutsAlone IsTarget log
      → IsSame (value (own log)) (code (point cells log))

  chosen_alike : (b : Bool) (one last : Store → Outcome) (first second : Told Point) (store : Store)
      → GoAlike (one store) first → GoAlike (last store) second
      → GoAlike (out.choose b one last store) (if b then first else second)
  chosen_alike true one last first second store h k = h
  chosen_alike false one last first second store h k = k

  valued_alike : (value : mean.Computed ℤ) (code : flat.Computed ℤ) (one last : Store → Outcome)
      (first second : Told Point) (store : Store) (p : Point) → IsSame value code
      → GoAlike (one store) first → GoAlike (last store) second
      → GoAlike (out.with_value value store line (λ v. out.choose (is_true v) one last store))
      (nest.with_value p code (λ v. if is_true v then first else second))
  valued_alike value code one last first second store p (BothGive {value = v}) h k =
      chosen_alike (is_true v) one last first second store h k
  valued_alike value code one last first second store p BothDivide h k = BothTrap

  module _ (value : Store → mean.Computed ℤ) (code : Point → flat.Computed ℤ)
      (same : TestAlike value code) where
    pub tested_alike : (one last : Store → Outcome) (first second : Point → Told Point)
        → FromAlike one first → FromAlike last second
        → FromAlike (out.tested (test_at value) one last)
        (λ p. nest.with_value p (code p) (λ v. if is_true v then first p else second p))
    tested_alike one last first second h k log cells puts =
        counting_alike 0 _ _
        (valued_alike (value (own log)) (code (point cells log)) one last (first (point cells log))
        (second (point cells log)) (own log) (point cells log) (same log cells puts)
        (h log cells puts) (k log cells puts))

  -- ---- loops, by what their tests ask

  module _ (ways : Ways Point) (value : Store → mean.Computed ℤ) (expr : ℕ)
      (same : TestAlike value (λ p. ways.value p expr)) (run : Store → Outcome)
      (does : Point → Told Point) (each : FromAlike run does) where
    pub while_alike : (m : ℕ)
        → FromAlike (out.while_turns m (test_at value) run) (nest.while_turns ways m None expr does)
    while_alike zero =
        tested_alike value (λ p. ways.value p expr) same out.wants_more out.goes_on (λ p. Wants)
        (λ p. Fine p) (λ log cells puts. BothWant) fine_from
    while_alike (suc m) =
        tested_alike value (λ p. ways.value p expr) same
        (λ store. out.then_do (run store) (out.while_turns m (test_at value) run)) out.goes_on
        (λ p. nest.then_do (nest.while_turns ways m None expr does) (does p)) (λ p. Fine p)
        (λ log cells puts.
        then_alike (run (own log)) (does (point cells log)) (out.while_turns m (test_at value) run)
        (nest.while_turns ways m None expr does) (each log cells puts) (while_alike m)) fine_from

    pub repeat_alike : (m : ℕ)
        → FromAlike (out.repeat_turns m (test_at value) run) (nest.repeat_turns ways m None expr does)
    repeat_alike zero = λ log cells puts. BothWant
    repeat_alike (suc m) = λ log cells puts.
        then_alike (run (own log)) (does (point cells log))
        (out.tested (test_at value) out.goes_on (out.repeat_turns m (test_at value) run))
        (nest.until_done ways (nest.repeat_turns ways m None expr does) expr) (each log cells puts)
        (tested_alike value (λ p. ways.value p expr) same out.goes_on
        (out.repeat_turns m (test_at value) run) (λ p. Fine p)
        (nest.repeat_turns ways m None expr does) fine_from (repeat_alike m))
