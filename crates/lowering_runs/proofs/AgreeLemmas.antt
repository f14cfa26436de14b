-- What joins runs keeps that they agree.
use Rattle.std.proofs.Common.{◌≡◌, ℕ, zero, suc, ◌+◌, ◌*◌, ◌≤◌, List, []}
use Rattle.std.proofs.Common.{sym, ap, ◌∙◌, subst, arith, append-nil}
use Rattle.zpl_nums.specs.declared.ends.End.TheVariants.{Done}
use Rattle.lowering_fits.specs.of_zpl_meaning.Store.{Store}
use Rattle.lowering_fits.specs.of_zpl_meaning.Outcome as out
use Rattle.lowering_fits.specs.of_zpl_meaning.Outcome.{Outcome}
use Rattle.row_runs.specs.Structured as code
use Rattle.row_runs.specs.Structured.{Course, GoesOn, Over, Wants, and_then}
use Rattle.lowering_fits.specs.of_flat_form.Whole.{Whole}
use Rattle.lowering_runs.specs.Agrees.{Agrees, Going, Trapping, Shattering, Wanting}

pub sum_of : (i j : ℕ) → and_then i j ≡ i + j
sum_of zero j = omega arith
sum_of (suc i) j = ap suc (sum_of i j) ∙ omega arith

-- the same, where what is alike is so in another way too
pub alike_agrees : (One Other : Store → Whole → Type 0) (turns spare : ℕ) (outcome : Outcome)
    (course : Course Whole) → ((store : Store) (whole : Whole) → One store whole → Other store whole)
    → Agrees One turns spare outcome course → Agrees Other turns spare outcome course
alike_agrees One Other turns spare outcome course f (Going alike few) = Going (f _ _ alike) few
alike_agrees One Other turns spare outcome course f (Trapping few) = Trapping few
alike_agrees One Other turns spare outcome course f Shattering = Shattering
alike_agrees One Other turns spare outcome course f (Wanting many) = Wanting many

-- with another store
pub stored_agrees : (One Other : Store → Whole → Type 0) (turns spare : ℕ) (outcome : Outcome)
    (course : Course Whole) (f : Store → Store)
    → ((store : Store) (whole : Whole) → One store whole → Other (f store) whole)
    → Agrees One turns spare outcome course
    → Agrees Other turns spare (record outcome { store = f outcome.store }) course
stored_agrees One Other turns spare outcome course f h (Going alike few) = Going (h _ _ alike) few
stored_agrees One Other turns spare outcome course f h (Trapping few) = Trapping few
stored_agrees One Other turns spare outcome course f h Shattering = Shattering
stored_agrees One Other turns spare outcome course f h (Wanting many) = Wanting many

module _ (IsAlike : Store → Whole → Type 0) where
  pub goes_agrees : (turns : ℕ) (store : Store) (whole : Whole) → IsAlike store whole
      → Agrees IsAlike turns 0 (out.goes_on store) (code.goes_on whole)
  goes_agrees turns store whole h = Going h (omega arith)

  -- with more to spare, or fewer turns
  pub weaker_agrees : (turns fewer spare more : ℕ) (outcome : Outcome) (course : Course Whole)
      → fewer ≤ turns → spare ≤ more
      → Agrees IsAlike turns spare outcome course → Agrees IsAlike fewer more outcome course
  weaker_agrees turns fewer spare more outcome course e f (Going alike few) =
      Going alike (omega (arith, few, f))
  weaker_agrees turns fewer spare more outcome course e f (Trapping few) =
      Trapping (omega (arith, few, f))
  weaker_agrees turns fewer spare more outcome course e f Shattering = Shattering
  weaker_agrees turns fewer spare more outcome course e f (Wanting many) =
      Wanting (omega (arith, many, e))

  pub behind_agrees : (turns spare more : ℕ) (bytes : List ℕ) (steps jumps : ℕ) (outcome : Outcome)
      (course : Course Whole) → jumps ≤ 2 * steps + spare
      → Agrees IsAlike turns more outcome course
      → Agrees IsAlike turns (spare + more) (out.behind bytes steps outcome)
      (code.behind bytes jumps course)
  behind_agrees turns spare more bytes steps jumps outcome course e (Going {jumps = j} alike few) =
      Going alike (omega (arith, sum_of jumps j, few, e))
  behind_agrees turns spare more bytes steps jumps outcome course e (Trapping {jumps = j} few) =
      Trapping (omega (arith, sum_of jumps j, few, e))
  behind_agrees turns spare more bytes steps jumps outcome course e Shattering = Shattering
  behind_agrees turns spare more bytes steps jumps outcome course e (Wanting {jumps = j} many) =
      Wanting (omega (arith, sum_of jumps j, many))

  -- behind jumps alone
  pub led_agrees : (turns spare jumps : ℕ) (outcome : Outcome) (course : Course Whole)
      → Agrees IsAlike turns spare outcome course
      → Agrees IsAlike turns (jumps + spare) outcome (code.behind [] jumps course)
  led_agrees turns spare jumps outcome course (Going {jumps = j} alike few) =
      Going alike (omega (arith, sum_of jumps j, few))
  led_agrees turns spare jumps outcome course (Trapping {jumps = j} few) =
      Trapping (omega (arith, sum_of jumps j, few))
  led_agrees turns spare jumps outcome course Shattering = Shattering
  led_agrees turns spare jumps outcome course (Wanting {jumps = j} many) =
      Wanting (omega (arith, sum_of jumps j, many))

  -- steps that are counted give room for jumps
  pub counting_agrees : (turns spare less n : ℕ) (outcome : Outcome) (course : Course Whole)
      → spare ≤ 2 * n + less → Agrees IsAlike turns spare outcome course
      → Agrees IsAlike turns less (out.counting n outcome) course
  counting_agrees turns spare less n outcome course e (Going alike few) =
      Going alike (omega (arith, few, e))
  counting_agrees turns spare less n outcome course e (Trapping few) =
      Trapping (omega (arith, few, e))
  counting_agrees turns spare less n outcome course e Shattering = Shattering
  counting_agrees turns spare less n outcome course e (Wanting many) = Wanting many

  pub jumping_agrees : (turns spare : ℕ) (outcome : Outcome) (course : Course Whole)
      → Agrees IsAlike turns spare outcome course
      → Agrees IsAlike turns (suc spare) outcome (code.jumping course)
  jumping_agrees turns spare outcome course (Going alike few) = Going alike (omega (arith, few))
  jumping_agrees turns spare outcome course (Trapping few) = Trapping (omega (arith, few))
  jumping_agrees turns spare outcome course Shattering = Shattering
  jumping_agrees turns spare outcome course (Wanting many) = Wanting (omega (arith, many))

  -- a jump makes up for a turn
  pub turned_agrees : (turns spare : ℕ) (outcome : Outcome) (course : Course Whole)
      → Agrees IsAlike turns spare outcome course
      → Agrees IsAlike (suc turns) (suc spare) outcome (code.jumping course)
  turned_agrees turns spare outcome course (Going alike few) = Going alike (omega (arith, few))
  turned_agrees turns spare outcome course (Trapping few) = Trapping (omega (arith, few))
  turned_agrees turns spare outcome course Shattering = Shattering
  turned_agrees turns spare outcome course (Wanting many) = Wanting (omega (arith, many))

-- rows behind it that only change the state
pub trailed_agrees : (One Other : Store → Whole → Type 0) (turns spare : ℕ) (outcome : Outcome)
    (course : Course Whole) (others : Whole → Course Whole) (after : Whole → Whole)
    → ((store : Store) (whole : Whole) → One store whole
    → (others whole ≡ code.goes_on (after whole)) × Other store (after whole))
    → Agrees One turns spare outcome course
    → Agrees Other turns spare outcome (code.then_do course others)
trailed_agrees One Other turns spare outcome course others after h
    (Going {store = s} {after = w} {bytes = b} {steps = n} {jumps = j} alike few) =
    let k = h s w alike in
    subst (λ (c : Course Whole). Agrees Other turns spare
    (record { store = s; bytes = b; ending = Done; steps = n }) (code.behind b j c)) (sym k.0)
    (subst (λ (bytes : List ℕ). Agrees Other turns spare
    (record { store = s; bytes = b; ending = Done; steps = n })
    (record { close = GoesOn; state = after w; bytes = bytes; jumps = and_then j 0 }))
    (sym (append-nil b)) (Going k.1 (omega (arith, few, sum_of j 0))))
trailed_agrees One Other turns spare outcome course others after h (Trapping few) = Trapping few
trailed_agrees One Other turns spare outcome course others after h Shattering = Shattering
trailed_agrees One Other turns spare outcome course others after h (Wanting many) = Wanting many

-- a jump behind it
pub leaving_agrees : (IsAlike : Store → Whole → Type 0) (turns spare : ℕ) (outcome : Outcome)
    (course : Course Whole) → Agrees IsAlike turns spare outcome course
    → Agrees IsAlike turns (suc spare) outcome
    (code.then_do course (λ state. code.jumping (code.goes_on state)))
leaving_agrees IsAlike turns spare outcome course
    (Going {store = s} {after = w} {bytes = b} {steps = n} {jumps = j} alike few) =
    subst (λ (bytes : List ℕ). Agrees IsAlike turns (suc spare)
    (record { store = s; bytes = b; ending = Done; steps = n })
    (record { close = GoesOn; state = w; bytes = bytes; jumps = and_then j 1 }))
    (sym (append-nil b)) (Going alike (omega (arith, few, sum_of j 1)))
leaving_agrees IsAlike turns spare outcome course (Trapping few) = Trapping (omega (arith, few))
leaving_agrees IsAlike turns spare outcome course Shattering = Shattering
leaving_agrees IsAlike turns spare outcome course (Wanting many) = Wanting many

-- one after the other
pub then_agrees : (One Other : Store → Whole → Type 0) (turns spare more : ℕ) (first : Outcome)
    (course : Course Whole) (rest : Store → Outcome) (others : Whole → Course Whole)
    → Agrees One turns spare first course
    → ((store : Store) (whole : Whole) → One store whole
    → Agrees Other turns more (rest store) (others whole))
    → Agrees Other turns (spare + more) (out.then_do first rest) (code.then_do course others)
then_agrees One Other turns spare more first course rest others
    (Going {store = s} {after = w} {bytes = b} {steps = n} {jumps = j} alike few) h =
    behind_agrees Other turns spare more b n j (rest s) (others w) few (h s w alike)
then_agrees One Other turns spare more first course rest others (Trapping few) h =
    Trapping (omega (arith, few))
then_agrees One Other turns spare more first course rest others Shattering h = Shattering
then_agrees One Other turns spare more first course rest others (Wanting many) h = Wanting many
