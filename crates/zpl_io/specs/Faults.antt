-- Counts of faults, and of calls, which stand still at their last value.
use Rattle.std.specs.Prelude.{◌≡◌, ◌⊎◌, ℕ, ◌+◌, ◌-◌, ◌^◌, ◌<◌, ◌≤◌, min}

abbrev pub last_count : ℕ
last_count = 2 ^ 64 - 1

-- the count after one more
abbrev pub count_after : ℕ → ℕ
count_after count = min (count + 1) last_count

-- the count rose in a call: it is greater than before the call, or stands at its last value
abbrev pub Rose : ℕ → ℕ → Type 0
Rose before after = (before < after) ⊎ (after ≡ last_count)

-- How a call counts its faults: where it failed the count rose, and it is greater nowhere else. It
-- never falls, and one that is within its last value stays so.
pub record CountsFaults (failed : Type 0) (before after : ℕ) : Type 0 where
  pub rises : failed → Rose before after
  pub only : before < after → failed
  pub never_falls : before ≤ after
  pub bounded : before ≤ last_count → after ≤ last_count
