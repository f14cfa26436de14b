-- Sinks in a call.
use Rattle.std.specs.Prelude.{ℕ, List}

-- what a sink told that it took before the call and after it, how many puts had failed, and that it
-- is as it was
pub record Stream : Type 1 where
  pub before : List ℕ → Type 0
  pub after : List ℕ → Type 0
  pub faults : ℕ
  pub faults_after : ℕ
  pub same : Type 0

abbrev pub stream_of : (List ℕ → Type 0) → (List ℕ → Type 0) → ℕ → ℕ → Type 0 → Stream
stream_of before after faults faults_after same = record {
  before = before;
  after = after;
  faults = faults;
  faults_after = faults_after;
  same = same;
}
