-- What filling slots leaves alone.
use Rattle.std.specs.Prelude.{◌≡◌, ℕ, ◌<◌, length, slice_get}
use Rattle.array_runs.specs.of_flat_form.Whole.{Whole}

-- All but slots is as it was, and so are the slots below a number.
pub record IsFilled (bottom : ℕ) (before after : Whole) : Type 0 where
  pub scalars : after.scalars ≡ before.scalars
  pub awaited : after.awaited ≡ before.awaited
  pub stores : after.stores ≡ before.stores
  pub many : length after.slots ≡ length before.slots
  pub below : (k : ℕ) → k < bottom → slice_get after.slots k ≡ slice_get before.slots k
