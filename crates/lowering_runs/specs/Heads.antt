-- What code runs before a test, and the test.
use Rattle.std.specs.Prelude.{◌≡◌, ℕ, ◌≤◌, ℤ, []}
use Rattle.zpl_nums.specs.declared.ends.End.TheVariants.{Trap}
use Rattle.zpl_nums.specs.declared.ends.TrapKind.{TrapKind}
use Rattle.zpl_nums.specs.Integer.{is_true}
use Rattle.lowering_fits.specs.of_zpl_meaning.Computed.{Computed, Gives, Traps}
use Rattle.row_runs.specs.Run.{Ends}
use Rattle.row_runs.specs.Code.{Decision, Says, Fails}
use Rattle.row_runs.specs.Structured.{Course, GoesOn, Over}
use Rattle.lowering_fits.specs.of_flat_form.Whole.{Whole}

-- what a test of this value says, at a line
abbrev pub says_of : ℕ → Computed ℤ → Decision
says_of line (Gives value) = Says (is_true value)
says_of line (Traps kind) = Fails (Ends (Trap kind line))

-- It comes to the test, which says what it should, in a state that is alike; or it ends with the
-- trap that the value has. It prints nothing, and makes few jumps.
pub data Heads (IsAlike : Whole → Type 0) (value : Computed ℤ) (line most : ℕ)
    (decide : Whole → Decision) : Course Whole → Type 0 where
  Comes : {after : Whole} {jumps : ℕ} → IsAlike after → decide after ≡ says_of line value
      → jumps ≤ most → Heads IsAlike value line most decide
      (record { close = GoesOn; state = after; bytes = []; jumps = jumps })
  Stumbles : {after : Whole} {jumps : ℕ} {kind : TrapKind} → value ≡ Traps kind → jumps ≤ most
      → Heads IsAlike value line most decide
      (record { close = Over (Ends (Trap kind line)); state = after; bytes = []; jumps = jumps })
