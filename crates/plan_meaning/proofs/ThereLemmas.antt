-- Numbers of processors that there are, and others.
use Rattle.std.proofs.Common.{◌≡◌, ap, ℕ, ◌<◌, Bool, true, false, arith}
use Rattle.std.proofs.lemmas.Bool.Decides.{nat_tests}
use Rattle.std.specs.Prelude.{if◌then◌else◌, nat_lt}
use Rattle.flat_form.specs.of_node_form.declared.tables.Tables.{Tables}
use Rattle.flat_form.specs.of_grid_meaning.Local.{processors}
use Rattle.plan_meaning.specs.Abreast.{Abreast, Share, of_processors}

below_test : (p n : ℕ) → p < n → nat_lt p n ≡ true
below_test p n below = grind (arith, nat_tests, below)

pub there_is : (code : Tables) (before next : Abreast) (p : ℕ) → p < processors code
    → (of_processors code before next).shares p ≡ next.shares p
there_is code before next p below =
    ap (λ b. if b then next.shares p else before.shares p) (below_test p (processors code) below)

-- what holds of both holds of either
pub either_share : (P : Share → Type 0) (code : Tables) (before next : Abreast) (p : ℕ)
    → P (before.shares p) → P (next.shares p) → P ((of_processors code before next).shares p)
either_share P code before next p one other = by (nat_lt p (processors code))
  where
    by : (b : Bool) → P (if b then next.shares p else before.shares p)
    by true = other
    by false = one
