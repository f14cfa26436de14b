-- A tree does what its units do.
use Rattle.std.proofs.Common.{◌≡◌, refl, ℕ, ◌+◌}
use Rattle.node_form.specs.Nest.{Nothing, Putting, Keeping, Joining, Choosing, ChoosingElse}
use Rattle.node_form.specs.Nest.{Looping, Repeating}
use Rattle.nest_meaning.specs.Nested.{Ways, Told, Fine, Zero, Wants, Lost, then_do, nested}
use Rattle.nest_meaning.specs.Units.{UnitsTold, unit_then, told_of}
use Rattle.nest_meaning.specs.Laws.{DoUnits}

module _ {P : Type 0} (ways : Ways P) where
  next_told : (number : ℕ) (told : Told P) (f : P → Told P) (g : P → UnitsTold P)
      → ((p : P) → f p ≡ told_of (g p))
      → then_do f told ≡ told_of (unit_then number (then_do Fine told) g)
  next_told number (Fine p) f g same = same p
  next_told number (Zero p) f g same = refl
  next_told number Wants f g same = refl
  next_told number Lost f g same = refl

  pub do_units : DoUnits ways
  do_units n number Nothing p = refl
  do_units n number (Putting array expr mask line after) p =
      next_told number _ (nested ways n after) _ (do_units n (number + 1) after)
  do_units n number (Keeping cell expr mask line after) p =
      next_told number _ (nested ways n after) _ (do_units n (number + 1) after)
  do_units n number (Joining scalar fold expr mask line after) p =
      next_told number _ (nested ways n after) _ (do_units n (number + 1) after)
  do_units n number (Choosing expr mask line body after) p =
      next_told number _ (nested ways n after) _ (do_units n (number + 1) after)
  do_units n number (ChoosingElse expr mask line body otherwise after) p =
      next_told number _ (nested ways n after) _ (do_units n (number + 1) after)
  do_units n number (Looping expr mask line body after) p =
      next_told number _ (nested ways n after) _ (do_units n (number + 1) after)
  do_units n number (Repeating mask line body until after) p =
      next_told number _ (nested ways n after) _ (do_units n (number + 1) after)
