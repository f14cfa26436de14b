-- Loops that put arrays, and the rows that prepare for them: checks of places, places that are made
-- for temporaries, and slots that are filled for copies.
--
--   putting_in    how many loops of rows put an array
--   prepared_in   how many rows prepare for one
--   ArePrepared   of these there are as many at least
use Rattle.std.specs.Prelude.{ℕ, ◌+◌, ◌≤◌, Bool, false, List, [], ◌∷◌, cond}
use Rattle.lowering_fits.specs.of_flat_form.Row as row
use Rattle.lowering_fits.specs.of_flat_form.Row.{Row}
use Rattle.lowering_fits.specs.of_zpl_lowering.Statement.{has_put}
use Rattle.pass_parts.specs.of_pass_sizes.Sizes.{is_preparing}

abbrev pub is_putting : Row → Bool
is_putting (row.Loop slot group) = has_put group
is_putting one = false

abbrev pub putting_in : List Row → ℕ
putting_in [] = 0
putting_in (one ∷ rows) = cond (is_putting one) 1 0 + putting_in rows

abbrev pub prepares : Row → Bool
prepares (row.Plain one) = is_preparing one
prepares one = false

abbrev pub prepared_in : List Row → ℕ
prepared_in [] = 0
prepared_in (one ∷ rows) = cond (prepares one) 1 0 + prepared_in rows

abbrev pub ArePrepared : List Row → Type 0
ArePrepared rows = putting_in rows ≤ prepared_in rows
