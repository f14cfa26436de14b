-- Values in a row, of which some are masked out, and their scan.
use Rattle.std.specs.Prelude.{Option, Some, None, ℤ, List, [], ◌∷◌}
use Rattle.zpl_nums.specs.declared.folds.Fold.{Fold}
use Rattle.zpl_nums.specs.Fold.{joined}

-- the values that aren't masked out
abbrev pub kept_values : List (Option ℤ) → List ℤ
kept_values [] = []
kept_values (Some value ∷ values) = value ∷ kept_values values
kept_values (None ∷ values) = kept_values values

-- so_far joined with the value, if there is one
abbrev pub joined_with : Fold → ℤ → Option ℤ → ℤ
joined_with op so_far (Some value) = joined op so_far value
joined_with op so_far None = so_far

-- at each place so_far joined with the values up to and with that place
abbrev pub running : Fold → ℤ → List (Option ℤ) → List ℤ
running op so_far [] = []
running op so_far (value ∷ values) = joined_with op so_far value ∷ running op (joined_with op so_far value) values
