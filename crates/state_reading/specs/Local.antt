-- A processor's state but for its messages, as lines tell it.
--
--   ReadsKept     behind the values that the lines tell, they tell these words that are kept
--   ReadsLocal    the state with them
use Rattle.std.specs.Prelude.{◌≡◌, ℕ, ℤ, List, [], is_some}
use Rattle.node_form.specs.declared.tables.Tables.{Tables}
use Rattle.grid_meaning.specs.Local.{Local}
use Rattle.save_lines.specs.declared.lines.SavedLine.{SavedLine}
use Rattle.save_reading.specs.of_grid_save.Reads.{IsFar, IsKeptLine, MayKeep, ReadsValues, Run, is_kept, told_kept, with_kept}

pub record ReadsKept (code : Tables) (p : ℕ) (lines : List SavedLine) (kept : List (ℕ × List ℤ)) (rest : List SavedLine) : Type 0 where
  pub values : Local
  pub behind_values : List SavedLine
  pub values_are : ReadsValues code p lines values behind_values
  pub far : IsFar code p values (told_kept behind_values) (is_some values.ended)
  pub kept_is : Run is_kept (IsKeptLine code p values) [] behind_values kept rest
  pub may_keep : MayKeep code p values kept

pub record ReadsLocal (code : Tables) (p : ℕ) (lines : List SavedLine) (local : Local) (rest : List SavedLine) : Type 0 where
  pub kept : List (ℕ × List ℤ)
  pub kept_are : ReadsKept code p lines kept rest
  pub local_is : local ≡ with_kept kept_are.values kept
