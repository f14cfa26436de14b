-- A processor at the beginning of its row, and how far it is said to be there.
--
--   stands     so many turns, indices and members on from the beginning of the row
--   IsBegun    ready, and at the beginning of the row
--   AreTold    what lines tell of a processor but for the words that it keeps
use Rattle.std.specs.Prelude.{◌≡◌, ℕ, ◌≤◌, [], length, is_some}
use Rattle.node_form.specs.declared.tables.Tables.{Tables}
use Rattle.grid_meaning.specs.Local.{Local}
use Rattle.grid_meaning.specs.State.{HasParts, IsFresh, IsOutside}
use Rattle.node_local.specs.Workplace.{IsReady, Workplace}
use Rattle.grid_save.specs.Reads.{MayStand}
use Rattle.row_progress.specs.declared.progress.Progress.{Progress}

abbrev pub stands : Local → Progress → Local
stands local far = record local { made = far.made; index = far.index; member = far.member }

pub record IsBegun (code : Tables) (p : ℕ) (workplace : Workplace) : Type 0 where
  pub ready : IsReady code p workplace
  pub outside : IsOutside workplace.local
  pub fresh : IsFresh workplace.local

pub record AreTold (code : Tables) (p : ℕ) (values : Local) : Type 0 where
  pub parts : HasParts code p values
  pub at : values.at ≤ length code.code
  pub stands : MayStand code values (is_some values.ended)
  pub none : values.kept ≡ []
