-- Steps along the stages of a row, from its beginning, with no words kept.
--
--   IsKeeper    a row that keeps words until its last turn
--   IsNoKeeper  one in which processors work together that doesn't
--   turned      so many turns along
--   IsAlong     fewer turns along than the row has
use Rattle.std.specs.Prelude.{◌≡◌, ℕ, ◌<◌, ⊤, length, slice_get, Some, None}
use Rattle.node_form.specs.declared.instructions.Instr.{Instr}
use Rattle.node_form.specs.declared.instructions.Instr.TheVariants as instr
use Rattle.node_form.specs.declared.tables.Tables.{Tables}
use Rattle.node_form.specs.Fits.{FitsInstr}
use Rattle.node_local.specs.Workplace.{Workplace}
use Rattle.row_turn.specs.Together.{IsTogether, OfRow}
use Rattle.row_progress.specs.Begun.{IsBegun}

abbrev pub IsKeeper : Instr → Type 0
IsKeeper (instr.Scan array slot fold along from mask) = ⊤
IsKeeper (instr.Gather truth array slot) = ⊤
IsKeeper (instr.Vote group) = ⊤
IsKeeper (instr.TreeVote group) = ⊤
IsKeeper (instr.Fold scalar fold) = ⊤
IsKeeper (instr.TreeFold scalar fold) = ⊤
IsKeeper row = ⊥

abbrev pub IsNoKeeper : Instr → Type 0
IsNoKeeper (instr.Start exchange) = ⊤
IsNoKeeper (instr.Finish exchange) = ⊤
IsNoKeeper (instr.Edge kind array slot shift) = ⊤
IsNoKeeper (instr.Flood array target from source) = ⊤
IsNoKeeper (instr.Part array target fold from source) = ⊤
IsNoKeeper (instr.Remap array slot from parts) = ⊤
IsNoKeeper row = ⊥

abbrev pub turned : Workplace → ℕ → Workplace
turned workplace made = record workplace { local = record workplace.local { made = made } }

-- the processor is at the beginning of this row
pub record IsAtStart (code : Tables) (p : ℕ) (workplace : Workplace) (row : Instr) : Type 0 where
  pub begun : IsBegun code p workplace
  pub running : workplace.local.ended ≡ None
  pub here : slice_get code.code workplace.local.at ≡ Some row
  pub fits : FitsInstr code row
  pub together : IsTogether row

pub record IsAlong (code : Tables) (p : ℕ) (workplace : Workplace) (row : Instr) : Type 0 where
  pub start : IsAtStart code p (turned workplace 0) row
  pub under : OfRow code p row (λ together. workplace.local.made < length (together.stages workplace.local))
