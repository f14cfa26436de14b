-- What a row of node code does on all processors, against what it does on whole arrays.
--
--   RowAgrees        a row from every two states of which one holds the other
--   MessageRows      so do all rows whose processors work together, but exchanges and votes, and
--                    all prints
use Rattle.std.specs.Prelude.{◌≡◌, ℕ, Bool, ℤ, List, All, length, Option, None}
use Rattle.zpl_nums.specs.declared.ends.Border.{Border}
use Rattle.zpl_nums.specs.declared.folds.Fold.{Fold}
use Rattle.node_form.specs.declared.arrays.ArrayRow.{ArrayRow}
use Rattle.node_form.specs.declared.instructions.Instr.{Instr}
use Rattle.node_form.specs.declared.instructions.Instr.TheVariants as instr
use Rattle.node_form.specs.declared.tables.Tables.{Tables}
use Rattle.node_form.specs.Fits.{FitsArray, FitsInstr, IsRank}
use Rattle.node_form.specs.Grid.{IsGrid}
use Rattle.row_runs.specs.Rows.{AreEffects}
use Rattle.plan_meaning.specs.of_flat_form.Act.{act}
use Rattle.plan_meaning.specs.of_flat_form.Row.{inlined}
use Rattle.plan_meaning.specs.of_flat_form.Whole.{Whole}
use Rattle.plan_meaning.specs.Abreast.{Abreast}
use Rattle.plan_meaning.specs.Act.{row_does}
use Rattle.needs_runs.specs.Holds.{Holds}

-- The row over whole arrays, and over the shares of all processors, where the row behind it is no
-- vote: both do the same, and come to states of which one holds the other. Where the row may not
-- stand on whole arrays, nothing is said.
abbrev pub RowAgrees : Tables → Option ℕ → ℕ → Instr → Type 0
RowAgrees code links n row =
    (whole : Whole) (all : Abreast) → Holds code whole all
    → AreEffects (Holds code) (act code n (inlined code row) whole) (row_does code links n row None all)

-- ---- what rows ask of their tables
-- The grid has processors, and the arrays can be laid out over it. A program's types give it that
-- an array has three dimensions.
pub record HasLayout (code : Tables) : Type 0 where
  pub grid : IsGrid code.grid
  pub slots : All IsRank code.slots
  pub arrays : All FitsArray code.arrays
  pub three : All (λ (row : ArrayRow). length row.dims ≡ 3) code.arrays

-- and so it does that a vector has three components
abbrev pub HasThreeOf : Instr → Type 0
HasThreeOf (instr.Fix slot region) = length region.dims ≡ 3
HasThreeOf (instr.Dims slot parts line) = length parts ≡ 3
HasThreeOf (instr.Formed form slot from shift line) = length shift ≡ 3
HasThreeOf (instr.Edge kind array slot shift) = length shift ≡ 3
HasThreeOf row = Unit {0}

-- ---- rows whose processors work together, and prints
-- Such a row of some tables agrees.
abbrev pub FitRowAgrees : Tables → Option ℕ → ℕ → Instr → Type 0
FitRowAgrees code links n row = FitsInstr code row → HasThreeOf row → RowAgrees code links n row

pub record MessageRows (code : Tables) (links : Option ℕ) (n : ℕ) : Type 0 where
  pub edges : (kind : Border) (array slot : ℕ) (shift : List ℤ)
      → FitRowAgrees code links n (instr.Edge kind array slot shift)
  pub floods : (array target from source : ℕ)
      → FitRowAgrees code links n (instr.Flood array target from source)
  pub parts : (array target : ℕ) (f : Fold) (from source : ℕ)
      → FitRowAgrees code links n (instr.Part array target f from source)
  pub scans : (array slot : ℕ) (f : Fold) (along from : ℕ) (mask : Option ℕ)
      → FitRowAgrees code links n (instr.Scan array slot f along from mask)
  pub gathers : (truth : Bool) (array slot : ℕ)
      → FitRowAgrees code links n (instr.Gather truth array slot)
  pub remaps : (array slot from : ℕ) (index : List (Option ℕ))
      → FitRowAgrees code links n (instr.Remap array slot from index)
  pub folds : (scalar : ℕ) (f : Fold) → FitRowAgrees code links n (instr.Fold scalar f)
  pub texts : (text : ℕ) → FitRowAgrees code links n (instr.Print text)
  pub numbers : (expr : ℕ) → FitRowAgrees code links n (instr.Number expr)
  pub truths : (expr : ℕ) → FitRowAgrees code links n (instr.Truth expr)

-- of all tables with a layout
abbrev pub MessageRowsAgree : Type 0
MessageRowsAgree =
    (code : Tables) → HasLayout code → (links : Option ℕ) (n : ℕ) → MessageRows code links n
