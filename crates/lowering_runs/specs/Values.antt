-- Values that code computes one after another, each into a scalar of its own.
use Rattle.std.specs.Prelude.{◌≡◌, ℕ, suc, ◌+◌, ◌≤◌, ℤ, List, [], ◌∷◌, length}
use Rattle.zpl_nums.specs.declared.ends.End.TheVariants.{Trap}
use Rattle.zpl_nums.specs.declared.ends.TrapKind.{TrapKind}
use Rattle.zpl_nums.specs.Integer.{IsInteger}
use Rattle.zpl_names.specs.Counts.{expr_nodes}
use Rattle.lowering_fits.specs.of_zpl_meaning.Computed.{Computed, Gives, Traps}
use Rattle.lowering_fits.specs.of_zpl_meaning.Settled as mean
use Rattle.row_runs.specs.Run.{Ends}
use Rattle.row_runs.specs.Structured.{Course, GoesOn, Over}
use Rattle.lowering_fits.specs.of_flat_form.Whole.{Whole}
use Rattle.lowering_fits.specs.of_zpl_lowering.Slate.{Placed}
use Rattle.lowering_runs.specs.Seen.{scalar_in}

-- the same expressions in the meaning
abbrev pub meant : List Placed → List mean.Placed
meant [] = []
meant (placed ∷ rest) = record { rank = placed.rank; expr = placed.expr } ∷ meant rest

-- the nodes of all of them
abbrev pub nodes_of : List Placed → ℕ
nodes_of [] = 0
nodes_of (placed ∷ rest) = expr_nodes placed.expr + nodes_of rest

-- scalars from one on have these values
abbrev pub Hold : Whole → ℕ → List ℤ → Type 0
Hold whole k [] = Unit {0}
Hold whole k (value ∷ values) = (scalar_in whole k ≡ value) × Hold whole (suc k) values

abbrev pub AreIntegers : List ℤ → Type 0
AreIntegers [] = Unit {0}
AreIntegers (value ∷ values) = IsInteger value × AreIntegers values

-- so many values were set, in scalars from one on
pub record AreSet (k count : ℕ) (values : List ℤ) (after : Whole) : Type 0 where
  pub held : Hold after k values
  pub integers : AreIntegers values
  pub as_many : length values ≡ count

-- Code comes to a state that is alike where these are the values; or it ends with the trap that they
-- have, at a line. It prints nothing, and makes few jumps.
pub data Fills (IsAlike : List ℤ → Whole → Type 0) (line most : ℕ)
    : Computed (List ℤ) → Course Whole → Type 0 where
  Filled : {after : Whole} {jumps : ℕ} {values : List ℤ} → IsAlike values after → jumps ≤ most
      → Fills IsAlike line most (Gives values)
      (record { close = GoesOn; state = after; bytes = []; jumps = jumps })
  Falls : {after : Whole} {jumps : ℕ} {kind : TrapKind} → jumps ≤ most
      → Fills IsAlike line most (Traps kind)
      (record { close = Over (Ends (Trap kind line)); state = after; bytes = []; jumps = jumps })
