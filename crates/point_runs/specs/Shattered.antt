-- What is asked of a shattered statement before the run.
use Rattle.std.specs.Prelude.{◌≡◌, ℕ, true, Option, Some, None, slice_get}
use Rattle.zpl_tree.specs.Syntax.{Form, Assign, Invoke, Block, If, While, Repeat, For, Border, Write, Return}
use Rattle.zpl_names.specs.Sites.{is_shattered, tests_rank}
use Rattle.zpl_names.specs.Types.{is_elementwise}
use Rattle.zpl_meaning.specs.Store.{Thing, Scalar, ArrayAt, Fixed, thing_of}
use Rattle.zpl_meaning.specs.Context.{Place, reach_of}
use Rattle.zpl_meaning.specs.Points.{Part, Reads, Writes, form_parts}
use Rattle.zpl_meaning.specs.Proper.{HasCurrent}
use Rattle.array_runs.specs.of_zpl_lowering.Where.{Slotted, Where, slotted_at}
use Rattle.row_runs.specs.Straight.{Every}
use Rattle.array_runs.specs.Floods.{IsElementwiseAs, IsReadableMaskAs, IsWritableAs}

-- an array is written, by flood dimensions of its own where the region has them
abbrev pub IsWrittenAs : Where → Slotted → Option Thing → Type 0
IsWrittenAs w slotted (Some (ArrayAt place home)) =
    IsWritableAs slotted (slice_get w.numbers.arrays place)
IsWrittenAs w slotted (Some (Scalar place)) = ⊥
IsWrittenAs w slotted (Some (Fixed value)) = ⊥
IsWrittenAs w slotted None = ⊥

-- an expression is elementwise, and has a value at each tuple
abbrev pub IsServedPart : Where → Slotted → Part → Type 0
IsServedPart w slotted (Reads expr) =
    (is_elementwise expr ≡ true) × IsElementwiseAs w slotted expr
IsServedPart w slotted (Writes name) = IsWrittenAs w slotted (thing_of w.environment name.text)

-- The statement is shattered; there is a current region of the rank of its tests, whose mask may be
-- read; and so it is with all that is read and written in it.
pub record IsSplit (form : Form) (w : Where) (place : Place) : Type 0 where
  pub shattered : is_shattered (reach_of place) form ≡ true
  pub current : HasCurrent place.currents (tests_rank (reach_of place) form)
  pub masked : IsReadableMaskAs w (slotted_at w.currents (tests_rank (reach_of place) form))
      (slotted_at w.currents (tests_rank (reach_of place) form)).mask
  pub parts : Every (IsServedPart w (slotted_at w.currents (tests_rank (reach_of place) form)))
      (form_parts form)

-- among other forms
abbrev pub SplitLeaf : ℕ → Form → Where → Place → Type 0
SplitLeaf at (If arms otherwise) w place = IsSplit (If arms otherwise) w place
SplitLeaf at (While test body) w place = IsSplit (While test body) w place
SplitLeaf at (Repeat body until test) w place = IsSplit (Repeat body until test) w place
SplitLeaf at (Assign name op value) w place = ⊥
SplitLeaf at (Invoke name actuals) w place = ⊥
SplitLeaf at (Block body) w place = ⊥
SplitLeaf at (For head body) w place = ⊥
SplitLeaf at (Border kind names) w place = ⊥
SplitLeaf at (Write ends items) w place = ⊥
SplitLeaf at (Return value) w place = ⊥
