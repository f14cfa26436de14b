-- What is asked of prints of scalars and of arrays.
use Rattle.std.specs.Prelude.{◌≡◌, ℕ, zero, suc, Bool, false, List, [], ◌∷◌, Some, None}
use Rattle.std.specs.List.{list_any}
use Rattle.zpl_tree.specs.Syntax.{Expr, Item, Str, Value, Form, Assign, Invoke, Block, If, While, Repeat, For, Border, Write, Return}
use Rattle.zpl_names.specs.Kinds.{Rank}
use Rattle.zpl_names.specs.Sites.{Printed}
use Rattle.zpl_meaning.specs.Context.{Place, rank_in}
use Rattle.zpl_meaning.specs.Proper.{HasCurrent}
use Rattle.array_runs.specs.of_zpl_lowering.Where.{Where, slotted_at}
use Rattle.array_runs.specs.of_lowering_runs.Scalars.{IsScalarAt}
use Rattle.array_runs.specs.Floods.{IsElementwiseAs}

abbrev pub HasNoFlood : List Bool → Type 0
HasNoFlood flood = list_any (λ one. one) flood ≡ false

-- An expression of a rank: a scalar; or an array over the current region of the rank, which has no
-- flood dimension, without operators over regions.
abbrev pub IsPrintedAs : Rank → Expr → Where → Place → Type 0
IsPrintedAs (Some (suc rank)) expr w place =
    HasCurrent place.currents (Some (suc rank))
    × HasNoFlood (slotted_at w.currents (Some (suc rank))).flood
    × IsElementwiseAs w (slotted_at w.currents (Some (suc rank))) expr
IsPrintedAs (Some zero) expr w place = IsScalarAt place expr
IsPrintedAs None expr w place = ⊥

abbrev pub ArePrinted : List Item → Where → Place → Type 0
ArePrinted [] w place = Unit {0}
ArePrinted (Str bytes ∷ items) w place = ArePrinted items w place
ArePrinted (Value expr ∷ items) w place =
    IsPrintedAs (rank_in place Printed expr) expr w place × ArePrinted items w place

-- of forms that have no statements in them
abbrev pub PrintLeaf : ℕ → Form → Where → Place → Type 0
PrintLeaf at (Write ends items) w place = ArePrinted items w place
PrintLeaf at (Assign name op value) w place = ⊥
PrintLeaf at (Invoke name actuals) w place = ⊥
PrintLeaf at (Block body) w place = ⊥
PrintLeaf at (If arms otherwise) w place = ⊥
PrintLeaf at (While test body) w place = ⊥
PrintLeaf at (Repeat body until test) w place = ⊥
PrintLeaf at (For head body) w place = ⊥
PrintLeaf at (Border kind names) w place = ⊥
PrintLeaf at (Return value) w place = ⊥
