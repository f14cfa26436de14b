-- What is asked of statements of scalars and of arrays that have no statements in them.
use Rattle.std.specs.Prelude.{◌⊎◌, ℕ, List}
use Rattle.zpl_tree.specs.Syntax.{Form, Assign, Invoke, Block, If, While, Repeat, For, Border, Write, Return}
use Rattle.array_runs.specs.of_zpl_meaning.Context.{Setup, Place}
use Rattle.array_runs.specs.of_zpl_lowering.Where.{Where}
use Rattle.array_runs.specs.of_lowering_runs.Leaves.{ScalarLeaf}
use Rattle.array_runs.specs.Floods.{IsArrayServed}

-- an array is assigned without operators over regions
abbrev pub ArrayLeaf : ℕ → Form → Where → Place → Type 0
ArrayLeaf at (Assign name op value) w place = IsArrayServed name op value w place
ArrayLeaf at (Invoke name actuals) w place = ⊥
ArrayLeaf at (Block body) w place = ⊥
ArrayLeaf at (If arms otherwise) w place = ⊥
ArrayLeaf at (While test body) w place = ⊥
ArrayLeaf at (Repeat body until test) w place = ⊥
ArrayLeaf at (For head body) w place = ⊥
ArrayLeaf at (Border kind names) w place = ⊥
ArrayLeaf at (Write ends items) w place = ⊥
ArrayLeaf at (Return value) w place = ⊥

abbrev pub PlainLeaf : Setup → (List ℕ → Type 0) → ℕ → Form → Where → Place → Type 0
PlainLeaf setup IsCallable at form w place =
    ScalarLeaf setup IsCallable at form w place ⊎ ArrayLeaf at form w place
