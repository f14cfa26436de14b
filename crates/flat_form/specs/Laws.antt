-- The laws of flat programs.
use Rattle.std.specs.Prelude.{◌≡◌, ℕ, ◌≤◌, List, [], ◌∷◌, ◌++◌, length, map, slice_index_or}
use Rattle.std.specs.Prelude.{Option, Some, None}
use Rattle.code_parts.specs.of_zpl_nums.declared.folds.Fold.{Fold}
use Rattle.grid_meaning.specs.of_node_form.declared.members.Member as number
use Rattle.grid_meaning.specs.of_node_form.Nest.{Nest, Nothing, Putting, Keeping, Joining, Choosing}
use Rattle.grid_meaning.specs.of_node_form.Nest.{ChoosingElse, Looping, Repeating}
use Rattle.nest_meaning.specs.Tree.{nest_of}
use Rattle.flat_form.specs.Names.{group_words}
use Rattle.flat_form.specs.Row.{Words, group_coded, member_inlined}
use Rattle.grid_meaning.specs.of_node_form.declared.instructions.Instr.{Instr}
use Rattle.grid_meaning.specs.of_node_form.declared.instructions.Instr.TheVariants as instr
use Rattle.grid_meaning.specs.of_node_form.declared.tables.Tables.{Tables}
use Rattle.grid_meaning.specs.of_node_form.Fits.{Fits}
use Rattle.nest_meaning.specs.of_row_runs.Growth.{GoesOnTo}
use Rattle.nest_meaning.specs.of_row_runs.Straight.{Every}
use Rattle.grid_meaning.specs.of_node_form.Control.{control}
use Rattle.flat_form.specs.Act.{control_of, flat_run}
use Rattle.flat_form.specs.Whole.{Whole, registers_of}
use Rattle.flat_form.specs.Row.{Row, Plain, all_inlined, inlined, patched, row_with_goal, with_rows}

-- A run that may make more jumps, and more turns within groups, goes on from a shorter one.
abbrev pub Grow : Type 0
Grow =
    (tables : Tables) (a b : ℕ) → a ≤ b → (n m : ℕ) → n ≤ m
    → GoesOnTo (flat_run tables a n) (flat_run tables b m)

-- ---- tables and rows seen inline
-- the row names no expression, group or text
abbrev pub IsPlain : Instr → Type 0
IsPlain (instr.Set scalar expr line) = ⊥
IsPlain (instr.Dims slot parts line) = ⊥
IsPlain (instr.Loop slot group) = ⊥
IsPlain (instr.Print text) = ⊥
IsPlain (instr.Number expr) = ⊥
IsPlain (instr.Truth expr) = ⊥
IsPlain (instr.Unless expr goal line) = ⊥
IsPlain row = Unit {0}

abbrev pub IsInline : Row → Type 0
IsInline (Plain row) = IsPlain row
IsInline row = Unit {0}

-- Rows of tables are such rows.
abbrev pub AreInline : Type 0
AreInline = (tables : Tables) → Every IsInline (all_inlined tables)

-- Rows that were added to tables are read again.
abbrev pub ReadAgain : Type 0
ReadAgain =
    (tables : Tables) (rows : List Row) → Fits tables → Every IsInline rows
    → all_inlined (with_rows tables rows) ≡ all_inlined tables ++ rows

-- A goal that is filled in later is as one that was there at once.
abbrev pub Patch : Type 0
Patch =
    (tables : Tables) (row : Row) (rows : List Row) (goal : ℕ)
    → patched (with_rows tables (row ∷ rows)) (length tables.code) goal
    ≡ with_rows tables (row_with_goal goal row ∷ rows)

-- Rows that need scalars and slots alone do inline what they do in their tables.
abbrev pub ControlInline : Type 0
ControlInline =
    (tables : Tables) (row : Instr) (whole : Whole)
    → control_of tables (inlined tables row) whole ≡ control tables (registers_of whole) row

-- ---- groups and their trees
-- two trees of the same shape, which name the same, and whose expressions have the same words, each
-- in its own list
module _ (exprs others : List Words) where
  abbrev pub HaveWords : ℕ → ℕ → Type 0
  HaveWords expr other = slice_index_or exprs expr [] ≡ slice_index_or others other []

  pub data HaveMasks : Option ℕ → Option ℕ → Type 0 where
    NoMasks : HaveMasks None None
    BothMasks : {mask other : ℕ} → HaveWords mask other → HaveMasks (Some mask) (Some other)

  pub data AreRenumbered : Nest → Nest → Type 0 where
    BothNothing : AreRenumbered Nothing Nothing
    BothPut : {array expr fxpr line : ℕ} {mask nask : Option ℕ} {after bfter : Nest}
        → HaveWords expr fxpr → HaveMasks mask nask → AreRenumbered after bfter
        → AreRenumbered (Putting array expr mask line after) (Putting array fxpr nask line bfter)
    BothKeep : {cell expr fxpr line : ℕ} {mask nask : Option ℕ} {after bfter : Nest}
        → HaveWords expr fxpr → HaveMasks mask nask → AreRenumbered after bfter
        → AreRenumbered (Keeping cell expr mask line after) (Keeping cell fxpr nask line bfter)
    BothJoin : {scalar expr fxpr line : ℕ} {operator : Fold} {mask nask : Option ℕ}
        {after bfter : Nest} → HaveWords expr fxpr → HaveMasks mask nask
        → AreRenumbered after bfter
        → AreRenumbered (Joining scalar operator expr mask line after)
        (Joining scalar operator fxpr nask line bfter)
    BothChoose : {expr fxpr line : ℕ} {mask nask : Option ℕ} {body cody after bfter : Nest}
        → HaveWords expr fxpr → HaveMasks mask nask → AreRenumbered body cody
        → AreRenumbered after bfter
        → AreRenumbered (Choosing expr mask line body after) (Choosing fxpr nask line cody bfter)
    BothElse : {expr fxpr line : ℕ} {mask nask : Option ℕ}
        {body cody other pther after bfter : Nest}
        → HaveWords expr fxpr → HaveMasks mask nask → AreRenumbered body cody
        → AreRenumbered other pther → AreRenumbered after bfter
        → AreRenumbered (ChoosingElse expr mask line body other after)
        (ChoosingElse fxpr nask line cody pther bfter)
    BothLoop : {expr fxpr line : ℕ} {mask nask : Option ℕ} {body cody after bfter : Nest}
        → HaveWords expr fxpr → HaveMasks mask nask → AreRenumbered body cody
        → AreRenumbered after bfter
        → AreRenumbered (Looping expr mask line body after) (Looping fxpr nask line cody bfter)
    BothRepeat : {until vntil line : ℕ} {mask nask : Option ℕ} {body cody after bfter : Nest}
        → HaveWords until vntil → HaveMasks mask nask → AreRenumbered body cody
        → AreRenumbered after bfter
        → AreRenumbered (Repeating mask line body until after)
        (Repeating nask line cody vntil bfter)

  pub data AreTrees : Option Nest → Option Nest → Type 0 where
    NoTree : AreTrees None None
    BothTrees : {nest oest : Nest} → AreRenumbered nest oest → AreTrees (Some nest) (Some oest)

-- The tree of a group that is seen inline is the tree of its members, renumbered.
abbrev pub GroupsInline : Type 0
GroupsInline =
    (tables : Tables) (all : List number.Member)
    → (let group = map (member_inlined tables) all in
    AreTrees tables.exprs (group_words group) (nest_of all) (nest_of (group_coded 0 group)))
