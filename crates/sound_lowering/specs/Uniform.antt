-- Uniform scalars in flat code: all but those that are accumulated, up to their folds.
--
--   AreTaken    a loop accumulates one scalar at most, and its fold stands right behind it
--   uniform_at  the scalars that are uniform in front of a row, as facts
--   AreFolded   the same along rows that are seen inline
use Rattle.std.specs.Prelude.{◌≡◌, ℕ, zero, suc, ◌==◌, Bool, true, false, not, List, [], ◌∷◌, filter, map, Option, Some, None, slice_get}
use Rattle.std.specs.List.{range_with_len}
use Rattle.zpl_lowering.specs.of_node_form.declared.instructions.Instr.{Instr}
use Rattle.zpl_lowering.specs.of_node_form.declared.instructions.Instr.TheVariants as instr
use Rattle.zpl_lowering.specs.of_node_form.declared.tables.Tables.{Tables}
use Rattle.code_parts.specs.Uses.{accumulated}
use Rattle.zpl_lowering.specs.of_flat_form.Row as row
use Rattle.zpl_lowering.specs.of_flat_form.Row.{Row, Member}
use Rattle.node_check.specs.declared.facts.Fact.{Fact}
use Rattle.node_check.specs.declared.facts.Fact.TheVariants.{Uniform}
use Rattle.node_check.specs.Learn.{is_among}

-- ---- the scalars that a row accumulates: their folds are awaited behind it
abbrev pub awaited_by : Tables → Instr → List ℕ
awaited_by code (instr.Loop slot group) = accumulated code group
awaited_by code one = []

abbrev pub awaited_behind : Tables → Option Instr → List ℕ
awaited_behind code None = []
awaited_behind code (Some one) = awaited_by code one

abbrev pub awaited : Tables → ℕ → List ℕ
awaited code zero = []
awaited code (suc at) = awaited_behind code (slice_get code.code at)

-- ---- the fold of the one that is awaited
abbrev pub Folds : ℕ → Instr → Type 0
Folds scalar (instr.Fold other fold) = scalar ≡ other
Folds scalar one = ⊥

abbrev pub Takes : List ℕ → Option Instr → Type 0
Takes [] next = Unit {0}
Takes (scalar ∷ []) (Some one) = Folds scalar one
Takes (scalar ∷ scalars) next = ⊥

abbrev pub AreTaken : Tables → Type 0
AreTaken code =
    (at : ℕ) (one : Instr) → slice_get code.code at ≡ Some one
    → Takes (awaited_by code one) (slice_get code.code (suc at))

-- ---- what is known of scalars
abbrev pub uniform_at : Tables → ℕ → List Fact
uniform_at code at =
    map Uniform (filter (λ scalar. not (is_among (awaited code at) scalar))
    (range_with_len 0 code.scalars))

-- ---- along rows that are seen inline
abbrev pub totals : List Member → List ℕ
totals [] = []
totals (row.Acc scalar operator expr mask line ∷ group) = scalar ∷ totals group
totals (one ∷ group) = totals group

abbrev pub row_totals : Row → List ℕ
row_totals (row.Loop slot group) = totals group
row_totals one = []

abbrev pub RowFolds : ℕ → Row → Type 0
RowFolds scalar (row.Plain one) = Folds scalar one
RowFolds scalar one = ⊥

abbrev pub RowsTake : List ℕ → List Row → Type 0
RowsTake [] rows = Unit {0}
RowsTake (scalar ∷ []) (one ∷ rows) = RowFolds scalar one
RowsTake (scalar ∷ scalars) rows = ⊥

abbrev pub AreFolded : List Row → Type 0
AreFolded [] = Unit {0}
AreFolded (one ∷ rows) = RowsTake (row_totals one) rows × AreFolded rows

-- ---- rows by what they demand
-- of slots alone
abbrev pub is_whole : Instr → Bool
is_whole (instr.Edge border array slot shift) = true
is_whole (instr.Flood array target from source) = true
is_whole (instr.Part array target fold from source) = true
is_whole (instr.Scan array slot fold along from mask) = true
is_whole (instr.Gather truth array slot) = true
is_whole (instr.Remap array slot from parts) = true
is_whole row = false

-- of scalars alone, or nothing: all rows but loops and those that act on whole arrays
abbrev pub asks_scalars : Instr → Bool
asks_scalars (instr.Loop slot group) = false
asks_scalars one = not (is_whole one)
