-- The blocks of one dimension: where they begin and end, and which of them owns a coordinate.
use Rattle.std.specs.Prelude.{ℕ, zero, suc, ◌-◌, ◌*◌, ◌/◌, ◌==◌, ◌^◌, Bool, false, not, ◌&&◌, ℤ, pos, neg_ℤ, ◌+ℤ◌, ◌-ℤ◌, int_le, if◌then◌else◌}
use Rattle.std.specs.Ordering.{int_eq}
use Rattle.grid_layout.specs.declared.axes.Axis.{Axis}

-- where the block with this number begins, of so many
abbrev pub block_start : Axis → ℕ → ℕ → ℤ
block_start axis count c = axis.low +ℤ pos (c * axis.extent / count)

-- the greatest block up to c that begins at most at x, or block 0
abbrev pub last_begun : Axis → ℕ → ℤ → ℕ → ℕ
last_begun axis count x zero = 0
last_begun axis count x (suc c) =
    if int_le (block_start axis count (suc c)) x then suc c else last_begun axis count x c

-- the block that owns x: each coordinate has one
abbrev pub block_of : Axis → ℕ → ℤ → ℕ
block_of axis count x = last_begun axis count x (count - 1)

-- ---- bounds of a block. The outermost ones are without end, which is -2^40 or 2^40
abbrev pub block_first : Axis → ℕ → ℕ → ℤ
block_first axis count zero = neg_ℤ (pos (2 ^ 40))
block_first axis count (suc c) = block_start axis count (suc c)

abbrev pub block_last : Axis → ℕ → ℕ → ℤ
block_last axis count c =
    if suc c == count then pos (2 ^ 40) else block_start axis count (suc c) -ℤ pos 1

-- whether the block has no coordinate: it begins where the next one does. The outermost ones always
-- have some
abbrev pub is_block_empty : Axis → ℕ → ℕ → Bool
is_block_empty axis count zero = false
is_block_empty axis count (suc c) =
    not (suc (suc c) == count) && int_eq (block_start axis count (suc c)) (block_start axis count (suc (suc c)))
