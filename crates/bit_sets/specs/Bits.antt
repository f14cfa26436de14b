-- Words as bits.
use Rattle.std.specs.Prelude.{ℕ, ◌/◌, ◌%◌, ◌==◌, Bool, List, slice_index}
use Rattle.std.specs.Int.{bit_at}

-- the bit of a number, counted from the lowest one of the first word; past the last word none is set
abbrev pub bit_of : List ℕ → ℕ → Bool
bit_of words number = bit_at (slice_index words (number / 64)) (number % 64) == 1
