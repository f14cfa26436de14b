-- Whether a counted loop goes on, told by a counter that wraps.
use Rattle.std.specs.Prelude.{◌≡◌, Bool, not, ◌&&◌, ℤ, pos, ◌+ℤ◌, ◌-ℤ◌, ◌≤ℤ◌, int_lt, int_le}
use Rattle.zpl_nums.specs.Integer.{IsInteger, wrapped}

-- the next value is another one further up, and none beyond the last; or further down
abbrev pub goes_up : ℤ → ℤ → ℤ → Bool
goes_up value by last = int_lt value (wrapped (value +ℤ by)) && int_le (wrapped (value +ℤ by)) last

abbrev pub goes_down : ℤ → ℤ → ℤ → Bool
goes_down value by last =
    int_lt (wrapped (value -ℤ by)) value && int_le last (wrapped (value -ℤ by))

-- Exactly where the next value, which may be none of the integers, isn't behind the last one.
pub record TellTheirEnd : Type 0 where
  pub up : (value by last : ℤ) → IsInteger value → IsInteger by → IsInteger last → pos 1 ≤ℤ by
      → goes_up value by last ≡ not (int_lt last (value +ℤ by))
  pub down : (value by last : ℤ) → IsInteger value → IsInteger by → IsInteger last → pos 1 ≤ℤ by
      → goes_down value by last ≡ not (int_lt (value -ℤ by) last)
