-- Numbers that stay at the greatest one of 64 bits.
use Rattle.std.specs.Prelude.{ℕ, zero, suc, ◌+◌, ◌^◌, ◌-◌, min}

-- a sum
abbrev pub capped_sum : ℕ → ℕ → ℕ
capped_sum one other = min (one + other) (2 ^ 64 - 1)

-- a count, with so many more
abbrev pub more : ℕ → ℕ → ℕ
more count zero = count
more count (suc extra) = capped_sum count (suc extra)
