-- The lines of a text.
use Rattle.std.specs.Prelude.{ℕ, ◌+◌, ◌==◌, List, take, count_by}
use Rattle.zpl_text.specs.Bytes.{newline}

-- the line of an offset: 1, and one more for each newline before it
abbrev pub line_at : List ℕ → ℕ → ℕ
line_at source at = 1 + count_by (λ b. b == newline) (take at source)
