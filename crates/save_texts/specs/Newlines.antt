-- How many newlines bytes have.
use Rattle.std.specs.Prelude.{◌==◌, ℕ, ◌+◌, List, [], ◌∷◌, if◌then◌else◌}

abbrev pub newlines : List ℕ → ℕ
newlines [] = 0
newlines (byte ∷ bytes) = if byte == 10 then newlines bytes + 1 else newlines bytes
