-- Numbers that follow one another, as a progression.
use Rattle.std.specs.Prelude.{ℕ, ◌+◌, ◌≤◌, ◌^◌}
use Rattle.zpl_region.specs.declared.progressions.Progression.{Progression}
use Rattle.zpl_region.specs.Dim.{IsUpTo}
use Rattle.node_loop.specs.declared.indices.Line.{Line}

abbrev pub progression_of : Line → Progression
progression_of line = record { first = line.first; step = 1; count = line.count }

-- the first number is from -2^40 to 2^40, and there are 2^41 + 1 at most
abbrev pub IsShort : Line → Type 0
IsShort line = IsUpTo 40 line.first × (line.count ≤ 2 ^ 41 + 1)
