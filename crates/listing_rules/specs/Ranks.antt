-- Ranks from 1 to 3.
use Rattle.std.specs.Prelude.{ℕ, Bool, ◌==◌, ◌&&◌, ◌||◌, if◌then◌else◌}
use Rattle.listing_rules.specs.declared.facts.Ranks.{Ranks}

-- whether a rank is among them
abbrev pub bit : ℕ → Ranks → Bool
bit rank ranks = if rank == 1 then ranks.one else if rank == 2 then ranks.two else ranks.three

abbrev pub any_bit : Ranks → Bool
any_bit ranks = ranks.one || (ranks.two || ranks.three)

abbrev pub both : Ranks → Ranks → Ranks
both one other = record { one = one.one && other.one; two = one.two && other.two; three = one.three && other.three }
