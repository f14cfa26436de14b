-- Orders that bring code to its end, with few moves of each processor.
use Rattle.std.specs.Prelude.{◌≢◌, ℕ, ◌+◌, ◌*◌, ◌^◌, ◌<◌, ◌≤◌, List, length, Option}
use Rattle.zpl_nums.specs.declared.ends.End.TheVariants.{More}
use Rattle.grid_links.specs.Run.{moves_of}
use Rattle.node_form.specs.declared.tables.Tables.{Tables}
use Rattle.zpl_meaning.specs.Program.{Meaning}
use Rattle.grid_meaning.specs.Grid.{IsOver, after, processors, system_over}

-- as many moves as a processor may make where the meaning ends within n turns of each loop: they
-- grow with the instructions, the steps of the meaning, and the loops of a shattered statement
abbrev pub move_bound : Tables → (ℕ → ℕ) → ℕ → ℕ → ℕ
move_bound code steps loops n =
    2 ^ 27 * (length code.code + 1) * (steps n + 1) * (n + 1) ^ loops

-- all have ended behind the order, and none has made more moves than so many
pub record EndsWithin (code : Tables) (links : Option ℕ) (most : ℕ) (order : List ℕ)
    : Type 0 where
  pub over : IsOver (after code links order)
  pub few : (p : ℕ) → p < processors code
      → length (moves_of (system_over code links) order p) ≤ most

-- some order does so for each bound within which the meaning ends
abbrev pub EndsInFew : Tables → Option ℕ → (ℕ → Meaning) → (ℕ → ℕ) → ℕ → Type 0
EndsInFew code links mean steps loops =
    (n : ℕ) → (mean n).ending ≢ More
    → (order : List ℕ) × EndsWithin code links (move_bound code steps loops n) order
