-- The bound on the turns of code whose meaning ends.
use Rattle.std.specs.Prelude.{◌≢◌, ℕ, ◌+◌, ◌*◌, ◌^◌, List, length, Option}
use Rattle.zpl_nums.specs.declared.ends.End.TheVariants.{More}
use Rattle.grid_meaning.specs.of_node_form.declared.tables.Tables.{Tables}
use Rattle.zpl_meaning.specs.Program.{Meaning}
use Rattle.grid_meaning.specs.Grid.{processors, after, IsOver}
use Rattle.grid_meaning.specs.Order.{IsOrder, given}

-- Where the meaning ends within n turns of each loop, so many turns round the processors, behind
-- any order, bring the code to its end. The number grows with the processors, the instructions, the
-- steps of the meaning for that n, and the loops of a shattered statement.
abbrev pub turn_bound : Tables → (ℕ → ℕ) → ℕ → ℕ → ℕ
turn_bound code steps loops n =
    2 ^ 27 * processors code * processors code
    * (length code.code + 1) * (steps n + 1) * (n + 1) ^ loops

-- Where the meaning ends within n turns of each loop, every order with so many turns round the
-- processors behind it is over.
abbrev pub EndsInBound : Tables → Option ℕ → (ℕ → Meaning) → (ℕ → ℕ) → ℕ → Type 0
EndsInBound code links mean steps loops =
    (n : ℕ) (order : List ℕ) → (mean n).ending ≢ More → IsOrder (processors code) order →
    IsOver (after code links
    (given order (processors code) (length order + turn_bound code steps loops n)))
