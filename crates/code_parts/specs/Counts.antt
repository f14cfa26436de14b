-- The size of code, and rows that are counted.
use Rattle.std.specs.Prelude.{◌≡◌, ℕ, ◌+◌, Bool, true, false, length, sum_by, count_by, All}
use Rattle.node_form.specs.declared.instructions.Instr.{Instr}
use Rattle.node_form.specs.declared.instructions.Instr.TheVariants as instr
use Rattle.node_form.specs.declared.tables.Tables.{Tables}

-- the scalars, slots, cells, lines of arrays and exchanges, instructions, members of groups, words
-- of expressions and bytes of texts
abbrev pub code_size : Tables → ℕ
code_size code =
    code.scalars + length code.slots + code.cells
    + length code.arrays + length code.exchanges + length code.code
    + sum_by length code.groups + sum_by length code.exprs + sum_by length code.texts

-- how many rows pass a test
abbrev pub count_of : (Instr → Bool) → Tables → ℕ
count_of test code = count_by test code.code

-- rows that statements are made of: all but checks of places, exchanges, votes and traps
abbrev pub is_counted : Instr → Bool
is_counted (instr.Need slot array shift line) = false
is_counted (instr.Start exchange) = false
is_counted (instr.Finish exchange) = false
is_counted (instr.Vote group) = false
is_counted (instr.TreeVote group) = false
is_counted (instr.Trap kind line) = false
is_counted row = true

abbrev pub is_vote : Instr → Bool
is_vote (instr.Vote group) = true
is_vote (instr.TreeVote group) = true
is_vote row = false

abbrev pub is_loop : Instr → Bool
is_loop (instr.Loop slot group) = true
is_loop row = false

-- an agreement of all processors with the first one, and not along the tree of processors
abbrev pub is_star : Instr → Bool
is_star (instr.Vote group) = true
is_star (instr.Fold scalar fold) = true
is_star row = false

-- no vote and no fold goes by the first processor: all go along the tree
abbrev pub GoesByTrees : Tables → Type 0
GoesByTrees code = All (λ row. is_star row ≡ false) code.code
