-- What the processors need of each other in front of loops, and what they agree on behind them.
--
-- Code keeps, for the group at hand, a map of the items found so far: each word of a group is
-- looked at once.
use Rattle.std.specs.Prelude.{ℕ, Bool, true, false, ◌||◌, List, [], ◌∷◌, ◌++◌, flat_map, fold, map}
use Rattle.std.specs.List.{list_any}
use Rattle.plan_form.specs.of_node_form.declared.arrays.Item.{Item}
use Rattle.plan_form.specs.of_node_form.declared.instructions.Instr.{Instr}
use Rattle.plan_form.specs.of_node_form.declared.instructions.Instr.TheVariants as instr
use Rattle.plan_form.specs.of_node_form.declared.tables.Tables.{Tables}
use Rattle.plan_form.specs.of_node_form.declared.words.ExprOp.{ExprOp}
use Rattle.plan_form.specs.of_node_form.declared.words.ExprOp.TheVariants as word
use Rattle.plan_form.specs.of_code_parts.Uses.{divides_in, group_words, has_loops}
use Rattle.plan_form.specs.Units.{PlanUnit, Exchange, Single, unit_of, with_item}
use Rattle.plan_form.specs.Rewrite.{with_units}

-- ---- exchanges
-- the items that a loop over the slot needs for a word: the places that a shifted read reads
abbrev pub needed_by : ℕ → ExprOp → List Item
needed_by slot (word.Shifted array shift) =
    record { array = array; slot = slot; shift = shift } ∷ []
needed_by slot other = []

-- items with those that words need, each once
abbrev pub with_needed : ℕ → List Item → List ExprOp → List Item
with_needed slot items words = fold with_item items (flat_map (needed_by slot) words)

-- each different one, in the order of the group's members
abbrev pub needs_of : Tables → ℕ → ℕ → List Item
needs_of tables slot group = with_needed slot [] (group_words tables group)

-- an exchange of one item
abbrev pub needed_alone : Item → PlanUnit
needed_alone item = Exchange (item ∷ [])

-- ---- votes
-- a group may divide by zero, or has `while` or `repeat`
abbrev pub is_voted_on : Tables → ℕ → Bool
is_voted_on tables group =
    list_any divides_in (group_words tables group) || has_loops tables group

abbrev pub vote_if : Bool → ℕ → List PlanUnit
vote_if true group = Single (instr.Vote group) ∷ []
vote_if false group = []

-- ---- the plan of a flat program
-- directly in front of a loop an exchange of one item for each that it needs, and directly behind
-- it its vote
abbrev pub loop_with_needs : Tables → ℕ → ℕ → List PlanUnit
loop_with_needs tables slot group =
    map needed_alone (needs_of tables slot group)
    ++ Single (instr.Loop slot group) ∷ vote_if (is_voted_on tables group) group

abbrev pub with_needs : Tables → PlanUnit → List PlanUnit
with_needs tables (Single (instr.Loop slot group)) = loop_with_needs tables slot group
with_needs tables unit = unit ∷ []

abbrev pub row_with_needs : Tables → Instr → List PlanUnit
row_with_needs tables row = flat_map (with_needs tables) (unit_of tables row)

-- for a grid
abbrev pub planned : List ℕ → Tables → Tables
planned grid tables =
    record (with_units (flat_map (with_needs tables)) tables) { grid = grid }
