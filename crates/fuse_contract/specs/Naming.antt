-- Which arrays become cells, by one walk over the code and one over the groups.
--
--   CellState    in code: what the names of an array, so far, say of it
--   noted        of one array something more is known
--   all_noted    what all rows and groups say of the arrays
--   cells_from   a cell for each array that becomes one
use Rattle.std.specs.Prelude.{ℕ, ◌+◌, ◌==◌, Bool, true, false, Option, Some, None}
use Rattle.std.specs.Prelude.{List, [], ◌∷◌, fold, if◌then◌else◌, length, map, replicate, slice_get}
use Rattle.std.specs.Prelude.{slice_index_or, slice_set, unwrap_or}
use Rattle.temp_norm.specs.of_node_form.declared.words.ExprOp.{ExprOp}
use Rattle.temp_norm.specs.of_node_form.declared.words.ExprOp.TheVariants as word
use Rattle.temp_norm.specs.of_node_form.declared.members.Member.{Member}
use Rattle.temp_norm.specs.of_node_form.declared.instructions.Instr.{Instr}
use Rattle.temp_norm.specs.of_node_form.declared.tables.Tables.{Tables}
use Rattle.temp_norm.specs.of_node_form.Group.{depth_behind}
use Rattle.temp_norm.specs.of_code_parts.Uses.{member_words, put_by}
use Rattle.fuse_contract.specs.Contracting.{arrays_of_row, begins_it, member_contracted}
use Rattle.fuse_contract.specs.Contracting.{word_contracted}
use Rattle.fuse_contract.specs.declared.states.CellState.{CellState}
use Rattle.fuse_contract.specs.declared.states.CellState.TheVariants as state

-- ---- one array: a group names it; whether as one that begins it
abbrev pub first_named : Bool → ℕ → CellState
first_named true group = state.Begun group
first_named false group = state.Apart

abbrev pub named : Bool → ℕ → CellState → CellState
named begins group state.Unnamed = first_named begins group
named begins group (state.Begun other) =
    if other == group then state.Begun other else state.Apart
named begins group state.Apart = state.Apart

-- it stays an array
abbrev pub set_apart : CellState → CellState
set_apart before = state.Apart

-- a word names the array
abbrev pub word_names : ℕ → ExprOp → Bool
word_names array (word.Here other) = other == array
word_names array (word.Shifted other shift) = other == array
word_names array other = false

-- ---- of all arrays
abbrev pub noted : (CellState → CellState) → List CellState → ℕ → List CellState
noted change states array =
    slice_set states array (change (slice_index_or states array state.Apart))

abbrev pub row_noted : List CellState → Instr → List CellState
row_noted states row = fold (noted set_apart) states (arrays_of_row row)

abbrev pub word_noted : ℕ → List CellState → ExprOp → List CellState
word_noted group states (word.Here array) = noted (named false group) states array
word_noted group states (word.Shifted array shift) = noted set_apart states array
word_noted group states other = states

module _ (tables : Tables) where
  -- a member of a group, with so many others open around it: first what it puts
  abbrev pub put_noted : ℕ → ℕ → Member → List CellState → ℕ → List CellState
  put_noted group depth one states array =
      noted (named (begins_it tables array depth one) group) states array

  abbrev pub member_noted : ℕ → ℕ → List CellState → Member → List CellState
  member_noted group depth states one =
      fold (word_noted group) (fold (put_noted group depth one) states (put_by one))
      (member_words tables one)

  abbrev pub members_noted : ℕ → ℕ → List CellState → List Member → List CellState
  members_noted group depth states [] = states
  members_noted group depth states (one ∷ members) =
      members_noted group (depth_behind depth one) (member_noted group depth states one) members

  -- groups with numbers from one on
  abbrev pub groups_noted : ℕ → List CellState → List (List Member) → List CellState
  groups_noted group states [] = states
  groups_noted group states (members ∷ groups) =
      groups_noted (group + 1) (members_noted group 0 states members) groups

  abbrev pub rows_noted : List CellState
  rows_noted =
      fold row_noted (replicate (length tables.arrays) state.Unnamed) tables.code

  abbrev pub all_noted : List CellState
  all_noted = groups_noted 0 rows_noted tables.groups

-- ---- cells: one for each array that only one group names, from one on
abbrev pub next_cell : ℕ → CellState → Option ℕ
next_cell cell (state.Begun group) = Some cell
next_cell cell other = None

abbrev pub count_with : ℕ → CellState → ℕ
count_with cell (state.Begun group) = cell + 1
count_with cell other = cell

abbrev pub cells_from : ℕ → List CellState → List (Option ℕ)
cells_from cell [] = []
cells_from cell (one ∷ states) = next_cell cell one ∷ cells_from (count_with cell one) states

abbrev pub cells_behind : ℕ → List CellState → ℕ
cells_behind cell [] = cell
cells_behind cell (one ∷ states) = cells_behind (count_with cell one) states

abbrev pub cell_at : List (Option ℕ) → ℕ → Option ℕ
cell_at cells array = unwrap_or (slice_get cells array) None

-- the tables with these cells
abbrev pub with_cells_at : Tables → List CellState → Tables
with_cells_at tables states =
    let cell_of = cell_at (cells_from tables.cells states) in
    record tables {
      cells = cells_behind tables.cells states;
      exprs = map (map (word_contracted cell_of)) tables.exprs;
      groups = map (map (member_contracted cell_of)) tables.groups;
    }
