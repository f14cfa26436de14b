-- Arrays that one group alone names become cells.
use Rattle.std.specs.Prelude.{ℕ, zero, suc, ◌+◌, ◌==◌, Bool, false, not, ◌&&◌}
use Rattle.std.specs.Prelude.{Option, Some, None, if◌then◌else◌}
use Rattle.std.specs.Prelude.{List, [], ◌∷◌, ◌++◌, flat_map, length, map}
use Rattle.std.specs.List.{list_any, filter_map}
use Rattle.temp_norm.specs.of_node_form.declared.words.ExprOp.{ExprOp}
use Rattle.temp_norm.specs.of_node_form.declared.words.ExprOp.TheVariants as word
use Rattle.temp_norm.specs.of_node_form.declared.members.Member.{Member}
use Rattle.temp_norm.specs.of_node_form.declared.members.Member.TheVariants as member
use Rattle.temp_norm.specs.of_node_form.declared.instructions.Instr.{Instr}
use Rattle.temp_norm.specs.of_node_form.declared.instructions.Instr.TheVariants as instr
use Rattle.temp_norm.specs.of_node_form.declared.tables.Tables.{Tables}
use Rattle.temp_norm.specs.of_node_form.Group.{depth_behind}
use Rattle.temp_norm.specs.of_code_parts.Uses.{arrays_in, as_list, named_by, shifted_in, member_words, words_of}

-- ---- which arrays
abbrev pub is_among : ℕ → List ℕ → Bool
is_among number numbers = list_any (λ other. other == number) numbers

-- the arrays that a row of a flat program names; those of `need`, `room` and `clear` don't count,
-- and a loop names some by its group
abbrev pub arrays_of_row : Instr → List ℕ
arrays_of_row (instr.Edge kind array slot shift) = array ∷ []
arrays_of_row (instr.Flood array target from source) = array ∷ from ∷ []
arrays_of_row (instr.Part array target fold from source) = array ∷ from ∷ []
arrays_of_row (instr.Scan array slot fold along from mask) = array ∷ from ∷ as_list mask
arrays_of_row (instr.Gather truth array slot) = array ∷ []
arrays_of_row (instr.Remap array slot from parts) = array ∷ from ∷ filter_map (λ part. part) parts
arrays_of_row row = []

module _ (tables : Tables) (array : ℕ) where
  -- a member names it
  abbrev pub is_named_in : Member → Bool
  is_named_in one = is_among array (named_by tables one)

  -- the member, with so many others open around it, puts it without a mask and outside `if`,
  -- `while` and `repeat`, and its expression doesn't name it
  abbrev pub begins_it : ℕ → Member → Bool
  begins_it zero (member.Put other expr None line) =
      (other == array) && not (is_among array (flat_map arrays_in (words_of tables expr)))
  begins_it depth one = false

  -- so does the first member that names it
  abbrev pub is_begun : ℕ → List Member → Bool
  is_begun depth [] = false
  is_begun depth (one ∷ group) =
      if is_named_in one then begins_it depth one else is_begun (depth_behind depth one) group

  abbrev pub is_shifted_in : List Member → Bool
  is_shifted_in group =
      is_among array (flat_map shifted_in (flat_map (member_words tables) group))

  -- it is the business of one group, which never reads it with a shift
  abbrev pub fits_a_cell : List (List Member) → Bool
  fits_a_cell (group ∷ []) = not (is_shifted_in group) && is_begun 0 group
  fits_a_cell groups = false

  -- the groups that name it
  abbrev pub naming_group : List Member → List (List Member)
  naming_group group = if list_any is_named_in group then group ∷ [] else []

  abbrev pub becomes_cell : Bool
  becomes_cell =
      not (is_among array (flat_map arrays_of_row tables.code))
      && fits_a_cell (flat_map naming_group tables.groups)

-- The numbers from one on, so many of them, of arrays that become cells. One walk over the code and
-- one over the groups note at each array who names it, and whether these are too many.
abbrev pub contracted_from : Tables → ℕ → ℕ → List ℕ
contracted_from tables array zero = []
contracted_from tables array (suc count) =
    (if becomes_cell tables array then array ∷ [] else [])
    ++ contracted_from tables (array + 1) count

abbrev pub contracted_arrays : Tables → List ℕ
contracted_arrays tables = contracted_from tables 0 (length tables.arrays)

-- ---- cells: behind those that there are, one for each of these arrays
abbrev pub cell_among : ℕ → List ℕ → ℕ → Option ℕ
cell_among cell [] array = None
cell_among cell (other ∷ arrays) array =
    if other == array then Some cell else cell_among (cell + 1) arrays array

module _ (cell_of : ℕ → Option ℕ) where
  abbrev pub here_or_cell : ℕ → Option ℕ → ExprOp
  here_or_cell array (Some cell) = word.Cell cell
  here_or_cell array None = word.Here array

  abbrev pub word_contracted : ExprOp → ExprOp
  word_contracted (word.Here array) = here_or_cell array (cell_of array)
  word_contracted other = other

  abbrev pub put_or_cell : ℕ → ℕ → Option ℕ → ℕ → Option ℕ → Member
  put_or_cell array expr mask line (Some cell) = member.Cell cell expr mask line
  put_or_cell array expr mask line None = member.Put array expr mask line

  abbrev pub member_contracted : Member → Member
  member_contracted (member.Put array expr mask line) =
      put_or_cell array expr mask line (cell_of array)
  member_contracted other = other

-- the tables, with cells for these arrays; every row of the code and every array stays
abbrev pub with_cells : Tables → List ℕ → Tables
with_cells tables arrays =
    let cell_of = cell_among tables.cells arrays in
    record tables {
      cells = tables.cells + length arrays;
      exprs = map (map (word_contracted cell_of)) tables.exprs;
      groups = map (map (member_contracted cell_of)) tables.groups;
    }

abbrev pub contracted : Tables → Tables
contracted tables = with_cells tables (contracted_arrays tables)
