-- No group reads with a shift what it puts: its values go through a temporary.
use Rattle.std.specs.Prelude.{ℕ, ◌+◌, ◌==◌, Bool, true, false, ◌&&◌, pos, Option, Some, None}
use Rattle.std.specs.Prelude.{List, [], ◌∷◌, ◌++◌, flat_map, fold, length, map, slice_get}
use Rattle.std.specs.Prelude.{◌≡◌, All, count_by, if◌then◌else◌}
use Rattle.std.specs.List.{list_any, position_or_len}
use Rattle.std.specs.Cmp.Lexicographic.{pointwise}
use Rattle.flat_passes.specs.of_row_runs.Cut.{as_list as found_list}
use Rattle.flat_passes.specs.of_node_form.declared.words.ExprOp.{ExprOp}
use Rattle.flat_passes.specs.of_node_form.declared.words.ExprOp.TheVariants as word
use Rattle.flat_passes.specs.of_node_form.declared.arrays.ArrayDim.{ArrayDim}
use Rattle.flat_passes.specs.of_node_form.declared.arrays.ArrayDim.TheVariants as axis
use Rattle.flat_passes.specs.of_node_form.declared.arrays.ArrayRow.{ArrayRow}
use Rattle.flat_passes.specs.of_node_form.declared.members.Member.{Member}
use Rattle.flat_passes.specs.of_node_form.declared.members.Member.TheVariants as member
use Rattle.flat_passes.specs.of_node_form.declared.instructions.Instr.{Instr}
use Rattle.flat_passes.specs.of_node_form.declared.instructions.Instr.TheVariants as instr
use Rattle.flat_passes.specs.of_node_form.declared.tables.Tables.{Tables}
use Rattle.flat_passes.specs.of_code_parts.Uses.{as_list, member_words, put_by, share, shifted_in, words_of}
use Rattle.flat_passes.specs.Grouped.{Grouped, Runs, Plain, grouped, rewritten_rows, with_grouped}

-- ---- which groups
-- The group reads with a shift an array that it puts. One walk over it notes at each array that it
-- is put, and another finds whether one of these is read so.
abbrev pub reads_itself : Tables → List Member → Bool
reads_itself tables group =
    share (flat_map put_by group) (flat_map shifted_in (flat_map (member_words tables) group))

-- the row is a loop whose group does
abbrev pub loops_on_itself : Tables → Grouped → Bool
loops_on_itself tables (Runs slot group) = reads_itself tables group
loops_on_itself tables (Plain row) = false

-- how many loops do
abbrev pub loops_on_themselves : Tables → ℕ
loops_on_themselves tables =
    count_by (λ row. loops_on_itself tables (grouped tables row)) tables.code

-- the array that a group of one member puts
abbrev pub put_alone : List Member → List ℕ
put_alone (member.Put array expr mask line ∷ []) = array ∷ []
put_alone group = []

-- the array whose values go through a temporary at this row, if there is one
abbrev pub array_through : Tables → Grouped → List ℕ
array_through tables (Runs slot group) =
    if reads_itself tables group then put_alone group else []
array_through tables (Plain row) = []

-- ---- temporaries: one for each rank with its flood dimensions, fourteen at most
abbrev pub without_storage : ArrayDim → ArrayDim
without_storage (axis.Range lo hi low high) = axis.Range (pos 0) (pos 0) (pos 0) (pos 0)
without_storage axis.Star = axis.Star

abbrev pub temporary_like : ArrayRow → ArrayRow
temporary_like row = record row { stored = false; dims = map without_storage row.dims }

abbrev pub is_same_kind : ArrayDim → ArrayDim → Bool
is_same_kind (axis.Range lo hi low high) (axis.Range from to before after) = true
is_same_kind axis.Star axis.Star = true
is_same_kind dim other = false

abbrev pub is_like : ArrayRow → ArrayRow → Bool
is_like row other = (row.rank == other.rank) && pointwise is_same_kind row.dims other.dims

-- one more, unless there is one like it
abbrev pub with_one_like : List ArrayRow → ArrayRow → List ArrayRow
with_one_like rows row =
    if list_any (is_like row) rows then rows else rows ++ temporary_like row ∷ []

abbrev pub rows_through : Tables → Instr → List ArrayRow
rows_through tables row =
    flat_map (λ array. found_list (slice_get tables.arrays array))
    (array_through tables (grouped tables row))

-- in the order in which the code wants them
abbrev pub temporaries : Tables → List ArrayRow
temporaries tables = fold with_one_like [] (flat_map (rows_through tables) tables.code)

-- the place of the array's own one among them
abbrev pub place_among : List ArrayRow → Option ArrayRow → ℕ
place_among rows (Some row) = position_or_len (is_like row) rows
place_among rows None = length rows

-- ---- the rows of a loop
-- Values are put into the temporary at all indices, and from there into the array. The mask stands
-- in both: where it is 0, no value is computed, and none is put.
abbrev pub put_through : ℕ → ℕ → ℕ → List Member → List Grouped
put_through temporary read slot (member.Put array expr mask line ∷ []) =
    Plain (instr.Room temporary slot)
    ∷ Runs slot (member.Put temporary expr mask line ∷ [])
    ∷ Runs slot (member.Put array read mask line ∷ [])
    ∷ []
put_through temporary read slot group = Runs slot group ∷ []

module _ (tables : Tables) (rows : List ArrayRow) where
  -- of a temporary by its place: its number, and that of the expression that reads it
  abbrev pub temporary_at : ℕ → ℕ
  temporary_at place = length tables.arrays + place

  abbrev pub read_at : ℕ → ℕ
  read_at place = length tables.exprs + place

  abbrev pub loop_through : ℕ → List Member → List ℕ → List Grouped
  loop_through slot group [] = Runs slot group ∷ []
  loop_through slot group (array ∷ arrays) =
      let place = place_among rows (slice_get tables.arrays array) in
      put_through (temporary_at place) (read_at place) slot group

  abbrev pub row_through : Grouped → List Grouped
  row_through (Runs slot group) =
      loop_through slot group (array_through tables (Runs slot group))
  row_through (Plain row) = Plain row ∷ []

-- the expressions that read the arrays from a number on, as many as there are rows
abbrev pub read_each : ℕ → List ArrayRow → List (List ExprOp)
read_each array [] = []
read_each array (row ∷ rows) = (word.Here array ∷ []) ∷ read_each (array + 1) rows

abbrev pub with_temporaries : Tables → List ArrayRow → Tables
with_temporaries tables rows =
    record tables {
      arrays = tables.arrays ++ rows;
      exprs = tables.exprs ++ read_each (length tables.arrays) rows;
    }

-- One walk over the code finds the temporaries, and another one rewrites the loops.
abbrev pub normalised : Tables → Tables
normalised tables =
    let rows = temporaries tables in
    with_grouped (with_temporaries tables rows)
    (rewritten_rows tables (flat_map (row_through tables rows)))

-- ---- what the pass is for
-- the arrays that expressions read with a shift
abbrev pub shifted_by : Tables → List ℕ → List ℕ
shifted_by tables exprs = flat_map shifted_in (flat_map (words_of tables) exprs)

-- the group has one member, whose mask doesn't read with a shift the array that it puts
pub data PutsAlone (tables : Tables) : List Member → Type 0 where
  puts_alone : (array expr : ℕ) (mask : Option ℕ) (line : ℕ)
      → share (array ∷ []) (shifted_by tables (as_list mask)) ≡ false
      → PutsAlone tables (member.Put array expr mask line ∷ [])

-- groups that read themselves are such ones: so they are when a program is lowered
abbrev pub ReadThemselvesAlone : Tables → Type 0
ReadThemselvesAlone tables =
    All (λ group. reads_itself tables group ≡ true → PutsAlone tables group) tables.groups

-- no group reads with a shift what it puts
abbrev pub IsNormal : Tables → Type 0
IsNormal tables = All (λ group. reads_itself tables group ≡ false) tables.groups
