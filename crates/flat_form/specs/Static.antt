-- Conditions on the tables of a flat program alone. No run is wrong where one of them fails, so
-- each pass owes them of its result.
--
--   HasFringes           each shift at which an array is read is within its fringe
--   HasOneUnitALoop      a group with `while` or `repeat` has one outermost member
--   KeepsCells           a cell is read only behind a member that keeps it at every index
--   RunsGroupsOnce       each group stands in one loop
--   ShiftsOnce           an expression that reads with a shift stands in one member, as no mask
--   PutsApart            a group that reads with a shift what it puts has one member
--   IsSettled            all of these
use Rattle.std.specs.Prelude.{◌≡◌, ℕ, ◌+◌, ◌==◌, nat_le, Bool, true, false, not, ◌&&◌, ◌||◌, ℤ, neg_ℤ, pos, int_le, Option, Some, None, List, [], ◌∷◌, ◌++◌, All, count_by, flat_map, length, map, slice_get, if◌then◌else◌}
use Rattle.std.specs.List.{list_all, list_any}
use Rattle.std.specs.Ordering.{int_eq}
use Rattle.grid_meaning.specs.of_node_form.declared.words.ExprOp.{ExprOp}
use Rattle.grid_meaning.specs.of_node_form.declared.words.ExprOp.TheVariants as word
use Rattle.grid_meaning.specs.of_node_form.declared.arrays.ArrayDim.{ArrayDim}
use Rattle.grid_meaning.specs.of_node_form.declared.arrays.ArrayDim.TheVariants as axis
use Rattle.grid_meaning.specs.of_node_form.declared.arrays.ArrayRow.{ArrayRow}
use Rattle.grid_meaning.specs.of_node_form.declared.members.Member.{Member}
use Rattle.grid_meaning.specs.of_node_form.declared.members.Member.TheVariants as member
use Rattle.grid_meaning.specs.of_node_form.declared.instructions.Instr.{Instr}
use Rattle.grid_meaning.specs.of_node_form.declared.instructions.Instr.TheVariants as instr
use Rattle.grid_meaning.specs.of_node_form.declared.tables.Tables.{Tables}
use Rattle.grid_meaning.specs.of_node_form.Group.{depth_behind, units}
use Rattle.code_parts.specs.Uses.{as_list, exprs_of, is_turning, member_words, put_by, share}
use Rattle.code_parts.specs.Uses.{shifted_in, words_of}

-- ---- fringes
abbrev pub is_in_fringe : List ArrayDim → List ℤ → Bool
is_in_fringe [] shift = true
is_in_fringe (dim ∷ dims) [] = true
is_in_fringe (axis.Range lo hi low high ∷ dims) (d ∷ shift) =
    int_le (neg_ℤ low) d && int_le d high && is_in_fringe dims shift
is_in_fringe (axis.Star ∷ dims) (d ∷ shift) = int_eq d (pos 0) && is_in_fringe dims shift

abbrev pub array_has_fringe : Option ArrayRow → List ℤ → Bool
array_has_fringe None shift = false
array_has_fringe (Some row) shift = is_in_fringe row.dims shift

abbrev pub word_has_fringe : Tables → ExprOp → Bool
word_has_fringe tables (word.Shifted array shift) =
    array_has_fringe (slice_get tables.arrays array) shift
word_has_fringe tables other = true

abbrev pub HasFringes : Tables → Type 0
HasFringes tables =
    All (λ words. list_all (word_has_fringe tables) words ≡ true) tables.exprs

-- ---- loops in groups
abbrev pub has_one_unit : List Member → Bool
has_one_unit group = not (list_any is_turning group) || nat_le (length (units group)) 1

abbrev pub HasOneUnitALoop : Tables → Type 0
HasOneUnitALoop tables = All (λ group. has_one_unit group ≡ true) tables.groups

-- ---- cells: those that are kept at every index so far, in front of each member
abbrev pub cells_in : ExprOp → List ℕ
cells_in (word.Cell cell) = cell ∷ []
cells_in other = []

abbrev pub are_among : List ℕ → List ℕ → Bool
are_among kept cells = list_all (λ cell. list_any (λ other. cell == other) kept) cells

abbrev pub kept_behind : ℕ → List ℕ → Member → List ℕ
kept_behind depth kept (member.Cell cell expr None line) =
    if depth == 0 then cell ∷ kept else kept
kept_behind depth kept other = kept

abbrev pub keeps_from : Tables → ℕ → List ℕ → List Member → Bool
keeps_from tables depth kept [] = true
keeps_from tables depth kept (one ∷ members) =
    are_among kept (flat_map cells_in (member_words tables one))
    && keeps_from tables (depth_behind depth one) (kept_behind depth kept one) members

abbrev pub KeepsCells : Tables → Type 0
KeepsCells tables = All (λ group. keeps_from tables 0 [] group ≡ true) tables.groups

-- ---- groups in loops
abbrev pub runs_group : ℕ → Instr → Bool
runs_group group (instr.Loop slot other) = group == other
runs_group group row = false

abbrev pub RunsGroupsOnce : Tables → Type 0
RunsGroupsOnce tables =
    (group : ℕ) → nat_le (count_by (runs_group group) tables.code) 1 ≡ true

-- ---- expressions with shifts
abbrev pub has_shift : Tables → ℕ → Bool
has_shift tables expr =
    list_any (λ one. list_any (λ array. true) (shifted_in one)) (words_of tables expr)

abbrev pub mask_of : Member → List ℕ
mask_of (member.Put array expr mask line) = as_list mask
mask_of (member.Cell cell expr mask line) = as_list mask
mask_of (member.Acc scalar fold expr mask line) = as_list mask
mask_of (member.OpenIf expr mask line) = as_list mask
mask_of member.Otherwise = []
mask_of member.CloseIf = []
mask_of (member.OpenWhile expr mask line) = as_list mask
mask_of member.CloseWhile = []
mask_of (member.OpenRepeat mask line) = as_list mask
mask_of (member.Until expr) = []

abbrev pub all_members : Tables → List Member
all_members tables = flat_map (λ group. group) tables.groups

abbrev pub stands_in : ℕ → Member → Bool
stands_in expr one = list_any (λ other. expr == other) (exprs_of one)

abbrev pub stands_once : Tables → ℕ → Bool
stands_once tables expr =
    not (has_shift tables expr) || nat_le (count_by (stands_in expr) (all_members tables)) 1

pub record ShiftsOnce (tables : Tables) : Type 0 where
  pub once : (expr : ℕ) → stands_once tables expr ≡ true
  pub masks :
      All (λ one. list_any (has_shift tables) (mask_of one) ≡ false) (all_members tables)

-- ---- groups that read what they put
abbrev pub puts_apart : Tables → List Member → Bool
puts_apart tables group =
    nat_le (length group) 1
    || not (share (flat_map put_by group)
    (flat_map shifted_in (flat_map (member_words tables) group)))

abbrev pub PutsApart : Tables → Type 0
PutsApart tables = All (λ group. puts_apart tables group ≡ true) tables.groups

pub record IsSettled (tables : Tables) : Type 0 where
  pub fringes : HasFringes tables
  pub units : HasOneUnitALoop tables
  pub cells : KeepsCells tables
  pub groups : RunsGroupsOnce tables
  pub shifts : ShiftsOnce tables
  pub puts : PutsApart tables
