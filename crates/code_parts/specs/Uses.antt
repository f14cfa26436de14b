-- What rows, and the groups that loops run, read and write.
use Rattle.std.specs.Prelude.{ℕ, Bool, true, false, ◌&&◌, ◌||◌, ◌==◌, Option, Some, None}
use Rattle.std.specs.Prelude.{List, [], ◌∷◌, ◌++◌, flat_map, map, slice_get}
use Rattle.std.specs.List.{list_any}
use Rattle.std.specs.Cmp.Lexicographic.{pointwise}
use Rattle.std.specs.Ordering.{int_eq}
use Rattle.node_form.specs.of_zpl_nums.declared.operators.Op.{Op}
use Rattle.node_form.specs.of_zpl_nums.declared.operators.Op.TheVariants as op
use Rattle.node_form.specs.declared.words.ExprOp.{ExprOp}
use Rattle.node_form.specs.declared.words.ExprOp.TheVariants as word
use Rattle.node_form.specs.declared.arrays.Item.{Item}
use Rattle.node_form.specs.declared.members.Member.{Member}
use Rattle.node_form.specs.declared.members.Member.TheVariants as member
use Rattle.node_form.specs.declared.instructions.Instr.{Instr}
use Rattle.node_form.specs.declared.instructions.Instr.TheVariants as instr
use Rattle.node_form.specs.declared.tables.Tables.{Tables}

-- ---- lists of a program by their numbers
-- the rows of a list, or none where there is no such list
abbrev pub rows_or_none : {X : Type 0} → Option (List X) → List X
rows_or_none None = []
rows_or_none (Some rows) = rows

abbrev pub words_of : Tables → ℕ → List ExprOp
words_of tables expr = rows_or_none (slice_get tables.exprs expr)

abbrev pub members_of : Tables → ℕ → List Member
members_of tables group = rows_or_none (slice_get tables.groups group)

abbrev pub items_of : Tables → ℕ → List Item
items_of tables exchange = rows_or_none (slice_get tables.exchanges exchange)

-- the numbers have one in common
abbrev pub share : List ℕ → List ℕ → Bool
share numbers others = list_any (λ number. list_any (λ other. number == other) others) numbers

-- ---- expressions
abbrev pub is_division : Op → Bool
is_division op.Div = true
is_division op.Rem = true
is_division other = false

abbrev pub divides_in : ExprOp → Bool
divides_in (word.Pair op) = is_division op
divides_in other = false

-- the expression has a quotient or a remainder
abbrev pub may_divide : Tables → ℕ → Bool
may_divide tables expr = list_any divides_in (words_of tables expr)

abbrev pub scalars_in : ExprOp → List ℕ
scalars_in (word.Scalar scalar) = scalar ∷ []
scalars_in other = []

abbrev pub arrays_in : ExprOp → List ℕ
arrays_in (word.Here array) = array ∷ []
arrays_in (word.Shifted array shift) = array ∷ []
arrays_in other = []

abbrev pub shifted_in : ExprOp → List ℕ
shifted_in (word.Shifted array shift) = array ∷ []
shifted_in other = []

-- ---- members
abbrev pub as_list : Option ℕ → List ℕ
as_list None = []
as_list (Some number) = number ∷ []

-- the expressions of a member, its mask among them
abbrev pub exprs_of : Member → List ℕ
exprs_of (member.Put array expr mask line) = expr ∷ as_list mask
exprs_of (member.Cell cell expr mask line) = expr ∷ as_list mask
exprs_of (member.Acc scalar fold expr mask line) = expr ∷ as_list mask
exprs_of (member.OpenIf expr mask line) = expr ∷ as_list mask
exprs_of member.Otherwise = []
exprs_of member.CloseIf = []
exprs_of (member.OpenWhile expr mask line) = expr ∷ as_list mask
exprs_of member.CloseWhile = []
exprs_of (member.OpenRepeat mask line) = as_list mask
exprs_of (member.Until expr) = expr ∷ []

-- the words of all its expressions
abbrev pub member_words : Tables → Member → List ExprOp
member_words tables one = flat_map (words_of tables) (exprs_of one)

abbrev pub put_by : Member → List ℕ
put_by (member.Put array expr mask line) = array ∷ []
put_by other = []

abbrev pub accumulated_by : Member → List ℕ
accumulated_by (member.Acc scalar fold expr mask line) = scalar ∷ []
accumulated_by other = []

abbrev pub is_turning : Member → Bool
is_turning (member.OpenWhile expr mask line) = true
is_turning (member.OpenRepeat mask line) = true
is_turning other = false

-- the arrays that a member names
abbrev pub named_by : Tables → Member → List ℕ
named_by tables one = put_by one ++ flat_map arrays_in (member_words tables one)

-- ---- groups
abbrev pub group_words : Tables → ℕ → List ExprOp
group_words tables group = flat_map (member_words tables) (members_of tables group)

-- the arrays that are put, those that are read with a shift, and all that are named
abbrev pub put_arrays : Tables → ℕ → List ℕ
put_arrays tables group = flat_map put_by (members_of tables group)

abbrev pub shifted_arrays : Tables → ℕ → List ℕ
shifted_arrays tables group = flat_map shifted_in (group_words tables group)

abbrev pub named_arrays : Tables → ℕ → List ℕ
named_arrays tables group = flat_map (named_by tables) (members_of tables group)

-- the scalars that are accumulated, and those that are read
abbrev pub accumulated : Tables → ℕ → List ℕ
accumulated tables group = flat_map accumulated_by (members_of tables group)

abbrev pub read_scalars : Tables → ℕ → List ℕ
read_scalars tables group = flat_map scalars_in (group_words tables group)

-- the group has `while` or `repeat`
abbrev pub has_loops : Tables → ℕ → Bool
has_loops tables group = list_any is_turning (members_of tables group)

-- ---- what a row writes
abbrev pub arrays_of_items : List Item → List ℕ
arrays_of_items items = map (λ item. item.array) items

-- the arrays: of a loop those that its group puts, of a finish those of its items
abbrev pub written_arrays : Tables → Instr → List ℕ
written_arrays tables (instr.Room array slot) = array ∷ []
written_arrays tables (instr.Clear array) = array ∷ []
written_arrays tables (instr.Loop slot group) = put_arrays tables group
written_arrays tables (instr.Finish exchange) = arrays_of_items (items_of tables exchange)
written_arrays tables (instr.Edge kind array slot shift) = array ∷ []
written_arrays tables (instr.Flood array target from source) = array ∷ []
written_arrays tables (instr.Part array target fold from source) = array ∷ []
written_arrays tables (instr.Scan array slot fold along from mask) = array ∷ []
written_arrays tables (instr.Remap array slot from parts) = array ∷ []
written_arrays tables row = []

-- the slot
abbrev pub written_slots : Instr → List ℕ
written_slots (instr.Fix slot region) = slot ∷ []
written_slots (instr.Dims slot parts line) = slot ∷ []
written_slots (instr.Formed form slot from shift line) = slot ∷ []
written_slots row = []

-- ---- items of exchanges
-- the same array, slot and shift
abbrev pub is_item : Item → Item → Bool
is_item one other =
    (one.array == other.array) && (one.slot == other.slot) && pointwise int_eq one.shift other.shift

-- the row writes the item's array or its slot
abbrev pub changes : Tables → Instr → Item → Bool
changes tables row item =
    list_any (λ array. array == item.array) (written_arrays tables row)
    || list_any (λ slot. slot == item.slot) (written_slots row)

-- the row writes an array or a slot of one of the items
abbrev pub changes_any : Tables → Instr → List Item → Bool
changes_any tables row items = list_any (changes tables row) items
