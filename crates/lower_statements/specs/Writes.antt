-- Prints, whose values are computed before the first of them.
use Rattle.std.specs.Prelude.{ℕ, Bool, true, false, List, [], ◌∷◌, map, Option, Some, None}
use Rattle.zpl_text.specs.Escapes.{unescaped}
use Rattle.zpl_tree.specs.Syntax.{Item, Str, Value}
use Rattle.name_kinds.specs.declared.kinds.BaseType.{BaseType}
use Rattle.name_kinds.specs.declared.kinds.BaseType.TheVariants.{Integer, Boolean, Other}
use Rattle.node_form.specs.Expression.{Expression}
use Rattle.flat_form.specs.Row as row
use Rattle.flat_form.specs.Row.{Row}
use Rattle.zpl_lowering.specs.Lowered.{Lowered, rows_alone}
use Rattle.zpl_lowering.specs.Statement.{Prints, Shown, shown_of}
use Rattle.zpl_lowering.specs.Where.{Next, Where}
use Rattle.lower_draft.specs.Inline.{row_of}
use Rattle.lower_draft.specs.declared.rows.FlatRow.{FlatRow}

abbrev pub rows_in : List FlatRow → List Row
rows_in rows = map row_of rows

-- the values of items, with what these have of their own
abbrev pub values_of : Prints → Lowered
values_of all = record (rows_alone all.values) { scalars = all.scalars; temps = all.temps }

-- the same of one
abbrev pub shown_alone : Shown → Lowered
shown_alone shown =
    record (rows_alone shown.values) { scalars = shown.scalars; temps = shown.temps }

-- the value of one item, the row that prints it, and what is left behind it
abbrev pub value_of : Where → ℕ → Next → Item → List Expression → Lowered
value_of w line next (Str bytes) left = rows_alone []
value_of w line next (Value expr) [] = rows_alone []
value_of w line next (Value expr) (first ∷ left) =
    shown_alone (shown_of w line next.scalars next.temps expr first)

abbrev pub print_of : Where → ℕ → Next → Item → List Expression → List Row
print_of w line next (Str bytes) left = row.Print (unescaped bytes) ∷ []
print_of w line next (Value expr) [] = []
print_of w line next (Value expr) (first ∷ left) =
    (shown_of w line next.scalars next.temps expr first).print ∷ []

abbrev pub behind_item : Item → List Expression → List Expression
behind_item (Str bytes) left = left
behind_item (Value expr) [] = []
behind_item (Value expr) (first ∷ left) = left

-- whether a value is printed as a truth value, by its base type in memory
abbrev pub is_boolean : Option BaseType → Bool
is_boolean None = false
is_boolean (Some Integer) = false
is_boolean (Some Boolean) = true
is_boolean (Some Other) = false
