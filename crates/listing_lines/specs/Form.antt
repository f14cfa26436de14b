-- Whether fields are those that the table of forms wants.
use Rattle.std.specs.Prelude.{Bool, true, false, ◌&&◌, ◌||◌, if◌then◌else◌, Option, Some, None, List, [], ◌∷◌, ℤ, pos}
use Rattle.std.specs.List.{list_all}
use Rattle.std.specs.Ordering.{int_eq}
use Rattle.listing_lines.specs.declared.fields.Field.{Field}
use Rattle.listing_lines.specs.declared.fields.Field.TheVariants as field
use Rattle.listing_lines.specs.declared.fields.Mark.{Mark}
use Rattle.listing_lines.specs.declared.fields.Mark.TheVariants as mark
use Rattle.listing_lines.specs.declared.forms.Kind.{Kind}
use Rattle.listing_lines.specs.declared.forms.Kind.TheVariants as kind
use Rattle.listing_lines.specs.declared.forms.Slot.{Slot}
use Rattle.listing_lines.specs.declared.forms.Slot.TheVariants.{One, Maybe, Many}
use Rattle.listing_lines.specs.declared.keywords.Keyword.{Keyword}
use Rattle.listing_lines.specs.declared.keywords.Keyword.TheVariants as key
use Rattle.listing_lines.specs.declared.lines.Line.{Line}
use Rattle.listing_lines.specs.declared.names.Name.{Name}
use Rattle.listing_lines.specs.declared.names.Name.TheVariants as name
use Rattle.listing_lines.specs.Field.{is_one}
use Rattle.listing_lines.specs.FormTable.{form_of, hidden_form}

-- ---- names
abbrev pub is_minus : Name → Bool
is_minus name.Minus = true
is_minus other = false

abbrev pub is_star : Name → Bool
is_star name.Star = true
is_star other = false

-- `-` in place of a range of a temporary, `-*` in place of its flood dimension
abbrev pub is_hidden : Name → Bool
is_hidden name.Minus = true
is_hidden name.MinusStar = true
is_hidden other = false

abbrev pub is_fold : Name → Bool
is_fold name.Sum = true
is_fold name.Prod = true
is_fold name.Max = true
is_fold name.Min = true
is_fold name.All = true
is_fold name.Any = true
is_fold other = false

abbrev pub is_operator : Name → Bool
is_operator name.Plus = true
is_operator name.Minus = true
is_operator name.Star = true
is_operator name.Slash = true
is_operator name.Percent = true
is_operator name.Equal = true
is_operator name.NotEqual = true
is_operator name.Less = true
is_operator name.LessEqual = true
is_operator name.Greater = true
is_operator name.GreaterEqual = true
is_operator name.And = true
is_operator name.Or = true
is_operator name.Max = true
is_operator name.Min = true
is_operator name.Neg = true
is_operator name.Not = true
is_operator name.Abs = true
is_operator other = false

-- which regions conform: `part` or `flood`
abbrev pub is_same : Name → Bool
is_same name.Part = true
is_same name.Flood = true
is_same other = false

-- how a value is shown: `number` or `truth`
abbrev pub is_shown : Name → Bool
is_shown name.Number = true
is_shown name.Truth = true
is_shown other = false

abbrev pub allows_name : Kind → Name → Bool
allows_name kind.Version name = false
allows_name kind.Number name = false
allows_name kind.Mask name = is_minus name
allows_name kind.Vector name = false
allows_name kind.Fold name = is_fold name
allows_name kind.Stored name = is_star name
allows_name kind.Hidden name = is_hidden name
allows_name kind.Bounds name = is_star name
allows_name kind.Part name = is_star name
allows_name kind.Word name = is_operator name
allows_name kind.Same name = is_same name
allows_name kind.Shown name = is_shown name
allows_name kind.Trap name = false
allows_name kind.Bytes name = false

-- ---- numbers
abbrev pub is_plain : Mark → Bool
is_plain mark.Plain = true
is_plain other = false

abbrev pub is_range : Mark → Bool
is_range mark.Range = true
is_range other = false

abbrev pub is_bounds : Mark → Bool
is_bounds mark.Bounds = true
is_bounds other = false

abbrev pub is_part : Mark → Bool
is_part mark.Span = true
is_part mark.Copied = true
is_part other = false

abbrev pub is_operand : Mark → Bool
is_operand mark.Constant = true
is_operand mark.Scalar = true
is_operand mark.Here = true
is_operand mark.Shifted = true
is_operand mark.Cell = true
is_operand mark.Coord = true
is_operand other = false

-- the version of the format
abbrev pub is_version : List ℤ → Bool
is_version (a ∷ []) = int_eq a (pos 1)
is_version numbers = false

-- the number of a kind of trap, from 1 to 4
abbrev pub is_trap : List ℤ → Bool
is_trap (a ∷ []) = int_eq a (pos 1) || (int_eq a (pos 2) || (int_eq a (pos 3) || int_eq a (pos 4)))
is_trap numbers = false

abbrev pub allows_numbers : Kind → Mark → List ℤ → Bool
allows_numbers kind.Version mark numbers = is_plain mark && is_version numbers
allows_numbers kind.Number mark numbers = is_plain mark && is_one numbers
allows_numbers kind.Mask mark numbers = is_plain mark && is_one numbers
allows_numbers kind.Vector mark numbers = is_plain mark
allows_numbers kind.Fold mark numbers = false
allows_numbers kind.Stored mark numbers = is_range mark
allows_numbers kind.Hidden mark numbers = false
allows_numbers kind.Bounds mark numbers = is_bounds mark
allows_numbers kind.Part mark numbers = is_part mark
allows_numbers kind.Word mark numbers = is_operand mark
allows_numbers kind.Same mark numbers = false
allows_numbers kind.Shown mark numbers = false
allows_numbers kind.Trap mark numbers = is_plain mark && is_trap numbers
allows_numbers kind.Bytes mark numbers = false

abbrev pub is_bytes : Kind → Bool
is_bytes kind.Bytes = true
is_bytes other = false

-- ---- fields
abbrev pub is_kind : Kind → Field → Bool
is_kind kind (field.Name name) = allows_name kind name
is_kind kind (field.Numbers mark numbers) = allows_numbers kind mark numbers
is_kind kind (field.Bytes bytes) = is_bytes kind

-- what is still wanted behind a field; nothing where the field isn't wanted
abbrev pub wanted_behind : List Slot → Field → Option (List Slot)
wanted_behind [] field = None
wanted_behind (One kind ∷ slots) field = if is_kind kind field then Some slots else None
wanted_behind (Maybe kind ∷ slots) field = if is_kind kind field then Some slots else wanted_behind slots field
wanted_behind (Many kind ∷ slots) field = if is_kind kind field then Some (Many kind ∷ slots) else wanted_behind slots field

-- what need not come
abbrev pub is_optional : Slot → Bool
is_optional (One kind) = false
is_optional (Maybe kind) = true
is_optional (Many kind) = true

-- nothing more need come
abbrev pub may_end : List Slot → Bool
may_end slots = list_all is_optional slots

-- Whether fields are those that are wanted: the first of them decides which are wanted behind it.
abbrev pub go_on : (List Slot → Bool) → Option (List Slot) → Bool
go_on rest None = false
go_on rest (Some slots) = rest slots

abbrev pub fits_slots : List Field → List Slot → Bool
fits_slots [] slots = may_end slots
fits_slots (field ∷ fields) slots = go_on (fits_slots fields) (wanted_behind slots field)

abbrev pub is_array : Keyword → Bool
is_array key.Array = true
is_array keyword = false

-- the fields of the line are those that its keyword wants: of an array's, all those of a stored one
-- or all those of a temporary
abbrev pub has_form : Line → Bool
has_form line =
    fits_slots line.fields (form_of line.keyword) || (is_array line.keyword && fits_slots line.fields hidden_form)
