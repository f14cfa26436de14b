-- Fields of lines, and how each is written.
use Rattle.std.specs.Prelude.{ℕ, Bool, true, false, ◌||◌, IsTrue, ℤ, pos, List, [], ◌∷◌, ◌++◌, codes, All}
use Rattle.std.specs.Fmt.{signed_decimal}
use Rattle.std.specs.Ordering.{int_eq}
use Rattle.hex.specs.Hex.{IsBytes, encode_lower}
use Rattle.zpl_nums.specs.Integer.{IsInteger}
use Rattle.listing_lines.specs.declared.fields.Field.{Field}
use Rattle.listing_lines.specs.declared.fields.Field.TheVariants as field
use Rattle.listing_lines.specs.declared.fields.Mark.{Mark}
use Rattle.listing_lines.specs.declared.fields.Mark.TheVariants.{Plain, Range, Bounds, Span, Copied, Constant, Scalar, Here, Shifted, Cell, Coord}
use Rattle.listing_lines.specs.declared.fields.Nth.{Nth}
use Rattle.listing_lines.specs.declared.fields.Nth.TheVariants.{First, Second, Third, Later}
use Rattle.listing_lines.specs.Name.{name_text}

-- what stands in front of the first, second, third or a later number of a field
abbrev pub before : Mark → Nth → List ℕ
before Plain First = []
before Plain nth = codes ","
before Range First = []
before Range Second = codes ".."
before Range Third = codes ":"
before Range Later = codes ","
before Bounds First = []
before Bounds Second = codes ".."
before Bounds nth = codes ":"
before Span First = []
before Span nth = codes ".."
before Copied nth = codes "^"
before Constant nth = codes "n"
before Scalar nth = codes "s"
before Here nth = codes "a"
before Shifted First = codes "a"
before Shifted Second = codes "@"
before Shifted nth = codes ","
before Cell nth = codes "c"
before Coord nth = codes "i"

-- which number comes behind this one
abbrev pub behind : Nth → Nth
behind First = Second
behind Second = Third
behind Third = Later
behind Later = Later

-- numbers from this one on
abbrev pub numbers_text : Mark → Nth → List ℤ → List ℕ
numbers_text mark nth [] = []
numbers_text mark nth (number ∷ numbers) =
    before mark nth ++ (signed_decimal number ++ numbers_text mark (behind nth) numbers)

-- each byte as two hexadecimal digits in lower case, and `-` for none
abbrev pub bytes_text : List ℕ → List ℕ
bytes_text [] = codes "-"
bytes_text (byte ∷ bytes) = encode_lower (byte ∷ bytes)

abbrev pub field_text : Field → List ℕ
field_text (field.Name name) = name_text name
field_text (field.Numbers mark numbers) = numbers_text mark First numbers
field_text (field.Bytes bytes) = bytes_text bytes

-- ---- which fields there are
abbrev pub is_one : List ℤ → Bool
is_one (a ∷ []) = true
is_one numbers = false

abbrev pub is_two : List ℤ → Bool
is_two (a ∷ b ∷ []) = true
is_two numbers = false

abbrev pub is_four : List ℤ → Bool
is_four (a ∷ b ∷ c ∷ d ∷ []) = true
is_four numbers = false

-- one number or more
abbrev pub are_some : List ℤ → Bool
are_some [] = false
are_some (a ∷ numbers) = true

-- a number, and one number or more behind it
abbrev pub are_shift : List ℤ → Bool
are_shift [] = false
are_shift (a ∷ numbers) = are_some numbers

-- the number of a coordinate, from 1 to 3
abbrev pub is_coordinate : List ℤ → Bool
is_coordinate (a ∷ []) = int_eq a (pos 1) || (int_eq a (pos 2) || int_eq a (pos 3))
is_coordinate numbers = false

-- the numbers are those of a field with this mark
abbrev pub has_count : Mark → List ℤ → Bool
has_count Plain numbers = are_some numbers
has_count Range numbers = is_four numbers
has_count Bounds numbers = is_four numbers
has_count Span numbers = is_two numbers
has_count Copied numbers = is_one numbers
has_count Constant numbers = is_one numbers
has_count Scalar numbers = is_one numbers
has_count Here numbers = is_one numbers
has_count Shifted numbers = are_shift numbers
has_count Cell numbers = is_one numbers
has_count Coord numbers = is_coordinate numbers

-- A field of a line, where it is one of bytes just where the line is that of a text. Its numbers
-- are of 64 bits.
abbrev pub IsField : Bool → Field → Type 0
IsField true (field.Name name) = ⊥
IsField true (field.Numbers mark numbers) = ⊥
IsField true (field.Bytes bytes) = IsBytes bytes
IsField false (field.Name name) = Unit {0}
IsField false (field.Numbers mark numbers) = IsTrue (has_count mark numbers) × All IsInteger numbers
IsField false (field.Bytes bytes) = ⊥
