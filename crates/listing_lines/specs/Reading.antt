-- How a word is taken apart: its numbers, and the mark that they have.
use Rattle.std.specs.Prelude.{ℕ, Bool, not, ◌||◌, ◌==◌, if◌then◌else◌, List, [], ◌∷◌, slice_index}
use Rattle.std.specs.Char.{is_ascii_digit}
use Rattle.std.specs.List.{list_any, slice_split}
use Rattle.listing_lines.specs.declared.fields.Mark.{Mark}
use Rattle.listing_lines.specs.declared.fields.Mark.TheVariants.{Plain, Range, Bounds, Span, Copied, Constant, Scalar, Here, Shifted, Cell, Coord}

-- a digit, or `-`
abbrev pub is_number_byte : ℕ → Bool
is_number_byte byte = is_ascii_digit byte || byte == 45

abbrev pub some_texts : List (List ℕ) → List (List ℕ)
some_texts [] = []
some_texts ([] ∷ texts) = some_texts texts
some_texts ((byte ∷ bytes) ∷ texts) = (byte ∷ bytes) ∷ some_texts texts

-- the longest runs of such bytes
abbrev pub number_texts : List ℕ → List (List ℕ)
number_texts word = some_texts (slice_split (λ byte. not (is_number_byte byte)) word)

abbrev pub has_byte : ℕ → List ℕ → Bool
has_byte wanted word = list_any (λ byte. byte == wanted) word

-- the mark of a word that begins with a number, by the bytes that part its numbers
abbrev pub number_mark : List ℕ → Mark
number_mark word =
    if has_byte 46 word then
    (if has_byte 58 word then (if has_byte 44 word then Range else Bounds) else Span)
    else Plain

-- the mark of a word that begins with this byte, which isn't a number's
abbrev pub letter_mark : ℕ → List ℕ → Mark
letter_mark first word =
    if first == 94 then Copied
    else if first == 110 then Constant
    else if first == 115 then Scalar
    else if first == 99 then Cell
    else if first == 105 then Coord
    else if has_byte 64 word then Shifted
    else Here

abbrev pub mark_of : List ℕ → Mark
mark_of word =
    if is_number_byte (slice_index word 0) then number_mark word else letter_mark (slice_index word 0) word
