-- How the lines of saved grids are written that tell the states of processors.
--
--   kind_of       which line it is: its first word
--   words_of      the words of a line
--   words_text    words in a row, with one space between
--   saved_text    lines in a row, each with a newline behind it
--   IsSavedLine   there is such a line: its numbers are of 64 bits
use Rattle.std.specs.Prelude.{◌≢◌, ℕ, ℤ, List, [], ◌∷◌, ◌++◌, codes, map, All}
use Rattle.std.specs.Fmt.{signed_decimal}
use Rattle.std.specs.List.{flat_map}
use Rattle.zpl_nums.specs.Integer.{IsInteger}
use Rattle.zpl_region.specs.declared.dims.Dim.{Dim}
use Rattle.zpl_region.specs.declared.dims.Dim.TheVariants as dim
use Rattle.listing_lines.specs.declared.fields.Field.TheVariants as field
use Rattle.listing_lines.specs.declared.fields.Mark.TheVariants as mark
use Rattle.listing_lines.specs.declared.names.Name.TheVariants as name
use Rattle.listing_lines.specs.Field.{field_text}
use Rattle.listing_lines.specs.Line.{spaced}
use Rattle.listing_lines.specs.Name.{name_text}
use Rattle.listing_rows.specs.Fields.{bounds_field}
use Rattle.save_lines.specs.declared.lines.BoxDim.{BoxDim}
use Rattle.save_lines.specs.declared.lines.BoxDim.TheVariants.{Range, Star}
use Rattle.save_lines.specs.declared.lines.EndWord.{EndWord}
use Rattle.save_lines.specs.declared.lines.EndWord.TheVariants.{Going, Done, Trap}
use Rattle.save_lines.specs.declared.lines.Kind.{Kind}
use Rattle.save_lines.specs.declared.lines.Kind.TheVariants as kind
use Rattle.save_lines.specs.declared.lines.ProcRow.{ProcRow}
use Rattle.save_lines.specs.declared.lines.SavedLine.{SavedLine}
use Rattle.save_lines.specs.declared.lines.SavedLine.TheVariants.{Proc, Scalars, Slot, Cells, Store, Kept, Msg}

-- ---- words
abbrev pub end_word : EndWord → List ℕ
end_word Going = codes "-"
end_word Done = codes "done"
end_word (Trap kind line) = codes "trap:" ++ (signed_decimal kind ++ (codes ":" ++ signed_decimal line))

-- a dimension of a region, as listings have it
abbrev pub dim_word : Dim → List ℕ
dim_word d = field_text (bounds_field d)

abbrev pub box_word : BoxDim → List ℕ
box_word (Range lo hi) = field_text (field.Numbers mark.Span (lo ∷ hi ∷ []))
box_word Star = name_text name.Star

abbrev pub number_words : List ℤ → List (List ℕ)
number_words numbers = map signed_decimal numbers

abbrev pub proc_words : ProcRow → List (List ℕ)
proc_words row =
    signed_decimal row.processor ∷ codes "at" ∷ signed_decimal row.at
    ∷ codes "made" ∷ signed_decimal row.made ∷ codes "index" ∷ signed_decimal row.index
    ∷ codes "member" ∷ signed_decimal row.member ∷ codes "flag" ∷ signed_decimal row.flag
    ∷ codes "end" ∷ end_word row.end ∷ []

abbrev pub kind_text : Kind → List ℕ
kind_text kind.Proc = codes "proc"
kind_text kind.Scalars = codes "scalars"
kind_text kind.Slot = codes "slot"
kind_text kind.Cells = codes "cells"
kind_text kind.Store = codes "store"
kind_text kind.Kept = codes "kept"
kind_text kind.Msg = codes "msg"

-- ---- lines
abbrev pub kind_of : SavedLine → Kind
kind_of (Proc row) = kind.Proc
kind_of (Scalars values) = kind.Scalars
kind_of (Slot dims) = kind.Slot
kind_of (Cells values) = kind.Cells
kind_of (Store dims values) = kind.Store
kind_of (Kept from values) = kind.Kept
kind_of (Msg to tag values) = kind.Msg

-- the words behind the first one
abbrev pub words_behind : SavedLine → List (List ℕ)
words_behind (Proc row) = proc_words row
words_behind (Scalars values) = number_words values
words_behind (Slot dims) = map dim_word dims
words_behind (Cells values) = number_words values
words_behind (Store dims values) = map box_word dims ++ codes ":" ∷ number_words values
words_behind (Kept from values) = signed_decimal from ∷ number_words values
words_behind (Msg to tag values) = signed_decimal to ∷ signed_decimal tag ∷ number_words values

abbrev pub words_of : SavedLine → List (List ℕ)
words_of line = kind_text (kind_of line) ∷ words_behind line

abbrev pub words_text : List (List ℕ) → List ℕ
words_text [] = []
words_text (word ∷ words) = word ++ flat_map spaced words

abbrev pub line_text : SavedLine → List ℕ
line_text line = words_text (words_of line)

abbrev pub saved_text : List SavedLine → List ℕ
saved_text lines = flat_map (λ line. line_text line ++ 10 ∷ []) lines

-- ---- which lines there are
abbrev pub IsEndWord : EndWord → Type 0
IsEndWord Going = Unit {0}
IsEndWord Done = Unit {0}
IsEndWord (Trap kind line) = IsInteger kind × IsInteger line

abbrev pub IsDimWord : Dim → Type 0
IsDimWord (dim.Range lo hi step align) = IsInteger lo × IsInteger hi × IsInteger step × IsInteger align
IsDimWord dim.Flood = Unit {0}

abbrev pub IsBoxWord : BoxDim → Type 0
IsBoxWord (Range lo hi) = IsInteger lo × IsInteger hi
IsBoxWord Star = Unit {0}

pub record IsProcRow (row : ProcRow) : Type 0 where
  pub processor : IsInteger row.processor
  pub at : IsInteger row.at
  pub made : IsInteger row.made
  pub index : IsInteger row.index
  pub member : IsInteger row.member
  pub flag : IsInteger row.flag
  pub end : IsEndWord row.end

-- a region and a box have a dimension at least
abbrev pub IsSavedLine : SavedLine → Type 0
IsSavedLine (Proc row) = IsProcRow row
IsSavedLine (Scalars values) = All IsInteger values
IsSavedLine (Slot dims) = (dims ≢ []) × All IsDimWord dims
IsSavedLine (Cells values) = All IsInteger values
IsSavedLine (Store dims values) = (dims ≢ []) × All IsBoxWord dims × All IsInteger values
IsSavedLine (Kept from values) = IsInteger from × All IsInteger values
IsSavedLine (Msg to tag values) = IsInteger to × IsInteger tag × All IsInteger values

abbrev pub AreSavedLines : List SavedLine → Type 0
AreSavedLines lines = All IsSavedLine lines
