-- Lines, and how each is written.
use Rattle.std.specs.Prelude.{ℕ, Bool, true, false, List, [], ◌∷◌, ◌++◌, All}
use Rattle.std.specs.List.{flat_map}
use Rattle.listing_lines.specs.declared.keywords.Keyword.{Keyword}
use Rattle.listing_lines.specs.declared.keywords.Keyword.TheVariants as key
use Rattle.listing_lines.specs.declared.lines.Line.{Line}
use Rattle.listing_lines.specs.Keyword.{keyword_text}
use Rattle.listing_lines.specs.Field.{IsField, field_text}

-- one space, and the field
abbrev pub spaced : List ℕ → List ℕ
spaced text = 32 ∷ text

-- a line without the newline at its end: the keyword, and behind it the fields, each behind one
-- space
abbrev pub line_text : Line → List ℕ
line_text line = keyword_text line.keyword ++ flat_map (λ field. spaced (field_text field)) line.fields

-- lines in a row, each with a newline behind it
abbrev pub lines_text : List Line → List ℕ
lines_text lines = flat_map (λ line. line_text line ++ 10 ∷ []) lines

abbrev pub is_text : Keyword → Bool
is_text key.Text = true
is_text keyword = false

abbrev pub IsLine : Line → Type 0
IsLine line = All (IsField (is_text line.keyword)) line.fields
