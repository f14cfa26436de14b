-- The definitions, computed on small listings.
use Rattle.std.proofs.Common.{◌≡◌, ℕ, true, false, List, [], ◌∷◌, pos, negsuc, refl}
use Rattle.std.specs.Prelude.{Some, None, codes}
use Rattle.std.specs.Fmt.{digits}
use Rattle.hex.specs.Hex.{encode_with}
use Rattle.listing_lines.specs.declared.fields.Field.{Field}
use Rattle.listing_lines.specs.declared.fields.Field.TheVariants as field
use Rattle.listing_lines.specs.declared.fields.Mark.TheVariants.{Plain, Range, Bounds, Copied, Constant, Scalar, Shifted, Coord}
use Rattle.listing_lines.specs.declared.keywords.Keyword.{Keyword}
use Rattle.listing_lines.specs.declared.keywords.Keyword.TheVariants as key
use Rattle.listing_lines.specs.declared.lines.Line.{Line}
use Rattle.listing_lines.specs.declared.names.Name.TheVariants as name
use Rattle.listing_lines.specs.declared.places.Opening.TheVariants.{If, While}
use Rattle.listing_lines.specs.declared.places.Part.TheVariants as part
use Rattle.listing_lines.specs.Field.{field_text, has_count}
use Rattle.listing_lines.specs.Form.{has_form}
use Rattle.listing_lines.specs.Line.{lines_text}
use Rattle.listing_lines.specs.Place.{start, place_behind, place_after}
use Rattle.listing_lines.specs.Reading.{number_texts, mark_of}

abbrev line_of : Keyword → List Field → Line
line_of keyword fields = record { keyword = keyword; fields = fields }

abbrev number : ℕ → Field
number n = field.Numbers Plain (pos n ∷ [])

-- ---- a listing that prints a text and a sum
abbrev hi : List Line
hi =
    line_of key.Version (number 1 ∷ []) ∷ line_of key.Grid (number 2 ∷ []) ∷ line_of key.Scalars (number 1 ∷ []) ∷ line_of key.Slots [] ∷
    line_of key.Cells (number 0 ∷ []) ∷ line_of key.Text (field.Bytes (104 ∷ 105 ∷ []) ∷ []) ∷
    line_of key.Expr (field.Numbers Constant (pos 20 ∷ []) ∷ []) ∷
    line_of key.Expr (field.Numbers Scalar (pos 0 ∷ []) ∷ field.Numbers Constant (pos 1 ∷ []) ∷ field.Name name.Plus ∷ []) ∷
    line_of key.Code [] ∷ line_of key.Set (number 0 ∷ number 0 ∷ number 1 ∷ []) ∷ line_of key.Print (number 0 ∷ []) ∷
    line_of key.Number (number 1 ∷ []) ∷ line_of key.End [] ∷ []

hi_written : lines_text hi ≡ codes "zplnode 1\ngrid 2\nscalars 1\nslots\ncells 0\ntext 6869\nexpr n20\nexpr s0 n1 +\ncode\nset 0 0 1\nprint 0\nnumber 1\nend\n"
unfolding digits encode_with
hi_written = refl

hi_stands : place_after start hi ≡ Some (record { part = part.Code; openings = [] })
hi_stands = refl

-- ---- fields
array : field_text (field.Numbers Range (pos 0 ∷ pos 9 ∷ pos 1 ∷ pos 2 ∷ [])) ≡ codes "0..9:1,2"
unfolding digits
array = refl

region : field_text (field.Numbers Bounds (negsuc 0 ∷ pos 9 ∷ pos 1 ∷ pos 2 ∷ [])) ≡ codes "-1..9:1:2"
unfolding digits
region = refl

shifted : field_text (field.Numbers Shifted (pos 2 ∷ negsuc 0 ∷ pos 0 ∷ [])) ≡ codes "a2@-1,0"
unfolding digits
shifted = refl

parts_of_a_word : number_texts (codes "a2@-1,0") ≡ codes "2" ∷ codes "-1" ∷ codes "0" ∷ []
parts_of_a_word = refl

mark_of_a_word : mark_of (codes "-1..9:1:2") ≡ Bounds
mark_of_a_word = refl

no_fourth_coordinate : has_count Coord (pos 4 ∷ []) ≡ false
no_fourth_coordinate = refl

no_shift_without_a_vector : has_count Shifted (pos 4 ∷ []) ≡ false
no_shift_without_a_vector = refl

-- ---- forms
mixed_dimensions : has_form (line_of key.Array (field.Name name.Star ∷ field.Name name.Minus ∷ [])) ≡ false
mixed_dimensions = refl

temporary : has_form (line_of key.Array (field.Name name.MinusStar ∷ field.Name name.Minus ∷ [])) ≡ true
temporary = refl

fourth_factor : has_form (line_of key.Grid (number 1 ∷ number 1 ∷ number 1 ∷ number 1 ∷ [])) ≡ false
fourth_factor = refl

no_word : has_form (line_of key.Expr []) ≡ false
no_word = refl

line_behind_dimensions : has_form (line_of key.Dims (number 0 ∷ field.Numbers Copied (pos 1 ∷ []) ∷ field.Name name.Star ∷ number 7 ∷ [])) ≡ true
line_behind_dimensions = refl

fifth_trap : has_form (line_of key.Trap (number 5 ∷ number 1 ∷ [])) ≡ false
fifth_trap = refl

-- ---- places
else_in_a_while : place_behind (record { part = part.Groups; openings = While ∷ [] }) (line_of key.Else []) ≡ None
else_in_a_while = refl

group_in_an_if : place_behind (record { part = part.Groups; openings = If ∷ [] }) (line_of key.Group []) ≡ None
group_in_an_if = refl

text_behind_an_expr : place_behind (record { part = part.Exprs; openings = [] }) (line_of key.Text (field.Bytes [] ∷ [])) ≡ None
text_behind_an_expr = refl
