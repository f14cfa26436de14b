-- What a print of an array appends.
use Rattle.std.specs.Prelude.{ℕ, zero, suc, ℤ, if◌then◌else◌, List, [], ◌∷◌, ◌++◌, map, flat_map, codes}
use Rattle.std.specs.Fmt.{signed_decimal}
use Rattle.std.specs.List.{join_with_byte}
use Rattle.zpl_nums.specs.Integer.{is_true}
use Rattle.zpl_region.specs.declared.dims.Dim.{Dim}
use Rattle.zpl_region.specs.declared.regions.Region.{Region}
use Rattle.zpl_region.specs.Dim.{coordinates}
use Rattle.zpl_region.specs.Ends.{has_none}
use Rattle.zpl_region.specs.Region.{tuples}

-- a number in decimal, and a truth value by its word
abbrev pub number_text : ℤ → List ℕ
number_text z = signed_decimal z

abbrev pub truth_text : ℤ → List ℕ
truth_text z = if is_true z then codes "true" else codes "false"

-- what is printed of the tuples over these dimensions, text being what is printed at one tuple: a
-- line has a space (32) between each two, each line of a plane ends with a newline (10), and each
-- plane of a space with one more
abbrev pub text_by_rank : ℕ → List Dim → (List ℤ → List ℕ) → List ℕ
text_by_rank zero dims text = []
text_by_rank (suc zero) dims text = join_with_byte 32 (map text (tuples (map coordinates dims)))
text_by_rank (suc (suc rank)) [] text = []
text_by_rank (suc (suc rank)) (dim ∷ dims) text =
    flat_map (λ x. text_by_rank (suc rank) dims (λ t. text (x ∷ t)) ++ (10 ∷ [])) (coordinates dim)

-- the print of e over the region: nothing where it has no tuple
abbrev pub array_text : (ℤ → List ℕ) → Region → (List ℤ → ℤ) → List ℕ
array_text text r e = if has_none r then [] else text_by_rank r.rank r.dims (λ t. text (e t))
