-- The boxes of stored arrays, one array after another.
use Rattle.std.proofs.Common.{◌≡◌, ℕ, ◌+◌, List, [], ◌∷◌, ◌++◌, map, take, ◌∙◌, ap}
use Rattle.std.specs.Prelude.{Some, slice_get}
use Rattle.std.proofs.lemmas.List.{map-append, take_more}
use Rattle.std.proofs.lemmas.List.Elements.{filter-append}
use Rattle.std.proofs.lemmas.Option.{slice_get_within, get_or_from_slice_get}
use Rattle.grid_meaning.specs.of_node_form.declared.arrays.ArrayRow.{ArrayRow}
use Rattle.grid_meaning.specs.Stored.{box_of, stored}

pub boxes_more : (rows : List ArrayRow) (i : ℕ) (row : ArrayRow) → slice_get rows i ≡ Some row
    → map box_of (stored (take (i + 1) rows)) ≡ map box_of (stored (take i rows)) ++ map box_of (stored (row ∷ []))
boxes_more rows i row found =
    let inside = slice_get_within rows i row found in
    ap (λ rs. map box_of (stored rs))
    (take_more rows i row inside ∙ ap (λ r. take i rows ++ r ∷ []) (get_or_from_slice_get rows i row row found))
    ∙ (ap (map box_of) (filter-append (λ (r : ArrayRow). r.stored) (take i rows) (row ∷ []))
    ∙ map-append box_of (stored (take i rows)) (stored (row ∷ [])))
