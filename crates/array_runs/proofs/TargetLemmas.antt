-- The array that is written under a region: it has a place of its own for each tuple.
use Rattle.std.proofs.Common.{◌≡◌, refl, sym, ◌∙◌, ap, true}
use Rattle.std.proofs.Common.{List, [], ◌∷◌, map, ℤ}
use Rattle.std.specs.List.{AllZip}
use Rattle.zpl_region.specs.declared.dims.Dim.{Dim}
use Rattle.zpl_region.specs.declared.dims.Dim.TheVariants.{Range, Flood}
use Rattle.zpl_region.specs.Dim.{IsCoordinate}
use Rattle.zpl_arrays.specs.Array.{flattened}
use Rattle.node_form.specs.declared.arrays.ArrayDim.{ArrayDim}
use Rattle.node_form.specs.declared.arrays.ArrayDim.TheVariants as dims
use Rattle.node_form.specs.Fits.{storage_dim}
use Rattle.lowering_runs.specs.of_flat_form.Right.{each_matches}
use Rattle.array_runs.specs.Reads.{EachCovers, EachMatches}

pub covers_matching : (storage own : List Dim) → EachMatches storage own → EachCovers storage own
covers_matching [] [] h = tt
covers_matching [] (d ∷ own) h = tt
covers_matching (s ∷ storage) [] h = tt
covers_matching (Flood ∷ storage) (d ∷ own) h = (tt, covers_matching storage own h.1)
covers_matching (Range lo hi step align ∷ storage) (Flood ∷ own) h = absurd h.0
covers_matching (Range lo hi step align ∷ storage) (Range from to every base ∷ own) h =
    (tt, covers_matching storage own h.1)

pub matches_row : (rows : List ArrayDim) (own : List Dim) → EachMatches (map storage_dim rows) own
    → each_matches rows own ≡ true
matches_row [] [] h = refl
matches_row [] (d ∷ own) h = refl
matches_row (row ∷ rows) [] h = refl
matches_row (dims.Star ∷ rows) (Flood ∷ own) h = matches_row rows own h.1
matches_row (dims.Star ∷ rows) (Range from to every base ∷ own) h = absurd h.0
matches_row (dims.Range lo hi low high ∷ rows) (Flood ∷ own) h = absurd h.0
matches_row (dims.Range lo hi low high ∷ rows) (Range from to every base ∷ own) h =
    matches_row rows own h.1

pub flat_member : (storage own : List Dim) (t : List ℤ) → EachMatches storage own
    → AllZip IsCoordinate own t → flattened storage t ≡ t
flat_member [] own t h z = refl
flat_member (s ∷ storage) [] [] h z = refl
flat_member (s ∷ storage) [] (x ∷ t) h z = absurd z
flat_member (s ∷ storage) (d ∷ own) [] h z = absurd z
flat_member (Flood ∷ storage) (Flood ∷ own) (x ∷ t) h z =
    ap (λ (y : ℤ). y ∷ flattened storage t) (sym z.0)
    ∙ ap (λ u. x ∷ u) (flat_member storage own t h.1 z.1)
flat_member (Flood ∷ storage) (Range from to every base ∷ own) (x ∷ t) h z = absurd h.0
flat_member (Range lo hi step align ∷ storage) (Flood ∷ own) (x ∷ t) h z = absurd h.0
flat_member (Range lo hi step align ∷ storage) (Range from to every base ∷ own) (x ∷ t) h z =
    ap (λ u. x ∷ u) (flat_member storage own t h.1 z.1)
