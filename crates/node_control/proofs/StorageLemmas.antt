-- The places of a stored array are a region.
use Rattle.std.proofs.Common.{◌≡◌, ℕ, zero, suc, ◌+◌, ◌-◌, List, [], ◌∷◌, length, map, drop, replicate, refl, ap, ◌∙◌, subst, pos, arith}
use Rattle.std.specs.Prelude.{true, Option, Some, All}
use Rattle.std.specs.Option.{IsSomeAnd}
use Rattle.std.proofs.lemmas.Int.{ints}
use Rattle.std.proofs.lemmas.List.Elements.{All-nil, All-cons, All-head, All-tail}
use Rattle.zpl_region.specs.declared.dims.Dim.TheVariants as dim
use Rattle.zpl_region.specs.Dim.{HasStep, IsDim, IsDimWithinLimit}
use Rattle.zpl_region.specs.Region.{IsRegion, padding}
use Rattle.zpl_region.proofs.RegionLemmas.{within_is_dim}
use Rattle.node_form.specs.declared.arrays.ArrayDim.{ArrayDim}
use Rattle.node_form.specs.declared.arrays.ArrayDim.TheVariants.{Range, Star}
use Rattle.node_form.specs.declared.arrays.ArrayRow.{ArrayRow}
use Rattle.node_form.specs.Fits.{FitsArray, IsUnused, storage_dim, storage_of}

one_step : (d : ArrayDim) → HasStep (storage_dim d)
one_step (Range lo hi low high) = omega (arith, ints)
one_step Star = tt

all_dims : (dims : List ArrayDim) → All IsDimWithinLimit (map storage_dim dims) → All IsDim (map storage_dim dims)
all_dims [] within = All-nil IsDim
all_dims (d ∷ dims) within =
    All-cons IsDim (storage_dim d) (map storage_dim dims)
    (within_is_dim (storage_dim d) (one_step d) (All-head IsDimWithinLimit (storage_dim d) (map storage_dim dims) within))
    (all_dims dims (All-tail IsDimWithinLimit (storage_dim d) (map storage_dim dims) within))

unused_dim : (d : ArrayDim) → IsUnused d → storage_dim d ≡ padding
unused_dim (Range lo hi low high) unused =
    ap (λ l. dim.Range l hi (pos 1) l) unused.0 ∙ ap (λ h. dim.Range (pos 0) h (pos 1) (pos 0)) unused.1
unused_dim Star unused = absurd unused

padded : (rank k : ℕ) (dims : List ArrayDim) → length dims ≡ rank + k → All IsUnused (drop rank dims)
    → drop rank (map storage_dim dims) ≡ replicate k padding
padded zero zero [] many unused = refl
padded zero (suc k) [] many unused = absurd (omega arith)
padded zero zero (d ∷ dims) many unused = absurd (omega arith)
padded zero (suc k) (d ∷ dims) many unused =
    ap (λ first. first ∷ map storage_dim dims) (unused_dim d (All-head IsUnused d dims unused))
    ∙ ap (λ rest. padding ∷ rest) (padded zero k dims (omega arith) (All-tail IsUnused d dims unused))
padded (suc rank) zero [] many unused = absurd (omega arith)
padded (suc rank) (suc k) [] many unused = absurd (omega arith)
padded (suc rank) k (d ∷ dims) many unused = padded rank k dims (omega arith) unused

IsRegion-storage : (row : ArrayRow) → length row.dims ≡ 3 → FitsArray row → row.stored ≡ true → IsRegion (storage_of row)
IsRegion-storage row many fits stored = record {
  rank_above = fits.rank.0;
  rank_below = fits.rank.1;
  dims = all_dims row.dims (fits.limit stored).dims;
  padded = padded row.rank (3 - row.rank) row.dims (omega (arith, many, fits.rank)) fits.padded;
}

pub storage_there : (row : ArrayRow) (found : Option ArrayRow) → found ≡ Some row → IsSomeAnd found (λ r. r.stored ≡ true)
    → length row.dims ≡ 3 → FitsArray row → IsRegion (storage_of row)
storage_there row found is stored many fits =
    IsRegion-storage row many fits (subst (λ o. IsSomeAnd o (λ (r : ArrayRow). r.stored ≡ true)) is stored)
