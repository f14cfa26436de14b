-- What stands past the rank of an array's dimensions.
use Rattle.std.proofs.Common.{◌≡◌, ℕ, zero, suc, ◌-◌, ◌≤◌, List, [], ◌∷◌, length, length-drop, drop, get_or, refl, sym, ap, ◌∙◌, subst, arith}
use Rattle.std.specs.Prelude.{All, map, replicate}
use Rattle.std.proofs.lemmas.List.Elements.{All-head, All-tail}
use Rattle.zpl_arrays.specs.of_zpl_region.declared.dims.Dim.{Dim}
use Rattle.zpl_arrays.specs.of_zpl_region.declared.dims.Dim.TheVariants as dim
use Rattle.zpl_arrays.specs.of_zpl_region.Region.{IsPadded, padding}
use Rattle.node_form.specs.declared.arrays.ArrayDim.{ArrayDim}
use Rattle.node_form.specs.declared.arrays.ArrayDim.TheVariants.{Range, Star}
use Rattle.node_form.specs.Fits.{IsUnused, storage_dim}

-- the range of four zeros is a region's padding
storage_dim-unused : (d : ArrayDim) → IsUnused d → storage_dim d ≡ padding
storage_dim-unused (Range lo hi low high) is = rw (is.0, is.1) refl
storage_dim-unused Star is = absurd is

storage_dims-unused : (dims : List ArrayDim) (n : ℕ) → length dims ≡ n → All IsUnused dims → map storage_dim dims ≡ replicate n padding
storage_dims-unused [] zero e all = refl
storage_dims-unused [] (suc n) e all = absurd (omega arith)
storage_dims-unused (d ∷ dims) zero e all = absurd (omega arith)
storage_dims-unused (d ∷ dims) (suc n) e all =
    let one : storage_dim d ≡ padding = storage_dim-unused d (All-head IsUnused d dims all) in
    let rest : map storage_dim dims ≡ replicate n padding = storage_dims-unused dims n (omega arith) (All-tail IsUnused d dims all) in
    rw (one, rest) refl

drop-map : (rank : ℕ) (dims : List ArrayDim) → drop rank (map storage_dim dims) ≡ map storage_dim (drop rank dims)
drop-map zero dims = refl
drop-map (suc rank) [] = refl
drop-map (suc rank) (d ∷ dims) = drop-map rank dims

pub storage-padded : (rank : ℕ) (dims : List ArrayDim) → length dims ≡ 3 → All IsUnused (drop rank dims) → IsPadded rank (map storage_dim dims)
storage-padded rank dims three unused =
    let left : length (drop rank dims) ≡ 3 - rank = length-drop rank dims ∙ ap (λ n. n - rank) three in
    drop-map rank dims ∙ storage_dims-unused (drop rank dims) (3 - rank) left unused

-- the same of three dimensions, one by one
pub storage-padded-each : (rank : ℕ) (dims : List ArrayDim) (d : ArrayDim) (planes rows columns : Dim) → length dims ≡ 3 → planes ≡ storage_dim (get_or dims 0 d) → rows ≡ storage_dim (get_or dims 1 d) → columns ≡ storage_dim (get_or dims 2 d) → All IsUnused (drop rank dims) → IsPadded rank (planes ∷ rows ∷ columns ∷ [])
storage-padded-each rank [] d planes rows columns three is_planes is_rows is_columns unused = absurd (omega arith)
storage-padded-each rank (a ∷ []) d planes rows columns three is_planes is_rows is_columns unused = absurd (omega arith)
storage-padded-each rank (a ∷ b ∷ []) d planes rows columns three is_planes is_rows is_columns unused = absurd (omega arith)
storage-padded-each rank (a ∷ b ∷ c ∷ []) d planes rows columns three is_planes is_rows is_columns unused =
    rw (is_planes, is_rows, is_columns) (storage-padded rank (a ∷ b ∷ c ∷ []) refl unused)
storage-padded-each rank (a ∷ b ∷ c ∷ e ∷ dims) d planes rows columns three is_planes is_rows is_columns unused = absurd (omega arith)
