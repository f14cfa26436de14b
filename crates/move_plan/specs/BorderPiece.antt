-- The indices of a border that a receiver sets from an owner's values.
use Rattle.std.specs.Prelude.{ℕ, ℤ, pos, neg_ℤ, if◌then◌else◌, List, [], ◌∷◌}
use Rattle.std.specs.Ordering.{int_eq}
use Rattle.zpl_arrays.specs.of_zpl_nums.declared.ends.Border.{Border}
use Rattle.zpl_arrays.specs.of_zpl_nums.declared.ends.Border.TheVariants.{Wrap, Reflect}
use Rattle.zpl_arrays.specs.of_zpl_region.declared.dims.Dim.{Dim}
use Rattle.zpl_arrays.specs.of_zpl_region.declared.dims.Dim.TheVariants.{Range, Flood}
use Rattle.zpl_arrays.specs.of_zpl_region.declared.regions.Region.{Region}
use Rattle.zpl_arrays.specs.of_zpl_region.Region.{components, outside_of}
use Rattle.zpl_arrays.specs.Border.{dim_border_source}
use Rattle.grid_layout.specs.declared.blocks.Blocks.{Blocks}
use Rattle.grid_layout.specs.Layout.{Arrangement, laid_out, own_first, own_last}
use Rattle.grid_layout.specs.Piece.{owned_part, part}

-- from where to where a target lies whose source lies from first to last. What a wrap takes from
-- one side it brings back by the wrap of the other side; a mirror image is its own, and turns the
-- order round
abbrev pub target_bounds : Border → ℤ → Dim → ℤ → ℤ → ℤ × ℤ
target_bounds Wrap d dim first last = (dim_border_source Wrap (neg_ℤ d) dim first, dim_border_source Wrap (neg_ℤ d) dim last)
target_bounds Reflect d dim first last =
    if int_eq d (pos 0) then (first, last) else (dim_border_source Reflect d dim last, dim_border_source Reflect d dim first)

-- of a receiver's targets, those whose sources lie in an owner's block, from first to last: a range
-- of them. Where nothing moves, as in a flood dimension, they are the targets that the owner itself
-- has
abbrev pub dim_border_piece : Border → ℤ → Dim → ℤ → ℤ → Dim → Dim → Dim
dim_border_piece kind d Flood first last own still = still
dim_border_piece kind d (Range lo hi step align) first last own still =
    let bounds = target_bounds kind d (Range lo hi step align) first last in part bounds.0 bounds.1 own

abbrev pub each_border_piece : Border → List ℤ → List Dim → List ℤ → List ℤ → List Dim → List Dim → List Dim
each_border_piece kind (d ∷ v) (dim ∷ dims) (first ∷ firsts) (last ∷ lasts) (own ∷ owns) (still ∷ stills) =
    dim_border_piece kind d dim first last own still ∷ each_border_piece kind v dims firsts lasts owns stills
each_border_piece _ _ _ _ _ _ _ = []

-- the indices that a receiver sets: the part of `d of R` in its own block
abbrev pub border_targets : Blocks → Region → List ℤ → ℕ → Region
border_targets blocks r d to = owned_part blocks to to (outside_of d r)

-- and those of them whose source an owner has
abbrev pub border_piece_in : Blocks → Border → Region → List ℤ → ℕ → ℕ → Region
border_piece_in blocks kind r d from to =
    let own = border_targets blocks r d to in
    record {
      rank = r.rank;
      dims = each_border_piece kind (components r.rank d) r.dims (own_first blocks r.rank from) (own_last blocks r.rank from) own.dims (owned_part blocks from to own).dims;
    }

abbrev pub border_piece_of : Arrangement → Border → Region → List ℤ → ℕ → ℕ → Region
border_piece_of a kind r d from to = border_piece_in (laid_out a) kind r d from to
