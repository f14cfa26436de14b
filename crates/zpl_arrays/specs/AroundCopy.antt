-- What the copy holds from which a read that wraps round is made by an ordinary shift.
use Rattle.std.specs.Prelude.{ℤ, List}
use Rattle.zpl_region.specs.declared.regions.Region.{Region}
use Rattle.zpl_arrays.specs.Around.{around_source, copy_storage, zeros}
use Rattle.zpl_arrays.specs.Array.{Array, array_of, element}

-- where a tuple of the copy has its value from: in the home box from itself, and outside it from
-- the tuple one extent away in each dimension that it is outside of. The home box is a box: its
-- ranges have steps of 1
abbrev pub copied_from : Region → List ℤ → List ℤ
copied_from home t = around_source home (zeros t) t

-- the copy for `A@^d`: A's values over its home box, and around it those that wrap round
abbrev pub around_copy : Region → List ℤ → Array → Array
around_copy home d a = array_of (copy_storage home d) (λ t. element a (copied_from home t))
