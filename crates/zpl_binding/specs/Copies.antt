-- The copies of arrays from which reads that wrap round are made.
use Rattle.std.specs.Prelude.{◌≡◌, ℕ, List, map, Contains}
use Rattle.zpl_arrays.specs.of_zpl_region.declared.regions.Region.{Region}
use Rattle.zpl_arrays.specs.Around.{copy_storage}
use Rattle.zpl_tree.specs.Syntax.{Dir, Program}
use Rattle.zpl_names.specs.Expansion.{expanded_copies}
use Rattle.zpl_binding.specs.Outcome.{RegionLimit, Outcome, Fails, and_then}
use Rattle.zpl_binding.specs.Vectors.{dir_of}
use Rattle.zpl_binding.specs.Regions.{Known, limited}
use Rattle.zpl_binding.specs.Storages.{home_at}
use Rattle.zpl_binding.specs.Formals.{AroundRead, around_reads, IsListed, IsReadAround, Standing}

-- the storage of the copy, for a home box
abbrev pub copy_over : Known → Outcome Region → Dir → Outcome Region
copy_over known home shift =
    and_then home (λ box.
    and_then (dir_of known.values known.directions shift) (λ vector.
    limited (copy_storage box vector)))

-- that of a read of the array whose name stands at an offset
abbrev pub copy_of : Program → Known → ℕ → Dir → Outcome Region
copy_of program known variable shift =
    copy_over known (home_at program known variable) shift

-- the storages of the copies that the expanded program has, one for each occurrence of `A@^d`
abbrev pub copies_of : Program → Known → List (Outcome Region)
copies_of program known =
    map (λ read. copy_of program known read.array.storage read.shift) (expanded_copies program)

-- The storage of a copy passes the limit. What a parameter stands for is a set: there is such a
-- copy where some procedure that is called reads so a name that may stand for the array.
pub record HasCopyPastLimit (program : Program) (known : Known) : Type 0 where
  pub variable : ℕ
  pub shift : Dir
  pub read : IsReadAround program variable shift
  pub past : copy_of program known variable shift ≡ Fails RegionLimit

-- What lists of procedures and of what their parameters stand for tell of copies: none is past the
-- limit.
abbrev pub HasCopiesWithin : Program → Known → List (List ℕ) → List Standing → Type 0
HasCopiesWithin program known called standings =
    (text : List ℕ) (read : AroundRead) (variable : ℕ) → Contains called text →
    Contains (around_reads program text) read →
    IsListed program standings text read.array variable →
    ¬ (copy_of program known variable read.shift ≡ Fails RegionLimit)
