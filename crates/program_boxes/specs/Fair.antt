-- Reads with a shift whose vectors are of the ranks of what they read.
use Rattle.std.specs.Prelude.{◌≡◌, ℕ, ℤ, pos, List, [], ◌∷◌, drop, length}
use Rattle.std.specs.List.{AllByRecursion}
use Rattle.zpl_tree.specs.Syntax.{Program}
use Rattle.zpl_names.specs.Expansion.{ShiftedRead}
use Rattle.zpl_binding.specs.Outcome.{Gives}
use Rattle.zpl_binding.specs.Regions.{Known}
use Rattle.zpl_binding.specs.Vectors.{dir_of}
use Rattle.zpl_meaning.specs.Regions.{vector_in}
use Rattle.stored_boxes.specs.Declared.{declared_home, declared_storage}

-- three components, which are 0 past a rank
abbrev pub HasRank : ℕ → List ℤ → Type 0
HasRank rank vector =
    (length vector ≡ 3) × AllByRecursion (λ part. part ≡ pos 0) (drop rank vector)

module _ (program : Program) (known : Known) where
  -- each vector has the rank of the array's storage
  abbrev pub AreFair : List ShiftedRead → Type 0
  AreFair [] = Unit {0}
  AreFair (read ∷ reads) =
      HasRank (declared_storage program known read.array.storage).rank (vector_in known read.shift)
      × AreFair reads

  -- that of a read that wraps round has the rank of the array's home box, which has three
  -- dimensions; and it was computed
  pub record IsFairCopy (read : ShiftedRead) : Type 0 where
    pub three : length (declared_home program known read.array.storage).dims ≡ 3
    pub vector : HasRank (declared_home program known read.array.storage).rank
        (vector_in known read.shift)
    pub given : dir_of known.values known.directions read.shift ≡
        Gives (vector_in known read.shift)

  abbrev pub AreFairCopies : List ShiftedRead → Type 0
  AreFairCopies [] = Unit {0}
  AreFairCopies (read ∷ reads) = IsFairCopy read × AreFairCopies reads
