-- What reading does to the list that it fills, from `old` to `new`, and to the bytes that a reader
-- has left, where these are known.
use Rattle.std.specs.Prelude.{◌≡◌, List, ◌++◌, ℕ, Option}
use Rattle.std.specs.Io.KnownBytes.{Consumes}

-- the list gained the bytes that the reader lost
pub record GainsRead (before after : Option (List ℕ)) (old new : List ℕ) : Type 0 where
  pub bytes : List ℕ
  pub gained : new ≡ old ++ bytes
  pub lost : Consumes before after bytes
