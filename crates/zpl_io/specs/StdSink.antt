-- What writing does to the bytes that a writer holds, where these are known.
use Rattle.std.specs.Prelude.{List, ℕ, Bool, Option}
use Rattle.std.specs.Io.KnownBytes.{Appends}
use Rattle.zpl_lists.specs.Front.{IsFrontOf}

-- a writer, how many puts failed, and whether the last one did
pub record Stream (W : Type 0) : Type 0 where
  pub writer : W
  pub faults : ℕ
  pub has_failed : Bool

-- the writer gained some front of the piece
pub record WritesFront (before after : Option (List ℕ)) (piece : List ℕ) : Type 0 where
  pub front : List ℕ
  pub is_front : IsFrontOf front piece
  pub gained : Appends before after front
