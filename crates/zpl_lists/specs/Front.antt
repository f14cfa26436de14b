-- Fronts of lists.
use Rattle.std.specs.Prelude.{◌≡◌, List, ◌++◌}

-- the whole begins with the front, which may be empty or all of it
pub record IsFrontOf {X : Type 0} (front whole : List X) : Type 0 where
  pub rest : List X
  pub joins : whole ≡ front ++ rest
