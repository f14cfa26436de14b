-- What a pass over code owes of each stretch, so that runs are kept.
use Rattle.std.specs.Prelude.{◌≡◌, ℕ, ◌≤◌, Bool, true, false, List, length}
use Rattle.std.specs.List.{AllByRecursion}
use Rattle.flat_form.specs.of_row_runs.Run.{Stop, Wrong, Stops, Effect, Does, Leaps, Passes}
use Rattle.flat_form.specs.of_row_runs.Straight.{IsStraight, Tied, through}
use Rattle.flat_form.specs.of_node_form.declared.instructions.Instr.{Instr}
use Rattle.flat_form.specs.of_node_form.declared.instructions.Instr.TheVariants as instr
use Rattle.flat_form.specs.of_code_parts.Stretch.{ends_stretch, is_goal}
use Rattle.flat_passes.specs.Rewritten.{has_goal, with_moved_goal}

-- where a jump or a test may lead
abbrev pub goal_of : Instr → ℕ
goal_of (instr.Jump goal) = goal
goal_of (instr.Unless expr goal line) = goal
goal_of row = 0

-- the goals of all rows are rows of the code, or its end
abbrev pub GoalsWithin : List Instr → Type 0
GoalsWithin code =
    AllByRecursion (λ row. has_goal row ≡ true → goal_of row ≤ length code) code

module _ {S T : Type 0} where
  -- A row that ends a stretch does as the old one, and leads to where the old goal has come to
  -- stand, unless the old one is wrong.
  pub data EndsAlike (row : Instr) (moved : ℕ → ℕ) : Effect S → Effect T → Type 0 where
    BothLeap : has_goal row ≡ true
        → EndsAlike row moved (Leaps (goal_of row)) (Leaps (moved (goal_of row)))
    BothPass : EndsAlike row moved Passes Passes
    BothStop : {stop : Stop} → EndsAlike row moved (Does (Stops stop)) (Does (Stops stop))
    OldWrong : {effect : Effect T} → EndsAlike row moved (Does (Stops Wrong)) effect

module _ {S T : Type 0} (act : Instr → S → Effect S) (act' : Instr → T → Effect T)
    (IsLike : S → T → Type 0) where
  -- of old and new rows of any code
  pub record AreControlled : Type 0 where
    pub old : (row : Instr) → ends_stretch row ≡ false → IsStraight act row
    pub new : (row : Instr) → ends_stretch row ≡ false → IsStraight act' row
    pub ends : (row : Instr) → ends_stretch row ≡ true → (moved : ℕ → ℕ) (s : S) (t : T)
        → IsLike s t
        → EndsAlike row moved (act row s) (act' (with_moved_goal moved row) t)

  -- Of straight rows, each of which has a property: the new ones are straight, and from like
  -- states they do as the old ones, unless these are wrong.
  pub record KeepsFronts (Has : Instr → Type 0) (rewrite : List Instr → List Instr) : Type 0 where
    pub straight : (front : List Instr) → AllByRecursion Has front
        → AllByRecursion (λ row. ends_stretch row ≡ false) front
        → AllByRecursion (λ row. ends_stretch row ≡ false) (rewrite front)
    pub ties : (front : List Instr) → AllByRecursion Has front
        → AllByRecursion (λ row. ends_stretch row ≡ false) front → (s : S) (t : T) → IsLike s t
        → Tied IsLike (through act front s) (through act' (rewrite front) t)
