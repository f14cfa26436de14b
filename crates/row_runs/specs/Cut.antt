-- A program cut into stretches, and a pass that rewrites each.
use Rattle.std.specs.Prelude.{◌≡◌, ℕ, zero, suc, ◌+◌, ◌-◌, Bool, true, false, Option, Some, None}
use Rattle.std.specs.Prelude.{List, [], ◌∷◌, ◌++◌, length}
use Rattle.std.specs.Option.{option_map}
use Rattle.row_runs.specs.Run.{Stop, Wrong, Stops, Effect, Does, Leaps, Passes}
use Rattle.row_runs.specs.Straight.{Every, IsStraight, Tied, through}
use Rattle.row_runs.specs.Segments.{Segment, news}

-- straight rows, and the row that ends them, if it isn't a goal behind them that does
pub record Stretch (Row : Type 0) : Type 0 where
  pub front : List Row
  pub last : Option Row

abbrev pub as_list : {X : Type 0} → Option X → List X
as_list None = []
as_list (Some x) = x ∷ []

abbrev pub rows_of : {Row : Type 0} → Stretch Row → List Row
rows_of stretch = stretch.front ++ as_list stretch.last

abbrev pub all_rows : {Row : Type 0} → List (Stretch Row) → List Row
all_rows [] = []
all_rows (stretch ∷ stretches) = rows_of stretch ++ all_rows stretches

abbrev pub joined_to : {Row : Type 0} → Row → List (Stretch Row) → List (Stretch Row)
joined_to row [] = record { front = row ∷ []; last = None } ∷ []
joined_to row (stretch ∷ stretches) =
    record { front = row ∷ stretch.front; last = stretch.last } ∷ stretches

-- a row: whether it ends a stretch, and whether the next one is a goal
abbrev pub cut_row : {Row : Type 0} → Bool → Bool → Row → List (Stretch Row) → List (Stretch Row)
cut_row true goal row rest = record { front = []; last = Some row } ∷ rest
cut_row false true row rest = record { front = row ∷ []; last = None } ∷ rest
cut_row false false row rest = joined_to row rest

abbrev pub cut : {Row : Type 0} → (Row → Bool) → (ℕ → Bool) → ℕ → List Row → List (Stretch Row)
cut ends is_goal at [] = []
cut ends is_goal at (row ∷ rows) =
    cut_row (ends row) (is_goal (at + 1)) row (cut ends is_goal (at + 1) rows)

-- the number where a segment starts, in the new rows
abbrev pub relocated : {Old New : Type 0} → List (Segment Old New) → ℕ → ℕ
relocated [] g = 0
relocated (segment ∷ segments) zero = 0
relocated (segment ∷ segments) (suc g) =
    length segment.new + relocated segments (suc g - length segment.old)

module _ {Old New : Type 0} (rewrite : List Old → List New) (retarget : (ℕ → ℕ) → Old → New) where
  -- a stretch with its front rewritten, and the goals of its last row moved
  abbrev pub rewritten_by : (ℕ → ℕ) → Stretch Old → Segment Old New
  rewritten_by moved stretch = record {
    old = rows_of stretch;
    new = rewrite stretch.front ++ as_list (option_map (retarget moved) stretch.last);
  }

  abbrev pub segments_by : (ℕ → ℕ) → List (Stretch Old) → List (Segment Old New)
  segments_by moved [] = []
  segments_by moved (stretch ∷ stretches) =
      rewritten_by moved stretch ∷ segments_by moved stretches

  -- where rows come to stand goes by lengths alone
  abbrev pub moved_by : List (Stretch Old) → ℕ → ℕ
  moved_by stretches = relocated (segments_by (λ g. g) stretches)

  -- the stretches with their goals moved, and the rows of the pass
  abbrev pub segments_of : List (Stretch Old) → List (Segment Old New)
  segments_of stretches = segments_by (moved_by stretches) stretches

  abbrev pub passed : List (Stretch Old) → List New
  passed stretches = news (segments_of stretches)

-- ---- what a pass owes of a stretch
module _ {S T : Type 0} (IsGoal : ℕ → ℕ → Type 0) (at at' : ℕ) where
  -- the rows that end a stretch, with these numbers, do alike, unless the old one is wrong
  pub data LastAlike : Effect S → Effect T → Type 0 where
    BothLeap : {g h : ℕ} → IsGoal g h → LastAlike (Leaps g) (Leaps h)
    BothPass : IsGoal (at + 1) (at' + 1) → LastAlike Passes Passes
    BothStop : {stop : Stop} → LastAlike (Does (Stops stop)) (Does (Stops stop))
    LastWrong : {effect : Effect T} → LastAlike (Does (Stops Wrong)) effect

module _ {S T Old New : Type 0} (act : Old → S → Effect S) (act' : New → T → Effect T)
    (IsLike : S → T → Type 0) (rewrite : List Old → List New) (retarget : (ℕ → ℕ) → Old → New) where
  pub record IsRewritten (moved : ℕ → ℕ) (IsGoal : ℕ → ℕ → Type 0) (stretch : Stretch Old)
      : Type 0 where
    pub old : Every (IsStraight act) stretch.front
    pub new : Every (IsStraight act') (rewrite stretch.front)
    pub ties : (s : S) (t : T) → IsLike s t
        → Tied IsLike (through act stretch.front s) (through act' (rewrite stretch.front) t)
    pub last : (row : Old) → stretch.last ≡ Some row → (at at' : ℕ) → IsGoal (at + 1) (at' + 1)
        → (s : S) (t : T) → IsLike s t
        → LastAlike IsGoal at at' (act row s) (act' (retarget moved row) t)
