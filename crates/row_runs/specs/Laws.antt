-- The laws of bounded runs.
use Rattle.std.specs.Prelude.{◌≡◌, ℕ, suc, ◌+◌, ◌≤◌, List}
use Rattle.std.specs.Prelude.{Bool, true, false, length}
use Rattle.zpl_nums.specs.declared.ends.End.TheVariants.{Done, More}
use Rattle.row_runs.specs.Run.{Ends, Result, Step, Effect, stopped, walked, runs}
use Rattle.row_runs.specs.Growth.{GoesOnTo, stops_itself}
use Rattle.row_runs.specs.Straight.{Every, IsStraight, Tied, IsRewriting, through, flowed}
use Rattle.row_runs.specs.Straight.{rewritten}
use Rattle.row_runs.specs.Segments.{Keeps, Segment, IsStart, AllAlike, olds, news}
use Rattle.row_runs.specs.Rows.{AreLikeRows}
use Rattle.row_runs.specs.Cut.{Stretch, IsRewritten, cut, passed, segments_of, moved_by}
use Rattle.row_runs.specs.Code.{CodeRow, Decision, code_act}
use Rattle.row_runs.specs.Structured.{Piece, Wants, StandsAt, doing, size, flattened}
use Rattle.row_runs.specs.Structured.{left_before, shown_by, TurnsOn}

-- a run that may make more jumps goes on from a shorter one, also where its rows go further
abbrev pub Grow : {S Row : Type 0} → (act act' : Row → S → Effect S) → Type 0
Grow {S = S} {Row = Row} act act' =
    (code : List Row) (less more : ℕ) → less ≤ more → (at : ℕ) (state : S)
    → GoesOnTo (runs act code less at state) (runs act' code more at state)

-- A run that stops by itself is the same however many more jumps it may make, and one that doesn't
-- wanted more jumps.
abbrev pub StopForGood : {S Row : Type 0} → (Row → S → Effect S) → Type 0
StopForGood {S = S} {Row = Row} act =
    (code : List Row) (less more : ℕ) → less ≤ more → (at : ℕ) (state : S)
    → stops_itself act code less at state ≡ true
    → runs act code less at state ≡ runs act code more at state

abbrev pub WantElse : {S Row : Type 0} → (Row → S → Effect S) → Type 0
WantElse {S = S} {Row = Row} act =
    (code : List Row) (left at : ℕ) (state : S)
    → stops_itself act code left at state ≡ false
    → (runs act code left at state).stop ≡ Ends More

-- what is kept is kept by two passes one after the other
abbrev pub KeepsThrough : Type 0
KeepsThrough = (a b c : Result) → Keeps a b → Keeps b c → Keeps a c

-- straight rows are run as one flow
abbrev pub FlowOn : {S Row : Type 0} → (Row → S → Effect S) → Type 0
FlowOn {S = S} {Row = Row} act =
    (leap : ℕ → S → Result) (rest : S → Result) (at : ℕ) (rows : List Row) (state : S)
    → Every (IsStraight act) rows
    → walked act leap rest at rows state ≡ flowed (through act rows state) rest

module _ {S T Old New : Type 0} (act : Old → S → Effect S) (act' : New → T → Effect T)
    (IsLike : S → T → Type 0) where
  -- Code whose segments are alike keeps its runs: from each place where a segment starts, and for
  -- every number of jumps.
  abbrev pub KeepRuns : Type 0
  KeepRuns =
      (segments : List (Segment Old New)) → AllAlike act act' IsLike (IsStart segments) segments 0 0
      → (left g h : ℕ) (s : S) (t : T) → IsStart segments g h → IsLike s t
      → Keeps (runs act (olds segments) left g s) (runs act' (news segments) left h t)

  -- Code of as many rows, each of which does alike, keeps its runs from each row on.
  abbrev pub RowsKeepRuns : Type 0
  RowsKeepRuns =
      (olds : List Old) (news : List New) → AreLikeRows act act' IsLike olds news
      → (left at : ℕ) (s : S) (t : T) → IsLike s t
      → Keeps (runs act olds left at s) (runs act' news left at t)

  -- So does code that is cut into stretches, each of which is rewritten.
  abbrev pub PassesKeepRuns : Type 0
  PassesKeepRuns =
      (rewrite : List Old → List New) (retarget : (ℕ → ℕ) → Old → New) (ends : Old → Bool)
      (is_goal : ℕ → Bool) (code : List Old)
      → (let stretches : List (Stretch Old) = cut ends is_goal 0 code in
      Every (IsRewritten act act' IsLike rewrite retarget (moved_by rewrite retarget stretches)
      (IsStart (segments_of rewrite retarget stretches))) stretches
      → (left : ℕ) (s : S) (t : T) → IsLike s t
      → Keeps (runs act code left 0 s) (runs act' (passed rewrite retarget stretches) left 0 t))

  -- Straight rows that are rewritten one by one, by what is known in front of each, are tied.
  abbrev pub RewrittenAreTied : {F : Type 0} → (F → S → T → Type 0) → Type 0
  RewrittenAreTied {F = F} Knows =
      (rewrite : F → Old → List New) (learn : F → Old → F) (facts : F) (rows : List Old)
      (s : S) (t : T) → Every (IsRewriting act act' rewrite learn IsLike Knows) rows
      → Knows facts s t → IsLike s t
      → Tied IsLike (through act rows s) (through act' (rewritten rewrite learn facts rows) t)

-- A goal of the old code, or its end, is a place where a segment starts, and the new code's goal is
-- where it does there.
abbrev pub GoalsAreStarts : (Old New : Type 0) → Type 0
GoalsAreStarts Old New =
    (rewrite : List Old → List New) (retarget : (ℕ → ℕ) → Old → New) (ends : Old → Bool)
    (is_goal : ℕ → Bool) (code : List Old) (g : ℕ) → is_goal g ≡ true → g ≤ length code
    → (let stretches : List (Stretch Old) = cut ends is_goal 0 code in
    IsStart (segments_of rewrite retarget stretches) g (moved_by rewrite retarget stretches g))

module _ {R T S : Type 0} (step : R → S → Step S) (decide : T → S → Decision) where
  -- Where a piece stands in code, the run does what the piece does and goes on behind it: for
  -- every number of jumps that are left there, one more each time for the next.
  abbrev pub Follow : Type 0
  Follow =
      (code : List (CodeRow R T)) (n : ℕ) (piece : Piece R T) (at : ℕ)
      → StandsAt code at (flattened at piece) → (state : S) (left : ℕ)
      → (let course = doing step decide n piece state in
      runs (code_act step decide) code (suc (left_before course.close course.jumps left)) at state
      ≡ shown_by course
      (λ after. runs (code_act step decide) code (suc left) (at + size piece) after))

  -- So does the run of a whole program.
  abbrev pub FollowWhole : Type 0
  FollowWhole =
      (n : ℕ) (piece : Piece R T) (state : S) (left : ℕ)
      → (let course = doing step decide n piece state in
      runs (code_act step decide) (flattened 0 piece)
      (suc (left_before course.close course.jumps left)) 0 state
      ≡ shown_by course (λ _. stopped (Ends Done)))

  -- a piece that wants a turn beyond the n that a loop may make has made as many jumps
  abbrev pub WantBehindTurns : Type 0
  WantBehindTurns =
      (n : ℕ) (piece : Piece R T) (state : S) → (doing step decide n piece state).close ≡ Wants
      → n ≤ (doing step decide n piece state).jumps

  -- where loops may make more turns, code goes on
  abbrev pub GrowByTurns : Type 0
  GrowByTurns =
      (fewer more : ℕ) → fewer ≤ more → (piece : Piece R T) (state : S)
      → TurnsOn (doing step decide fewer piece state) (doing step decide more piece state)
