-- Programs rewritten segment by segment.
use Rattle.std.specs.Prelude.{◌≡◌, ℕ, ◌+◌, List, [], ◌∷◌, ◌++◌, length, ⊤}
use Rattle.row_runs.specs.Run.{Wrong, Result, Effect, walked}

-- the new result is the old one, unless the old one is wrong
pub data Keeps (old new : Result) : Type 0 where
  WasWrong : old.stop ≡ Wrong → Keeps old new
  Same : old ≡ new → Keeps old new

-- rows of which only the first is leapt or passed to, and those that take their place
pub record Segment (Old New : Type 0) : Type 0 where
  pub old : List Old
  pub new : List New

abbrev pub olds : {Old New : Type 0} → List (Segment Old New) → List Old
olds [] = []
olds (segment ∷ segments) = segment.old ++ olds segments

abbrev pub news : {Old New : Type 0} → List (Segment Old New) → List New
news [] = []
news (segment ∷ segments) = segment.new ++ news segments

-- a segment starts there, or the last one ends: its number in the old rows, and in the new ones
pub data IsStart {Old New : Type 0} : List (Segment Old New) → ℕ → ℕ → Type 0 where
  Here : {segments : List (Segment Old New)} → IsStart segments 0 0
  Behind : {segment : Segment Old New} {segments : List (Segment Old New)} {g h : ℕ}
      → IsStart segments g h
      → IsStart (segment ∷ segments) (length segment.old + g) (length segment.new + h)

module _ {S T Old New : Type 0} (act : Old → S → Effect S) (act' : New → T → Effect T)
    (IsLike : S → T → Type 0) (IsGoal : ℕ → ℕ → Type 0) where
  -- The new rows of a segment do as the old ones do, from like states to like states, whatever is
  -- behind them, where what is leapt or passed to does so.
  pub record AreAlike (segment : Segment Old New) (at at' : ℕ) : Type 0 where
    pub alike : (leap : ℕ → S → Result) (leap' : ℕ → T → Result)
        → (rest : S → Result) (rest' : T → Result) (s : S) (t : T)
        → ((g h : ℕ) (s : S) (t : T) → IsGoal g h → IsLike s t → Keeps (leap g s) (leap' h t))
        → ((s : S) (t : T) → IsLike s t → Keeps (rest s) (rest' t))
        → IsLike s t
        → Keeps (walked act leap rest at segment.old s) (walked act' leap' rest' at' segment.new t)

  abbrev pub AllAlike : List (Segment Old New) → ℕ → ℕ → Type 0
  AllAlike [] at at' = ⊤
  AllAlike (segment ∷ segments) at at' =
      AreAlike segment at at'
      × AllAlike segments (at + length segment.old) (at' + length segment.new)
