-- Straight rows: those that only go on, or stop the run.
use Rattle.std.specs.Prelude.{ℕ, List, [], ◌∷◌, ◌++◌, ⊤}
use Rattle.row_runs.specs.Run.{Stop, Wrong, Result, Step, Goes, Stops, Effect, Does, Leaps}
use Rattle.row_runs.specs.Run.{Passes, printed}

abbrev pub Every : {X : Type 0} → (X → Type 0) → List X → Type 0
Every P [] = ⊤
Every P (x ∷ xs) = P x × Every P xs

-- what straight rows come to: a state behind them, or a stop, each with the bytes printed
pub data Flow (S : Type 0) : Type 0 where
  OnTo : (bytes : List ℕ) (state : S) → Flow S
  Halts : (bytes : List ℕ) (stop : Stop) → Flow S

abbrev pub flow_behind : {S : Type 0} → List ℕ → Flow S → Flow S
flow_behind bytes (OnTo more state) = OnTo (bytes ++ more) state
flow_behind bytes (Halts more stop) = Halts (bytes ++ more) stop

abbrev pub flow_then : {S : Type 0} → Flow S → (S → Flow S) → Flow S
flow_then (OnTo bytes state) next = flow_behind bytes (next state)
flow_then (Halts bytes stop) next = Halts bytes stop

abbrev pub flow_of : {S : Type 0} → Step S → (S → Flow S) → Flow S
flow_of (Goes bytes next) rest = flow_behind bytes (rest next)
flow_of (Stops stop) rest = Halts [] stop

-- a row that leaps or passes isn't straight
abbrev pub flow_step : {S : Type 0} → Effect S → (S → Flow S) → Flow S
flow_step (Does step) rest = flow_of step rest
flow_step (Leaps goal) rest = Halts [] Wrong
flow_step Passes rest = Halts [] Wrong

abbrev pub through : {S Row : Type 0} → (Row → S → Effect S) → List Row → S → Flow S
through act [] state = OnTo [] state
through act (row ∷ rows) state = flow_step (act row state) (λ next. through act rows next)

-- a flow, and what is run behind it
abbrev pub flowed : {S : Type 0} → Flow S → (S → Result) → Result
flowed (OnTo bytes state) rest = printed bytes (rest state)
flowed (Halts bytes stop) rest = record { bytes = bytes; stop = stop }

pub data IsStep {S : Type 0} : Effect S → Type 0 where
  Stepping : {step : Step S} → IsStep (Does step)

pub record IsStraight {S Row : Type 0} (act : Row → S → Effect S) (row : Row) : Type 0 where
  pub straight : (s : S) → IsStep (act row s)

-- the second flow is the first, up to like states, unless the first is wrong
pub data Tied {S T : Type 0} (IsLike : S → T → Type 0) : Flow S → Flow T → Type 0 where
  TiedWrong : {bytes : List ℕ} {flow : Flow T} → Tied IsLike (Halts bytes Wrong) flow
  TiedOn : {bytes : List ℕ} {s : S} {t : T} → IsLike s t → Tied IsLike (OnTo bytes s) (OnTo bytes t)
  TiedHalt : {bytes : List ℕ} {stop : Stop} → Tied IsLike (Halts bytes stop) (Halts bytes stop)

-- ---- rows rewritten one by one, by what is known in front of each
module _ {F Old New : Type 0} (rewrite : F → Old → List New) (learn : F → Old → F) where
  abbrev pub rewritten : F → List Old → List New
  rewritten facts [] = []
  rewritten facts (row ∷ rows) = rewrite facts row ++ rewritten (learn facts row) rows

-- What a rewriting owes of a row: from like states, of which the facts hold, the new rows are tied
-- to the old one, and the facts that are learnt hold behind them.
module _ {S T Old New F : Type 0} (act : Old → S → Effect S) (act' : New → T → Effect T)
    (rewrite : F → Old → List New) (learn : F → Old → F) (IsLike : S → T → Type 0)
    (Knows : F → S → T → Type 0) where
  pub record IsRewriting (row : Old) : Type 0 where
    pub ties : (facts : F) (s : S) (t : T) → Knows facts s t → IsLike s t
        → Tied (λ s t. IsLike s t × Knows (learn facts row) s t)
        (flow_step (act row s) (λ s. OnTo [] s)) (through act' (rewrite facts row) t)
