-- Programs rewritten row by row.
use Rattle.std.specs.Prelude.{List, [], ◌∷◌, ℕ}
use Rattle.row_runs.specs.Run.{Stop, Wrong, Goes, Stops, Effect, Does, Leaps, Passes}

-- the new row does as the old one, up to like states, unless the old one is wrong
pub data AreEffects {S T : Type 0} (IsLike : S → T → Type 0) : Effect S → Effect T → Type 0 where
  BothGo : {bytes : List ℕ} {s : S} {t : T} → IsLike s t
      → AreEffects IsLike (Does (Goes bytes s)) (Does (Goes bytes t))
  BothStop : {stop : Stop} → AreEffects IsLike (Does (Stops stop)) (Does (Stops stop))
  BothLeap : {goal : ℕ} → AreEffects IsLike (Leaps goal) (Leaps goal)
  BothPass : AreEffects IsLike Passes Passes
  OldWrong : {effect : Effect T} → AreEffects IsLike (Does (Stops Wrong)) effect

module _ {S T Old New : Type 0} (act : Old → S → Effect S) (act' : New → T → Effect T)
    (IsLike : S → T → Type 0) where
  pub record AreLike (old : Old) (new : New) : Type 0 where
    pub like : (s : S) (t : T) → IsLike s t → AreEffects IsLike (act old s) (act' new t)

  pub data AreLikeRows : List Old → List New → Type 0 where
    NoRows : AreLikeRows [] []
    MoreRows : {old : Old} {new : New} {olds : List Old} {news : List New} → AreLike old new
        → AreLikeRows olds news → AreLikeRows (old ∷ olds) (new ∷ news)
