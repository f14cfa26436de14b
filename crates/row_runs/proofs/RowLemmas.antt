-- A program rewritten row by row runs alike.
use Rattle.std.proofs.Common.{refl, ap, ℕ, zero, suc, ◌+◌, List, drop, ◌∙◌}
use Rattle.zpl_nums.specs.declared.ends.End.TheVariants.{Done}
use Rattle.row_runs.specs.Run.{Ends, Result, Effect, stopped, went, walked, runs}
use Rattle.row_runs.specs.Segments.{Keeps, WasWrong, Same}
use Rattle.row_runs.specs.Rows.{AreEffects, BothGo, BothStop, BothLeap, BothPass, OldWrong}
use Rattle.row_runs.specs.Rows.{AreLikeRows, NoRows, MoreRows}
use Rattle.row_runs.specs.Laws.{RowsKeepRuns, KeepsThrough}
use Rattle.row_runs.proofs.StraightLemmas.{keeps_printed}

pub keeps_through : KeepsThrough
keeps_through a b c (WasWrong e) more = WasWrong e
keeps_through a b c (Same e) (WasWrong f) = WasWrong (ap (λ r. r.stop) e ∙ f)
keeps_through a b c (Same e) (Same f) = Same (e ∙ f)

module _ {S T Old New : Type 0} (act : Old → S → Effect S) (act' : New → T → Effect T)
    (IsLike : S → T → Type 0) where
  effect_keeps : (leap : ℕ → S → Result) (leap' : ℕ → T → Result) (at : ℕ) (s : S) (t : T)
      (e : Effect S) (f : Effect T) (rest : S → Result) (rest' : T → Result)
      → ((goal : ℕ) (s : S) (t : T) → IsLike s t → Keeps (leap goal s) (leap' goal t))
      → ((s : S) (t : T) → IsLike s t → Keeps (rest s) (rest' t)) → IsLike s t
      → AreEffects IsLike e f
      → Keeps (went leap at s e rest) (went leap' at t f rest')
  effect_keeps leap leap' at s t e f rest rest' leaps more like
      (BothGo {bytes = bytes} {s = p} {t = q} on) =
      keeps_printed bytes (rest p) (rest' q) (more p q on)
  effect_keeps leap leap' at s t e f rest rest' leaps more like BothStop = Same refl
  effect_keeps leap leap' at s t e f rest rest' leaps more like (BothLeap {goal = goal}) =
      leaps goal s t like
  effect_keeps leap leap' at s t e f rest rest' leaps more like BothPass = leaps (at + 1) s t like
  effect_keeps leap leap' at s t e f rest rest' leaps more like OldWrong = WasWrong refl

  walk_keeps : (leap : ℕ → S → Result) (leap' : ℕ → T → Result) (at : ℕ) (olds : List Old)
      (news : List New)
      → AreLikeRows act act' IsLike olds news
      → ((goal : ℕ) (s : S) (t : T) → IsLike s t → Keeps (leap goal s) (leap' goal t))
      → (s : S) (t : T) → IsLike s t
      → Keeps (walked act leap (λ _. stopped (Ends Done)) at olds s)
      (walked act' leap' (λ _. stopped (Ends Done)) at news t)
  walk_keeps leap leap' at olds news NoRows leaps s t like = Same refl
  walk_keeps leap leap' at olds news
      (MoreRows {old = old} {new = new} {olds = others} {news = others'} first more) leaps s t like
      =
      effect_keeps leap leap' at s t (act old s) (act' new t)
      (walked act leap (λ _. stopped (Ends Done)) (at + 1) others)
      (walked act' leap' (λ _. stopped (Ends Done)) (at + 1) others') leaps
      (walk_keeps leap leap' (at + 1) others others' more leaps) like (first.like s t like)

  like_from : (at : ℕ) (olds : List Old) (news : List New) → AreLikeRows act act' IsLike olds news
      → AreLikeRows act act' IsLike (drop at olds) (drop at news)
  like_from zero olds news are = are
  like_from (suc at) olds news NoRows = NoRows
  like_from (suc at) olds news (MoreRows {olds = others} {news = others'} first more) =
      like_from at others others' more

  pub rows_keep_runs : RowsKeepRuns act act' IsLike
  rows_keep_runs olds news are zero at s t like = Same refl
  rows_keep_runs olds news are (suc left) at s t like =
      walk_keeps (runs act olds left) (runs act' news left) at (drop at olds) (drop at news)
      (like_from at olds news are)
      (λ goal s t like. rows_keep_runs olds news are left goal s t like) s t like
