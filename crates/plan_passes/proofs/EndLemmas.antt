-- Code with the end behind it, cut into stretches and rewritten.
use Rattle.std.proofs.Common.{◌≡◌, sym, ◌∙◌, ap, ℕ, ◌+◌, Bool, true, false}
use Rattle.std.proofs.Common.{List, [], ◌∷◌, ◌++◌, append_assoc, append-nil}
use Rattle.std.specs.Prelude.{Some, None}
use Rattle.std.specs.List.{AllByRecursion}
use Rattle.row_runs.specs.Cut.{Stretch, cut, cut_row, joined_to, rewritten_by, segments_by}
use Rattle.row_runs.specs.Segments.{news}
use Rattle.node_form.specs.declared.instructions.Instr.{Instr}
use Rattle.node_form.specs.declared.instructions.Instr.TheVariants as instr
use Rattle.code_parts.specs.Stretch.{ends_stretch}

-- stretches, and the same with the end behind all rows
pub data Ended : List (Stretch Instr) → List (Stretch Instr) → Type 0 where
  EndAlone : Ended [] (record { front = []; last = Some instr.End } ∷ [])
  EndClosing : {front : List Instr}
      → Ended (record { front = front; last = None } ∷ [])
      (record { front = front; last = Some instr.End } ∷ [])
  EndLater : {stretch : Stretch Instr} {some others : List (Stretch Instr)} → Ended some others
      → Ended (stretch ∷ some) (stretch ∷ others)

joined_ended : (row : Instr) (some others : List (Stretch Instr)) → Ended some others
    → Ended (joined_to row some) (joined_to row others)
joined_ended row some others EndAlone = EndClosing
joined_ended row some others EndClosing = EndClosing
joined_ended row some others (EndLater more) = EndLater more

module _ (is_goal : ℕ → Bool) where
  pub cut_ended : (at : ℕ) (rows : List Instr)
      → Ended (cut ends_stretch is_goal at rows)
      (cut ends_stretch is_goal at (rows ++ instr.End ∷ []))
  cut_ended at [] = EndAlone
  cut_ended at (row ∷ rows) =
      by (ends_stretch row) (is_goal (at + 1)) _ _ (cut_ended (at + 1) rows)
    where
      by : (e g : Bool) (some others : List (Stretch Instr)) → Ended some others
          → Ended (cut_row e g row some) (cut_row e g row others)
      by true g some others ended = EndLater ended
      by false true some others ended = EndLater ended
      by false false some others ended = joined_ended row some others ended

-- what holds of all fronts
pub fronts_ended : (P : List Instr → Type 0) → P [] → (some others : List (Stretch Instr))
    → Ended some others → AllByRecursion (λ stretch. P stretch.front) some
    → AllByRecursion (λ stretch. P stretch.front) others
fronts_ended P none some others EndAlone all = (none, tt)
fronts_ended P none some others EndClosing all = all
fronts_ended P none some others (EndLater {some = s} {others = o} more) all =
    (all.0, fronts_ended P none s o more all.1)

-- ---- the rows of a pass
module _ {New : Type 0} (rewrite : List Instr → List New) (retarget : (ℕ → ℕ) → Instr → New)
    (moved : ℕ → ℕ) (end : New) (none : rewrite [] ≡ []) (is_end : retarget moved instr.End ≡ end)
  where
    pub news_ended : (some others : List (Stretch Instr)) → Ended some others
        → news (segments_by rewrite retarget moved others)
        ≡ news (segments_by rewrite retarget moved some) ++ end ∷ []
    news_ended some others EndAlone =
        ap (λ r. (r ++ retarget moved instr.End ∷ []) ++ []) none ∙ ap (λ e. e ∷ []) is_end
    news_ended some others (EndClosing {front = front}) =
        append-nil (rewrite front ++ retarget moved instr.End ∷ [])
        ∙ (ap (λ e. rewrite front ++ e ∷ []) is_end
        ∙ ap (λ r. r ++ end ∷ [])
        (sym (append-nil (rewrite front ++ []) ∙ append-nil (rewrite front))))
    news_ended some others (EndLater {stretch = stretch} {some = s} {others = o} more) =
        let first : List New = (rewritten_by rewrite retarget moved stretch).new in
        ap (λ r. first ++ r) (news_ended s o more)
        ∙ sym (append_assoc first (news (segments_by rewrite retarget moved s)) (end ∷ []))
