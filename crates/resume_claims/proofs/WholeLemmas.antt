-- A call of `resume` that has all that it needs has gone on from the saved grid under the order.
use Rattle.std.proofs.Common.{◌≡◌, ◌≢◌, ℕ, List, [], Option, Some, None, Ok, codes, refl, sym, ◌∙◌, ap, subst}
use Rattle.node_form.specs.declared.tables.Tables.{Tables}
use Rattle.grid_meaning.specs.Grid.{Grid, processors}
use Rattle.grid_order.specs.Reading.{reading}
use Rattle.saved_runs.specs.of_grid_save.Saved.{IsSaved}
use Rattle.exec_claims.specs.of_call_claims.Call.{Call}
use Rattle.exec_claims.specs.of_call_claims.Command.{Asked, IsResume, ResumeTakes}
use Rattle.exec_claims.specs.of_call_claims.Decided.{IsSettled}
use Rattle.exec_claims.specs.of_call_claims.Execution.{Execution}
use Rattle.call_claims.proofs.OneLemmas.{of_given}
use Rattle.exec_claims.specs.Cause.TextCause.{unreadable as no_text, too_long as long_text, work as of_text}
use Rattle.exec_claims.specs.Decided.{IsOrderText}
use Rattle.exec_claims.proofs.OneCause.{not_long, read_one, same_order}
use Rattle.resume_claims.specs.Cause.{Cause, GridCause, GridFileCause, Onward, OnwardCause, ResumeCause, SavedCause, onward_run}
use Rattle.resume_claims.specs.Cause.GridCause.{bad_item, ran}
use Rattle.resume_claims.specs.Cause.SavedCause.{refused, saved}
use Rattle.resume_claims.specs.Cause.ResumeCause.{unreadable, too_long, work}
use Rattle.resume_claims.specs.Cause.Cause.{no_memory, resume}
use Rattle.resume_claims.specs.Whole.{CanResume, HasResumed}
use Rattle.resume_claims.proofs.ExactLemmas.{is_short, texts_are}
use Rattle.resume_claims.proofs.OnwardLemmas.{IsOneGrid}

-- ---- the order
module _ (call : Call) (code : Tables) (grid : Grid) (asked : Asked) (turns : ℕ) (order : List ℕ) where
  -- the run went on under this order
  under_text : (text : List ℕ) {n : ℕ} {told : List ℕ} → reading (processors code) text ≡ Ok order
      → GridCause code grid asked turns text n told
      → Onward (onward_run code grid asked order) turns (λ run k. OnwardCause run asked.report k n told)
  under_text text read (bad_item at e z) = absurd (read_one at order e read)
  under_text text {n = n} {told = told} read (ran other e on) =
      subst (λ o. Onward (onward_run code grid asked o) turns (λ run k. OnwardCause run asked.report k n told))
      (same_order _ other order e read) on

  -- which is what the text of its file stands for
  under_order : (file : Option (List ℕ)) (text : List ℕ) {n : ℕ} {told : List ℕ} → IsSettled call n
      → IsOrderText call file text → reading (processors code) text ≡ Ok order
      → GridFileCause call code grid asked turns file n told
      → Onward (onward_run code grid asked order) turns (λ run k. OnwardCause run asked.report k n told)
  under_order None text settled is read c =
      under_text [] (subst (λ t. reading (processors code) t ≡ Ok order) is read) c
  under_order (Some file) text settled is read (no_text may ends) = absurd (settled.read refl)
  under_order (Some file) text settled is read (long_text long ends) =
      absurd (not_long call file (settled.one file) long is.0)
  under_order (Some file) text settled is read (of_text source w) =
      under_text source.text (subst (λ t. reading (processors code) t ≡ Ok order)
      (sym is.1 ∙ settled.one file is.0.text source.text is.0.told source.told) read) w

-- ---- any call
module _ (one : IsOneGrid) (call : Call) (ex : Execution) (file : List ℕ) (asked : Asked)
    (can : CanResume call file asked) where
  of_file : {n : ℕ} {told : List ℕ} → IsSettled call n → ResumeCause call file asked ex n told
      → HasResumed can ex n told
  of_file settled (unreadable may none) = absurd (settled.read refl)
  of_file {n = n} settled (too_long long none) = absurd (is_short call n settled file long can.source)
  of_file {n = n} settled (work source (refused why is none)) =
      absurd (is.none can.code can.grid (subst (λ t. IsSaved t can.code can.grid)
      (texts_are call n settled file can.source source) can.saved))
  of_file {n = n} {told = told} settled (work source (saved code grid is made c)) =
      let same = one can.source.text code can.code grid can.grid
      (subst (λ t. IsSaved t code grid) (texts_are call n settled file source can.source) is) can.saved in
      record {
        made = made ∙ ap (λ (t : Tables). Some t) same.0;
        onward = under_order call can.code can.grid asked ex.turns can.order asked.order can.order_text settled can.told
            can.read (subst (λ (t : Tables). GridFileCause call t can.grid asked ex.turns asked.order n told) same.0
            (subst (λ (g : Grid). GridFileCause call code g asked ex.turns asked.order n told) same.1 c));
      }

  pub whole : {n : ℕ} {told : List ℕ} → IsSettled call n → IsResume call.words file asked
      → Cause call ex n told → HasResumed can ex n told
  whole settled given no_memory = absurd (settled.decided.memory refl)
  whole settled given (resume is) =
      of_file settled (of_given (codes "resume") ResumeTakes call.words file asked given is)
