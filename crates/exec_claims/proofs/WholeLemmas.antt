-- A call of `exec` that has all that it needs has run the listed code under the order.
use Rattle.std.proofs.Common.{◌≡◌, ℕ, List, [], Option, Some, None, Ok, codes, refl, sym, ◌∙◌, ap, subst}
use Rattle.node_form.specs.declared.tables.Tables.{Tables}
use Rattle.grid_meaning.specs.Grid.{processors}
use Rattle.grid_order.specs.Reading.{reading}
use Rattle.listing_lines.specs.Listing.{IsBadLine}
use Rattle.node_text.specs.Listing.{IsBadTable, IsListing}
use Rattle.call_claims.specs.Call.{Call}
use Rattle.call_claims.specs.Command.{Asked, ExecTakes, IsExec}
use Rattle.call_claims.specs.Decided.{IsSettled}
use Rattle.call_claims.specs.Execution.{Execution}
use Rattle.call_claims.proofs.OneLemmas.{of_given}
use Rattle.grid_runs.specs.Run.{GoesOnTo}
use Rattle.exec_claims.specs.Cause.{Cause, CodeCause, ListingCause, ListingFileCause, OrderCause, OrderFileCause, RunCause, run_of}
use Rattle.exec_claims.specs.Cause.OrderCause.{bad_item, ran}
use Rattle.exec_claims.specs.Cause.TextCause.{unreadable, too_long, work}
use Rattle.exec_claims.specs.Cause.CodeCause.{fails, passes}
use Rattle.exec_claims.specs.Cause.ListingCause.{bad_line, bad_table, listed}
use Rattle.exec_claims.specs.Cause.Cause.{no_memory, exec}
use Rattle.exec_claims.specs.Decided.{IsOrderText}
use Rattle.exec_claims.specs.Whole.{CanExecute, HasExecuted}
use Rattle.exec_claims.specs.Cause.{CheckFails}
use Rattle.exec_claims.proofs.CheckLemmas.{not_failed}
use Rattle.exec_claims.proofs.OneCause.{not_long, read_one, same_order}

-- ---- the order
-- the code was run under this order
pub record Under (code : Tables) (asked : Asked) (turns : ℕ) (order : List ℕ) (n : ℕ)
    (told : List ℕ) : Type 0 where
  pub goes_on : GoesOnTo (run_of code asked order) turns
  pub cause : RunCause (run_of code asked order) asked.report turns n told

module _ (call : Call) (code : Tables) (asked : Asked) (turns : ℕ) (order : List ℕ) where
  under_text : (text : List ℕ) {n : ℕ} {told : List ℕ} → reading (processors code) text ≡ Ok order
      → OrderCause code asked turns text n told → Under code asked turns order n told
  under_text text read (bad_item at e z) = absurd (read_one at order e read)
  under_text text {n = n} {told = told} read (ran other e goes c) =
      subst (λ o. Under code asked turns o n told) (same_order _ other order e read)
      (record { goes_on = goes; cause = c })

  -- which is what the text of its file stands for
  pub under_order : (file : Option (List ℕ)) (text : List ℕ) {n : ℕ} {told : List ℕ}
      → IsSettled call n → IsOrderText call file text → reading (processors code) text ≡ Ok order
      → OrderFileCause call code asked turns file n told → Under code asked turns order n told
  under_order None text settled is read c =
      under_text [] (subst (λ t. reading (processors code) t ≡ Ok order) is read) c
  under_order (Some file) text settled is read (unreadable may ends) = absurd (settled.read refl)
  under_order (Some file) text settled is read (too_long long ends) =
      absurd (not_long call file (settled.one file) long is.0)
  under_order (Some file) text settled is read (work source w) =
      under_text source.text (subst (λ t. reading (processors code) t ≡ Ok order)
      (sym is.1 ∙ settled.one file is.0.text source.text is.0.told source.told) read) w

-- ---- any call
module _ (line : (bytes : List ℕ) (tables : Tables) (number : ℕ) → IsListing bytes tables
    → IsBadLine bytes number → ⊥)
    (table : (bytes : List ℕ) (tables : Tables) (number : ℕ) → IsListing bytes tables
    → IsBadTable bytes number → ⊥)
    (program : (bytes : List ℕ) (one other : Tables) → IsListing bytes one → IsListing bytes other
    → one ≡ other)
    (call : Call) (ex : Execution) (file : List ℕ) (asked : Asked)
    (can : CanExecute call file asked) where
  of_code : (code : Tables) {n : ℕ} {told : List ℕ} → IsSettled call n → code ≡ can.code
      → ex.code ≡ Some code → OrderFileCause call code asked ex.turns asked.order n told
      → HasExecuted can ex n told
  of_code code {n = n} {told = told} settled same made c =
      let run = under_order call can.code asked ex.turns can.order asked.order can.order_text settled can.told can.read
      (subst (λ (t : Tables). OrderFileCause call t asked ex.turns asked.order n told) same c) in
      record {
        made = made ∙ ap (λ (t : Tables). Some t) same;
        goes_on = run.goes_on;
        ended = run.cause;
      }

  of_text : (text : List ℕ) {n : ℕ} {told : List ℕ} → IsSettled call n → IsListing text can.code
      → ListingCause ex (CodeCause call asked ex.turns) text n told → HasExecuted can ex n told
  of_text text settled is (bad_line number e z) = absurd (line text can.code number is e)
  of_text text settled is (bad_table number e z) = absurd (table text can.code number is e)
  of_text text {n = n} {told = told} settled is (listed code also made (fails asks z f)) =
      absurd (not_failed asked can.sound asks
      (subst (λ t. CheckFails t n told) (program text code can.code also is) f))
  of_text text settled is (listed code also made (passes passed c)) =
      of_code code settled (program text code can.code also is) made c

  of_file : {n : ℕ} {told : List ℕ} → IsSettled call n
      → ListingFileCause call file asked ex n told → HasExecuted can ex n told
  of_file settled (unreadable may ends) = absurd (settled.read refl)
  of_file settled (too_long long ends) =
      absurd (not_long call file (settled.one file) long can.source)
  of_file {n = n} {told = told} settled (work source w) =
      of_text can.source.text settled can.listing
      (subst (λ t. ListingCause ex (CodeCause call asked ex.turns) t n told)
      (settled.one file source.text can.source.text source.told can.source.told) w)

  pub executed : {n : ℕ} {told : List ℕ} → IsSettled call n → IsExec call.words file asked
      → Cause call ex n told → HasExecuted can ex n told
  executed settled given no_memory = absurd (settled.decided.memory refl)
  executed settled given (exec is) =
      of_file settled (of_given (codes "exec") ExecTakes call.words file asked given is)
