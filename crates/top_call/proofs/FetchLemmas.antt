-- No cause is that of a fetch that failed, where what the words name is fetched without fail.
use Rattle.std.proofs.Common.{◌≡◌, ◌≢◌, ℕ, Bool, List, Option, Some, None, codes, refl, inl, inr, arith}
use Rattle.node_form.specs.declared.tables.Tables.{Tables}
use Rattle.zpl_claims.specs.Build.{Build}
use Rattle.zpl_claims.specs.of_grid_meaning.Grid.{Grid}
use Rattle.time_call.specs.of_grid_runs.Run.{Run}
use Rattle.call_claims.specs.Call.{Call}
use Rattle.call_claims.specs.Cause.FileCause.{unreadable, too_long, work}
use Rattle.call_claims.specs.Command.{Asked, CheckTakes, ExecTakes, IsCheck}
use Rattle.call_claims.specs.Command.{IsExec, IsList, IsMean, IsResume, IsRun, IsTime, ListTakes}
use Rattle.call_claims.specs.Command.{MeanTakes, ResumeTakes, RunTakes, TimeTakes, build_of}
use Rattle.call_claims.specs.Execution.{Execution}
use Rattle.call_claims.specs.declared.status.TheConstants.{UNREADABLE}
use Rattle.call_claims.proofs.OneLemmas.{of_given}
use Rattle.mean_call.specs.of_mean_claims.Cause.{Cause as MeanCall, MeanCause}
use Rattle.mean_call.specs.of_mean_claims.Cause.Cause.{no_memory as mean_wanting, mean}
use Rattle.mean_call.specs.of_mean_claims.Cause.TextCause.{refused, unbound, done as means_done, trap as means_trap, turn_limit as means_more}
use Rattle.check_call.specs.of_check_claims.Cause.{Cause as CheckCall, CheckFileCause}
use Rattle.check_call.specs.of_check_claims.Cause.Cause.{no_memory as check_wanting, check}
use Rattle.check_call.specs.of_check_claims.Cause.CheckCause.{sound, fails as check_fails}
use Rattle.check_call.specs.of_check_claims.of_exec_claims.Cause.{Cause as ExecCall, CheckFails}
use Rattle.check_call.specs.of_check_claims.of_exec_claims.Cause.{ListingFileCause, OrderCause, OrderFileCause}
use Rattle.check_call.specs.of_check_claims.of_exec_claims.Cause.{RunCause}
use Rattle.check_call.specs.of_check_claims.of_exec_claims.Cause.Cause.{no_memory as exec_wanting, exec}
use Rattle.check_call.specs.of_check_claims.of_exec_claims.Cause.CheckFails.{unsound, too_large}
use Rattle.check_call.specs.of_check_claims.of_exec_claims.Cause.CodeCause.{fails, passes}
use Rattle.check_call.specs.of_check_claims.of_exec_claims.Cause.ListingCause.{bad_line, bad_table, listed as lists}
use Rattle.check_call.specs.of_check_claims.of_exec_claims.Cause.OrderCause.{bad_item, ran as run_under}
use Rattle.check_call.specs.of_check_claims.of_exec_claims.Cause.RunCause.{done, trap, turn_limit, stuck, idle}
use Rattle.check_call.specs.of_check_claims.of_exec_claims.Cause.TextCause.{unreadable as not_read, too_long as long_text, work as in_text}
use Rattle.time_call.specs.of_time_claims.Cause.{Cause as TimeCall, TimeCause}
use Rattle.time_call.specs.of_time_claims.Cause.Cause.{no_memory as time_wanting, time}
use Rattle.time_call.specs.of_time_claims.Cause.TimeCause.{not_run, ran, too_many}
use Rattle.resume_call.specs.of_exec_call.of_resume_claims.Cause.{Cause as ResumeCall, GridCause, GridFileCause, ResumeCause}
use Rattle.resume_call.specs.of_exec_call.of_resume_claims.Cause.Cause.{no_memory as resume_wanting, resume}
use Rattle.resume_call.specs.of_exec_call.of_resume_claims.Cause.GridCause.{bad_item as wrong_item, ran as went_on}
use Rattle.resume_call.specs.of_exec_call.of_resume_claims.Cause.ResumeCause.{unreadable as no_save, too_long as long_save, work as in_save}
use Rattle.resume_call.specs.of_exec_call.of_resume_claims.Cause.SavedCause.{refused as no_grid, saved as of_grid}
use Rattle.gen_call.specs.of_list_claims.Cause.{Cause as ListCall, IsListed, ProgramCause}
use Rattle.gen_call.specs.of_list_claims.Cause.Cause.{no_memory as list_wanting, list}
use Rattle.gen_call.specs.of_list_claims.Cause.CodeCause.{faulty, made}
use Rattle.gen_call.specs.of_list_claims.Cause.IsListed.{listed}
use Rattle.gen_call.proofs.of_list_claims.ProgramLemmas.{fault_other}
use Rattle.gen_call.specs.of_run_claims.Cause.{Cause as RunCall}
use Rattle.gen_call.specs.of_run_claims.Cause.Cause.{no_memory as run_wanting, run}
use Rattle.top_call.specs.Whole.{AreSure}

-- ---- runs and orders
run_read : {a : Run} {report : Bool} {k n : ℕ} {told : List ℕ} → RunCause a report k n told
    → n ≢ UNREADABLE
run_read (done e) = λ h. omega arith
run_read (trap kind line e) = λ h. omega arith
run_read (turn_limit e) = λ h. omega arith
run_read (stuck p kind e) = λ h. omega arith
run_read (idle p e) = λ h. omega arith

order_read : {code : Tables} {asked : Asked} {turns n : ℕ} {text told : List ℕ}
    → OrderCause code asked turns text n told → n ≢ UNREADABLE
order_read (bad_item at e z) = λ h. omega arith
order_read (run_under order e goes c) = run_read c

check_read : {code : Tables} {n : ℕ} {told : List ℕ} → CheckFails code n told → n ≢ UNREADABLE
check_read (unsound at f) = λ h. omega arith
check_read (too_large f) = λ h. omega arith

grid_read : {code : Tables} {grid : Grid} {asked : Asked} {turns n : ℕ} {text told : List ℕ}
    → GridCause code grid asked turns text n told → n ≢ UNREADABLE
grid_read (wrong_item at e z) = λ h. omega arith
grid_read (went_on order e on) = run_read on.holds.cause

module _ (call : Call) (file : List ℕ) (asked : Asked) (sure : AreSure call file asked) where
  order_file_read : (code : Tables) (turns : ℕ) (named : Option (List ℕ)) → asked.order ≡ named
      → (n : ℕ) (told : List ℕ) → OrderFileCause call code asked turns named n told
      → n ≢ UNREADABLE
  order_file_read code turns None is n told c = order_read c
  order_file_read code turns (Some order) is n told (not_read may ends) =
      absurd (sure.order_comes order is may)
  order_file_read code turns (Some order) is n told (long_text long ends) = λ h. omega arith
  order_file_read code turns (Some order) is n told (in_text source w) = order_read w

  -- ---- programs' files
  program_read : (build : Build) (ex : Execution) (Does : Tables → ℕ → List ℕ → Type 0)
      → ((code : Tables) (n : ℕ) (told : List ℕ) → Does code n told → n ≢ UNREADABLE)
      → {n : ℕ} {told : List ℕ} → ProgramCause call file build ex Does n told → n ≢ UNREADABLE
  program_read build ex Does all (unreadable may none) = absurd (sure.file_comes may)
  program_read build ex Does all (too_long long none) = λ h. omega arith
  program_read build ex Does all (work source (faulty fault none)) = elim (fault_other fault)
      [ inl e ↦ λ h. omega (arith, e, h) | inr e ↦ λ h. omega (arith, e, h) ]
  program_read build ex Does all (work source (made code of_text is does)) = all code _ _ does

  listed_read : (turns : ℕ) (code : Tables) (n : ℕ) (told : List ℕ) → IsListed turns n told
      → n ≢ UNREADABLE
  listed_read turns code n told (listed none) = λ h. omega arith

  mean_read : {n : ℕ} {told : List ℕ} → MeanCause call file asked n told → n ≢ UNREADABLE
  mean_read (unreadable may none) = absurd (sure.file_comes may)
  mean_read (too_long long none) = λ h. omega arith
  mean_read (work source (refused told is fault)) = λ h. omega arith
  mean_read (work source (unbound fault has)) = λ h. omega arith
  mean_read (work source (means_done has)) = λ h. omega arith
  mean_read (work source (means_trap kind line has)) = λ h. omega arith
  mean_read (work source (means_more has)) = λ h. omega arith

  -- ---- listings
  listing_read : (ex : Execution) {n : ℕ} {told : List ℕ}
      → ListingFileCause call file asked ex n told → n ≢ UNREADABLE
  listing_read ex (not_read may ends) = absurd (sure.file_comes may)
  listing_read ex (long_text long ends) = λ h. omega arith
  listing_read ex (in_text source (bad_line line e z)) = λ h. omega arith
  listing_read ex (in_text source (bad_table line e z)) = λ h. omega arith
  listing_read ex (in_text source (lists code is e (fails asks z f))) = check_read f
  listing_read ex (in_text source (lists code is e (passes passed c))) =
      order_file_read code ex.turns asked.order refl _ _ c

  checked_read : (ex : Execution) {n : ℕ} {told : List ℕ} → CheckFileCause call file ex n told
      → n ≢ UNREADABLE
  checked_read ex (not_read may ends) = absurd (sure.file_comes may)
  checked_read ex (long_text long ends) = λ h. omega arith
  checked_read ex (in_text source (bad_line line e z)) = λ h. omega arith
  checked_read ex (in_text source (bad_table line e z)) = λ h. omega arith
  checked_read ex (in_text source (lists code is f (sound links e))) = λ h. omega arith
  checked_read ex (in_text source (lists code is e (check_fails f))) = check_read f

  time_read : (ex : Execution) {n : ℕ} {told : List ℕ} → TimeCause call file asked ex n told
      → n ≢ UNREADABLE
  time_read ex (not_run c unended) = listing_read ex c
  time_read ex (ran h) = run_read h.holds.0
  time_read ex (too_many h) = λ e. omega arith

  -- ---- saved grids
  grid_file_read : (code : Tables) (grid : Grid) (turns : ℕ) (named : Option (List ℕ))
      → asked.order ≡ named → (n : ℕ) (told : List ℕ)
      → GridFileCause call code grid asked turns named n told → n ≢ UNREADABLE
  grid_file_read code grid turns None is n told c = grid_read c
  grid_file_read code grid turns (Some order) is n told (not_read may ends) =
      absurd (sure.order_comes order is may)
  grid_file_read code grid turns (Some order) is n told (long_text long ends) = λ h. omega arith
  grid_file_read code grid turns (Some order) is n told (in_text source w) = grid_read w

  save_read : (ex : Execution) {n : ℕ} {told : List ℕ} → ResumeCause call file asked ex n told
      → n ≢ UNREADABLE
  save_read ex (no_save may none) = absurd (sure.file_comes may)
  save_read ex (long_save long none) = λ h. omega arith
  save_read ex (in_save source (no_grid why is none)) = λ h. omega arith
  save_read ex (in_save source (of_grid code grid is there c)) =
      grid_file_read code grid ex.turns asked.order refl _ _ c

  -- ---- calls
  pub run_call_read : {ex : Execution} {n : ℕ} {told : List ℕ} → IsRun call.words file asked
      → RunCall call ex n told → n ≢ UNREADABLE
  run_call_read given run_wanting = λ h. omega arith
  run_call_read {ex = ex} given (run is) = program_read (build_of asked) ex
      (λ code. OrderFileCause call code asked ex.turns asked.order)
      (λ code n told c. order_file_read code ex.turns asked.order refl n told c)
      (of_given (codes "run") RunTakes call.words file asked given is)

  pub list_call_read : {ex : Execution} {n : ℕ} {told : List ℕ} → IsList call.words file asked
      → ListCall call ex n told → n ≢ UNREADABLE
  list_call_read given list_wanting = λ h. omega arith
  list_call_read {ex = ex} given (list is) = program_read (build_of asked) ex
      (λ code. IsListed ex.turns) (listed_read ex.turns)
      (of_given (codes "list") ListTakes call.words file asked given is)

  pub mean_call_read : {n : ℕ} {told : List ℕ} → IsMean call.words file asked
      → MeanCall call n told → n ≢ UNREADABLE
  mean_call_read given mean_wanting = λ h. omega arith
  mean_call_read given (mean is) =
      mean_read (of_given (codes "mean") MeanTakes call.words file asked given is)

  pub exec_call_read : {ex : Execution} {n : ℕ} {told : List ℕ} → IsExec call.words file asked
      → ExecCall call ex n told → n ≢ UNREADABLE
  exec_call_read given exec_wanting = λ h. omega arith
  exec_call_read {ex = ex} given (exec is) =
      listing_read ex (of_given (codes "exec") ExecTakes call.words file asked given is)

  pub time_call_read : {ex : Execution} {n : ℕ} {told : List ℕ} → IsTime call.words file asked
      → TimeCall call ex n told → n ≢ UNREADABLE
  time_call_read given time_wanting = λ h. omega arith
  time_call_read {ex = ex} given (time is) =
      time_read ex (of_given (codes "time") TimeTakes call.words file asked given is)

  pub check_call_read : {ex : Execution} {n : ℕ} {told : List ℕ} → IsCheck call.words file asked
      → CheckCall call ex n told → n ≢ UNREADABLE
  check_call_read given check_wanting = λ h. omega arith
  check_call_read {ex = ex} given (check is) =
      checked_read ex (of_given (codes "check") CheckTakes call.words file asked given is)

  pub resume_call_read : {ex : Execution} {n : ℕ} {told : List ℕ} → IsResume call.words file asked
      → ResumeCall call ex n told → n ≢ UNREADABLE
  resume_call_read given resume_wanting = λ h. omega arith
  resume_call_read {ex = ex} given (resume is) =
      save_read ex (of_given (codes "resume") ResumeTakes call.words file asked given is)
