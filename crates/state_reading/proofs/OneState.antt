-- The lines of processors are those of one grid's states at most, and not both of some and of none.
use Rattle.std.proofs.Common.{◌≡◌, ℕ, ℤ, List, [], refl, sym, ◌∙◌, subst}
use Rattle.std.specs.Prelude.{All, is_some}
use Rattle.grid_links.specs.declared.messages.Message.{Message}
use Rattle.node_form.specs.declared.tables.Tables.{Tables}
use Rattle.grid_meaning.specs.Local.{Local, processor_numbers}
use Rattle.save_lines.specs.declared.lines.SavedLine.{SavedLine}
use Rattle.save_reading.specs.of_grid_save.Reads.{BreaksGrid, AtState, Behind, BreaksState, AtValues, TooFar, AtKept, LacksKept, AtMessage, BreaksValues, IsFar, IsKeptLine, IsMessageLine, MayKeep, ReadsGrid, ReadsState, ReadsValues, Run, RunBreaks, State, is_kept, is_message, told_kept, with_kept}
use Rattle.save_reading.specs.Three.{HasThree}
use Rattle.save_reading.proofs.OneReading.{breaks_one, values_not, values_one}
use Rattle.save_reading.proofs.OneLine.{message_told}
use Rattle.save_reading.proofs.OneWay.{IsTold, Same, each_left, each_not, each_one, run_left, run_not, run_one}
use Rattle.state_reading.proofs.KeptLemmas.{kept_same}
use Rattle.state_reading.proofs.Steps as step
use Rattle.state_reading.proofs.Steps.{Either, IsOneWay, Unless, either_left, unless_left}

-- ---- a line of words that are kept
kept_told : (code : Tables) (p : ℕ) (local : Local) (done : List (ℕ × List ℤ)) (line : SavedLine) (a b : ℕ × List ℤ) →
    IsKeptLine code p local done line a → IsKeptLine code p local done line b → a ≡ b
kept_told code p local done line a b one other = kept_same a b (sym one.written ∙ other.written)

-- ---- a processor
state_same : (a b : State) → a.local ≡ b.local → a.sent ≡ b.sent → a ≡ b
state_same a b e f = made a.local b.local a.sent b.sent e f
  where
    made : (l m : Local) (s t : List (ℕ × Message)) → l ≡ m → s ≡ t → ◌≡◌ {A = State} (record { local = l; sent = s }) (record { local = m; sent = t })
    made l m s t e f = rw (e, f) refl

module _ (code : Tables) (p : ℕ) (three : All HasThree code.arrays) where
  -- readings of the same lines
  kept_one : (values values' : Local) (behind behind' : List SavedLine) (kept kept' : List (ℕ × List ℤ)) (rest rest' : List SavedLine) → Same values values' behind behind' →
      Run is_kept (IsKeptLine code p values) [] behind kept rest → Run is_kept (IsKeptLine code p values') [] behind' kept' rest' → Same kept kept' rest rest'
  kept_one values values' behind behind' kept kept' rest rest' same run run' =
      run_one is_kept (IsKeptLine code p values') (kept_told code p values')
      (subst (λ (v : Local). Run is_kept (IsKeptLine code p v) [] behind kept rest) same.value run) run' refl same.behind

  sent_one : (behind behind' : List SavedLine) (sent sent' : List (ℕ × Message)) (rest rest' : List SavedLine) → behind ≡ behind' →
      Run is_message (IsMessageLine code p) [] behind sent rest → Run is_message (IsMessageLine code p) [] behind' sent' rest' → Same sent sent' rest rest'
  sent_one behind behind' sent sent' rest rest' e run run' = run_one is_message (IsMessageLine code p) (message_told code p) run run' refl e

  far_again : (values values' : Local) (behind behind' : List SavedLine) → Same values values' behind behind' →
      IsFar code p values (told_kept behind) (is_some values.ended) → IsFar code p values' (told_kept behind') (is_some values'.ended)
  far_again values values' behind behind' same far =
      subst (λ (l : List SavedLine). IsFar code p values' (told_kept l) (is_some values'.ended)) same.behind
      (subst (λ (v : Local). IsFar code p v (told_kept behind) (is_some v.ended)) same.value far)

  keeps_again : (values values' : Local) (kept kept' : List (ℕ × List ℤ)) → values ≡ values' → kept ≡ kept' → MayKeep code p values kept → MayKeep code p values' kept'
  keeps_again values values' kept kept' e f keeps =
      subst (λ (k : List (ℕ × List ℤ)). MayKeep code p values' k) f (subst (λ (v : Local). MayKeep code p v kept) e keeps)

  pub state_one : (lines : List SavedLine) (one other : State) (rest rest' : List SavedLine) → ReadsState code p lines one rest → ReadsState code p lines other rest' → Same one other rest rest'
  state_one lines one other rest rest' r q =
      let values = values_one code p three lines r.values q.values r.behind_values q.behind_values r.values_are q.values_are in
      let kept = kept_one r.values q.values r.behind_values q.behind_values r.kept q.kept r.behind_kept q.behind_kept values r.kept_is q.kept_is in
      let sent = sent_one r.behind_kept q.behind_kept one.sent other.sent rest rest' kept.behind r.sent_is q.sent_is in
      record {
        value = state_same one other (r.local_is ∙ (filled r.values q.values r.kept q.kept values.value kept.value ∙ sym q.local_is)) sent.value;
        behind = sent.behind;
      }
    where
      filled : (v w : Local) (k l : List (ℕ × List ℤ)) → v ≡ w → k ≡ l → with_kept v k ≡ with_kept w l
      filled v w k l e f = rw (e, f) refl

  pub state_not : (lines : List SavedLine) (state : State) (rest left : List SavedLine) → ReadsState code p lines state rest → BreaksState code p lines left → ⊥
  state_not lines state rest _ r (AtValues left breaks) = values_not code p three lines r.values r.behind_values left r.values_are breaks
  state_not lines state rest _ r (TooFar values behind reads none) =
      let same = values_one code p three lines r.values values r.behind_values behind r.values_are reads in
      none (far_again r.values values r.behind_values behind same r.far)
  state_not lines state rest _ r (AtKept values behind left reads far breaks) =
      let same = values_one code p three lines r.values values r.behind_values behind r.values_are reads in
      run_not is_kept (IsKeptLine code p values) (kept_told code p values)
      (subst (λ (v : Local). Run is_kept (IsKeptLine code p v) [] r.behind_values r.kept r.behind_kept) same.value r.kept_is) breaks refl same.behind
  state_not lines state rest _ r (LacksKept values kept behind left reads far run none) =
      let same = values_one code p three lines r.values values r.behind_values behind r.values_are reads in
      let words = kept_one r.values values r.behind_values behind r.kept kept r.behind_kept left same r.kept_is run in
      none (keeps_again r.values values r.kept kept same.value words.value r.may_keep)
  state_not lines state rest _ r (AtMessage values kept behind one left reads far run keeps breaks) =
      let same = values_one code p three lines r.values values r.behind_values behind r.values_are reads in
      let words = kept_one r.values values r.behind_values behind r.kept kept r.behind_kept one same r.kept_is run in
      run_not is_message (IsMessageLine code p) (message_told code p) r.sent_is breaks refl words.behind

  -- what is left, step by step
  abbrev InMessages : List SavedLine → List SavedLine → Type 0
  InMessages one left = RunBreaks is_message (IsMessageLine code p) [] one left

  abbrev InKept : Local → List SavedLine → List SavedLine → Type 0
  InKept values behind =
      Either (λ kept one. Run is_kept (IsKeptLine code p values) [] behind kept one) (λ left. RunBreaks is_kept (IsKeptLine code p values) [] behind left)
      (λ kept one. Unless (MayKeep code p values kept) one (InMessages one))

  abbrev InState : List SavedLine → List SavedLine → Type 0
  InState lines =
      Either (λ values behind. ReadsValues code p lines values behind) (λ left. BreaksValues code p lines left)
      (λ values behind. Unless (IsFar code p values (told_kept behind) (is_some values.ended)) lines (InKept values behind))

  in_state : (lines left : List SavedLine) → BreaksState code p lines left → InState lines left
  in_state lines _ (AtValues left breaks) = step.Now left breaks
  in_state lines _ (TooFar values behind reads none) = step.Behind values behind lines reads (step.Fails none)
  in_state lines _ (AtKept values behind left reads far breaks) = step.Behind values behind left reads (step.Holds left far (step.Now left breaks))
  in_state lines _ (LacksKept values kept behind left reads far run none) =
      step.Behind values behind left reads (step.Holds left far (step.Behind kept left left run (step.Fails none)))
  in_state lines _ (AtMessage values kept behind one left reads far run keeps breaks) =
      step.Behind values behind left reads (step.Holds left far (step.Behind kept one left run (step.Holds left keeps breaks)))

  messages_left : (one : List SavedLine) → IsOneWay (InMessages one)
  messages_left one left left' breaks breaks' = run_left is_message (IsMessageLine code p) (message_told code p) breaks breaks' refl refl

  kept_left : (values : Local) (behind : List SavedLine) → IsOneWay (InKept values behind)
  kept_left values behind =
      either_left (λ kept one. Run is_kept (IsKeptLine code p values) [] behind kept one) (λ left. RunBreaks is_kept (IsKeptLine code p values) [] behind left)
      (λ kept one. Unless (MayKeep code p values kept) one (InMessages one))
      (record {
        one = λ x y rest rest' run run'. run_one is_kept (IsKeptLine code p values) (kept_told code p values) run run' refl refl;
        apart = λ x rest left run breaks. run_not is_kept (IsKeptLine code p values) (kept_told code p values) run breaks refl refl;
        left = λ left left' breaks breaks'. run_left is_kept (IsKeptLine code p values) (kept_told code p values) breaks breaks' refl refl;
      })
      (λ kept one run. unless_left (MayKeep code p values kept) one (InMessages one) (messages_left one))

  pub state_left : (lines left left' : List SavedLine) → BreaksState code p lines left → BreaksState code p lines left' → left ≡ left'
  state_left lines left left' breaks breaks' =
      either_left (λ values behind. ReadsValues code p lines values behind) (λ left. BreaksValues code p lines left)
      (λ values behind. Unless (IsFar code p values (told_kept behind) (is_some values.ended)) lines (InKept values behind))
      (record {
        one = λ x y rest rest' r r'. values_one code p three lines x y rest rest' r r';
        apart = λ x rest left r b. values_not code p three lines x rest left r b;
        left = λ left left' b b'. breaks_one code p three lines left left' b b';
      })
      (λ values behind r. unless_left (IsFar code p values (told_kept behind) (is_some values.ended)) lines (InKept values behind) (kept_left values behind))
      left left' (in_state lines left breaks) (in_state lines left' breaks')

-- ---- all processors
module _ (code : Tables) (three : All HasThree code.arrays) where
  states_told : IsTold (λ (p : ℕ). Unit {0}) (ReadsState code) (BreaksState code)
  states_told = record {
    one = λ p holds lines x y rest rest' r r'. state_one code p three lines x y rest rest' r r';
    apart = λ p holds lines x rest left r b. state_not code p three lines x rest left r b;
    left = λ p holds lines left left' b b'. state_left code p three lines left left' b b';
  }

  all_numbers : All (λ (p : ℕ). Unit {0}) (processor_numbers code)
  all_numbers k d inside = tt

  pub grid_one : (lines : List SavedLine) (one other : List State) → ReadsGrid code lines one → ReadsGrid code lines other → one ≡ other
  grid_one lines one other r q = (each_one (λ (p : ℕ). Unit {0}) (ReadsState code) (BreaksState code) states_told r.each q.each refl refl all_numbers).value

  pub grid_not : (lines left : List SavedLine) (states : List State) → ReadsGrid code lines states → BreaksGrid code lines left → ⊥
  grid_not lines _ states r (AtState left breaks) =
      each_not (λ (p : ℕ). Unit {0}) (ReadsState code) (BreaksState code) states_told r.each breaks refl refl all_numbers
  grid_not lines _ states r (Behind others line rest each) =
      let none = (each_one (λ (p : ℕ). Unit {0}) (ReadsState code) (BreaksState code) states_told r.each each refl refl all_numbers).behind in
      absurd cc

  pub grid_left : (lines left left' : List SavedLine) → BreaksGrid code lines left → BreaksGrid code lines left' → left ≡ left'
  grid_left lines _ _ (AtState left breaks) (AtState left' breaks') =
      each_left (λ (p : ℕ). Unit {0}) (ReadsState code) (BreaksState code) states_told breaks breaks' refl refl all_numbers
  grid_left lines _ _ (AtState left breaks) (Behind states line rest each) =
      absurd (each_not (λ (p : ℕ). Unit {0}) (ReadsState code) (BreaksState code) states_told each breaks refl refl all_numbers)
  grid_left lines _ _ (Behind states line rest each) (AtState left breaks) =
      absurd (each_not (λ (p : ℕ). Unit {0}) (ReadsState code) (BreaksState code) states_told each breaks refl refl all_numbers)
  grid_left lines _ _ (Behind states line rest each) (Behind states' line' rest' each') =
      (each_one (λ (p : ℕ). Unit {0}) (ReadsState code) (BreaksState code) states_told each each' refl refl all_numbers).behind
