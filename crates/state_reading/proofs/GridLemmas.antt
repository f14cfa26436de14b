-- Processors one after another, and the lines behind them.
use Rattle.std.proofs.Common.{◌≡◌, ℕ, zero, suc, ◌+◌, ◌<◌, ◌≤◌, List, [], ◌∷◌, ◌++◌, length, drop, refl, sym, ◌∙◌, ap, subst, arith}
use Rattle.std.specs.Prelude.{Some, slice_get}
use Rattle.std.specs.List.{range_with_len}
use Rattle.std.proofs.lemmas.List.{drop_all}
use Rattle.std.proofs.lemmas.List.FromFn.{length-range_with_len}
use Rattle.node_form.specs.declared.tables.Tables.{Tables}
use Rattle.grid_meaning.specs.Local.{processor_numbers, processors}
use Rattle.node_local.specs.Workplace.{IsReady}
use Rattle.save_lines.specs.declared.lines.SavedLine.{SavedLine}
use Rattle.save_reading.specs.of_grid_save.Reads.{BreaksGrid, Behind, BreaksState, Each, ReadsGrid, ReadsState, State}
use Rattle.save_reading.proofs.ReadLemmas.{Along, along_over, fault_here}
use Rattle.save_reading.specs.Fault.{FaultAt}
use Rattle.save_reading.specs.declared.faults.StateFault.TheVariants.{BadState}
use Rattle.state_reading.specs.Read.{AreReady}
use Rattle.state_reading.specs.declared.states.ReadState.{ReadState}

-- ---- the numbers of processors
numbers_from : (a n k : ℕ) → k < n → drop k (range_with_len a n) ≡ (a + k) ∷ drop (k + 1) (range_with_len a n)
numbers_from a zero k below = absurd (omega arith)
numbers_from a (suc n) zero below =
    let e : a ≡ a + 0 = omega arith in
    ap (λ (m : ℕ). m ∷ range_with_len (a + 1) n) e
numbers_from a (suc n) (suc k) below =
    let e : suc k + 1 ≡ suc (k + 1) = omega arith in
    let f : a + 1 + k ≡ a + suc k = omega arith in
    rw e (numbers_from (a + 1) n k (omega arith) ∙ ap (λ (m : ℕ). m ∷ drop (k + 1) (range_with_len (a + 1) n)) f)

pub next_number : (code : Tables) (p : ℕ) → p < processors code → drop p (processor_numbers code) ≡ p ∷ drop (p + 1) (processor_numbers code)
next_number code p inside =
    let e : 0 + p ≡ p = omega arith in
    numbers_from 0 (processors code) p inside ∙ ap (λ (m : ℕ). m ∷ drop (p + 1) (processor_numbers code)) e

pub no_number : (code : Tables) (p : ℕ) → processors code ≤ p → drop p (processor_numbers code) ≡ []
no_number code p over = drop_all p (processor_numbers code) (omega (arith, over, length-range_with_len 0 (processors code)))

-- ---- the lines behind all
pub record First (lines rest : List SavedLine) : Type 0 where
  pub first : SavedLine
  pub more : List SavedLine
  pub is : rest ≡ first ∷ more

line_there : (lines : List SavedLine) (at : ℕ) → at < length lines → First lines (drop at lines)
line_there [] at there = absurd (omega arith)
line_there (line ∷ lines) zero there = record { first = line; more = lines; is = refl }
line_there (line ∷ lines) (suc at) there = let later = line_there lines at (omega arith) in record { first = later.first; more = later.more; is = later.is }

module _ (code : Tables) (lines : List SavedLine) (states : List State) (p at : ℕ) (over : processors code ≤ p)
    (along : Along (ReadsState code) (BreaksState code) (processor_numbers code) lines states (drop p (processor_numbers code)) (drop at lines)) where
  all_read : Each (ReadsState code) (processor_numbers code) lines states (drop at lines)
  all_read = along_over (ReadsState code) (BreaksState code) (processor_numbers code) lines states (drop p (processor_numbers code)) (drop at lines) along (no_number code p over)

  pub grid_read : length lines ≤ at → ReadsGrid code lines states
  grid_read none = record {
    each = subst (λ (rest : List SavedLine). Each (ReadsState code) (processor_numbers code) lines states rest) (drop_all at lines none) all_read;
  }

  pub grid_broken : at < length lines → FaultAt (BreaksGrid code lines) lines (BadState (at + 1))
  grid_broken there =
      let next = line_there lines at there in
      fault_here (BreaksGrid code lines) lines at (omega arith)
      (subst (BreaksGrid code lines) (sym next.is)
      (Behind states next.first next.more (subst (λ (rest : List SavedLine). Each (ReadsState code) (processor_numbers code) lines states rest) next.is all_read)))

-- ---- states that are ready
ready_push : (code : Tables) (k : ℕ) (states : List ReadState) (read : ReadState) →
    ((p : ℕ) (one : ReadState) → slice_get states p ≡ Some one → IsReady code (k + p) one.local) → IsReady code (k + length states) read.local →
    (p : ℕ) (one : ReadState) → slice_get (states ++ read ∷ []) p ≡ Some one → IsReady code (k + p) one.local
ready_push code k [] read are is zero one found =
    let same : read ≡ one = cc in
    subst (λ (r : ReadState). IsReady code (k + 0) r.local) same is
ready_push code k [] read are is (suc p) one found = absurd cc
ready_push code k (first ∷ states) read are is zero one found = are zero one found
ready_push code k (first ∷ states) read are is (suc p) one found =
    let back : suc k + p ≡ k + suc p = omega arith in
    let last : k + suc (length states) ≡ suc k + length states = omega arith in
    subst (λ n. IsReady code n one.local) back
    (ready_push code (suc k) states read
    (λ q other there. let on : k + suc q ≡ suc k + q = omega arith in subst (λ n. IsReady code n other.local) on (are (suc q) other there))
    (subst (λ n. IsReady code n read.local) last is) p one found)

pub ready_more : (code : Tables) (states more : List ReadState) (read : ReadState) (p : ℕ) → AreReady code states → length states ≡ p → IsReady code p read.local →
    more ≡ states ++ read ∷ [] → AreReady code more
ready_more code states more read p are many is grown =
    subst (AreReady code) (sym grown)
    (λ q one found.
    let back : 0 + q ≡ q = omega arith in
    let last : p ≡ 0 + length states = omega (arith, many) in
    subst (λ n. IsReady code n one.local) back
    (ready_push code 0 states read (λ r other there. let on : r ≡ 0 + r = omega arith in subst (λ n. IsReady code n other.local) on (are r other there))
    (subst (λ n. IsReady code n read.local) last is) q one found))
