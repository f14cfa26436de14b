-- A run that has all that it needs is over at last, with what its program means.
use Rattle.std.proofs.Common.{◌≡◌, ◌≢◌, ℕ, ◌<◌, ◌≤◌, List, [], length, Option, Some, None, Result, Ok, codes, refl, sym, ◌∙◌, ap, subst, inl, inr, arith}
use Rattle.std.proofs.lemmas.Bool.{cases_lt}
use Rattle.zpl_nums.specs.declared.ends.End.{End}
use Rattle.zpl_nums.specs.declared.ends.End.TheVariants.{Done, Trap, More}
use Rattle.zpl_tree.specs.Syntax.{Program}
use Rattle.zpl_binding.specs.Settings.{Setting}
use Rattle.zpl_names.specs.Expansion.{shattered_loops}
use Rattle.zpl_meaning.specs.Program.{Meaning, mean_of, steps_of}
use Rattle.node_form.specs.declared.tables.Tables.{Tables}
use Rattle.grid_meaning.specs.Grid.{EndsAs, Grid, IsCapacity, IsOver, first_ending, processors}
use Rattle.grid_meaning.specs.Order.{given}
use Rattle.grid_order.specs.Reading.{reading}
use Rattle.grid_runs.specs.Run.{grid_at}
use Rattle.zpl_claims.specs.Bound.{turn_bound}
use Rattle.zpl_claims.specs.Good.{Finishes}
use Rattle.zpl_io.specs.Sink.{Takes}
use Rattle.list_claims.specs.of_zpl_compile.Compile.{compiled}
use Rattle.call_claims.specs.Accepted.{IsAccepted}
use Rattle.call_claims.specs.declared.ran.Ran.{Ran}
use Rattle.call_claims.specs.Call.{Call}
use Rattle.call_claims.specs.Cause.FileCause.{unreadable, too_long, work}
use Rattle.call_claims.specs.Command.{Asked, IsRun, RunTakes, build_of, limit_of}
use Rattle.call_claims.specs.Decided.{IsSettled}
use Rattle.call_claims.specs.Ended.{IsStatusOf, normal, trapped}
use Rattle.call_claims.specs.Execution.{Execution, execution_of}
use Rattle.call_claims.specs.declared.status.TheConstants.{DONE, TRAPPED}
use Rattle.call_claims.proofs.MetLemmas.{is_met}
use Rattle.call_claims.proofs.OneLemmas.{as_asked}
use Rattle.exec_claims.specs.Cause.{RunCause, run_of}
use Rattle.exec_claims.specs.Cause.RunCause.{done, trap, turn_limit, stuck, idle}
use Rattle.exec_claims.specs.Decided.{IsOrderText}
use Rattle.exec_claims.proofs.OneCause.{same_order}
use Rattle.exec_claims.proofs.WholeLemmas.{under_order}
use Rattle.list_claims.specs.Cause.CodeCause.{faulty, made}
use Rattle.list_claims.specs.Code.{IsAcceptedFor, IsCodeOf}
use Rattle.list_claims.proofs.ProgramLemmas.{fault_none, text_short, texts_same}
use Rattle.list_claims.proofs.WholeLemmas.{OneProgram}
use Rattle.exec_claims.specs.Answer as orders
use Rattle.run_claims.specs.Answer.{TakesPrinted}
use Rattle.run_claims.specs.Cause.{Cause, RunFileCause, Runs}
use Rattle.run_claims.specs.Cause.Cause.{no_memory, run}
use Rattle.run_claims.specs.Whole.{CanFinish, HasFinished, HasTurns, grid_of, meant_by}
use Rattle.run_claims.proofs.CodeLemmas.{Laws, never_idle, never_stuck, right_at, too_few}

-- a meaning that has ended stays so for greater bounds
abbrev pub EndingsStay : Type 0
EndingsStay = (program : Program) (settings : List Setting) (n m : ℕ) → n ≤ m
    → (mean_of program settings n).ending ≢ More
    → mean_of program settings m ≡ mean_of program settings n

-- so it has one that ends
one_meaning : EndingsStay → (program : Program) (settings : List Setting) (n m : ℕ)
    → (mean_of program settings n).ending ≢ More → (mean_of program settings m).ending ≢ More
    → mean_of program settings n ≡ mean_of program settings m
one_meaning stay program settings n m one other = elim (cases_lt n m) [
  | inl less ↦ sym (stay program settings n m (omega (arith, less)) one)
  | inr more ↦ stay program settings m n more other
]

pub same_end : (found : Option End) (one other : End) → found ≡ Some one → found ≡ Some other
    → one ≡ other
same_end found one other a b = let same : Some one ≡ Some other = sym a ∙ b in cc

not_both : (limit needed : ℕ) → limit < needed → needed ≤ limit → ⊥
not_both limit needed less enough = omega (arith, less, enough)

-- ---- the run
-- Where it is over, it has finished what the program means, for each bound within which that ends.
pub finished : (laws : Laws) (stay : EndingsStay) {text : List ℕ} {code : Tables} (asked : Asked)
    (of_text : IsCodeOf text (build_of asked) code) (capacity : IsCapacity asked.links)
    (more : List ℕ) (order : List ℕ) (read : reading (processors code) more ≡ Ok order) (bound : ℕ)
    → (mean_of of_text.program asked.settings bound).ending ≢ More
    → (k : ℕ) → IsOver (grid_at (run_of code asked order) k)
    → Finishes (mean_of of_text.program asked.settings bound)
    (grid_at (run_of code asked order) k)
finished laws stay {code = code} asked of_text capacity more order read bound ends k over =
    let right = right_at laws asked of_text capacity more order read k in
    let done = right.finishes over in
    subst (λ m. Finishes m (grid_at (run_of code asked order) k))
    (one_meaning stay of_text.program asked.settings
    (length (given order (processors code) k)) bound done.within ends) done

module _ (laws : Laws) (stay : EndingsStay) {text : List ℕ} {code : Tables} (asked : Asked)
    (of_text : IsCodeOf text (build_of asked) code) (bound : ℕ)
    (turns : HasTurns (build_of asked) of_text.program bound (limit_of asked))
    (capacity : IsCapacity asked.links) (more : List ℕ) (order : List ℕ)
    (read : reading (processors code) more ≡ Ok order) where
  abbrev meant : Meaning
  meant = mean_of of_text.program asked.settings bound

  abbrev grid : ℕ → Grid
  grid k = grid_at (run_of code asked order) k

  record Ended (k n : ℕ) : Type 0 where
    printed : (grid k).printed ≡ meant.bytes
    ends : EndsAs (grid k) meant.ending
    status : IsStatusOf meant.ending n

  over_so : (k n : ℕ) (ending : End) → IsOver (grid k) → first_ending (grid k) ≡ Some ending
      → IsStatusOf ending n → Ended k n
  over_so k n ending over first is =
      let done = finished laws stay asked of_text capacity more order read bound turns.ends k over in
      record {
        printed = done.all;
        ends = done.ending;
        status = subst (λ e. IsStatusOf e n)
            (same_end (first_ending (grid k)) ending meant.ending first done.ending.first) is;
      }

  ended : (k n : ℕ) (told : List ℕ) → RunCause (run_of code asked order) asked.report k n told
      → Ended k n
  ended k _ _ (done e) = over_so k DONE Done e.over e.first normal
  ended k _ _ (trap kind line e) = over_so k TRAPPED (Trap kind line) e.over e.first trapped
  ended k _ _ (turn_limit e) =
      absurd (not_both (limit_of asked)
      (turn_bound code (steps_of of_text.program asked.settings) (shattered_loops of_text.program)
      bound) (too_few laws asked of_text capacity more order read k e bound turns.ends)
      (subst (λ (c : Tables). turn_bound c (steps_of of_text.program asked.settings)
      (shattered_loops of_text.program) bound ≤ limit_of asked) (sym of_text.is)
      turns.enough))
  ended k _ _ (stuck p kind e) =
      absurd (never_stuck laws asked of_text capacity more order read k p kind e)
  ended k _ _ (idle p e) =
      absurd (never_idle laws asked of_text capacity more order read k p e)

-- ---- any call
module _ (laws : Laws) (stay : EndingsStay) (one : OneProgram) (call : Call) (ex : Execution) where
  of_file : {n : ℕ} {told : List ℕ} (file : List ℕ) (asked : Asked) (bound : ℕ)
      → IsCapacity asked.links → IsSettled call n → (can : CanFinish call file asked bound)
      → RunFileCause call file asked ex n told → HasFinished can ex n
  of_file file asked bound capacity settled can (unreadable may none) = absurd (settled.read refl)
  of_file file asked bound capacity settled can (too_long long none) =
      absurd (text_short call file (settled.one file) long can.source)
  of_file file asked bound capacity settled can (work source (faulty fault none)) =
      absurd (fault_none fault can.program
      (subst (λ t. IsAcceptedFor t (build_of asked) can.program)
      (texts_same call file (settled.one file) can.source source) can.accepted))
  of_file {n = n} {told = told} file asked bound capacity settled can
      (work source (made code of_text is does)) =
      let build = build_of asked in
      let same : of_text.program ≡ can.program = one can.source.text of_text.program can.program
      (subst (λ t. IsAccepted t of_text.program)
      (texts_same call file (settled.one file) source can.source)
      of_text.accepted.under.accepted) can.accepted.under.accepted in
      let coded : code ≡ compiled build can.program =
      of_text.is ∙ ap (λ p. compiled build p) same in
      let turns : HasTurns build of_text.program bound (limit_of asked) =
      subst (λ p. HasTurns build p bound (limit_of asked)) (sym same) can.turns in
      let read : reading (processors code) can.order_text ≡ Ok can.order =
      subst (λ (c : Tables). reading (processors c) can.order_text ≡ Ok can.order)
      (sym coded) can.read in
      let e = ended laws stay asked of_text bound turns capacity can.order_text can.order read ex.turns
      n told (under_order call code asked ex.turns can.order asked.order can.order_text settled
      can.told read does).cause in
      let mean : mean_of of_text.program asked.settings bound ≡ meant_by can =
      ap (λ p. mean_of p asked.settings bound) same in
      let grid : grid_at (run_of code asked can.order) ex.turns ≡ grid_of can ex.turns =
      ap (λ (c : Tables). grid_at (run_of c asked can.order) ex.turns) coded in
      record {
        made = is ∙ ap (λ (c : Tables). Some c) coded;
        printed = ap (λ (g : Grid). g.printed) (sym grid) ∙ e.printed ∙ ap (λ m. m.bytes) mean;
        ends = subst (λ (g : Grid). EndsAs g (meant_by can).ending) grid
            (subst (λ (m : Meaning). EndsAs (grid_at (run_of code asked can.order) ex.turns) m.ending)
            mean e.ends);
        status_is = subst (λ (m : Meaning). IsStatusOf m.ending n) mean e.status;
      }

  pub finishes : {n : ℕ} {told : List ℕ} (file : List ℕ) (asked : Asked) (bound : ℕ)
      → IsSettled call n → IsRun call.words file asked → (can : CanFinish call file asked bound)
      → Cause call ex n told → HasFinished can ex n
  finishes file asked bound settled given can no_memory = absurd (settled.decided.memory refl)
  finishes {n = n} {told = told} file asked bound settled given can (run r) =
      of_file file asked bound (is_met given.worded).links settled can
      (as_asked (codes "run") RunTakes call.words mine r)
    where
      mine : Runs call (λ file asked. Unit {0})
      mine = record { file = file; asked = asked; given = given; holds = tt }

-- ---- what the stream for output took
module _ (call : Call) (file : List ℕ) (asked : Asked) (bound status : ℕ)
    (settled : IsSettled call status) (given : IsRun call.words file asked)
    (can : CanFinish call file asked bound) (ran : Ran) (before after : List ℕ → Type 0) where
  abbrev code : Tables
  code = compiled (build_of asked) can.program

  order_same : (order : List ℕ) (text : List ℕ) → IsOrderText call asked.order text
      → reading (processors code) text ≡ Ok order → order ≡ can.order
  order_same order text is read = by asked.order is can.told
    where
      by : (named : Option (List ℕ)) → IsOrderText call named text
          → IsOrderText call named can.order_text → order ≡ can.order
      by None mine other =
          same_order _ order can.order read
          (subst (λ t. reading (processors code) t ≡ Ok can.order) (other ∙ sym mine) can.read)
      by (Some name) mine other =
          same_order _ order can.order read
          (subst (λ t. reading (processors code) t ≡ Ok can.order)
          (sym other.1 ∙ settled.one name other.0.text mine.0.text other.0.told mine.0.told ∙ mine.1) can.read)

  taken : (took : Option Tables) → took ≡ Some code → TakesPrinted call ran before after took
      → Takes before (grid_of can ran.turns).printed after
  taken None is h = absurd (let no : ⊥ = cc in no)
  taken (Some other) is (inl none) =
      subst (λ k. Takes before (grid_of can k).printed after) (sym none.0.turns) none.1
  taken (Some other) is (inr r) =
      of_run (as_asked (codes "run") RunTakes call.words mine r)
    where
      mine : Runs call (λ file asked. Unit {0})
      mine = record { file = file; asked = asked; given = given; holds = tt }

      same : other ≡ code
      same = let e : Some other ≡ Some code = is in cc

      of_run : orders.Runs call other asked
          (λ run. Takes before (grid_at run ran.turns).printed after)
          → Takes before (grid_of can ran.turns).printed after
      of_run o =
          subst (λ (c : Tables). Takes before
          (grid_at (run_of c asked can.order) ran.turns).printed after) same
          (subst (λ order. Takes before
          (grid_at (run_of other asked order) ran.turns).printed after)
          (order_same o.order o.text o.order_text
          (subst (λ (c : Tables). reading (processors c) o.text ≡ Ok o.order) same o.read)) o.holds)

  -- it took what the program means
  pub takes_meant : HasFinished can (execution_of ran) status
      → TakesPrinted call ran before after ran.code → Takes before (meant_by can).bytes after
  takes_meant finished h =
      subst (λ bytes. Takes before bytes after) finished.printed (taken ran.code finished.made h)
