-- What is left of the lines of states, where one breaks a rule, is their end.
use Rattle.std.proofs.Common.{◌≡◌, ℕ, Bool, List, [], ◌∷◌, ◌++◌, refl, ap, sym, ◌∙◌, subst}
use Rattle.std.proofs.lemmas.List.{append_assoc}
use Rattle.node_form.specs.declared.tables.Tables.{Tables}
use Rattle.zpl_region.specs.declared.regions.Region.{Region}
use Rattle.grid_meaning.specs.Local.{Local}
use Rattle.save_lines.specs.declared.lines.SavedLine.TheVariants.{Scalars, Cells}
use Rattle.save_lines.specs.declared.lines.SavedLine.{SavedLine}
use Rattle.grid_save.specs.Reads as read
use Rattle.grid_save.specs.Reads.{State, Each, EachBreaks, First, NoFirst, Run, RunBreaks, ReadsState, BreaksState, ReadsValues, BreaksValues, BreaksGrid, IsProc, IsSlotLine, IsStoreLine, IsKeptLine, IsMessageLine}

pub record IsTail (lines left : List SavedLine) : Type 0 where
  pub front : List SavedLine
  pub whole : lines ≡ front ++ left

pub tail_all : (lines : List SavedLine) → IsTail lines lines
tail_all lines = record { front = []; whole = refl }

tail_same : (lines left : List SavedLine) → left ≡ lines → IsTail lines left
tail_same lines left same = subst (IsTail lines) (sym same) (tail_all lines)

tail_more : (line : SavedLine) (lines left : List SavedLine) → IsTail lines left → IsTail (line ∷ lines) left
tail_more line lines left tail = record { front = line ∷ tail.front; whole = ap (λ ls. line ∷ ls) tail.whole }

tail_on : (lines behind left : List SavedLine) → IsTail lines behind → IsTail behind left → IsTail lines left
tail_on lines behind left one other = record {
  front = one.front ++ other.front;
  whole = one.whole ∙ (ap (λ ls. one.front ++ ls) other.whole ∙ sym (append_assoc one.front other.front left));
}

first_tail : {X : Type 0} (Is : SavedLine → X → Type 0) (lines : List SavedLine) (x : X) (rest : List SavedLine) → First Is lines x rest → IsTail lines rest
first_tail Is lines x rest first = record { front = first.line ∷ []; whole = first.first }

none_tail : {X : Type 0} (Is : SavedLine → X → Type 0) (lines left : List SavedLine) → NoFirst Is lines left → IsTail lines left
none_tail Is lines left none = tail_same lines left none.here

each_tail : {R X : Type 0} (Read : R → List SavedLine → X → List SavedLine → Type 0) →
    ((row : R) (lines : List SavedLine) (x : X) (rest : List SavedLine) → Read row lines x rest → IsTail lines rest) →
    {rows : List R} {lines : List SavedLine} {xs : List X} {rest : List SavedLine} → Each Read rows lines xs rest → IsTail lines rest
each_tail Read tail (read.Over lines) = tail_all lines
each_tail Read tail (read.More row rows lines x behind xs rest one more) = tail_on lines behind rest (tail row lines x behind one) (each_tail Read tail more)

each_breaks_tail : {R X : Type 0} (Read : R → List SavedLine → X → List SavedLine → Type 0) (Breaks : R → List SavedLine → List SavedLine → Type 0) →
    ((row : R) (lines : List SavedLine) (x : X) (rest : List SavedLine) → Read row lines x rest → IsTail lines rest) →
    ((row : R) (lines left : List SavedLine) → Breaks row lines left → IsTail lines left) →
    {rows : List R} {lines left : List SavedLine} → EachBreaks Read Breaks rows lines left → IsTail lines left
each_breaks_tail Read Breaks tail stop (read.Here row rows lines left breaks) = stop row lines left breaks
each_breaks_tail Read Breaks tail stop (read.Later row rows lines x behind left one more) =
    tail_on lines behind left (tail row lines x behind one) (each_breaks_tail Read Breaks tail stop more)

run_tail : {X : Type 0} (p : SavedLine → Bool) (Is : List X → SavedLine → X → Type 0) {done : List X} {lines : List SavedLine} {xs : List X} {rest : List SavedLine} →
    Run p Is done lines xs rest → IsTail lines rest
run_tail p Is (read.Ends done lines stop) = tail_all lines
run_tail p Is (read.GoesOn done line lines x xs rest begins is more) = tail_more line lines rest (run_tail p Is more)

run_breaks_tail : {X : Type 0} (p : SavedLine → Bool) (Is : List X → SavedLine → X → Type 0) {done : List X} {lines left : List SavedLine} →
    RunBreaks p Is done lines left → IsTail lines left
run_breaks_tail p Is (read.StopsHere done line lines begins none) = tail_all (line ∷ lines)
run_breaks_tail p Is (read.StopsLater done line lines x left begins is more) = tail_more line lines left (run_breaks_tail p Is more)

slots_tail : {rows : List ℕ} {lines : List SavedLine} {xs : List Region} {rest : List SavedLine} → Each (λ rank. First (IsSlotLine rank)) rows lines xs rest → IsTail lines rest
slots_tail each = each_tail (λ rank. First (IsSlotLine rank)) (λ rank lines x rest first. first_tail (IsSlotLine rank) lines x rest first) each

values_tail : (code : Tables) (p : ℕ) (lines : List SavedLine) (local : Local) (rest : List SavedLine) → ReadsValues code p lines local rest → IsTail lines rest
values_tail code p lines local rest reads =
    tail_on lines reads.behind_proc rest (first_tail (IsProc code p) lines reads.placed reads.behind_proc reads.proc)
    (tail_on reads.behind_proc reads.behind_scalars rest (first_tail (read.AreValues Scalars code.scalars) reads.behind_proc reads.scalars reads.behind_scalars reads.scalars_are)
    (tail_on reads.behind_scalars reads.behind_slots rest (slots_tail reads.slots_are)
    (tail_on reads.behind_slots reads.behind_cells rest (first_tail (read.AreValues Cells code.cells) reads.behind_slots reads.cells reads.behind_cells reads.cells_are)
    (each_tail (λ row. First (IsStoreLine code p row)) (λ row lines x rest first. first_tail (IsStoreLine code p row) lines x rest first) reads.stores_are))))

values_breaks_tail : (code : Tables) (p : ℕ) (lines : List SavedLine) {left : List SavedLine} → BreaksValues code p lines left → IsTail lines left
values_breaks_tail code p lines (read.AtProc left none) = none_tail (IsProc code p) lines left none
values_breaks_tail code p lines (read.AtScalars placed one left proc none) =
    tail_on lines one left (first_tail (IsProc code p) lines placed one proc) (none_tail (read.AreValues Scalars code.scalars) one left none)
values_breaks_tail code p lines (read.AtSlot placed scalars one two left proc are breaks) =
    tail_on lines one left (first_tail (IsProc code p) lines placed one proc)
    (tail_on one two left (first_tail (read.AreValues Scalars code.scalars) one scalars two are)
    (each_breaks_tail (λ rank. First (IsSlotLine rank)) (λ rank. NoFirst (IsSlotLine rank)) (λ rank lines x rest first. first_tail (IsSlotLine rank) lines x rest first)
    (λ rank lines left none. none_tail (IsSlotLine rank) lines left none) breaks))
values_breaks_tail code p lines (read.AtCells placed scalars slots one two three left proc are each none) =
    tail_on lines one left (first_tail (IsProc code p) lines placed one proc)
    (tail_on one two left (first_tail (read.AreValues Scalars code.scalars) one scalars two are)
    (tail_on two three left (slots_tail each) (none_tail (read.AreValues Cells code.cells) three left none)))
values_breaks_tail code p lines (read.AtStore placed scalars slots cells one two three four left proc are each also breaks) =
    tail_on lines one left (first_tail (IsProc code p) lines placed one proc)
    (tail_on one two left (first_tail (read.AreValues Scalars code.scalars) one scalars two are)
    (tail_on two three left (slots_tail each)
    (tail_on three four left (first_tail (read.AreValues Cells code.cells) three cells four also)
    (each_breaks_tail (λ row. First (IsStoreLine code p row)) (λ row. NoFirst (IsStoreLine code p row)) (λ row lines x rest first. first_tail (IsStoreLine code p row) lines x rest first)
    (λ row lines left none. none_tail (IsStoreLine code p row) lines left none) breaks))))

state_tail : (code : Tables) (p : ℕ) (lines : List SavedLine) (state : State) (rest : List SavedLine) → ReadsState code p lines state rest → IsTail lines rest
state_tail code p lines state rest reads =
    tail_on lines reads.behind_values rest (values_tail code p lines reads.values reads.behind_values reads.values_are)
    (tail_on reads.behind_values reads.behind_kept rest (run_tail read.is_kept (IsKeptLine code p reads.values) reads.kept_is)
    (run_tail read.is_message (IsMessageLine code p) reads.sent_is))

state_breaks_tail : (code : Tables) (p : ℕ) (lines : List SavedLine) {left : List SavedLine} → BreaksState code p lines left → IsTail lines left
state_breaks_tail code p lines (read.AtValues left breaks) = values_breaks_tail code p lines breaks
state_breaks_tail code p lines (read.TooFar values behind reads far) = tail_all lines
state_breaks_tail code p lines (read.AtKept values behind left reads far breaks) =
    tail_on lines behind left (values_tail code p lines values behind reads) (run_breaks_tail read.is_kept (IsKeptLine code p values) breaks)
state_breaks_tail code p lines (read.LacksKept values kept behind left reads far run lacks) =
    tail_on lines behind left (values_tail code p lines values behind reads) (run_tail read.is_kept (IsKeptLine code p values) run)
state_breaks_tail code p lines (read.AtMessage values kept behind one left reads far run may breaks) =
    tail_on lines behind left (values_tail code p lines values behind reads)
    (tail_on behind one left (run_tail read.is_kept (IsKeptLine code p values) run) (run_breaks_tail read.is_message (IsMessageLine code p) breaks))

grid_tail : (code : Tables) (lines : List SavedLine) {left : List SavedLine} → BreaksGrid code lines left → IsTail lines left
grid_tail code lines (read.AtState left breaks) =
    each_breaks_tail (ReadsState code) (BreaksState code) (state_tail code) (λ p lines left stops. state_breaks_tail code p lines stops) breaks
grid_tail code lines (read.Behind states line rest each) = each_tail (ReadsState code) (state_tail code) each

pub grid_breaks_tail : (code : Tables) (lines left : List SavedLine) → BreaksGrid code lines left → IsTail lines left
grid_breaks_tail code lines left breaks = grid_tail code lines breaks
