-- The lines of a saved grid, read in their order, and the line that breaks a rule.
--
--   ReadsState, BreaksState   the lines of a processor are those of a state; or one is of none
--   ReadsGrid, BreaksGrid     so of all processors
use Rattle.std.specs.Prelude.{◌≡◌, ◌⊎◌, ℕ, ◌<◌, ◌≤◌, Bool, true, false, ℤ, unsigned_abs, Option, Some, None, List, [], ◌∷◌, ◌++◌, length, map, take, is_some, slice_get, All, ⊤}
use Rattle.std.specs.List.{Any}
use Rattle.std.specs.Option.{IfSome, IsSomeAnd}
use Rattle.zpl_region.specs.declared.regions.Region.{Region}
use Rattle.zpl_arrays.specs.Array.{Array}
use Rattle.grid_links.specs.of_zpl_lists.Front.{IsFrontOf}
use Rattle.grid_links.specs.declared.messages.Message.{Message}
use Rattle.node_form.specs.declared.arrays.ArrayRow.{ArrayRow}
use Rattle.node_form.specs.declared.instructions.Instr.{Instr}
use Rattle.node_form.specs.declared.instructions.Instr.TheVariants as instr
use Rattle.node_form.specs.declared.tables.Tables.{Tables}
use Rattle.grid_meaning.specs.Collective.{Collective, Use, AtOnce, InLast, Asking, others}
use Rattle.grid_meaning.specs.Local.{Local, processor_numbers}
use Rattle.grid_meaning.specs.Rows.{collective}
use Rattle.grid_meaning.specs.State.{IsAgain, IsLooping, IsOutside, IsSlot, IsStore, KeepsWords, Stands, ascending, senders}
use Rattle.save_lines.specs.declared.lines.SavedLine.{SavedLine}
use Rattle.save_lines.specs.declared.lines.SavedLine.TheVariants.{Proc, Scalars, Cells, Kept, Msg}
use Rattle.grid_save.specs.Kept.{IsEnding}
use Rattle.grid_save.specs.Written.{kept_line, message_line, proc_row, slot_line, store_line}

-- ---- lines one after another
-- the first of the lines is that of this value
pub record First {X : Type 0} (Is : SavedLine → X → Type 0) (lines : List SavedLine) (x : X) (rest : List SavedLine) : Type 0 where
  pub line : SavedLine
  pub first : lines ≡ line ∷ rest
  pub is : Is line x

-- it is that of none, or there is no line
pub record NoFirst {X : Type 0} (Is : SavedLine → X → Type 0) (lines left : List SavedLine) : Type 0 where
  pub none : (x : X) (rest : List SavedLine) → First Is lines x rest → ⊥
  pub here : left ≡ lines

-- for each of some rows the lines that it wants, in order
pub data Each {R X : Type 0} (Read : R → List SavedLine → X → List SavedLine → Type 0) :
    List R → List SavedLine → List X → List SavedLine → Type 0 where
  Over : (lines : List SavedLine) → Each Read [] lines [] lines
  More : (row : R) (rows : List R) (lines : List SavedLine) (x : X) (behind : List SavedLine) (xs : List X) (rest : List SavedLine) →
      Read row lines x behind → Each Read rows behind xs rest → Each Read (row ∷ rows) lines (x ∷ xs) rest

-- for one of the rows it stops; what is left begins with the line that breaks a rule
pub data EachBreaks {R X : Type 0} (Read : R → List SavedLine → X → List SavedLine → Type 0)
    (Breaks : R → List SavedLine → List SavedLine → Type 0) : List R → List SavedLine → List SavedLine → Type 0 where
  Here : (row : R) (rows : List R) (lines left : List SavedLine) → Breaks row lines left → EachBreaks Read Breaks (row ∷ rows) lines left
  Later : (row : R) (rows : List R) (lines : List SavedLine) (x : X) (behind left : List SavedLine) →
      Read row lines x behind → EachBreaks Read Breaks rows behind left → EachBreaks Read Breaks (row ∷ rows) lines left

-- ---- the line `proc`
-- what it says against the program alone: outside of loops there is no index and no member, and
-- nothing was made in a loop or after the end
abbrev pub IsMember : Tables → Local → ℕ → Type 0
IsMember code local group =
    (local.member ≡ 0) ⊎ IsSomeAnd (slice_get code.groups group) (λ all. IsSomeAnd (slice_get all local.member) IsAgain)

abbrev pub MayStandAt : Tables → Local → Option Instr → Type 0
MayStandAt code local None = IsOutside local × (local.made ≡ 0)
MayStandAt code local (Some (instr.Loop slot group)) = (local.made ≡ 0) × IsMember code local group
MayStandAt code local (Some row) = IsOutside local

-- by whether the processor has ended
abbrev pub MayStand : Tables → Local → Bool → Type 0
MayStand code local true = IsOutside local × (local.made ≡ 0)
MayStand code local false = MayStandAt code local (slice_get code.code local.at)

abbrev pub IsFlag : Tables → Option ℕ → Type 0
IsFlag code flag = IfSome flag (λ member. Any (λ all. member < length all) code.groups)

-- a state of which nothing else is known yet
abbrev pub bare : Local → Local
bare local = record local { scalars = []; slots = []; cells = []; stores = []; kept = [] }

pub record IsProc (code : Tables) (p : ℕ) (line : SavedLine) (local : Local) : Type 0 where
  pub written : line ≡ Proc (proc_row p local)
  pub alone : local ≡ bare local
  pub at : local.at ≤ length code.code
  pub flag : IsFlag code local.flag
  pub ended : IsEnding local.ended
  pub stands : MayStand code local (is_some local.ended)

-- ---- the lines of values
pub record AreValues (line_of : List ℤ → SavedLine) (count : ℕ) (line : SavedLine) (values : List ℤ) : Type 0 where
  pub written : line ≡ line_of values
  pub many : length values ≡ count

pub record IsSlotLine (rank : ℕ) (line : SavedLine) (region : Region) : Type 0 where
  pub written : line ≡ slot_line region
  pub fits : IsSlot rank region

pub record IsStoreLine (code : Tables) (p : ℕ) (row : ArrayRow) (line : SavedLine) (store : Array) : Type 0 where
  pub written : line ≡ store_line store
  pub fits : IsStore code p row store

-- ---- how far the processor is, against its values: a rule of the line `proc`
abbrev pub with_kept : Local → List (ℕ × List ℤ) → Local
with_kept local kept = record local { kept = kept }

-- The words that the next lines say are kept, whether or not they may be: a `remap` has a turn more
-- for each.
abbrev pub told_kept : List SavedLine → List (ℕ × List ℤ)
told_kept [] = []
told_kept (Kept from words ∷ lines) = (unsigned_abs from, words) ∷ told_kept lines
told_kept (line ∷ lines) = []

-- fewer turns were made than the row has
abbrev pub IsUnder : Option Collective → Local → Type 0
IsUnder None local = local.made ≡ 0
IsUnder (Some row) local = local.made < length (row.stages local)

abbrev pub IsFarAt : Tables → ℕ → Local → List (ℕ × List ℤ) → Option Instr → Type 0
IsFarAt code p local told None = ⊤
IsFarAt code p local told (Some (instr.Loop slot group)) =
    IsLooping code p local (slice_get local.slots slot) (slice_get code.groups group)
IsFarAt code p local told (Some row) = IsUnder (collective code p row) (with_kept local told)

abbrev pub IsFar : Tables → ℕ → Local → List (ℕ × List ℤ) → Bool → Type 0
IsFar code p local told true = ⊤
IsFar code p local told false = IsFarAt code p local told (slice_get code.code local.at)

-- ---- words that are kept
abbrev pub MayKeepAs : Tables → ℕ → Local → Bool → Type 0
MayKeepAs code p local true = local.kept ≡ []
MayKeepAs code p local false = Stands code p local

-- the state may have just these words
abbrev pub MayKeep : Tables → ℕ → Local → List (ℕ × List ℤ) → Type 0
MayKeep code p local kept = MayKeepAs code p (with_kept local kept) (is_some local.ended)

-- The words begin those that the row has taken and not used: their senders are the first ones, and
-- each has as many as the row awaits. Of requests any may be the next that the row may have.
abbrev pub BeginsWords : Tables → ℕ → Use → Collective → Local → Type 0
BeginsWords code p AtOnce row local = KeepsWords code p AtOnce row local
BeginsWords code p InLast row local =
    IsFrontOf (map (λ entry. entry.0) local.kept) (ascending (senders (take local.made (row.stages local))))
    × All (λ entry. row.awaits local entry.0 (length entry.1) ≡ true) local.kept
BeginsWords code p Asking row local = KeepsWords code p Asking row local

abbrev pub BeginsIn : Tables → ℕ → Local → Option Collective → Type 0
BeginsIn code p local None = local.kept ≡ []
BeginsIn code p local (Some row) = BeginsWords code p row.use_of_words row local

abbrev pub BeginsAt : Tables → ℕ → Local → Option Instr → Type 0
BeginsAt code p local None = local.kept ≡ []
BeginsAt code p local (Some row) = BeginsIn code p local (collective code p row)

abbrev pub BeginsAs : Tables → ℕ → Local → Bool → Type 0
BeginsAs code p local true = local.kept ≡ []
BeginsAs code p local false = BeginsAt code p local (slice_get code.code local.at)

-- these words are the first of some that the state may have
abbrev pub MayBegin : Tables → ℕ → Local → List (ℕ × List ℤ) → Type 0
MayBegin code p local kept = BeginsAs code p (with_kept local kept) (is_some local.ended)

abbrev pub is_kept : SavedLine → Bool
is_kept (Kept from words) = true
is_kept line = false

abbrev pub is_message : SavedLine → Bool
is_message (Msg to tag words) = true
is_message line = false

-- the first of the lines is such a one
abbrev pub begins : (SavedLine → Bool) → List SavedLine → Bool
begins p [] = false
begins p (line ∷ lines) = p line

-- the lines of such a kind, up to the first of another one, are those of these values; which may be
-- next depends on those in front
pub data Run {X : Type 0} (p : SavedLine → Bool) (Is : List X → SavedLine → X → Type 0) :
    List X → List SavedLine → List X → List SavedLine → Type 0 where
  Ends : (done : List X) (lines : List SavedLine) → begins p lines ≡ false → Run p Is done lines [] lines
  GoesOn : (done : List X) (line : SavedLine) (lines : List SavedLine) (x : X) (xs : List X) (rest : List SavedLine) →
      p line ≡ true → Is done line x → Run p Is (done ++ x ∷ []) lines xs rest → Run p Is done (line ∷ lines) (x ∷ xs) rest

pub data RunBreaks {X : Type 0} (p : SavedLine → Bool) (Is : List X → SavedLine → X → Type 0) :
    List X → List SavedLine → List SavedLine → Type 0 where
  StopsHere : (done : List X) (line : SavedLine) (lines : List SavedLine) → p line ≡ true → ((x : X) → Is done line x → ⊥) →
      RunBreaks p Is done (line ∷ lines) (line ∷ lines)
  StopsLater : (done : List X) (line : SavedLine) (lines : List SavedLine) (x : X) (left : List SavedLine) →
      p line ≡ true → Is done line x → RunBreaks p Is (done ++ x ∷ []) lines left → RunBreaks p Is done (line ∷ lines) left

pub record IsKeptLine (code : Tables) (p : ℕ) (local : Local) (done : List (ℕ × List ℤ)) (line : SavedLine) (entry : ℕ × List ℤ) : Type 0
  where
    pub written : line ≡ kept_line entry
    pub begins_some : MayBegin code p local (done ++ entry ∷ [])

-- ---- messages, with their receivers
-- a message is for another processor, and no earlier one than the last
pub record IsMessageLine (code : Tables) (p : ℕ) (done : List (ℕ × Message)) (line : SavedLine) (sent : ℕ × Message) : Type 0 where
  pub written : line ≡ message_line sent.0 sent.1
  pub other : Any (λ q. q ≡ sent.0) (others code p)
  pub behind : All (λ earlier. earlier.0 ≤ sent.0) done

-- ---- a processor
pub record State : Type 0 where
  pub local : Local
  pub sent : List (ℕ × Message)

-- up to the values of its arrays
pub record ReadsValues (code : Tables) (p : ℕ) (lines : List SavedLine) (local : Local) (rest : List SavedLine) : Type 0 where
  pub placed : Local
  pub behind_proc : List SavedLine
  pub proc : First (IsProc code p) lines placed behind_proc
  pub scalars : List ℤ
  pub behind_scalars : List SavedLine
  pub scalars_are : First (AreValues Scalars code.scalars) behind_proc scalars behind_scalars
  pub slots : List Region
  pub behind_slots : List SavedLine
  pub slots_are : Each (λ rank. First (IsSlotLine rank)) code.slots behind_scalars slots behind_slots
  pub cells : List ℤ
  pub behind_cells : List SavedLine
  pub cells_are : First (AreValues Cells code.cells) behind_slots cells behind_cells
  pub stores : List Array
  pub stores_are : Each (λ row. First (IsStoreLine code p row)) code.arrays behind_cells stores rest
  pub made : local ≡ record placed { scalars = scalars; slots = slots; cells = cells; stores = stores }

pub data BreaksValues (code : Tables) (p : ℕ) (lines : List SavedLine) : List SavedLine → Type 0 where
  AtProc : (left : List SavedLine) → NoFirst (IsProc code p) lines left → BreaksValues code p lines left
  AtScalars : (placed : Local) (one left : List SavedLine) → First (IsProc code p) lines placed one →
      NoFirst (AreValues Scalars code.scalars) one left → BreaksValues code p lines left
  AtSlot : (placed : Local) (scalars : List ℤ) (one two left : List SavedLine) → First (IsProc code p) lines placed one →
      First (AreValues Scalars code.scalars) one scalars two →
      EachBreaks (λ rank. First (IsSlotLine rank)) (λ rank. NoFirst (IsSlotLine rank)) code.slots two left → BreaksValues code p lines left
  AtCells : (placed : Local) (scalars : List ℤ) (slots : List Region) (one two three left : List SavedLine) →
      First (IsProc code p) lines placed one → First (AreValues Scalars code.scalars) one scalars two →
      Each (λ rank. First (IsSlotLine rank)) code.slots two slots three → NoFirst (AreValues Cells code.cells) three left →
      BreaksValues code p lines left
  AtStore : (placed : Local) (scalars : List ℤ) (slots : List Region) (cells : List ℤ) (one two three four left : List SavedLine) →
      First (IsProc code p) lines placed one → First (AreValues Scalars code.scalars) one scalars two →
      Each (λ rank. First (IsSlotLine rank)) code.slots two slots three → First (AreValues Cells code.cells) three cells four →
      EachBreaks (λ row. First (IsStoreLine code p row)) (λ row. NoFirst (IsStoreLine code p row)) code.arrays four left →
      BreaksValues code p lines left

-- with the words that it keeps, and its messages
pub record ReadsState (code : Tables) (p : ℕ) (lines : List SavedLine) (state : State) (rest : List SavedLine) : Type 0 where
  pub values : Local
  pub behind_values : List SavedLine
  pub values_are : ReadsValues code p lines values behind_values
  pub far : IsFar code p values (told_kept behind_values) (is_some values.ended)
  pub kept : List (ℕ × List ℤ)
  pub behind_kept : List SavedLine
  pub kept_is : Run is_kept (IsKeptLine code p values) [] behind_values kept behind_kept
  pub may_keep : MayKeep code p values kept
  pub local_is : state.local ≡ with_kept values kept
  pub sent_is : Run is_message (IsMessageLine code p) [] behind_kept state.sent rest

-- where the number of turns or indices is wrong, that is the line `proc`; where words are missing,
-- the line behind those that are kept
pub data BreaksState (code : Tables) (p : ℕ) (lines : List SavedLine) : List SavedLine → Type 0 where
  AtValues : (left : List SavedLine) → BreaksValues code p lines left → BreaksState code p lines left
  TooFar : (values : Local) (behind : List SavedLine) → ReadsValues code p lines values behind →
      (IsFar code p values (told_kept behind) (is_some values.ended) → ⊥) → BreaksState code p lines lines
  AtKept : (values : Local) (behind left : List SavedLine) → ReadsValues code p lines values behind →
      IsFar code p values (told_kept behind) (is_some values.ended) → RunBreaks is_kept (IsKeptLine code p values) [] behind left →
      BreaksState code p lines left
  LacksKept : (values : Local) (kept : List (ℕ × List ℤ)) (behind left : List SavedLine) → ReadsValues code p lines values behind →
      IsFar code p values (told_kept behind) (is_some values.ended) → Run is_kept (IsKeptLine code p values) [] behind kept left →
      (MayKeep code p values kept → ⊥) → BreaksState code p lines left
  AtMessage : (values : Local) (kept : List (ℕ × List ℤ)) (behind one left : List SavedLine) → ReadsValues code p lines values behind →
      IsFar code p values (told_kept behind) (is_some values.ended) → Run is_kept (IsKeptLine code p values) [] behind kept one →
      MayKeep code p values kept → RunBreaks is_message (IsMessageLine code p) [] one left → BreaksState code p lines left

-- ---- all processors, and nothing behind them
pub record ReadsGrid (code : Tables) (lines : List SavedLine) (states : List State) : Type 0 where
  pub each : Each (ReadsState code) (processor_numbers code) lines states []

pub data BreaksGrid (code : Tables) (lines : List SavedLine) : List SavedLine → Type 0 where
  AtState : (left : List SavedLine) → EachBreaks (ReadsState code) (BreaksState code) (processor_numbers code) lines left →
      BreaksGrid code lines left
  Behind : (states : List State) (line : SavedLine) (rest : List SavedLine) →
      Each (ReadsState code) (processor_numbers code) lines states (line ∷ rest) → BreaksGrid code lines (line ∷ rest)
