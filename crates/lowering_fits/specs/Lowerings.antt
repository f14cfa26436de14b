-- When the code of statements fits, and what it has of its own is laid out in the tables.
use Rattle.std.specs.Prelude.{◌≡◌, ℕ, ◌+◌, ◌≤◌, Bool, true, false, List, [], ◌∷◌, Option, Some, None}
use Rattle.meaning_ranks.specs.of_zpl_tree.Syntax.{Base, Item, Str, Value, Stmt, Prefixed, Stmts, NoStmt, ThenStmt, Form, Assign, Invoke, Block, If, While, Repeat, For, Border, Write, Return, Arm, Tested, Arms, NoArm, ThenArm, Otherwise, NoElse, Else}
use Rattle.zpl_region.specs.declared.regions.Region.{Region}
use Rattle.meaning_ranks.specs.of_zpl_names.Scope.{Scope}
use Rattle.meaning_ranks.specs.of_zpl_binding.Outcome.{Computed, value_or}
use Rattle.meaning_ranks.specs.of_zpl_binding.Regions.{no_region}
use Rattle.meaning_ranks.specs.of_zpl_meaning.Context.{Currents}
use Rattle.meaning_ranks.specs.of_zpl_meaning.Proper.{HasCurrent}
use Rattle.meaning_ranks.specs.of_zpl_meaning.Statement.{step_expr}
use Rattle.stored_shifts.specs.of_node_form.declared.tables.Tables.{Tables}
use Rattle.stored_shifts.specs.of_node_form.Fits.{IsRank, HasSlot}
use Rattle.lower_numbers.specs.of_zpl_lowering.Where.{SlotEdge, Where, Next}
use Rattle.lower_numbers.specs.of_zpl_lowering.Lowered.{Lowered}
use Rattle.lowering_fits.specs.Inline.{FitsPiece}
use Rattle.lowering_fits.specs.Reach.{HasFlatRemaps, HaveFlatRemaps}
use Rattle.lowering_fits.specs.Slates.{SlotsAt, TempsAt, StoragesAt, AllTemps, AllShifts, AllCovered, FitsVector}

abbrev pub AllRanks : List ℕ → Type 0
AllRanks [] = Unit {0}
AllRanks (rank ∷ ranks) = IsRank rank × AllRanks ranks

-- What the code has of its own is in the tables, from the numbers on that are free; and its shifts
-- are within the fringes.
pub record IsLaidOut (tables : Tables) (next : Next) (lowered : Lowered) : Type 0 where
  pub below : next.scalars + lowered.scalars ≤ tables.scalars
  pub slots_at : SlotsAt tables next.slots lowered.slots
  pub arrays_at : StoragesAt tables next.arrays lowered.arrays
  pub copies_at : StoragesAt tables next.copies lowered.copies
  pub later_at : StoragesAt tables next.later lowered.later
  pub temps_at : TempsAt tables next.temps lowered.temps
  pub shifts_at : AllCovered tables lowered.shifts

-- The code fits; slots and temporaries have ranks from 1 to 3, and shifts are small.
pub record FitsLowered (tables : Tables) (lowered : Lowered) : Type 0 where
  pub code_fits : FitsPiece tables lowered.code
  pub slot_ranks : AllRanks lowered.slots
  pub temp_ranks : AllTemps lowered.temps
  pub small_shifts : AllShifts lowered.shifts

-- ---- borders

-- the border that the nearest prefix is has a slot and a vector of that prefix's rank, under whose
-- current region it stands
abbrev pub FitsEdge : Tables → Where → Currents → Option SlotEdge → Type 0
FitsEdge tables w currents None = Unit {0}
FitsEdge tables w currents (Some edge) =
    (rank : ℕ)
    × ((w.prefix ≡ Some rank) × HasCurrent currents w.prefix × HasSlot tables rank edge.slot
    × FitsVector rank edge.shift)

-- ---- texts

-- arrays that are read at computed tuples have no flood dimension, and a `return` stands only where
-- there is an answer
abbrev pub AreSoundItems : Scope → List Item → Type 0
AreSoundItems scope [] = Unit {0}
AreSoundItems scope (Str bytes ∷ items) = AreSoundItems scope items
AreSoundItems scope (Value one ∷ items) = HasFlatRemaps scope one × AreSoundItems scope items

abbrev mutual
  pub IsSoundStmt : Scope → Bool → Stmt → Type 0
  IsSoundStmt scope answers (Prefixed at prefixes form) = IsSoundForm scope answers form

  pub AreSoundStmts : Scope → Bool → Stmts → Type 0
  AreSoundStmts scope answers NoStmt = Unit {0}
  AreSoundStmts scope answers (ThenStmt first rest) =
      IsSoundStmt scope answers first × AreSoundStmts scope answers rest

  pub IsSoundForm : Scope → Bool → Form → Type 0
  IsSoundForm scope answers (Assign name op value) = HasFlatRemaps scope value
  IsSoundForm scope answers (Invoke name actuals) = HaveFlatRemaps scope actuals
  IsSoundForm scope answers (Block body) = AreSoundStmts scope answers body
  IsSoundForm scope answers (If arms otherwise) =
      AreSoundArms scope answers arms × IsSoundElse scope answers otherwise
  IsSoundForm scope answers (While test body) =
      HasFlatRemaps scope test × AreSoundStmts scope answers body
  IsSoundForm scope answers (Repeat body until test) =
      HasFlatRemaps scope test × AreSoundStmts scope answers body
  IsSoundForm scope answers (For head body) =
      (HasFlatRemaps scope head.first × HasFlatRemaps scope head.last
      × HasFlatRemaps scope (step_expr head.step))
      × AreSoundStmts scope answers body
  IsSoundForm scope answers (Border kind names) = Unit {0}
  IsSoundForm scope answers (Write ends items) = AreSoundItems scope items
  IsSoundForm scope answers (Return value) = (answers ≡ true) × HasFlatRemaps scope value

  pub AreSoundArms : Scope → Bool → Arms → Type 0
  AreSoundArms scope answers NoArm = Unit {0}
  AreSoundArms scope answers (ThenArm first rest) =
      IsSoundArm scope answers first × AreSoundArms scope answers rest

  pub IsSoundArm : Scope → Bool → Arm → Type 0
  IsSoundArm scope answers (Tested at test body) =
      HasFlatRemaps scope test × AreSoundStmts scope answers body

  pub IsSoundElse : Scope → Bool → Otherwise → Type 0
  IsSoundElse scope answers NoElse = Unit {0}
  IsSoundElse scope answers (Else body) = AreSoundStmts scope answers body

-- whether a procedure answers
abbrev pub answering : Option Base → Bool
answering None = false
answering (Some base) = true

-- ---- declared regions

-- the rank of a declared region
abbrev pub region_rank : Computed Region → ℕ
region_rank one = (value_or no_region one.outcome).rank
