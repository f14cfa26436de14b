-- Plans in which exchanges are open for a while: from their starts to their finishes.
--
--   may_stand_between   rows that may stand between a start and its finish
--   StandInOrder        rows of a stretch, by the exchanges that are open in front of them
--   IsSentInOrder       so it is in each stretch of a plan
use Rattle.std.specs.Prelude.{◌≡◌, ◌⊎◌, ℕ, Bool, true, false, not, List, [], ◌∷◌, ◌++◌, length}
use Rattle.std.specs.Prelude.{Option}
use Rattle.std.specs.List.{AllByRecursion}
use Rattle.node_form.specs.declared.instructions.Instr.{Instr}
use Rattle.node_form.specs.declared.instructions.Instr.TheVariants as instr
use Rattle.node_form.specs.declared.tables.Tables.{Tables}
use Rattle.code_parts.specs.Early.{is_roomy}
use Rattle.code_parts.specs.Uses.{may_divide}
use Rattle.flat_passes.specs.Rewritten.{stretches_of}

-- No row that may trap, and no other collective. A zero divisor in a loop is a trap in the vote
-- behind it, which may not stand there.
abbrev pub may_stand_between : Tables → Instr → Bool
may_stand_between tables (instr.Fix slot region) = true
may_stand_between tables (instr.Room array slot) = true
may_stand_between tables (instr.Clear array) = true
may_stand_between tables (instr.Loop slot group) = true
may_stand_between tables (instr.Print text) = true
may_stand_between tables (instr.Set scalar expr line) = not (may_divide tables expr)
may_stand_between tables (instr.Number expr) = not (may_divide tables expr)
may_stand_between tables (instr.Truth expr) = not (may_divide tables expr)
may_stand_between tables row = false

-- a finish is that of the oldest open exchange
abbrev pub finishes_oldest : List ℕ → ℕ → (List ℕ → Type 0) → Type 0
finishes_oldest [] exchange Rest = ⊥
finishes_oldest (oldest ∷ later) exchange Rest = (oldest ≡ exchange) × Rest later

-- The exchanges that are open stand with the oldest first. A start finds room on links that hold so
-- many messages, as there is one of each open exchange at most; and behind the rows none is open.
module _ (tables : Tables) (links : Option ℕ) where
  abbrev pub StandInOrder : List Instr → List ℕ → Type 0
  StandInOrder [] open_now = open_now ≡ []
  StandInOrder (instr.Start exchange ∷ rows) open_now =
      (is_roomy links (length open_now) ≡ true) × StandInOrder rows (open_now ++ exchange ∷ [])
  StandInOrder (instr.Finish exchange ∷ rows) open_now =
      finishes_oldest open_now exchange (StandInOrder rows)
  StandInOrder (row ∷ rows) open_now =
      ((open_now ≡ []) ⊎ (may_stand_between tables row ≡ true)) × StandInOrder rows open_now

-- in the straight rows of each stretch, in front of which none is open
abbrev pub IsSentInOrder : Option ℕ → Tables → Type 0
IsSentInOrder links tables =
    AllByRecursion (λ stretch. StandInOrder tables links stretch.front [])
    (stretches_of tables.code)
