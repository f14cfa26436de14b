-- Paths through code, and the facts that stand on all of them.
use Rattle.std.specs.Prelude.{◌≡◌, ℕ, ◌+◌, ◌==◌, List, [], ◌∷◌, ◌++◌, Contains, slice_get, Some}
use Rattle.std.specs.Prelude.{if◌then◌else◌}
use Rattle.node_form.specs.declared.instructions.Instr.{Instr}
use Rattle.node_form.specs.declared.instructions.Instr.TheVariants as instr
use Rattle.node_form.specs.declared.tables.Tables.{Tables}
use Rattle.node_check.specs.Fact.{Fact}
use Rattle.node_check.specs.Learn.{learnt, start_facts}

-- the instructions that may be next behind the one with this number
abbrev pub nexts : ℕ → Instr → List ℕ
nexts at (instr.Jump goal) = goal ∷ []
nexts at (instr.Unless expr goal line) = (at + 1) ∷ goal ∷ []
nexts at (instr.Trap kind line) = []
nexts at instr.End = []
nexts at row = (at + 1) ∷ []

-- ---- exchanges that are started and not finished, in the order of their starts
-- without the first of these numbers
abbrev pub without : ℕ → List ℕ → List ℕ
without number [] = []
without number (first ∷ numbers) =
    if first == number then numbers else first ∷ without number numbers

abbrev pub open_behind : List ℕ → Instr → List ℕ
open_behind opened (instr.Start exchange) = opened ++ exchange ∷ []
open_behind opened (instr.Finish exchange) = without exchange opened
open_behind opened row = opened

-- ---- Some path from the first instruction leads to the one with a number, with such exchanges
-- open in front of it. The number may be that of the end behind the last one.
pub data Comes (code : Tables) : ℕ → List ℕ → Type 0 where
  Begins : Comes code 0 []
  Follows : {at next : ℕ} {opened : List ℕ} {row : Instr} → Comes code at opened
      → slice_get code.code at ≡ Some row → Contains (nexts at row) next
      → Comes code next (open_behind opened row)

-- ---- Sets of facts, one for each instruction. In front of the first one only facts stand that
-- stand at the start; and in front of each, only facts that stand behind every instruction on a
-- path that it may be next to.
pub record AreFacts (code : Tables) (facts : ℕ → List Fact) : Type 0 where
  pub start : (fact : Fact) → Contains (facts 0) fact → Contains (start_facts code) fact
  pub behind : (at next : ℕ) (opened : List ℕ) (row : Instr) (fact : Fact) → Comes code at opened
      → slice_get code.code at ≡ Some row → Contains (nexts at row) next
      → Contains (facts next) fact → Contains (learnt code (facts at) row) fact
