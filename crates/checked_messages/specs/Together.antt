-- Rows in which processors work together, and what is shown of them where their demand is met.
--
--   is_together    such a row
--   KeepsStanding  behind a row all processors have what is the program's, and the same regions
use Rattle.std.specs.Prelude.{◌≡◌, ℕ, Bool, true, false, List, Option}
use Rattle.node_form.specs.declared.instructions.Instr.{Instr}
use Rattle.node_form.specs.declared.instructions.Instr.TheVariants as instr
use Rattle.node_form.specs.declared.tables.Tables.{Tables}
use Rattle.row_runs.specs.Run.{Does, Goes}
use Rattle.checked_rows.specs.of_plan_meaning.Abreast.{Abreast}
use Rattle.checked_rows.specs.of_plan_meaning.Act.{row_does}
use Rattle.checked_rows.specs.of_node_check.declared.facts.Fact.{Fact}
use Rattle.checked_rows.specs.Right.{Meets}
use Rattle.checked_messages.specs.Going.{StandAlike}

abbrev pub is_together : Instr → Bool
is_together (instr.Start exchange) = true
is_together (instr.Finish exchange) = true
is_together (instr.Edge border array slot shift) = true
is_together (instr.Flood array target from source) = true
is_together (instr.Part array target fold from source) = true
is_together (instr.Scan array slot fold along from mask) = true
is_together (instr.Gather truth array slot) = true
is_together (instr.Remap array slot from parts) = true
is_together (instr.Vote group) = true
is_together (instr.TreeVote group) = true
is_together (instr.Fold scalar fold) = true
is_together (instr.TreeFold scalar fold) = true
is_together row = false

-- a row whose demand is met, where it goes on
abbrev pub KeepsStanding : Tables → Option ℕ → ℕ → Instr → Type 0
KeepsStanding code links n row =
    (next : Option Instr) (opened : List ℕ) (facts : List Fact) (all after : Abreast)
    (bytes : List ℕ) → Meets code links row opened facts all
    → row_does code links n row next all ≡ Does (Goes bytes after) → StandAlike code after
