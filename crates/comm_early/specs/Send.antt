-- Starts moved up, each over the rows that it may cross.
--
-- A start never crosses a start, so starts keep their order, and where each comes to stand is no
-- earlier than where the one before it does. Code keeps, for each stretch, the number of the last
-- row that writes each array and each slot, of the last row that none may cross, and of each
-- finish: over links that hold so many messages, the start with number s doesn't cross the finish
-- with number s less so many. The greatest of these is the row that a start comes to stand behind;
-- one merge of the starts with the other rows, both in order, then gives the stretch.
use Rattle.std.specs.Prelude.{ℕ, if◌then◌else◌, List, [], ◌∷◌, fold, length, Option}
use Rattle.std.specs.Prelude.{reverse}
use Rattle.last_writes.specs.of_node_form.declared.instructions.Instr.{Instr}
use Rattle.last_writes.specs.of_node_form.declared.instructions.Instr.TheVariants as instr
use Rattle.last_writes.specs.of_node_form.declared.tables.Tables.{Tables}
use Rattle.last_writes.specs.of_code_parts.Early.{may_cross, open_behind}
use Rattle.last_writes.specs.of_plan_form.Rewrite.{with_fronts}

-- the exchanges that are open behind rows which stand reversed, the last of them first
abbrev pub open_behind_all : List Instr → List ℕ
open_behind_all [] = []
open_behind_all (last ∷ before) = open_behind (open_behind_all before) last

module _ (tables : Tables) (links : Option ℕ) where
  -- the start of an exchange, put into reversed rows: behind the last that it may not cross
  abbrev pub put_early : ℕ → List Instr → List Instr
  put_early exchange [] = instr.Start exchange ∷ []
  put_early exchange (last ∷ before) =
      if may_cross tables links (length (open_behind_all before)) last exchange
      then last ∷ put_early exchange before
      else instr.Start exchange ∷ last ∷ before

  abbrev pub put_row : List Instr → Instr → List Instr
  put_row before (instr.Start exchange) = put_early exchange before
  put_row before row = row ∷ before

  -- the rows of a stretch, one after another
  abbrev pub rows_early : List Instr → List Instr
  rows_early rows = reverse (fold put_row [] rows)

-- for links that hold so many messages
abbrev pub sent_early : Option ℕ → Tables → Tables
sent_early links tables = with_fronts (rows_early tables links) tables
