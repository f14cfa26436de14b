-- What is learnt along one path.
use Rattle.std.specs.Prelude.{◌≡◌, ℕ, List, [], Contains, slice_get, Some}
use Rattle.node_form.specs.declared.instructions.Instr.{Instr}
use Rattle.node_form.specs.declared.tables.Tables.{Tables}
use Rattle.node_check.specs.Fact.{Fact}
use Rattle.node_check.specs.Learn.{learnt, start_facts}
use Rattle.node_check.specs.Path.{nexts, open_behind}

-- Some path from the first instruction leads to the one with a number, with such exchanges open in
-- front of it, and with just these facts, each instruction on it one after another.
pub data Learns (code : Tables) : ℕ → List ℕ → List Fact → Type 0 where
  Starts : Learns code 0 [] (start_facts code)
  Goes : {at next : ℕ} {opened : List ℕ} {facts : List Fact} {row : Instr}
      → Learns code at opened facts → slice_get code.code at ≡ Some row
      → Contains (nexts at row) next
      → Learns code next (open_behind opened row) (learnt code facts row)
