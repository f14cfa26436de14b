-- What a processor works with: its state, and the room that was taken before its first turn.
--
--   Workplace      the state; how deep the working stack is, and how long the log may be; and the
--                  log, with the newest change in front
--   HasRoom        there is room for each expression and each group of the code
--   IsReady        the state is one that can be, with room, and nothing is logged
use Rattle.std.specs.Prelude.{◌≡◌, ℕ, ◌≤◌, List, [], length, All}
use Rattle.grid_meaning.specs.of_node_form.declared.tables.Tables.{Tables}
use Rattle.grid_meaning.specs.Local.{Local}
use Rattle.grid_meaning.specs.State.{IsLocal}
use Rattle.node_local.specs.declared.changes.Change.{Change}

pub record Workplace : Type 0 where
  pub local : Local
  pub depth : ℕ
  pub room : ℕ
  pub log : List Change

pub record HasRoom (code : Tables) (workplace : Workplace) : Type 0 where
  pub exprs : All (λ words. length words ≤ workplace.depth) code.exprs
  pub groups : All (λ members. length members ≤ workplace.room) code.groups

pub record IsReady (code : Tables) (p : ℕ) (workplace : Workplace) : Type 0 where
  pub state : IsLocal code p workplace.local
  pub room : HasRoom code workplace
  pub quiet : workplace.log ≡ []
