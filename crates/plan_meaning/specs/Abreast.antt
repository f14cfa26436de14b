-- All processors between two rows, and what becomes of them in one.
--
--   Share     what a processor has there
--   Abreast   all of them, and the exchanges that are open
--   standing  a processor's state in front of a row: of which one, no row looks at
use Rattle.std.specs.Prelude.{ℕ, Bool, true, false, ℤ, List, [], ◌∷◌, Option, None, nat_lt}
use Rattle.std.specs.Prelude.{if◌then◌else◌}
use Rattle.std.specs.List.{list_all}
use Rattle.zpl_region.specs.declared.regions.Region.{Region}
use Rattle.flat_form.specs.of_zpl_arrays.Array.{Array}
use Rattle.flat_form.specs.of_node_form.declared.tables.Tables.{Tables}
use Rattle.flat_form.specs.of_grid_meaning.Local.{Local, processor_numbers, processors, start_local}
use Rattle.row_orders.specs.Rows.{Flight}
use Rattle.flat_form.specs.of_row_runs.Run.{Step, Goes, Stops, Wrong}

-- its scalars, the regions of its slots, its cells, the places of arrays that it holds, and the
-- least member that met a zero divisor, until a vote
pub record Share : Type 0 where
  pub scalars : List ℤ
  pub slots : List Region
  pub cells : List ℤ
  pub stores : List Array
  pub flag : Option ℕ

-- open exchanges stand in the order of their starts
pub record Abreast : Type 0 where
  pub shares : ℕ → Share
  pub flights : List Flight

abbrev pub standing : Share → Local
standing share = record {
  at = 0;
  made = 0;
  index = 0;
  member = 0;
  flag = share.flag;
  ended = None;
  scalars = share.scalars;
  slots = share.slots;
  cells = share.cells;
  stores = share.stores;
  kept = [];
}

abbrev pub share_of : Local → Share
share_of local = record {
  scalars = local.scalars;
  slots = local.slots;
  cells = local.cells;
  stores = local.stores;
  flag = local.flag;
}

abbrev pub locals_of : Abreast → ℕ → Local
locals_of all p = standing (all.shares p)

-- in front of the first row
abbrev pub start_abreast : Tables → Abreast
start_abreast code = record { shares = λ p. share_of (start_local code p); flights = [] }

-- ---- tests
-- of each processor, and of each two
abbrev pub every : Tables → (ℕ → Bool) → Bool
every code test = list_all test (processor_numbers code)

abbrev pub every_two : Tables → (ℕ → ℕ → Bool) → Bool
every_two code test = every code (λ p. every code (test p))

-- no exchange is open
abbrev pub are_none : List Flight → Bool
are_none [] = true
are_none (flight ∷ flights) = false

abbrev pub is_quiet : Abreast → Bool
is_quiet all = are_none all.flights

-- ---- steps
-- they go on where a test is passed: what fails it may not stand there
abbrev pub go_where : Bool → List ℕ → Abreast → Step Abreast
go_where true bytes next = Goes bytes next
go_where false bytes next = Stops Wrong

-- What becomes of the processors that there are: what other numbers stand for stays as it was.
abbrev pub of_processors : Tables → Abreast → Abreast → Abreast
of_processors code before next = record next {
  shares = λ p. if nat_lt p (processors code) then next.shares p else before.shares p;
}
