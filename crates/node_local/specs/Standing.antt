-- The state of a processor that was told part by part.
use Rattle.std.specs.Prelude.{ℕ, ℤ, List, map}
use Rattle.grid_meaning.specs.of_zpl_arrays.Array.{Array}
use Rattle.grid_meaning.specs.Local.{Local}
use Rattle.node_local.specs.declared.standings.Kept.{Kept}
use Rattle.node_local.specs.declared.standings.Standing.{Standing}
use Rattle.node_local.specs.declared.standings.Store.{Store}

-- the words that are kept of a sender
abbrev pub entry_of : Kept → ℕ × List ℤ
entry_of kept = (kept.from, kept.words)

abbrev pub array_in : Store → Array
array_in store = record { storage = store.shape; values = store.values }

abbrev pub standing_local : Standing → Local
standing_local standing = record {
  at = standing.at;
  made = standing.made;
  index = standing.index;
  member = standing.member;
  flag = standing.flag;
  ended = standing.ended;
  scalars = standing.scalars;
  slots = standing.slots;
  cells = standing.cells;
  stores = map array_in standing.stores;
  kept = map entry_of standing.kept;
}
