use Rattle.std.proofs.Common.{map, take}
use Rattle.rank_types.specs.Names.{row_of}
use Rattle.rank_types.proofs.NameTables.{IsTableOf}
use Rattle.rank_types.proofs.names.table_of.Given as goal

-- the names so far are in the table, and none of them is a second one
abbrev pub invariant-loop-row : goal.invariant-loop-row
invariant-loop-row l = IsTableOf l.entries.entries (map row_of (take l.row-index l.rows))
