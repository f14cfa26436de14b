-- What stands for a store and for a processor's state in memory.
use Rattle.std.specs.Prelude.{◌≤◌, length, drop, map}
use Rattle.node_local.specs.declared.locals.Local.TheInside.{Inside}
use Rattle.node_local.specs.Standing.{entry_of}
use Rattle.node_local.specs.Workplace.{Workplace}

abbrev pub workplace_of : Inside → Workplace
workplace_of inside = record {
  local = record {
    at = inside.at;
    made = inside.made;
    index = inside.index;
    member = inside.member;
    flag = inside.flag;
    ended = inside.ended;
    scalars = inside.memory.scalars.items;
    slots = inside.slots.items;
    cells = inside.memory.cells.items;
    stores = inside.memory.stores.items;
    kept = map entry_of inside.kept.items;
  };
  depth = length inside.stack.items;
  room = length inside.log.items;
  log = drop inside.logged inside.log.items;
}

-- what is logged stands at the end of the log
abbrev pub IsLogged : Inside → Type 0
IsLogged inside = inside.logged ≤ length inside.log.items
