use Rattle.std.proofs.Common.{◌≡◌, ◌++◌, drop, take}
use Rattle.node_check.specs.Path.{without}
use Rattle.node_check.proofs.starts.close.Given as goal

abbrev pub invariant-loop-i : goal.invariant-loop-i
invariant-loop-i l =
    record {
      same : l.opened.items ≡ l.initial.opened.items;
      rest :
          take l.i l.opened.items ++ without l.exchange (drop l.i l.opened.items)
          ≡ without l.exchange l.initial.opened.items;
    }
