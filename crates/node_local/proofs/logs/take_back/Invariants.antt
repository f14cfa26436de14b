use Rattle.std.proofs.Common.{◌≡◌, drop}
use Rattle.node_local.specs.Computing.{point_in}
use Rattle.node_local.specs.Undo.{undone}
use Rattle.node_local.proofs.logs.take_back.Given as goal

-- the changes that are left give back what all of them do
abbrev pub invariant-loop-change : goal.invariant-loop-change
invariant-loop-change l =
    undone l.log (point_in l.initial.memory) ≡ undone (drop l.change-index l.log) (point_in l.memory)
