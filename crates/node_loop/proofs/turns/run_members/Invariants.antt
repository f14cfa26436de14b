use Rattle.grid_meaning.specs.Loop.{access_at}
use Rattle.node_loop.proofs.RanLemmas.{IsRunning}
use Rattle.node_loop.proofs.turns.run_members.Given as goal

-- what is left makes of the state what all members do
abbrev pub invariant-loop-i : goal.invariant-loop-i
invariant-loop-i l = IsRunning l.code (access_at l.index) l.members l.fn.first l.initial.local l.i l.mode l.local
