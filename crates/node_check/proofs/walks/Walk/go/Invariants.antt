use Rattle.std.proofs.Common.{◌≡◌, ◌+◌, drop, length}
use Rattle.node_check.specs.Walk.{walked}
use Rattle.node_check.proofs.walks.Walk.go.Given as goal

abbrev pub invariant-loop-i : goal.invariant-loop-i
invariant-loop-i l = record {
  left :
      walked l.tables l.i (drop l.i l.tables.code) l.self
      ≡ walked l.tables 0 l.tables.code l.initial.self;
  many : length l.self.fronts ≡ length l.tables.code + 1;
}
