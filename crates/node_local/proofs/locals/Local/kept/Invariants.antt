use Rattle.std.proofs.Common.{◌≡◌, ℕ, ℤ, List, map, drop}
use Rattle.std.specs.Prelude.{find, ◌==◌}
use Rattle.node_local.specs.Standing.{entry_of}
use Rattle.node_local.proofs.locals.Local.kept.Given as goal

-- no entry in front is the sender's
abbrev pub invariant-loop-kept : goal.invariant-loop-kept
invariant-loop-kept l =
    find (λ (entry : ℕ × List ℤ). entry.0 == l.from) l.self.local.kept
    ≡ find (λ (entry : ℕ × List ℤ). entry.0 == l.from) (map entry_of (drop l.kept-index l.kept-items))
