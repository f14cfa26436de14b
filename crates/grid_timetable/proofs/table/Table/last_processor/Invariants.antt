use Rattle.std.proofs.Common.{ℕ, ◌<◌, ◌≢◌}
use Rattle.grid_timetable.specs.Ledger.{ledger_of, next_place, tick_at}
use Rattle.grid_timetable.proofs.table.Table.last_processor.Given as goal

-- no processor so far ends last
abbrev pub invariant-loop-p : goal.invariant-loop-p
invariant-loop-p l =
    (q : ℕ) → q < l.p → tick_at l.self.stretches.items (next_place (ledger_of l.self) q) ≢ l.self.ticks
