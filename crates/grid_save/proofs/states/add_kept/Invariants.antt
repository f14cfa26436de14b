use Rattle.std.proofs.Common.{◌≤◌, ℕ}
use Rattle.std.specs.List.{flat_map, range_with_len}
use Rattle.std.specs.Prelude.{find, ◌==◌}
use Rattle.grid_save.specs.Writing.{Writes}
use Rattle.grid_save.specs.Written.{kept_from}
use Rattle.grid_save.proofs.states.add_kept.Given as goal

abbrev pub invariant-loop-q : goal.invariant-loop-q
invariant-loop-q l =
    let f = λ (from : ℕ). kept_from from (find (λ entry. entry.0 == from) l.local.local.kept) in
    (l.q ≤ l.count) × Writes l.initial.text.items (flat_map f (range_with_len 0 l.q)) l.text.items
