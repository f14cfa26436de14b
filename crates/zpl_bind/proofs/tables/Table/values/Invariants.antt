use Rattle.std.proofs.Common.{◌≡◌, ◌++◌, drop, map}
use Rattle.zpl_parts.specs.of_zpl_binding.Outcome.{Gives}
use Rattle.zpl_bind.specs.Tables.{computed}
use Rattle.zpl_bind.proofs.tables.Table.values.Given as goal

abbrev pub invariant-loop-entry : goal.invariant-loop-entry
invariant-loop-entry g l =
    map Gives l.values.items ++ map (λ one. one.outcome) (computed (map (λ entry. (entry.0.now, entry.1)) (drop l.entry-index l.entry-items)))
    ≡ map (λ one. one.outcome) (computed (map (λ entry. (entry.0.now, entry.1)) l.entry-items))
