use Rattle.std.proofs.Common.{◌≡◌, ◌*◌, ◌-◌, ◌++◌, drop}
use Rattle.array_prints.specs.RowText.{line_text, parts_text}
use Rattle.array_prints.proofs.prints.push_space.Given as goal

abbrev pub invariant-loop : goal.invariant-loop
invariant-loop l =
    (l.at ≡ l.counter * (l.count * l.size))
    × (l.into.items ++ parts_text (parts_text (line_text l.truth) l.count l.size) (l.planes - l.counter) (l.count * l.size) (drop l.at l.values)
    ≡ l.fn.into.items ++ parts_text (parts_text (line_text l.truth) l.count l.size) l.planes (l.count * l.size) l.values)
