use Rattle.std.proofs.Common.{◌≡◌, ◌++◌, drop, map}
use Rattle.std.specs.List.{flat_map}
use Rattle.listing_lines.specs.Line.{spaced}
use Rattle.std.specs.Fmt.{signed_decimal}
use Rattle.save_lines.proofs.numbers.write_numbers.Given as goal

abbrev pub invariant-loop-number : goal.invariant-loop-number
invariant-loop-number l =
    l.into.items ++ flat_map spaced (map signed_decimal (drop l.number-index l.numbers))
    ≡ l.initial.into.items ++ flat_map spaced (map signed_decimal l.numbers)
