use Rattle.std.proofs.Common.{◌≡◌, ◌++◌, drop, map}
use Rattle.listing_rows.specs.declared.fields.Said.TheVariants.{Number}
use Rattle.listing_rows.specs.Fields.{fields_of}
use Rattle.listing_rows.proofs.listings.slots_line.Given as goal

abbrev pub invariant-loop-i : goal.invariant-loop-i
invariant-loop-i l =
    l.fields.items ++ fields_of (map Number (drop l.i l.slots)) ≡ fields_of (map Number l.slots)
