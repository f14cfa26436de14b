use Rattle.std.proofs.Common.{◌≡◌, ◌++◌, drop}
use Rattle.listing_rows.specs.Fields.{fields_of}
use Rattle.listing_rows.specs.Rows.{present}
use Rattle.listing_rows.proofs.instructions.push_present.Given as goal

abbrev pub invariant-loop-array : goal.invariant-loop-array
invariant-loop-array l =
    l.fields.items ++ fields_of (present (drop l.array-index l.arrays)) ≡ l.initial.fields.items ++ fields_of (present l.arrays)
