use Rattle.std.proofs.Common.{◌≡◌, ◌++◌, drop, map}
use Rattle.listing_rows.specs.declared.fields.Said.TheVariants.{Made}
use Rattle.listing_rows.specs.Fields.{fields_of}
use Rattle.listing_rows.proofs.instructions.push_made.Given as goal

abbrev pub invariant-loop-part : goal.invariant-loop-part
invariant-loop-part l =
    l.fields.items ++ fields_of (map Made (drop l.part-index l.parts)) ≡ l.initial.fields.items ++ fields_of (map Made l.parts)
