use Rattle.std.proofs.Common.{◌≡◌, ◌++◌, drop}
use Rattle.listing_rows.specs.Fields.{fields_of}
use Rattle.listing_rows.proofs.fields.push_all.Given as goal

abbrev pub invariant-loop-part : goal.invariant-loop-part
invariant-loop-part l =
    l.fields.items ++ fields_of (drop l.part-index l.said) ≡ l.initial.fields.items ++ fields_of l.said
