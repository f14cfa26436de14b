use Rattle.std.proofs.Common.{◌≡◌, ◌++◌, drop}
use Rattle.listing_rows.specs.Fields.{fields_of}
use Rattle.listing_rows.specs.Rows.{array_said}
use Rattle.listing_rows.proofs.rows.array_fields.Given as goal

abbrev pub invariant-loop-dim : goal.invariant-loop-dim
invariant-loop-dim l =
    l.fields.items ++ fields_of (array_said l.stored (drop l.dim-index l.dims)) ≡ fields_of (array_said l.stored l.dims)
