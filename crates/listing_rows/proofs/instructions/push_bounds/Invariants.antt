use Rattle.std.proofs.Common.{◌≡◌, ◌++◌, drop, map}
use Rattle.listing_rows.specs.declared.fields.Said.TheVariants.{Bounds}
use Rattle.listing_rows.specs.Fields.{fields_of}
use Rattle.listing_rows.proofs.instructions.push_bounds.Given as goal

abbrev pub invariant-loop-dim : goal.invariant-loop-dim
invariant-loop-dim l =
    l.fields.items ++ fields_of (map Bounds (drop l.dim-index l.dims)) ≡ l.initial.fields.items ++ fields_of (map Bounds l.dims)
