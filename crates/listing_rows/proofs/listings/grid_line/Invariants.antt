use Rattle.std.proofs.Common.{◌≡◌, ◌++◌, drop, map}
use Rattle.listing_lines.specs.of_node_form.Grid.{factors_of}
use Rattle.listing_rows.specs.declared.fields.Said.TheVariants.{Number}
use Rattle.listing_rows.specs.Fields.{fields_of}
use Rattle.listing_rows.proofs.listings.grid_line.Given as goal

abbrev pub invariant-loop-factor : goal.invariant-loop-factor
invariant-loop-factor l =
    l.fields.items ++ fields_of (map Number (factors_of (drop l.factor-index l.grid))) ≡ fields_of (map Number (factors_of l.grid))
