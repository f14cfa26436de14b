use Rattle.std.proofs.Common.{◌≡◌, ◌++◌, drop}
use Rattle.std.specs.List.{flat_map}
use Rattle.listing_lines.specs.Field.{field_text}
use Rattle.listing_lines.specs.Line.{spaced}
use Rattle.listing_lines.proofs.lines.write_fields.Given as goal

abbrev pub invariant-loop-field : goal.invariant-loop-field
invariant-loop-field l =
    l.into.items ++ flat_map (λ field. spaced (field_text field)) (drop l.field-index l.fields)
    ≡ l.initial.into.items ++ flat_map (λ field. spaced (field_text field)) l.fields
