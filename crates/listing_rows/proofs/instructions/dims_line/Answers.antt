use Rattle.std.proofs.Common.{[], ◌∷◌, List, map, take, ap, refl}
use Rattle.listing_lines.specs.declared.fields.Field.{Field}
use Rattle.listing_lines.specs.declared.keywords.Keyword.TheVariants as key
use Rattle.listing_lines.specs.declared.lines.Line.{Line}
use Rattle.listing_rows.specs.declared.fields.Said.TheVariants.{Number, Made}
use Rattle.listing_rows.proofs.Rests.{fields_of_append}
use Rattle.listing_rows.proofs.instructions.dims_line.Goals as goal

pub returns : goal.returns
returns c =
    let of : List Field → Line = λ fields. record { keyword = key.Dims; fields = fields } in
    let split = fields_of_append (map Made (take c.args.rank c.args.parts.now)) (Number c.args.line ∷ []) in
    ap of (rw (c.of.ensures, c.in_ok-push_said-2.ensures, c.in_ok-push_made.ensures, c.front.ensures, c.in_ok-push_said.ensures, c.new-fields.ensures.items, split) refl)
