use Rattle.std.proofs.Common.{◌≡◌, map, take}
use Rattle.std.specs.Prelude.{All}
use Rattle.listing_lines.specs.Field.{IsField, field_text}
use Rattle.listing_lines.proofs.lines.read_fields.Given as goal

abbrev pub invariant-loop-word : goal.invariant-loop-word
invariant-loop-word l = record {
  written : map (λ word. word.now) (take l.word-index l.words) ≡ map field_text l.fields.items;
  fields : All (IsField l.in_text) l.fields.items;
}
