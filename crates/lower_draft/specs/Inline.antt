-- Rows of the code, seen as rows inline.
use Rattle.std.specs.Prelude.{map}
use Rattle.zpl_lowering.specs.of_flat_form.Row as row
use Rattle.zpl_lowering.specs.of_flat_form.Row.{Row, Member, Part}
use Rattle.lower_draft.specs.declared.rows.FlatRow.{FlatRow}
use Rattle.lower_draft.specs.declared.rows.FlatRow.TheVariants as flat
use Rattle.lower_draft.specs.declared.rows.FlatPart.{FlatPart}
use Rattle.lower_draft.specs.declared.rows.FlatPart.TheVariants as part
use Rattle.lower_draft.specs.declared.rows.FlatMember.{FlatMember}
use Rattle.lower_draft.specs.declared.rows.FlatMember.TheVariants as member

abbrev pub part_of : FlatPart → Part
part_of (part.Span low high) = row.Span low high
part_of part.Star = row.Star
part_of (part.Copied slot) = row.Copied slot

abbrev pub member_of : FlatMember → Member
member_of (member.Put array expr mask line) = row.Put array expr mask line
member_of (member.Acc scalar operator expr mask line) = row.Acc scalar operator expr mask line
member_of (member.OpenIf expr mask line) = row.OpenIf expr mask line
member_of member.Otherwise = row.Otherwise
member_of member.CloseIf = row.CloseIf
member_of (member.OpenWhile expr mask line) = row.OpenWhile expr mask line
member_of member.CloseWhile = row.CloseWhile
member_of (member.OpenRepeat mask line) = row.OpenRepeat mask line
member_of (member.Until expr) = row.Until expr

abbrev pub row_of : FlatRow → Row
row_of (flat.Set scalar expr line) = row.Set scalar expr line
row_of (flat.Dims slot parts line) = row.Dims slot (map part_of parts) line
row_of (flat.Loop slot group) = row.Loop slot (map member_of group.items)
row_of (flat.Print text) = row.Print text
row_of (flat.Number expr) = row.Number expr
row_of (flat.Truth expr) = row.Truth expr
row_of (flat.Plain one) = row.Plain one
