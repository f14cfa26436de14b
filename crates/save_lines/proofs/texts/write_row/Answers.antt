use Rattle.std.specs.Fmt.{signed_decimal}
use Rattle.std.proofs.Common.{codes}
use Rattle.save_lines.specs.Line.{end_word}
use Rattle.save_lines.proofs.Appends.{by_ok, row_appended}
use Rattle.save_lines.proofs.texts.write_row.Goals as goal

pub returns : goal.returns
returns c =
    by_ok c.write_end.result _ _ c.write_end.ensures (λ last. row_appended c.args.into.now.items c.write_spaced.new.into.items c.write_named.new.into.items
    c.write_named-2.new.into.items c.write_named-3.new.into.items c.write_named-4.new.into.items c.write_named-5.new.into.items
    c.extend_from_slice.new.self.items c.write_end.new.into.items (signed_decimal c.args.row.now.processor) (codes "at") (signed_decimal c.args.row.now.at)
    (codes "made") (signed_decimal c.args.row.now.made) (codes "index") (signed_decimal c.args.row.now.index) (codes "member")
    (signed_decimal c.args.row.now.member) (codes "flag") (signed_decimal c.args.row.now.flag) (end_word c.args.row.now.end)
    c.in_ok-write_spaced.ensures c.in_ok-write_named.ensures c.in_ok-write_named-2.ensures c.in_ok-write_named-3.ensures c.in_ok-write_named-4.ensures
    c.in_ok-write_named-5.ensures c.in_ok-extend_from_slice.ensures.items last)
