use Rattle.std.proofs.Common.{rules, ◌≡◌, ◌∷◌, ◌++◌}
use Rattle.std.specs.Prelude.{OnOk}
use Rattle.std.specs.Fmt.{signed_decimal}
use Rattle.save_lines.proofs.Appends.{by_ok, range_appended}
use Rattle.save_lines.proofs.words.write_dim.Goals as goal

pub returns : goal.returns
returns c =
    let one : c.write_bounds.new.into.items
    ≡ c.args.into.now.items ++ (signed_decimal c.in-Range.lo ++ (46 ∷ 46 ∷ signed_decimal c.in-Range.hi)) = search rules in
    let three : c.write_number.new.into.items ≡ c.push.new.self.items ++ signed_decimal c.in-Range.step = search rules in
    let four : OnOk c.write_number-2.result (c.write_number-2.new.into.items ≡ c.push-2.new.self.items ++ signed_decimal c.in-Range.align) = search rules in
    rw c.in-Range.is (by_ok c.write_number-2.result _ _ four (λ last.
    range_appended c.args.into.now.items c.write_bounds.new.into.items c.push.new.self.items c.write_number.new.into.items c.push-2.new.self.items
    c.write_number-2.new.into.items (signed_decimal c.in-Range.lo) (signed_decimal c.in-Range.hi) (signed_decimal c.in-Range.step)
    (signed_decimal c.in-Range.align) one c.in_ok-push.ensures.items three c.in_ok-push-2.ensures.items last))
