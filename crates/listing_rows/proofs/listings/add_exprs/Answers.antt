use Rattle.std.proofs.Common.{◌≡◌, ◌++◌, [], ◌∷◌, Some, rules}
use Rattle.std.specs.Prelude.{slice_get}
use Rattle.listing_rows.specs.Rows.{expr_line}
use Rattle.listing_rows.proofs.Rests.{pushed}
use Rattle.listing_rows.proofs.listings.add_exprs.Goals as goal

pub loop-i-preserved : goal.loop-i-preserved
loop-i-preserved c =
    let here : slice_get c.args.tables.now.exprs c.loop-i.i ≡ Some c.unwrap-row.result.now = search rules in
    let grown : c.push.new.self.items ≡ c.loop-i.lines.items ++ (expr_line c.args.tables.now) c.unwrap-row.result.now ∷ [] = search rules in
    pushed (expr_line c.args.tables.now) c.args.tables.now.exprs c.loop-i.i c.unwrap-row.result.now c.loop-i.lines.items c.push.new.self.items _ here grown c.loop-i.invariant
