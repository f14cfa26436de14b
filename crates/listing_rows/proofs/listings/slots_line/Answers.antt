use Rattle.std.proofs.Common.{rules, ◌≡◌, ◌++◌, [], ◌∷◌, Some}
use Rattle.std.specs.Prelude.{slice_get}
use Rattle.std.proofs.lemmas.List.{append_assoc}
use Rattle.listing_rows.specs.Fields.{number_field}
use Rattle.listing_rows.proofs.Rests.{drop_at}
use Rattle.listing_rows.proofs.listings.slots_line.Goals as goal

pub loop-i-preserved : goal.loop-i-preserved
loop-i-preserved c =
    let here : slice_get c.args.slots.now c.loop-i.i ≡ Some c.unwrap-rank.result.now = search rules in
    let grown : c.push_said.new.fields.items ≡ c.loop-i.fields.items ++ number_field c.unwrap-rank.result.now ∷ [] = search rules in
    let left = rw (drop_at c.args.slots.now c.loop-i.i c.unwrap-rank.result.now here) at c.loop-i.invariant in
    rw (grown, append_assoc) left
