use Rattle.std.proofs.Common.{◌≡◌, length, rules, arith, w64, to_z, of_z, ◌∙◌}
use Rattle.grid_meaning.proofs.BoxLemmas.{box_parts}
use Rattle.listing_rules.proofs.rooms.box_of.Goals as goal

pub returns : goal.returns
returns c =
    let n : length c.args.row.now.dims ≡ 3 = omega arith in
    let l1 : to_z w64 (of_z w64 c.low_of.result) ≡ c.low_of.result = search rules in
    let l2 : to_z w64 (of_z w64 c.low_of-2.result) ≡ c.low_of-2.result = search rules in
    let l3 : to_z w64 (of_z w64 c.low_of-3.result) ≡ c.low_of-3.result = search rules in
    let h1 : to_z w64 (of_z w64 c.high_of.result) ≡ c.high_of.result = search rules in
    let h2 : to_z w64 (of_z w64 c.high_of-2.result) ≡ c.high_of-2.result = search rules in
    let h3 : to_z w64 (of_z w64 c.high_of-3.result) ≡ c.high_of-3.result = search rules in
    box_parts c.args.row.now _ _ _ _ _ _ _ _ _ _ n c.storage_dim.ensures c.storage_dim-2.ensures c.storage_dim-3.ensures
    (l1 ∙ c.low_of.ensures) (l2 ∙ c.low_of-2.ensures) (l3 ∙ c.low_of-3.ensures) (h1 ∙ c.high_of.ensures) (h2 ∙ c.high_of-2.ensures) (h3 ∙ c.high_of-3.ensures)
