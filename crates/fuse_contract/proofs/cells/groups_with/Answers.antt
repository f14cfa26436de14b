use Rattle.std.proofs.Common.{◌≡◌, ◌∙◌, ◌++◌, ◌∷◌, [], ap, map, rules, Some}
use Rattle.std.specs.Prelude.{slice_get}
use Rattle.fuse_contract.specs.Contracting.{member_contracted}
use Rattle.fuse_contract.specs.Naming.{cell_at}
use Rattle.fuse_contract.proofs.StateLemmas.{mapped_more}
use Rattle.fuse_contract.proofs.cells.groups_with.Goals as goal

pub loop-i-preserved : goal.loop-i-preserved
loop-i-preserved c =
    let there : slice_get c.args.groups.now c.loop-i.i ≡ Some c.unwrap.result.now = search rules in
    let row : c.of.result ≡ map (member_contracted (cell_at c.args.cells.now)) c.unwrap.result.now =
    search rules in
    mapped_more (map (member_contracted (cell_at c.args.cells.now))) c.args.groups.now c.loop-i.i
    c.unwrap.result.now c.loop-i.made c.push.new.self there c.loop-i.invariant
    (c.in_ok-push.ensures.appended ∙ ap (λ r. c.loop-i.made ++ r ∷ []) row)
