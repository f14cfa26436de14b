use Rattle.std.proofs.Common.{◌≡◌, ◌∙◌, ◌++◌, ◌∷◌, [], ap, map, rules, Some}
use Rattle.std.specs.Prelude.{slice_get}
use Rattle.fuse_contract.specs.Contracting.{word_contracted}
use Rattle.fuse_contract.specs.Naming.{cell_at}
use Rattle.fuse_contract.proofs.StateLemmas.{mapped_more}
use Rattle.fuse_contract.proofs.cells.exprs_with.Goals as goal

pub loop-i-preserved : goal.loop-i-preserved
loop-i-preserved c =
    let there : slice_get c.args.exprs.now c.loop-i.i ≡ Some c.unwrap.result.now = search rules in
    let row : c.of.result ≡ map (word_contracted (cell_at c.args.cells.now)) c.unwrap.result.now =
    search rules in
    mapped_more (map (word_contracted (cell_at c.args.cells.now))) c.args.exprs.now c.loop-i.i
    c.unwrap.result.now c.loop-i.made c.push.new.self there c.loop-i.invariant
    (c.in_ok-push.ensures.appended ∙ ap (λ r. c.loop-i.made ++ r ∷ []) row)
