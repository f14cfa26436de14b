use Rattle.std.proofs.Common.{ap, arith, ◌≡◌, ◌∙◌}
use Rattle.std.proofs.lemmas.Grind.{common_steps}
use Rattle.zpl_tree.specs.Syntax as plain
use Rattle.zpl_tree.specs.View.{dir_of, exprs_of}
use Rattle.zpl_tree.proofs.Views.{dir_of-Vector}
use Rattle.site_faults.proofs.FindingLemmas.{at_of-expr}
use Rattle.site_faults.proofs.nodes.dir_at.Goals as goal

pub returns-in-None : goal.returns-in-None
returns-in-None c =
    let is : dir_of c.args.dir.now ≡ plain.Vector (exprs_of c.in-Vector.parts.now) =
    ap dir_of c.in-Vector.is ∙ dir_of-Vector c.in-Vector.parts in
    grind (arith, common_steps)

pub returns-in-Some : goal.returns-in-Some
returns-in-Some c =
    let is : dir_of c.args.dir.now ≡ plain.Vector (exprs_of c.in-Vector.parts.now) =
    ap dir_of c.in-Vector.is ∙ dir_of-Vector c.in-Vector.parts in
    let at = at_of-expr c.in-Some.first.now in
    grind (arith, common_steps)
