use Rattle.std.proofs.Common.{◌↔◌, IsTrue, subst}
use Rattle.zpl_region.specs.Dim.{IsSameSet}
use Rattle.zpl_region.specs.Region.{dim_at}
use Rattle.zpl_region.specs.Tests.{is_same_set}
use Rattle.zpl_region.proofs.TestLemmas.{is_same_set_iff}
use Rattle.zpl_arrays.proofs.CheckLemmas.{same_tests}
use Rattle.zpl_arrays.proofs.checks.is_same_set.Goals as goal

pub returns : goal.returns
returns c =
    let told : IsTrue c.same_dim.result ↔ IsSameSet c.args.dim c.args.other =
    subst (λ r. IsTrue c.same_dim.result ↔ IsSameSet c.args.dim (dim_at r 1)) c.line-2.ensures.line (subst (λ r. IsTrue c.same_dim.result ↔ IsSameSet (dim_at r 1) (dim_at c.line-2.result 1)) c.line.ensures.line c.same_dim.ensures) in
    let test = is_same_set_iff c.args.dim c.args.other c.requires.mine.0 c.requires.theirs.0 in
    same_tests c.same_dim.result (is_same_set c.args.dim c.args.other) (λ t. test.1 (told.0 t)) (λ e. told.1 (test.0 e))
