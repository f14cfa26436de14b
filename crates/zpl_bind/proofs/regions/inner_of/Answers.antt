use Rattle.std.proofs.Common.{◌≡◌, ap, ◌∙◌, map, subst, arith}
use Rattle.zpl_tree.specs.Syntax as plain
use Rattle.zpl_tree.specs.View.{base_of, dims_of, inner_of, posts_of, pre_of}
use Rattle.zpl_tree.proofs.Views.{inner_of-Dims, rexpr_of-parts}
use Rattle.zpl_tree.specs.declared.regions.Rexpr.{out-Rexpr}
use Rattle.zpl_bind.specs.Few.{IsFew}
use Rattle.zpl_bind.proofs.RegionLemmas.{dims-count}
use Rattle.zpl_bind.proofs.regions.inner_of.Goals as goal

pub spanned-requires-clause-few : goal.spanned-requires-clause-few
spanned-requires-clause-few c =
    let is : inner_of c.args.inner.now ≡ plain.Dims (dims_of c.in-Dims.dims.now) =
    ap inner_of c.in-Dims.is ∙ inner_of-Dims c.in-Dims.dims in
    let few = subst IsFew is c.requires.few in
    omega (arith, dims-count c.in-Dims.dims.now, few)

pub returns-in-Rexpr-clause-computes : goal.returns-in-Rexpr-clause-computes
returns-in-Rexpr-clause-computes c =
    let parts = out-Rexpr c.in-Rexpr.rexpr in
    let is : inner_of c.args.inner.now ≡ plain.Rexpr (map pre_of parts.pre.now) (base_of parts.base)
    (posts_of parts.post.now) =
    ap inner_of c.in-Rexpr.is ∙ rexpr_of-parts c.in-Rexpr.rexpr in
    rw is c.rexpr_of.ensures.computes

pub returns-in-Dims-clause-computes : goal.returns-in-Dims-clause-computes
returns-in-Dims-clause-computes c =
    let is : inner_of c.args.inner.now ≡ plain.Dims (dims_of c.in-Dims.dims.now) =
    ap inner_of c.in-Dims.is ∙ inner_of-Dims c.in-Dims.dims in
    rw is c.spanned.ensures.computes
