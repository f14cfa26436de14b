use Rattle.std.proofs.Common.{◌≡◌, ap, sym, ◌∙◌, map, nat_le}
use Rattle.zpl_tree.specs.Syntax as plain
use Rattle.zpl_tree.specs.View.{base_of, dims_of, inner_of, posts_of, pre_of}
use Rattle.zpl_tree.proofs.Views.{inner_of-Dims, rexpr_of-parts}
use Rattle.zpl_tree.specs.declared.regions.Rexpr.{out-Rexpr}
use Rattle.zpl_bind.specs.Few.{is_few}
use Rattle.zpl_bind.proofs.RegionLemmas.{dims-count}
use Rattle.zpl_bind.proofs.few.is_few.Goals as goal

pub returns-in-Rexpr : goal.returns-in-Rexpr
returns-in-Rexpr c =
    let parts = out-Rexpr c.in-Rexpr.field-0 in
    let is : inner_of c.args.inner.now ≡ plain.Rexpr (map pre_of parts.pre.now) (base_of parts.base)
    (posts_of parts.post.now) =
    ap inner_of c.in-Rexpr.is ∙ rexpr_of-parts c.in-Rexpr.field-0 in
    sym (ap is_few is)

pub returns-in-Dims : goal.returns-in-Dims
returns-in-Dims c =
    let is : inner_of c.args.inner.now ≡ plain.Dims (dims_of c.in-Dims.dims.now) =
    ap inner_of c.in-Dims.is ∙ inner_of-Dims c.in-Dims.dims in
    sym (ap is_few is ∙ ap (λ n. nat_le n 3) (dims-count c.in-Dims.dims.now))
