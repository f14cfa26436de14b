use Rattle.std.proofs.Common.{arith, ap, map, refl, ◌∙◌}
use Rattle.zpl_tree.specs.View.{base_of, dims_of, inner_of, posts_of, pre_of}
use Rattle.zpl_tree.specs.declared.regions.Rexpr.{out-Rexpr}
use Rattle.zpl_tree.proofs.Views.{inner_of-Dims}
use Rattle.name_kinds.proofs.RegionLemmas.{dims_count-slice, inner_of-parts}
use Rattle.site_faults.specs.Reach.{reach_of}
use Rattle.site_faults.specs.Walk.{state_of}
use Rattle.site_faults.proofs.RegionTold.{dims_told, rexpr_told}
use Rattle.site_faults.proofs.regions.tell_region.Goals as goal

pub returns-in-Rexpr : goal.returns-in-Rexpr
returns-in-Rexpr c =
    let parts = out-Rexpr c.in-Rexpr.rexpr in
    let is = inner_of-parts c.args.region.now c.in-Rexpr.rexpr parts.base c.in-Rexpr.is refl in
    let told = rexpr_told (state_of c.args.findings.now) (reach_of c.args.reach.now) c.args.hint
    (map pre_of parts.pre.now) (base_of parts.base) (posts_of parts.post.now) in
    grind arith

pub returns-in-Dims : goal.returns-in-Dims
returns-in-Dims c =
    let is = ap inner_of c.in-Dims.is ∙ inner_of-Dims c.in-Dims.dims in
    let told = dims_told (state_of c.args.findings.now) (reach_of c.args.reach.now) c.args.hint
    (dims_of c.in-Dims.dims.now) in
    let count = dims_count-slice c.in-Dims.dims.now in
    grind arith
