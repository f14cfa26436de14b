use Rattle.std.proofs.Common.{ap, ◌∙◌, cond, ◌&&◌, []}
use Rattle.zpl_tree.specs.View.{dim_of, dims_of}
use Rattle.name_kinds.specs.of_zpl_names.Accepted as kind
use Rattle.name_kinds.specs.of_zpl_names.Faults.{blanks, dim_at}
use Rattle.site_faults.specs.Regions.{is_blank}
use Rattle.site_faults.proofs.FindingLemmas.{loop-end, loop-step}
use Rattle.site_faults.proofs.RegionTold.{blanks-step, blanks-none}
use Rattle.site_faults.proofs.regions.tell_blanks.Goals as goal

pub loop-dim-preserved : goal.loop-dim-preserved
loop-dim-preserved c =
    loop-step kind.NoRegion (λ dims. cond c.args.lacks (blanks (dims_of dims)) [])
    (λ dim. c.args.lacks && is_blank (dim_of dim)) (λ dim. dim_at (dim_of dim))
    (blanks-step c.args.lacks) c.args.dims.now c.loop-dim.dim-index c.dim-item.result _ _ _ _ _
    c.loop-dim-test.true
    (ap (λ b. c.args.lacks && b)
    (c.is_blank.ensures ∙ ap (λ dim. is_blank (dim_of dim)) c.dim-item.is))
    (c.dim_at.ensures ∙ ap (λ dim. dim_at (dim_of dim)) c.dim-item.is)
    c.add_if.ensures.told c.loop-dim.invariant

pub returns : goal.returns
returns c =
    loop-end kind.NoRegion (λ dims. cond c.args.lacks (blanks (dims_of dims)) []) c.args.dims.now
    c.loop-dim.dim-index _ _ (blanks-none c.args.lacks) c.loop-dim-test.false c.loop-dim.invariant
