use Rattle.std.proofs.Common.{ap, refl, sym, ◌∙◌}
use Rattle.zpl_tree.specs.View.{base_of, posts_of}
use Rattle.zpl_tree.specs.declared.regions.Rexpr.{out-Rexpr}
use Rattle.name_kinds.specs.of_zpl_names.Faults.{is_border_region}
use Rattle.name_kinds.proofs.RegionLemmas.{inner_of-parts}
use Rattle.site_faults.proofs.FormTold.{border-post, border-pre, border-there}
use Rattle.site_faults.proofs.forms.is_border_region.Goals as goal
use Rattle.site_faults.proofs.forms.is_border_region.Goals.{then-rexpr-ne1-via-then-rexpr-ne1, then-rexpr-ne1-via-else-rexpr-ne1+then-not-is_empty}

pub returns-then-rexpr-ne1 : goal.returns-then-rexpr-ne1
returns-then-rexpr-ne1 c =
    let parts = out-Rexpr c.in-Rexpr.rexpr in
    let is = inner_of-parts c.args.region.now c.in-Rexpr.rexpr parts.base c.in-Rexpr.is refl in
    elim c.then-rexpr-ne1.branch [
      | then-rexpr-ne1-via-then-rexpr-ne1 w ↦ sym
          (ap is_border_region is ∙
          border-pre parts.pre.now (base_of parts.base) (posts_of parts.post.now)
          w.if-rexpr-ne1.true)
      | then-rexpr-ne1-via-else-rexpr-ne1+then-not-is_empty w ↦ sym
          (ap is_border_region is ∙
          border-post parts.pre.now (base_of parts.base) parts.post.now
          (sym w.is_empty.ensures ∙ w.if-not-is_empty.true))
    ]

pub returns : goal.returns
returns c =
    let parts = out-Rexpr c.in-Rexpr.rexpr in
    let is = inner_of-parts c.args.region.now c.in-Rexpr.rexpr parts.base c.in-Rexpr.is refl in
    border-there parts.pre.now (base_of parts.base) parts.post.now _ c.if-rexpr-ne1.false
    (sym c.is_empty.ensures ∙ c.if-not-is_empty.false) ∙
    ap is_border_region (sym is)
