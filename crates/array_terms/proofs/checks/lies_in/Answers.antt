use Rattle.std.proofs.Common.{◌∙◌, ap}
use Rattle.zpl_region.specs.declared.dims.Dim.TheVariants.{Flood}
use Rattle.array_store.specs.of_zpl_arrays.Reference.{lies_in}
use Rattle.array_terms.proofs.CheckLemmas.{not_moved}
use Rattle.array_terms.proofs.checks.lies_in.Goals as goal

pub returns : goal.returns
returns c = c.is_reference.ensures ∙ ap (λ r. lies_in r c.args.home.now) (not_moved c.args.region.now Flood c.three_dims-dims.ensures.three)
