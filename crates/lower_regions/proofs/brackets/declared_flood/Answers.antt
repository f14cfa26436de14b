use Rattle.std.proofs.Common.{◌≡◌, ap, sym, ◌∙◌}
use Rattle.std.specs.Prelude.{unwrap_or}
use Rattle.zpl_region.specs.declared.regions.Region.{Region}
use Rattle.zpl_binding.specs.Outcome.{Outcome, value_or}
use Rattle.zpl_binding.specs.Regions.{no_region}
use Rattle.zpl_bind.specs.Tables.{found, listed}
use Rattle.zpl_bind.proofs.TableLemmas.{outcome-found}
use Rattle.lower_places.specs.of_zpl_lowering.Where.{flood_of}
use Rattle.lower_regions.proofs.brackets.declared_flood.Goals as goal

pub returns : goal.returns
returns c =
    let text = c.args.name.now.text.now in
    let regions = listed c.args.known.now.regions in
    c.of.ensures
    ∙ ap flood_of (c.unwrap_or-region.ensures
    ∙ ap (λ o. unwrap_or o c.no_region.result) c.find.ensures
    ∙ ap (unwrap_or (found regions text)) c.no_region.ensures
    ∙ sym (ap (value_or no_region) (outcome-found no_region regions text)))
