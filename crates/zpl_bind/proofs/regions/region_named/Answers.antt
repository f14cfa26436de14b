use Rattle.std.proofs.Common.{sym, ap, ◌∙◌}
use Rattle.std.specs.Prelude.{unwrap_or}
use Rattle.zpl_parts.specs.of_zpl_binding.Outcome.{Gives}
use Rattle.zpl_parts.specs.of_zpl_binding.Regions.{no_region}
use Rattle.zpl_bind.specs.Known.{IsBuilt}
use Rattle.zpl_bind.specs.Tables.{listed}
use Rattle.zpl_bind.proofs.TableLemmas.{outcome-found}
use Rattle.zpl_bind.proofs.RegionLemmas.{found-holds}
use Rattle.zpl_bind.proofs.regions.region_named.Goals as goal

pub returns-in-Some-clause-named : goal.returns-in-Some-clause-named
returns-in-Some-clause-named c =
    outcome-found no_region (listed c.args.known.now.regions) c.args.name.now.text.now
    ∙ ap (λ o. Gives (unwrap_or o no_region)) (sym c.find.ensures ∙ c.in-Some.is)

pub returns-in-Some-clause-built : goal.returns-in-Some-clause-built
returns-in-Some-clause-built c =
    found-holds IsBuilt (listed c.args.known.now.regions) c.args.name.now.text.now
    c.in-Some.region c.requires.built (sym c.in-Some.is ∙ c.find.ensures)

pub returns-in-None-clause-named : goal.returns-in-None-clause-named
returns-in-None-clause-named c =
    outcome-found no_region (listed c.args.known.now.regions) c.args.name.now.text.now
    ∙ ap (λ o. Gives (unwrap_or o no_region)) (sym c.find.ensures ∙ c.in-None.is)
    ∙ ap Gives (sym c.no_region.ensures)
