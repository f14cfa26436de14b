use Rattle.std.proofs.Common.{sym, ap, ◌∙◌, subst, refl}
use Rattle.zpl_region.specs.Region.{IsWithinLimit}
use Rattle.zpl_parts.specs.of_zpl_binding.Outcome as plain
use Rattle.zpl_parts.specs.of_zpl_binding.Outcome.{Gives}
use Rattle.zpl_bind.proofs.RegionLemmas.{limited-within, limited-past, built-from}
use Rattle.zpl_bind.proofs.regions.limited.Goals as goal

pub returns-in-Ok-clause-computes : goal.returns-in-Ok-clause-computes
returns-in-Ok-clause-computes c =
    limited-within _ c.requires.steps c.in-Ok.ensures.limit.0 ∙ ap Gives (sym c.in-Ok.ensures.limit.1)

pub returns-in-Ok-clause-built : goal.returns-in-Ok-clause-built
returns-in-Ok-clause-built c =
    built-from c.in-Ok.region c.in-Ok.ensures.region
    (subst IsWithinLimit (sym c.in-Ok.ensures.limit.1) c.in-Ok.ensures.limit.0)

pub returns-in-Err-clause-computes : goal.returns-in-Err-clause-computes
returns-in-Err-clause-computes c = record {
  told = plain.RegionLimit;
  tells = refl;
  fails = limited-past _ c.requires.steps c.in-Err.ensures.limit;
}
