use Rattle.std.proofs.Common.{sym, ap, ◌∙◌, subst, refl, arith}
use Rattle.zpl_region.specs.Region.{IsWithinLimit}
use Rattle.zpl_parts.specs.of_zpl_binding.Outcome as plain
use Rattle.zpl_parts.specs.of_zpl_binding.Outcome.{Gives}
use Rattle.zpl_bind.proofs.RegionLemmas.{limited-within, limited-past, built-from, built-region, formed-none, formed-steps}
use Rattle.zpl_bind.proofs.regions.formed.Goals as goal

pub made-requires : goal.made-requires
made-requires c = built-region c.args.region.now (omega arith) c.requires

pub returns-then-region-eq0-clause-computes : goal.returns-then-region-eq0-clause-computes
returns-then-region-eq0-clause-computes c =
    formed-none c.args.form c.args.vector c.args.region.now c.if-region-eq0.true c.requires

pub returns-in-Ok-clause-computes : goal.returns-in-Ok-clause-computes
returns-in-Ok-clause-computes c =
    limited-within _ (formed-steps c.args.form c.args.vector c.args.region.now c.requires)
    c.in-Ok.ensures.limit.0 ∙ ap Gives (sym c.in-Ok.ensures.limit.1)

pub returns-in-Ok-clause-built : goal.returns-in-Ok-clause-built
returns-in-Ok-clause-built c =
    built-from c.in-Ok.region c.in-Ok.ensures.region
    (subst IsWithinLimit (sym c.in-Ok.ensures.limit.1) c.in-Ok.ensures.limit.0)

pub returns-in-Err-clause-computes : goal.returns-in-Err-clause-computes
returns-in-Err-clause-computes c = record {
  told = plain.RegionLimit;
  tells = refl;
  fails =
      limited-past _ (formed-steps c.args.form c.args.vector c.args.region.now c.requires)
      c.in-Err.ensures.limit;
}
