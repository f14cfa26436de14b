use Rattle.std.proofs.Common.{ap, refl, sym, ◌∙◌}
use Rattle.name_kinds.specs.of_zpl_names.Accepted as kind
use Rattle.name_kinds.specs.Seen.{formal_of}
use Rattle.site_faults.specs.Findings.{tells}
use Rattle.site_faults.specs.Reach.{reach_of}
use Rattle.site_faults.specs.Walk.{state_of}
use Rattle.site_faults.proofs.CallLemmas.{fixed-other}
use Rattle.site_faults.proofs.FindingLemmas.{tells-none}
use Rattle.site_faults.proofs.calls.tell_fixed_actual.Goals as goal

pub returns-in_default : goal.returns-in_default
returns-in_default c =
    record {
      told = sym (tells-none kind.NotAssignable (state_of c.args.findings.now)) ∙
          ap (λ places. tells kind.NotAssignable places (state_of c.args.findings.now))
          (sym
          (fixed-other (reach_of c.args.reach.now) (formal_of c.args.formal.now)
          c.args.actual.now.at c.args.actual.now.form c.in_default.not-Named));
      reached = refl;
    }
