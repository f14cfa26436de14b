use Rattle.std.proofs.Common.{ap, ap₂, not, ◌&&◌, ◌∙◌}
use Rattle.name_kinds.specs.of_zpl_names.Accepted as kind
use Rattle.name_kinds.specs.of_zpl_names.Faults.{at_if}
use Rattle.site_faults.specs.Findings.{tells}
use Rattle.site_faults.specs.Walk.{state_of}
use Rattle.site_faults.proofs.StatementTold.{broken-told, prefix-there}
use Rattle.site_faults.proofs.statements.tell_broken.Goals as goal

pub returns-clause-told : goal.returns-clause-told
returns-clause-told c =
    broken-told _ _ _ c.args.at (state_of c.args.findings.now) _ _
    (c.add_if.ensures.told ∙
    ap (λ test. tells kind.ShatterBody (at_if test c.args.at) (state_of c.args.findings.now))
    (ap₂ (λ one two. one && two) c.is_above_zero-is_inside.ensures
    (ap not c.is_empty.ensures ∙ prefix-there c.args.prefixes.now)))
    (c.add_if-2.ensures.told ∙
    ap (λ test. tells kind.ShatterBody (at_if test c.args.at) (state_of c.add_if.new.self))
    (ap (λ one. one && c.args.breaks) c.is_above_zero-is_inside.ensures))
