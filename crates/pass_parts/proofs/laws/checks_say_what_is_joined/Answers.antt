use Rattle.pass_parts.proofs.CheckedLoops.{checked_knows, checked_stands}
use Rattle.pass_parts.proofs.NormalLoops.{normal_checks, normal_stands}
use Rattle.pass_parts.proofs.laws.checks_say_what_is_joined.Goals as goal

pub returns : goal.returns
returns c = record {
  normalised = normal_checks;
  stands_behind = normal_stands;
  checked = checked_knows;
  stands = checked_stands;
}
