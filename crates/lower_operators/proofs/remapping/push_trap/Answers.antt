use Rattle.lower_operators.proofs.RemapLemmas.{trapped}
use Rattle.lower_operators.proofs.remapping.push_trap.Goals as goal

pub returns : goal.returns
returns c =
    trapped c.args.line c.args.scalar c.in_ok-pending.pending.at c.in_ok-test.test
    c.args.draft.now c.open.new.self c.push_plain.new.draft c.close.new.self c.in_ok-test.ensures
    c.in_ok-pending.ensures.pending c.in_ok-pending.ensures.opened c.in_ok-push_plain.ensures
    c.in_ok-close.ensures
