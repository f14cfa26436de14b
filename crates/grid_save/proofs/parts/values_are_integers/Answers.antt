use Rattle.grid_save.proofs.WriteLemmas.{value_seen, values_seen}
use Rattle.grid_save.proofs.parts.values_are_integers.Goals as goal

pub loop-i-preserved : goal.loop-i-preserved
loop-i-preserved c =
    value_seen c.args.values.now c.loop-i.i c.value_at-value.result c.value_at-value.ensures.there c.value_at-value.ensures.range
    c.loop-i.invariant

pub returns : goal.returns
returns c = values_seen c.args.values.now c.loop-i.i c.loop-i-test.false c.loop-i.invariant
