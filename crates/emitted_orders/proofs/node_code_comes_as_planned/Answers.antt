use Rattle.std.proofs.Common.{Some}
use Rattle.node_emit.specs.Emit.{emitted}
use Rattle.emitted_orders.proofs.FitLemmas.{emitted_fits}
use Rattle.emitted_orders.proofs.OrderLemmas.{comes_as_planned, holds_as_planned, open_as_planned}
use Rattle.emitted_orders.proofs.node_code_comes_as_planned.Goals as goal

pub returns : goal.returns
returns c = record {
  orders = λ tree grid plan links same capable fits.
      comes_as_planned tree grid plan links same
      (c.plans_come_in_step.ensures (emitted tree grid plan) links capable
      (emitted_fits tree grid plan same fits));
  rows = λ tree grid plan links same capable fits.
      c.rows_have_orders.ensures (emitted tree grid plan) links capable
      (emitted_fits tree grid plan same fits);
  holds = λ tree grid plan most same some fits.
      holds_as_planned (emitted tree grid plan) plan most
      (comes_as_planned tree grid plan (Some most) same
      (c.plans_come_in_step.ensures (emitted tree grid plan) (Some most) some
      (emitted_fits tree grid plan same fits)));
  holds_open = λ tree grid plan same fits.
      open_as_planned (emitted tree grid plan) plan (λ most some.
      holds_as_planned (emitted tree grid plan) plan most
      (comes_as_planned tree grid plan (Some most) same
      (c.plans_come_in_step.ensures (emitted tree grid plan) (Some most) some
      (emitted_fits tree grid plan same fits))));
}
