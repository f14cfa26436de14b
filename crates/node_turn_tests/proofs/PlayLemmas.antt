-- A processor that was given a turn may be given another one.
use Rattle.std.proofs.Common.{◌≡◌, ℕ, ap, sym, subst}
use Rattle.std.specs.Prelude.{Option, Some, None}
use Rattle.grid_links.specs.Network.{Network}
use Rattle.node_form.specs.declared.tables.Tables.{Tables}
use Rattle.grid_meaning.specs.Action.{StuckKind}
use Rattle.grid_meaning.specs.Turn.{Turn}
use Rattle.node_local.specs.Workplace.{IsReady, Workplace}
use Rattle.node_turn.specs.declared.steps.Step.{Step}
use Rattle.node_turn.specs.declared.steps.Step.TheVariants as step
use Rattle.node_turn.specs.Turned.{IsStuckAs, IsTurn, kind_told}

module _ (code : Tables) (p : ℕ) (old new : Workplace) (before after : Network) (turn : Turn) where
  stuck_ready : (kind : Option StuckKind) → IsStuckAs kind turn old new before after → IsReady code p old → IsReady code p new
  stuck_ready (Some kind) is ready = subst (IsReady code p) (sym is.state) ready
  stuck_ready None is ready = absurd is

  stuck_count : (kind : Option StuckKind) → IsStuckAs kind turn old new before after → after.count ≡ before.count
  stuck_count (Some kind) is = ap (λ (links : Network). links.count) is.links
  stuck_count None is = absurd is

  pub turned_ready : (came : Step) → IsTurn code p old new before after turn came → IsReady code p old → IsReady code p new
  turned_ready (step.Moved traffic) is ready = is.ready
  turned_ready (step.Prints bytes) is ready = subst (IsReady code p) (sym is.1.state) ready
  turned_ready step.Waiting is ready = subst (IsReady code p) (sym is.state) ready
  turned_ready step.Over is ready = subst (IsReady code p) (sym is.state) ready
  turned_ready (step.Stuck kind) is ready = stuck_ready (kind_told kind) is ready

  pub turned_count : (came : Step) → IsTurn code p old new before after turn came → after.count ≡ before.count
  turned_count (step.Moved traffic) is = ap (λ (links : Network). links.count) is.links
  turned_count (step.Prints bytes) is = ap (λ (links : Network). links.count) is.1.links
  turned_count step.Waiting is = ap (λ (links : Network). links.count) is.links
  turned_count step.Over is = ap (λ (links : Network). links.count) is.links
  turned_count (step.Stuck kind) is = stuck_count (kind_told kind) is
