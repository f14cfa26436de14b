use Rattle.std.proofs.Common.{◌≡◌, ◌+◌, ◌<◌, sym, subst, arith}
use Rattle.std.specs.Prelude.{Some, slice_get, length}
use Rattle.grid_meaning.specs.Collective.{Sends, Last}
use Rattle.node_stages.specs.Kin.{telling_stages}
use Rattle.node_stages.proofs.StageLemmas.{range_at, last_at}
use Rattle.node_stages.proofs.kin.Kin.telling_stage.Goals as goal

pub returns-then-k-from : goal.returns-then-k-from
returns-then-k-from c =
    subst (λ kin. slice_get (telling_stages kin) c.args.k ≡ Some (Sends (c.self.inside.first + c.args.k))) c.self.view_is
    (range_at Sends _ c.self.inside.first c.self.inside.many c.args.k (omega arith))

pub returns-else-k-from : goal.returns-else-k-from
returns-else-k-from c =
    subst (λ kin. slice_get (telling_stages kin) c.args.k ≡ Some Last) c.self.view_is
    (last_at Sends Last c.self.inside.first c.self.inside.many c.args.k (omega arith)
    (subst (λ kin. c.args.k < length (telling_stages kin)) (sym c.self.view_is) c.requires))
