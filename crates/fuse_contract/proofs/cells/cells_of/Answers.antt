use Rattle.std.proofs.Common.{◌<◌, ◌≤◌, ◌++◌, ap, arith, length, refl}
use Rattle.std.proofs.lemmas.List.{drop_more}
use Rattle.fuse_contract.specs.Naming.{cells_from}
use Rattle.fuse_contract.proofs.StateLemmas.{filled, fills_more}
use Rattle.fuse_contract.proofs.cells.cells_of.Goals as goal

pub loop-state-init : goal.loop-state-init
loop-state-init c =
    record {
      of_arrays =
          ap (λ l. l ++ cells_from c.args.cells c.args.states.now) c.new.ensures.items;
      count = refl;
    }

pub loop-state-preserved : goal.loop-state-preserved
loop-state-preserved c =
    let less : c.loop-state.state-index < length c.args.states.now = omega arith in
    fills_more c.loop-state.made _ c.args.cells c.args.states.now c.loop-state.state-index _
    (drop_more c.args.states.now c.loop-state.state-index _ less) c.loop-state.invariant
    c.in_ok-push_cell.ensures.cell c.in_ok-push_cell.ensures.count

pub returns : goal.returns
returns c =
    let past : length c.args.states.now ≤ c.loop-state.state-index = omega arith in
    filled c.loop-state.made c.args.cells c.args.states.now c.loop-state.state-index past
    c.loop-state.invariant
