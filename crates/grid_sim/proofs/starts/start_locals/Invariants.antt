use Rattle.std.proofs.Common.{◌≡◌, map}
use Rattle.std.specs.List.{range_with_len}
use Rattle.grid_meaning.specs.Local.{start_local}
use Rattle.grid_sim.specs.Processors.{AllReady, state_of}
use Rattle.grid_sim.proofs.starts.start_locals.Given as goal

abbrev pub invariant-loop-p : goal.invariant-loop-p
invariant-loop-p l = record {
  start : map state_of l.locals.items ≡ map (start_local l.code) (range_with_len 0 l.p);
  ready : AllReady l.code l.locals.items;
}
