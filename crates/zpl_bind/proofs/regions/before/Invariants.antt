use Rattle.std.proofs.Common.{◌≡◌, ◌≤◌, take, map, length}
use Rattle.zpl_tree.specs.View.{pre_of}
use Rattle.zpl_parts.specs.of_zpl_binding.Outcome.{Gives}
use Rattle.zpl_parts.specs.of_zpl_binding.Regions.{before}
use Rattle.zpl_bind.specs.Known.{IsBuilt, known_in}
use Rattle.zpl_bind.proofs.regions.before.Given as goal

abbrev pub decreases-loop-left : goal.decreases-loop-left
decreases-loop-left l = l.left

abbrev pub invariant-loop-left : goal.invariant-loop-left
invariant-loop-left l = record {
  within : l.left ≤ length l.pre;
  built : IsBuilt l.region;
  rest : before (known_in l.known) (map pre_of (take l.left l.pre)) (Gives l.region)
      ≡ before (known_in l.known) (map pre_of l.pre) (Gives l.initial.region);
}
