use Rattle.std.proofs.Common.{◌≡◌, fold, take}
use Rattle.std.specs.List.{filter_map}
use Rattle.fuse_contract.specs.Naming.{noted, set_apart}
use Rattle.fuse_contract.proofs.states.set_parts_apart.Given as goal

abbrev pub invariant-loop-part : goal.invariant-loop-part
invariant-loop-part l =
    l.states.items
    ≡ fold (noted set_apart) l.initial.states.items
    (filter_map (λ part. part) (take l.part-index l.parts))
