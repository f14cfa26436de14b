use Rattle.std.proofs.Common.{◌≡◌, fold, max, take}
use Rattle.last_writes.specs.Last.{last_change, noted}
use Rattle.comm_early.proofs.stretch.Stretch.place_of.Given as goal

abbrev pub invariant-loop-item : goal.invariant-loop-item
invariant-loop-item l =
    l.place ≡ fold (λ place item. max place (last_change l.self.written item))
    (max (max l.self.least l.self.load.full) (noted l.self.finished l.exchange))
    (take l.item-index l.items)
