use Rattle.std.proofs.Common.{take}
use Rattle.comm_combine.specs.Fresh.{AreExchanged}
use Rattle.comm_combine.proofs.fresh.Fresh.exchange_all.Given as goal

abbrev pub invariant-loop-item : goal.invariant-loop-item
invariant-loop-item l = AreExchanged l.initial.self (take l.item-index l.items) l.number l.self
