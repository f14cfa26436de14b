use Rattle.std.proofs.Common.{◌≡◌, fold, take}
use Rattle.plan_form.specs.Units.{with_item}
use Rattle.plan_form.proofs.items.ItemSet.add_all.Given as goal

abbrev pub invariant-loop-item : goal.invariant-loop-item
invariant-loop-item l = l.self ≡ fold with_item l.initial.self (take l.item-index l.items)
