-- Items as they are told from others in memory.
use Rattle.flat_passes.specs.of_node_form.declared.arrays.Item.{Item}
use Rattle.plan_form.specs.declared.items.ItemKey.{ItemKey}

abbrev pub item_of : ItemKey → Item
item_of key = record { array = key.array; slot = key.slot; shift = key.shift }
